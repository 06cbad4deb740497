-- The code of a form carried to another ring, from the codes of its parts.
-- Assumes nothing.
use Rattle.std.proofs.Common.{sym, List, [], ◌∷◌, ℕ, ◌+◌, ◌<◌, ◌≤◌, length, take, drop, arith}
use Rattle.std.proofs.Math.Path.{◌≡◌, ap, ap₂, ◌∙◌}
use Rattle.horner.specs.definitions.Form.{Form}
use Rattle.code.specs.Widths.{mul_by, modulus, Leaf, leaf}
use Rattle.code.specs.Coding.{enc, dec, Codes, Coded, Begins}
use Rattle.code.specs.Operations.{pop_of, pow_of}
use Rattle.code.specs.laws.Codes.{IsInt, codes-length}
use Rattle.code.specs.laws.Parts.{inner, left_of, right_of, PopOf, PowOf}
use Rattle.code.specs.laws.Widths.{leaf-number}
use Rattle.code.proofs.Making.{one-put, two-put, made-codes, two_made}
use Rattle.code_walk.specs.Carrying.{carried, carry_of}
use Rattle.code_walk.specs.laws.Carrying.{carry-good, carry-length}

module _ {v : ℕ} (w a : ℕ) where
  pub carried-int :
      {h : Form (Leaf v)} {x : ℕ} (y r : ℕ) → IsInt v h x → a < modulus w → y ≡ (carried v w (leaf v x)).0 → r ≡ mul_by (modulus w) a y →
      r ∷ [] ≡ enc w (carry_of v w a h)
  unfolding enc carry_of
  carried-int y r u l f e = ap (λ n. n ∷ []) (e ∙ ap₂ (mul_by (modulus w)) (sym (leaf-number w a l)) f) ∙ rw u.is

  pub carried-pop : {l : List ℕ} {i : ℕ} → PopOf v l i → carry_of v w a (dec v l) ≡ pop_of w i (carry_of v w a (dec v (inner l)))
  unfolding carry_of pop_of
  carried-pop u = ap (carry_of v w a) u.is

  pub carried-pow :
      {l : List ℕ} {i s : ℕ} → PowOf v l i s → carry_of v w a (dec v l) ≡ pow_of w i (carry_of v w a (dec v (left_of s l)))
      (carry_of v w a (dec v (right_of s l)))
  unfolding carry_of pow_of
  carried-pow u = ap (carry_of v w a) u.is

  -- a part that was carried is no longer than it was
  pub carried-short : {l e : List ℕ} {n : ℕ} → Coded v l → Begins n (enc w (carry_of v w a (dec v l))) e → n ≤ length l
  carried-short {l} c m = omega (arith, m.size, carry-length v w a (dec v l), codes-length c)

  -- what make_pop and make_pow are handed: the parts that were carried, behind a free word
  pub carried-one :
      {l e : List ℕ} {n : ℕ} (d : List ℕ) → 1 ≤ length d → Coded v l → Begins n (enc w (carry_of v w a (dec v l))) e →
      Codes w (carry_of v w a (dec v l)) (take n (drop 1 (one-put d e)))
  carried-one {l} d h c m = made-codes 1 d _ _ h m (carry-good v w a (dec v l) c.good)

  pub carried-two :
      {l l' e e' : List ℕ} {n m : ℕ} (d : List ℕ) → 1 + length l ≤ length d → length (one-put d e) ≡ length d → Coded v l → Coded v l' →
      Begins n (enc w (carry_of v w a (dec v l))) e → Begins m (enc w (carry_of v w a (dec v l'))) e' →
      Codes w (carry_of v w a (dec v l)) (take n (drop 1 (two-put d e e' n)))
      × Codes w (carry_of v w a (dec v l')) (take m (drop (1 + n) (two-put d e e' n)))
  carried-two {l} {l'} d h k c c' m m' =
      two_made d _ _ _ _ (omega arith) (omega (arith, carried-short c m)) m (carry-good v w a (dec v l) c.good) m'
      (carry-good v w a (dec v l') c'.good)
