-- The code of a sum, from the codes of its parts: what the functions that add forms return.
-- Assumes nothing.
use Rattle.std.proofs.Common.{ap₂, arith, length-append, List, [], ◌∷◌, ◌++◌, ℕ, ◌+◌, ◌*◌, ◌-◌, ◌<◌, length}
use Rattle.std.proofs.Math.Path.{◌≡◌, sym, ap, ◌∙◌}
use Rattle.std.proofs.Math.ListN.{get_or}
use Rattle.horner.specs.definitions.Form.{Form, int, pop, pow}
use Rattle.code.specs.Widths.{add_by, modulus, Leaf, ring_of, leaf}
use Rattle.horner.proofs.laws.Equations.{sum-int}
use Rattle.code.specs.Coding.{enc, dec, Good, Coded}
use Rattle.code.specs.Operations.{sum_of, zero_of}
use Rattle.code.specs.laws.Codes.{IsInt}
use Rattle.code.specs.laws.Parts.{inner, left_of, right_of, PopOf, PowOf, pop-made, pow-put}
use Rattle.code.specs.laws.Widths.{leaf-number}
use Rattle.code_sum.proofs.Equations.{int-pop, int_pow, pop-int, pow-int, pop-pow-1, pop-pow}

-- A leaf and a form

module _ {w : ℕ} (a : ℕ) where
  pub add-int-int :
      {h : Form (Leaf w)} {x : ℕ} (r : ℕ) → IsInt w h x → a < modulus w → r ≡ add_by (modulus w) a x → r ∷ [] ≡ enc w
      (sum_of w (int (leaf w a)) h)
  unfolding enc sum_of
  add-int-int {h} {x} r v l e =
      ap (λ n. n ∷ []) (e ∙ sym (ap₂ (add_by (modulus w)) (leaf-number w a l) (leaf-number w x v.below)))
      ∙ rw v.is (ap (enc w) (sym (sum-int (ring_of w) (leaf w a) (int (leaf w x)))))

  pub add-int-pop :
      {l : List ℕ} {i : ℕ} → PopOf w l i →
      (get_or l 0 0 ∷ []) ++ enc w (sum_of w (int (leaf w a)) (dec w (inner l))) ≡ enc w (sum_of w (int (leaf w a)) (dec w l))
  add-int-pop {l} {i} v =
      pop-made v (sum_of w (int (leaf w a)) (dec w (inner l)))
      ∙ ap (enc w) (sym (ap (sum_of w (int (leaf w a))) v.is ∙ int-pop w (leaf w a) i (dec w (inner l))))

  pub add-int-pow :
      {l : List ℕ} {i s : ℕ} → PowOf w l i s →
      ((2147483648 + 64 * length (left_of s l) + i) ∷ left_of s l) ++ enc w (sum_of w (int (leaf w a)) (dec w (right_of s l)))
      ≡ enc w (sum_of w (int (leaf w a)) (dec w l))
  add-int-pow {l} {i} {s} v =
      pow-put i v.left (sum_of w (int (leaf w a)) (dec w (right_of s l)))
      ∙ ap (enc w)
      (sym (ap (sum_of w (int (leaf w a))) v.is ∙ int_pow w (leaf w a) i (dec w (left_of s l)) (dec w (right_of s l))))

-- What is returned where one of the two is a leaf, and for a pop and a pow

module _ {w i : ℕ} {p h : Form (Leaf w)} {x : ℕ} (g : Good w (pop i p)) (v : IsInt w h x) where
  pub add-pop-int : ((2147483648 + i) ∷ []) ++ enc w (sum_of w (int (leaf w x)) p) ≡ enc w (sum_of w (pop i p) h)
  unfolding enc
  add-pop-int = rw (v.is, pop-int w (leaf w x) i p)

pub add-pow-int :
    {w i : ℕ} {q h : Form (Leaf w)} {x : ℕ} {l : List ℕ} → Coded w l → Good w (pow i (dec w l) q) → IsInt w h x →
    ((2147483648 + 64 * length l + i) ∷ l) ++ enc w (sum_of w (int (leaf w x)) q) ≡ enc w (sum_of w (pow i (dec w l) q) h)
add-pow-int {w} {i} {q} {h} {x} {l} c g v =
    pow-put i c (sum_of w (int (leaf w x)) q)
    ∙ ap (enc w) (sym (ap (sum_of w (pow i (dec w l) q)) v.is ∙ pow-int w (leaf w x) i (dec w l) q))

module _ {w i j : ℕ} {p r : Form (Leaf w)} {l : List ℕ} (c : Coded w l) (g : Good w (pop i p)) (h : Good w (pow j (dec w l) r)) where
  pub add-pop-pow-1 : i ≡ 1 → ((2147483648 + 64 * length l + j) ∷ l) ++ enc w (sum_of w r p) ≡ enc w (sum_of w (pop i p) (pow j (dec w l) r))
  add-pop-pow-1 e = pow-put j c (sum_of w r p) ∙ ap (enc w) (sym (pop-pow-1 g h e))

  pub add-pop-pow-more :
      (i ≡ 1 → ⊥) → ((2147483648 + 64 * length l + j) ∷ l) ++ enc w (sum_of w (pop (i - 1) p) r) ≡ enc w
      (sum_of w (pop i p) (pow j (dec w l) r))
  add-pop-pow-more n = pow-put j c (sum_of w (pop (i - 1) p) r) ∙ ap (enc w) (sym (pop-pow g h n))

-- (POW k p 0), which is handed over in parts, has two words more than p
pub less-length : (w k : ℕ) (p : Form (Leaf w)) → length (enc w (pow k p (zero_of w))) ≡ 2 + length (enc w p)
unfolding enc zero_of
less-length w k p = omega (arith, length-append (enc w p) (enc w (zero_of w)))
