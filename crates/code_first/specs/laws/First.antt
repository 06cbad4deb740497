-- A number put for the first variable: the cases of the definition over coded parts, and that the result is good and no longer.
use Rattle.std.specs.Prelude.{List, ◌∷◌, ◌≡◌, length}
use Rattle.std.proofs.Common.{sym, ◌∙◌}
use Rattle.std.proofs.Math.Path.{ap}
use Prim.Native.Nat.{ℕ, zero, suc, ◌+◌, ◌-◌, ◌≤◌, ◌<◌}
use native.Mathlib.Omega.{arith}
use Rattle.horner.specs.definitions.Form.{Form, int, pop, pow, size, lower, sum, scale}
use Rattle.horner.specs.laws.First.{at_first}
use Rattle.code.specs.Widths.{pow_by, modulus, Leaf, ring_of, leaf}
use Rattle.horner.specs.definitions.Rings.{Ring, power}
use Rattle.horner.proofs.laws.First.{normal-at_first, bounded-at_first}
use Rattle.code.specs.Coding.{enc, dec, limits, Good, Codes}
use Rattle.code.specs.Operations.{sum_of, scale_of}
use Rattle.code.specs.laws.Codes.{IsInt}
use Rattle.code.specs.laws.Good.{good-at, good-pop}
use Rattle.code.specs.laws.Parts.{inner, left_of, right_of, PopOf, PowOf}
use Rattle.code.specs.laws.Sizes.{size-enc, size-sum_f, size_scale}
use Rattle.code.specs.laws.Widths.{leaf-number, leaf-of, power-number}
use Rattle.code_first.specs.First.{lower_of, at_first_of}

-- no longer than the form
size-lower : {A : Type 0} (i : ℕ) (p : Form A) → size (lower i p) ≤ suc (size p)
size-lower zero p = omega arith
size-lower (suc i) p = omega arith

size-at_first : {A : Type 0} (R : Ring A) (x : Form A) (a : A) → size (at_first R x a) ≤ size x
size-at_first R (int c) a = omega arith
size-at_first R (pop zero p) a = omega arith
size-at_first R (pop (suc i) p) a = size-lower i p
size-at_first R (pow i p q) a =
    let y = scale R (power R a i) (at_first R p a) in
    omega (arith, size-sum_f R (size y + size q) y q (omega arith), size_scale R (power R a i) (at_first R p a), size-at_first R p a)

module _ (w : ℕ) where
  pub first-length : (x : Form (Leaf w)) (a : ℕ) → length (enc w (at_first_of w x a)) ≤ length (enc w x)
  unfolding at_first_of
  first-length x a = omega (arith, size-enc w (at_first (ring_of w) x (leaf w a)), size-enc w x, size-at_first (ring_of w) x (leaf w a))

  pub first_good : (x : Form (Leaf w)) (a : ℕ) → Good w x → Good w (at_first_of w x a)
  unfolding at_first_of
  first_good x a g =
      good-at w 3 (at_first (ring_of w) x (leaf w a)) (omega arith) (normal-at_first (ring_of w) 4 x g.normal (leaf w a))
      (bounded-at_first (ring_of w) 4 63 (limits 3) x g.normal g.bounded (leaf w a))

  -- a power by numbers, as a leaf
  power-leaf : (a i : ℕ) → a < modulus w → leaf w (pow_by (modulus w) a i) ≡ power (ring_of w) (leaf w a) i
  power-leaf a i l =
      ap (leaf w) (ap (λ z. pow_by (modulus w) z i) (sym (leaf-number w a l)) ∙ sym (power-number w (leaf w a) i))
      ∙ leaf-of w (power (ring_of w) (leaf w a) i)

  -- the cases
  pub first-int : {h : Form (Leaf w)} {x : ℕ} (a : ℕ) → IsInt w h x → h ≡ at_first_of w h a
  unfolding at_first_of
  first-int a v = rw v.is

  lower-is : (i : ℕ) (p : Form (Leaf w)) (a : ℕ) → 0 < i → lower_of w i p ≡ at_first_of w (pop i p) a
  unfolding at_first_of lower_of
  lower-is zero p a l = absurd (omega arith)
  lower-is (suc i) p a l =
      let e : suc i - 1 ≡ i = omega arith in
      ap (λ k. lower k p) e

  pub first-pop : {l : List ℕ} {i : ℕ} (a : ℕ) → PopOf w l i → lower_of w i (dec w (inner l)) ≡ at_first_of w (dec w l) a
  first-pop {l} {i} a v = lower-is i (dec w (inner l)) a (good-pop v.node).0 ∙ ap (λ h. at_first_of w h a) (sym v.is)

  pub first-pow :
      {l : List ℕ} {i s : ℕ} (a : ℕ) → PowOf w l i s → a < modulus w →
      sum_of w (scale_of w (pow_by (modulus w) a i) (at_first_of w (dec w (left_of s l)) a)) (dec w (right_of s l))
      ≡ at_first_of w (dec w l) a
  unfolding at_first_of sum_of scale_of
  first-pow {l} {i} {s} a v h =
      ap (λ z. sum (ring_of w) (scale (ring_of w) z (at_first (ring_of w) (dec w (left_of s l)) (leaf w a))) (dec w (right_of s l)))
      (power-leaf a i h)
      ∙ ap (λ h. at_first_of w h a) (sym v.is)

  -- the code of a lowered form
  pub lower-code : (i : ℕ) {p : Form (Leaf w)} {l : List ℕ} → Codes w p l → 1 < i → (2147483648 + (i - 1)) ∷ l ≡ enc w (lower_of w i p)
  unfolding enc lower_of
  lower-code zero c h = absurd (omega arith)
  lower-code (suc zero) c h = absurd (omega arith)
  lower-code (suc (suc i)) {p} c h =
      let e : suc (suc i) - 1 ≡ suc i = omega arith in
      ap (λ k. (2147483648 + (suc (suc i) - 1)) ∷ k) c.is ∙ ap (λ n. (2147483648 + n) ∷ enc w p) e ∙ ap (λ k. enc w (lower k p)) (sym e)

  pub lower-same : (i : ℕ) (p : Form (Leaf w)) → i ≡ 1 → lower_of w i p ≡ p
  unfolding lower_of
  lower-same i p e = rw e
