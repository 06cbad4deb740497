-- The number of coefficients of a form that are not 0: how it goes under the operations, and how large the box lets it be.
use Rattle.std.specs.Prelude.{false, cond, List, [], ◌∷◌, ◌≡◌, refl, ℕ, zero, suc, ◌+◌, ◌-◌, ◌≤◌, ◌*◌}
use Rattle.std.proofs.Common.{true≢false, sym, ◌∙◌, ap, ap₂, arith}
use Rattle.std.proofs.Math.Nat as NatL
use Rattle.horner.specs.definitions.Form.{Form, int, pop, pow, is_zero, Normal, after}
use Rattle.horner.specs.laws.Degree.{Bounded}
use Rattle.horner.specs.definitions.Measures.{box, one_if, count}
use Rattle.horner.specs.definitions.Rings.{Ring}
use Rattle.horner.specs.laws.Measure.{Size}
use Rattle.horner.proofs.laws.Normal.{lead-not-zero, pow-not-zero}
use Rattle.horner.proofs.laws.Ring.{mul-nil, nil-mul, neg-neg, neg-nil}
use Rattle.horner.proofs.laws.Tests.{cond_cases}

pub box-pos : (ds : List ℕ) → 1 ≤ box ds
box-pos [] = omega arith
box-pos (d ∷ ds) = omega (arith, NatL.suc-mul d (box ds), box-pos ds)

pub box-after : (i : ℕ) (ds : List ℕ) → box (after i ds) ≤ box ds
box-after zero ds = omega arith
box-after (suc i) [] = box-after i []
box-after (suc i) (d ∷ ds) = omega (arith, box-after i ds, NatL.suc-mul d (box ds))

module _ {A : Type 0} (R : Ring A) where
  open R use {◌⊞◌, neg, ◌·◌, nil, is_nil, add-nil, is_nil-true, is_nil-nil}

  one-if-nil : (c : A) → c ≡ nil → one_if R c ≡ 0
  one-if-nil c e = ap (λ b. cond b 0 1) (ap is_nil e ∙ is_nil-nil)

  pub one-if-le : (c : A) → one_if R c ≤ 1
  one-if-le c = cond_cases (is_nil c) (λ z. z ≤ 1) 0 1 (λ e. omega arith) (λ e. omega arith)

  one-if-add : (a b : A) → one_if R (a ⊞ b) ≤ one_if R a + one_if R b
  one-if-add a b =
      cond_cases (is_nil a) (λ z. one_if R (a ⊞ b) ≤ z + one_if R b) 0 1
      (λ e. cond_cases (is_nil b) (λ z. one_if R (a ⊞ b) ≤ 0 + z) 0 1
      (λ f. omega (arith, one-if-nil (a ⊞ b) (ap₂ ◌⊞◌ (is_nil-true a e) (is_nil-true b f) ∙ add-nil nil)))
      (λ f. omega (arith, one-if-le (a ⊞ b))))
      (λ e. omega (arith, one-if-le (a ⊞ b)))

  one-if-mul : (a b : A) → one_if R (a · b) ≤ one_if R a * one_if R b
  one-if-mul a b =
      cond_cases (is_nil a) (λ z. one_if R (a · b) ≤ z * one_if R b) 0 1
      (λ e. omega (arith, one-if-nil (a · b) (ap (λ z. z · b) (is_nil-true a e) ∙ nil-mul R b)))
      (λ e. cond_cases (is_nil b) (λ z. one_if R (a · b) ≤ 1 * z) 0 1
      (λ f. omega (arith, one-if-nil (a · b) (ap (◌·◌ a) (is_nil-true b f) ∙ mul-nil R a)))
      (λ f. omega (arith, one-if-le (a · b))))

  one-if-neg : (a : A) → one_if R (neg a) ≡ one_if R a
  one-if-neg a =
      cond_cases (is_nil a) (λ z. one_if R (neg a) ≡ z) 0 1
      (λ e. one-if-nil (neg a) (ap neg (is_nil-true a e) ∙ neg-nil R))
      (λ e. cond_cases (is_nil (neg a)) (λ z. z ≡ 1) 0 1
      (λ f. absurd (true≢false (sym is_nil-nil ∙ ap is_nil (sym (sym (neg-neg R a) ∙ ap neg (is_nil-true (neg a) f) ∙ neg-nil R)) ∙ e)))
      (λ f. refl))

  pub count-size : Size R (one_if R)
  count-size = record { of_nil = one-if-nil nil refl; of-add = one-if-add; of-mul = one-if-mul; of-neg = one-if-neg }

  -- ---- at least one where the form is not 0
  pub count-pos : (n : ℕ) (x : Form A) → Normal R n x → is_zero R x ≡ false → 1 ≤ count R x
  count-pos n (int c) h z = cond_cases (is_nil c) (λ w. 1 ≤ w) 0 1 (λ e. absurd (true≢false (sym e ∙ z))) (λ e. omega arith)
  count-pos n (pop i p) h z = count-pos (n - i) p h.2 (pow-not-zero R p h.1)
  count-pos n (pow i p q) h z = omega (arith, count-pos n p h.2 (lead-not-zero R p h.3))

  -- ---- at most the box
  pub count-box : (n : ℕ) (ds : List ℕ) (x : Form A) → Normal R n x → Bounded ds x → count R x ≤ box ds
  count-box n ds (int c) h b = omega (arith, one-if-le c, box-pos ds)
  count-box n ds (pop i p) h b = omega (arith, count-box (n - i) (after i ds) p h.2 b, box-after i ds)
  count-box n [] (pow i p q) h b = absurd b
  count-box n (d ∷ ds) (pow i p q) h b =
      omega (
        arith,
        count-box n ((d - i) ∷ ds) p h.2 b.1,
        count-box (n - 1) ds q h.4 b.2,
        NatL.suc-mul (suc (d - i)) (box ds),
        NatL.mul-le-mul_right (box ds) (fits d i h.0 b.0),
      )
    where
      fits : (d i : ℕ) → 1 ≤ i → i ≤ d → suc (suc (d - i)) ≤ suc d
      fits d i f g = omega arith
