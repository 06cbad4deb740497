-- The measures of a form that add up over its coefficients, and what they do under the operations: proved once, for any size of a
-- coefficient that a sum does not pass and a product does not pass. The weight is one (abs), the number of terms another (0 for 0, else
-- 1).
use mathlib.Core.Bool.{Bool, true, true≢false}
use Rattle.std.specs.Prelude.{◌≡◌, refl, ℕ, zero, suc, ◌+◌, ◌≤◌, ◌*◌, ◌^◌}
use Rattle.std.proofs.Common.{sym, ◌∙◌, ap, ap₂, arith}
use Rattle.std.proofs.Math.Nat as NatL
use Rattle.horner.specs.definitions.Form.{Form, int, pop, pow, size, mkpop, lower, is_zero, zero_form, mkpow, add_int, sum_f, sum}
use Rattle.horner.specs.definitions.Form.{negate, scale, prod_f, prod, raise}
use Rattle.horner.specs.definitions.Measures.{meas}
use Rattle.horner.specs.definitions.Rings.{Ring}
use Rattle.horner.proofs.laws.Compare.{cmp-cases}
use Rattle.horner.proofs.laws.Tests.{cond_cases}
use Rattle.horner.proofs.laws.Value.{size-pos, lower-fits, lower-fits', size-mkpop}
use Rattle.horner.specs.laws.Measure.{Size}

module _ {A : Type 0} (ν : A → ℕ) where
  pub meas-mkpop : (i : ℕ) (p : Form A) → meas ν (mkpop i p) ≡ meas ν p
  meas-mkpop zero p = refl
  meas-mkpop (suc i) (int c) = refl
  meas-mkpop (suc i) (pop j q) = refl
  meas-mkpop (suc i) (pow j q r) = refl

  pub meas-lower : (i : ℕ) (p : Form A) → meas ν (lower i p) ≡ meas ν p
  meas-lower zero p = refl
  meas-lower (suc i) p = refl

module _ {A : Type 0} (R : Ring A) (ν : A → ℕ) (S : Size R ν) where
  open R use {is_nil, is_nil-true}
  open S use {of_nil, of-add, of-mul, of-neg}

  zero-meas : (p : Form A) → is_zero R p ≡ true → meas ν p ≡ 0
  zero-meas (int c) h = ap ν (is_nil-true c h) ∙ of_nil
  zero-meas (pop i p) h = absurd (mathlib.Core.Bool.true≢false (sym h))
  zero-meas (pow i p q) h = absurd (mathlib.Core.Bool.true≢false (sym h))

  pub meas-mkpow : (i : ℕ) (p q : Form A) → meas ν (mkpow R i p q) ≡ meas ν p + meas ν q
  meas-mkpow i (int c) q =
      cond_cases (is_nil c) (λ z. meas ν z ≡ ν c + meas ν q) _ _ (λ e. meas-mkpop ν 1 q ∙ omega (arith, zero-meas (int c) e)) (λ e. refl)
  meas-mkpow i (pop j p) q = refl
  meas-mkpow i (pow j r s) q =
      cond_cases (is_zero R s) (λ z. meas ν z ≡ meas ν r + meas ν s + meas ν q) _ _ (λ e. omega (arith, zero-meas s e)) (λ e. refl)

  -- ---- the sum
  pub meas-add_int : (a : A) (y : Form A) → meas ν (add_int R a y) ≤ ν a + meas ν y
  meas-add_int a (int b) = of-add a b
  meas-add_int a (pop i p) = meas-add_int a p
  meas-add_int a (pow i p q) = omega (arith, meas-add_int a q)

  pub meas-sum_f : (k : ℕ) (x y : Form A) → size x + size y ≤ k → meas ν (sum_f R k x y) ≤ meas ν x + meas ν y
  meas-sum_f zero x y h = omega (arith, size-pos x)
  meas-sum_f (suc k) (int a) y h = meas-add_int a y
  meas-sum_f (suc k) (pop i p) (int b) h = omega (arith, meas-add_int b p)
  meas-sum_f (suc k) (pop i p) (pop j q) h =
      cmp-cases i j (λ z. meas ν z ≤ meas ν p + meas ν q) _ _ _
      (λ e. omega (arith, meas-mkpop ν i (sum_f R k p q), meas-sum_f k p q (omega arith)))
      (λ d e. omega (arith, meas-mkpop ν j (sum_f R k (pop (suc d) p) q), meas-sum_f k (pop (suc d) p) q (omega arith)))
      (λ d e. omega (arith, meas-mkpop ν i (sum_f R k (pop (suc d) q) p), meas-sum_f k (pop (suc d) q) p (omega arith)))
  meas-sum_f (suc k) (pop zero p) (pow j q r) h = meas-sum_f k p (pow j q r) (omega arith)
  meas-sum_f (suc k) (pop (suc i) p) (pow j q r) h =
      omega (arith, meas-sum_f k r (lower i p) (lower-fits R i p r k (omega arith)), meas-lower ν i p)
  meas-sum_f (suc k) (pow j q r) (int b) h = omega (arith, meas-add_int b r)
  meas-sum_f (suc k) (pow j q r) (pop zero p) h = omega (arith, meas-sum_f k p (pow j q r) (omega arith))
  meas-sum_f (suc k) (pow j q r) (pop (suc i) p) h =
      omega (arith, meas-sum_f k r (lower i p) (lower-fits R i p r k (omega arith)), meas-lower ν i p)
  meas-sum_f (suc k) (pow i p q) (pow j r s) h =
      cmp-cases i j (λ z. meas ν z ≤ meas ν p + meas ν q + (meas ν r + meas ν s)) _ _ _
      (λ e. omega (arith, meas-mkpow i (sum_f R k p r) (sum_f R k q s), meas-sum_f k p r (omega arith), meas-sum_f k q s (omega arith)))
      (λ d e. omega (
        arith,
        meas-mkpow j (sum_f R k (pow (suc d) p (zero_form R)) r) (sum_f R k q s),
        of_nil,
        meas-sum_f k (pow (suc d) p (zero_form R)) r (omega (arith, size-pos q)),
        meas-sum_f k q s (omega arith),
      ))
      (λ d e. omega (
        arith,
        meas-mkpow i (sum_f R k (pow (suc d) r (zero_form R)) p) (sum_f R k s q),
        of_nil,
        meas-sum_f k (pow (suc d) r (zero_form R)) p (omega (arith, size-pos s)),
        meas-sum_f k s q (omega arith),
      ))

  pub meas-sum : (x y : Form A) → meas ν (sum R x y) ≤ meas ν x + meas ν y
  meas-sum x y = meas-sum_f (size x + size y) x y (omega arith)

  pub meas-negate : (x : Form A) → meas ν (negate R x) ≡ meas ν x
  meas-negate (int a) = of-neg a
  meas-negate (pop i p) = meas-negate p
  meas-negate (pow i p q) = ap₂ ◌+◌ (meas-negate p) (meas-negate q)

  -- ---- the product
  pub meas-scale : (a : A) (y : Form A) → meas ν (scale R a y) ≤ ν a * meas ν y
  meas-scale a (int b) = of-mul a b
  meas-scale a (pop i p) = omega (arith, meas-mkpop ν i (scale R a p), meas-scale a p)
  meas-scale a (pow i p q) =
      omega (arith, meas-mkpow i (scale R a p) (scale R a q), meas-scale a p, meas-scale a q, NatL.mul-add (ν a) (meas ν p) (meas ν q))

  four : (p q r s : ℕ) → (p + q) * (r + s) ≡ p * r + q * s + p * s + r * q
  four p q r s =
      NatL.add-mul p q (r + s) ∙ omega (arith, NatL.mul-add p r s, NatL.mul-add q r s, NatL.mul_comm q r)

  pub meas-prod_f : (k : ℕ) (x y : Form A) → size x + size y ≤ k → meas ν (prod_f R k x y) ≤ meas ν x * meas ν y
  meas-prod_f zero x y h = absurd (omega (arith, size-pos x))
  meas-prod_f (suc k) (int a) y h = meas-scale a y
  meas-prod_f (suc k) (pop i p) (int b) h = omega (arith, meas-scale b (pop i p), NatL.mul_comm (ν b) (meas ν p))
  meas-prod_f (suc k) (pop i p) (pop j q) h =
      cmp-cases i j (λ z. meas ν z ≤ meas ν p * meas ν q) _ _ _
      (λ e. omega (arith, meas-mkpop ν i (prod_f R k p q), meas-prod_f k p q (omega arith)))
      (λ d e. omega (arith, meas-mkpop ν j (prod_f R k (pop (suc d) p) q), meas-prod_f k (pop (suc d) p) q (omega arith)))
      (λ d e. omega (
        arith,
        meas-mkpop ν i (prod_f R k (pop (suc d) q) p),
        meas-prod_f k (pop (suc d) q) p (omega arith),
        NatL.mul_comm (meas ν q) (meas ν p),
      ))
  meas-prod_f (suc k) (pop zero p) (pow j q r) h = meas-prod_f k p (pow j q r) (omega arith)
  meas-prod_f (suc k) (pop (suc i) p) (pow j q r) h =
      omega (
        arith,
        meas-mkpow j (prod_f R k (pop (suc i) p) q) (prod_f R k (lower i p) r),
        meas-prod_f k (pop (suc i) p) q (omega arith),
        meas-prod_f k (lower i p) r (lower-fits' R i p r k (omega arith)),
        ap (λ z. z * meas ν r) (meas-lower ν i p),
        NatL.mul-add (meas ν p) (meas ν q) (meas ν r),
      )
  meas-prod_f (suc k) (pow j q r) (int b) h = omega (arith, meas-scale b (pow j q r), NatL.mul_comm (ν b) (meas ν q + meas ν r))
  meas-prod_f (suc k) (pow j q r) (pop zero p) h =
      omega (arith, meas-prod_f k p (pow j q r) (omega arith), NatL.mul_comm (meas ν p) (meas ν q + meas ν r))
  meas-prod_f (suc k) (pow j q r) (pop (suc i) p) h =
      omega (
        arith,
        meas-mkpow j (prod_f R k (pop (suc i) p) q) (prod_f R k (lower i p) r),
        meas-prod_f k (pop (suc i) p) q (omega arith),
        meas-prod_f k (lower i p) r (lower-fits' R i p r k (omega arith)),
        ap (λ z. z * meas ν r) (meas-lower ν i p),
        NatL.mul-add (meas ν p) (meas ν q) (meas ν r),
        NatL.mul_comm (meas ν p) (meas ν q + meas ν r),
      )
  meas-prod_f (suc k) (pow i p q) (pow j r s) h =
      omega (
        arith,
        meas-sum (sum R (mkpow R (i + j) (prod_f R k p r) (prod_f R k q s)) (mkpow R i (prod_f R k p (mkpop 1 s)) (zero_form R)))
            (mkpow R j (prod_f R k r (mkpop 1 q)) (zero_form R)),
        meas-sum (mkpow R (i + j) (prod_f R k p r) (prod_f R k q s)) (mkpow R i (prod_f R k p (mkpop 1 s)) (zero_form R)),
        meas-mkpow (i + j) (prod_f R k p r) (prod_f R k q s),
        meas-mkpow i (prod_f R k p (mkpop 1 s)) (zero_form R),
        meas-mkpow j (prod_f R k r (mkpop 1 q)) (zero_form R),
        of_nil,
        meas-prod_f k p r (omega arith),
        meas-prod_f k q s (omega arith),
        meas-prod_f k p (mkpop 1 s) (omega (arith, size-mkpop R s)),
        meas-prod_f k r (mkpop 1 q) (omega (arith, size-mkpop R q)),
        ap (λ z. meas ν p * z) (meas-mkpop ν 1 s),
        ap (λ z. meas ν r * z) (meas-mkpop ν 1 q),
        four (meas ν p) (meas ν q) (meas ν r) (meas ν s),
      )

  pub meas-prod : (x y : Form A) → meas ν (prod R x y) ≤ meas ν x * meas ν y
  meas-prod x y = meas-prod_f (size x + size y) x y (omega arith)

  pub meas-raise : ν R.unit ≤ 1 → (x : Form A) (w : ℕ) → meas ν x ≤ w → (k : ℕ) → meas ν (raise R x k) ≤ w ^ k
  meas-raise u x w h zero = omega (arith, u, NatL.pow-zero w)
  meas-raise u x w h (suc k) = omega (arith, meas-prod x (raise R x k), NatL.mul-le-mul h (meas-raise u x w h k), NatL.pow-succ' w k)
