-- The cases of Definition 11, of the product in the ring of a width.
use Rattle.std.specs.Prelude.{◌≡◌}
use Rattle.std.proofs.Math.Path.{refl, sym, ap, subst}
use Rattle.std.proofs.Common.{◌∙◌}
use Prim.Native.Nat.{ℕ, zero, suc, ◌-◌, ◌≤◌, ◌<◌}
use native.Mathlib.Omega.{arith}
use Rattle.horner.specs.definitions.Form.{Form, int, pop, pow, lower}
use Rattle.horner.proofs.laws.Equations.{prod-int, prod-pop-int, prod-pow-int, prod-pop-pow, prod-pow-pop, prod-pow-pow, prod-3a, prod-3b}
use Rattle.horner.proofs.laws.Equations.{prod-3c}
use Rattle.code.specs.Operations.{pop_of, pow_of, sum_of, scale_of, zero_of}
use Rattle.code.specs.Widths.{Leaf, ring_of, leaf}
use Rattle.code_room.specs.Fit.{prod_of, lead_of, cross_of}

module _ (w : ℕ) where
  -- (1) and (2)
  module _ (a : ℕ) where
    pub int-any : (y : Form (Leaf w)) → prod_of w (int (leaf w a)) y ≡ scale_of w a y
    unfolding prod_of scale_of
    int-any y = prod-int (ring_of w) (leaf w a) y

    pub any-int : (x : Form (Leaf w)) → prod_of w x (int (leaf w a)) ≡ scale_of w a x
    unfolding prod_of scale_of
    any-int (int b) = prod-int (ring_of w) b (int (leaf w a)) ∙ ap int ((ring_of w).mul_comm b (leaf w a))
    any-int (pop i p) = prod-pop-int (ring_of w) i p (leaf w a)
    any-int (pow i p q) = prod-pow-int (ring_of w) i p q (leaf w a)

    pub scale-pop : (i : ℕ) (p : Form (Leaf w)) → scale_of w a (pop i p) ≡ pop_of w i (scale_of w a p)
    unfolding scale_of pop_of
    scale-pop i p = refl

  -- (3), where the first POP goes down at least as far
  module _ (i j : ℕ) (p q : Form (Leaf w)) where
    pops-by : (d : ℕ) → i - j ≡ d → j ≤ i → prod_of w (pop i p) (pop j q) ≡ pop_of w j (prod_of w (lower d p) q)
    unfolding prod_of pop_of
    pops-by zero e l =
        let k : j ≡ i = omega arith in
        subst (λ z. prod_of w (pop z p) (pop j q) ≡ pop_of w j (prod_of w p q)) k (prod-3a (ring_of w) j p q)
    pops-by (suc d) e l = prod-3b (ring_of w) i j p q (omega arith) ∙ ap (λ z. pop_of w j (prod_of w (pop z p) q)) e

    pub pops-ge : j ≤ i → prod_of w (pop i p) (pop j q) ≡ pop_of w j (prod_of w (lower (i - j) p) q)
    pops-ge = pops-by (i - j) refl

  -- and where it does not
  pub pops-swap : (i j : ℕ) (p q : Form (Leaf w)) → i < j → prod_of w (pop j q) (pop i p) ≡ prod_of w (pop i p) (pop j q)
  unfolding prod_of
  pops-swap i j p q l = prod-3b (ring_of w) j i q p l ∙ sym (prod-3c (ring_of w) i j p q l)

  -- (4) and (5)
  module _ (i j : ℕ) (p q r : Form (Leaf w)) where
    pub pop-pow : 0 < i → prod_of w (pop i p) (pow j q r) ≡ pow_of w j (prod_of w (pop i p) q) (prod_of w (lower (i - 1) p) r)
    unfolding prod_of pow_of
    pop-pow l =
        let e : suc (i - 1) ≡ i = omega arith in
        subst (λ z. prod_of w (pop z p) (pow j q r) ≡ pow_of w j (prod_of w (pop z p) q) (prod_of w (lower (i - 1) p) r)) e
        (prod-pop-pow (ring_of w) (i - 1) j p q r)

    pub pow-pop : 0 < i → prod_of w (pow j q r) (pop i p) ≡ prod_of w (pop i p) (pow j q r)
    unfolding prod_of
    pow-pop l =
        let e : suc (i - 1) ≡ i = omega arith in
        subst (λ z. prod_of w (pow j q r) (pop z p) ≡ prod_of w (pop z p) (pow j q r)) e (prod-pow-pop (ring_of w) (i - 1) j p q r)

  -- lower k p, by k

  -- (6)
  pub pows : (i j : ℕ) (p q r s : Form (Leaf w))
      → prod_of w (pow i p q) (pow j r s)
      ≡ sum_of w (sum_of w (lead_of w i j p q r s) (cross_of w i p s)) (cross_of w j r q)
  unfolding prod_of sum_of pow_of pop_of zero_of
  pows i j p q r s = prod-pow-pow (ring_of w) i j p q r s
