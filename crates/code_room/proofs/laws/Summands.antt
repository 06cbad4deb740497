-- The summands of Definition 11 (6) are held, and so is the sum of the first two.
use Rattle.std.specs.Prelude.{List, [], ◌∷◌, ◌≡◌, ℕ, ◌+◌, ◌-◌, ◌*◌, ◌≤◌}
use Rattle.std.proofs.Common.{ap, subst, arith}
use Rattle.std.proofs.Math.Nat as NatL
use Rattle.horner.specs.definitions.Form.{Form, pow, mkpop, mkpow, zero_form, prod}
use Rattle.horner.proofs.laws.Degree.{below-refl, bounded-mono}
use Rattle.horner.specs.laws.Degree.{Bounded}
use Rattle.horner.specs.definitions.Measures.{sums, one_if, count}
use Rattle.horner.specs.definitions.Rings.{Ring}
use Rattle.horner.proofs.laws.Bounds.{bounded-mkpop, bounded-mkpow, bounded-sum, bounded-prod}
use Rattle.horner.proofs.laws.Count.{count-size}
use Rattle.horner.proofs.laws.Measure.{meas-mkpop, meas-mkpow, meas-sum, meas-prod}
use Rattle.horner.proofs.laws.Normal.{normal-mkpop, normal-mkpow, normal-sum, normal-prod}
use Rattle.code.specs.Operations.{pop_of, pow_of, sum_of, zero_of}
use Rattle.code.specs.Widths.{Leaf, ring_of}
use Rattle.code_room.specs.Fit.{prod_of, lead_of, cross_of, Within, Fit, Held}
use Rattle.code_room.proofs.laws.Fit.{held}

-- ---- degrees
module _ {A : Type 0} (R : Ring A) (i j : ℕ) (p q r s : Form A) where
  lead-bounded :
      (ds es : List ℕ) → Bounded ds (pow i p q) → Bounded es (pow j r s) →
      Bounded (sums ds es) (mkpow R (i + j) (prod R p r) (prod R q s))
  lead-bounded [] es hx hy = absurd hx
  lead-bounded (d ∷ ds) [] hx hy = absurd hy
  lead-bounded (d ∷ ds) (e ∷ es) hx hy =
      let a : (d - i) + (e - j) ≡ d + e - (i + j) = omega (arith, hx.0, hy.0) in
      bounded-mkpow R (d + e) (sums ds es) (i + j) (prod R p r) (prod R q s) (omega (arith, hx.0, hy.0))
      (subst (λ z. Bounded (z ∷ sums ds es) (prod R p r)) a (bounded-prod R ((d - i) ∷ ds) ((e - j) ∷ es) p r hx.1 hy.1))
      (bounded-prod R ds es q s hx.2 hy.2)

  cross-bounded :
      (ds es : List ℕ) → Bounded ds (pow i p q) → Bounded es (pow j r s) →
      Bounded (sums ds es) (mkpow R i (prod R p (mkpop 1 s)) (zero_form R))
  cross-bounded [] es hx hy = absurd hx
  cross-bounded (d ∷ ds) [] hx hy = absurd hy
  cross-bounded (d ∷ ds) (e ∷ es) hx hy =
      bounded-mkpow R (d + e) (sums ds es) i (prod R p (mkpop 1 s)) (zero_form R) (omega (arith, hx.0))
      (bounded-mono (prod R p (mkpop 1 s)) ((d - i + 0) ∷ sums ds es) ((d + e - i) ∷ sums ds es)
      (omega (arith, hx.0), below-refl (sums ds es))
      (bounded-prod R ((d - i) ∷ ds) (0 ∷ es) p (mkpop 1 s) hx.1 (bounded-mkpop (0 ∷ es) 1 s hy.2))) tt

  -- ---- terms
  lead-count : count R (mkpow R (i + j) (prod R p r) (prod R q s)) ≤ count R p * count R r + count R q * count R s
  lead-count =
      let ν = one_if R in
      omega (
        arith,
        meas-mkpow R ν (count-size R) (i + j) (prod R p r) (prod R q s),
        meas-prod R ν (count-size R) p r,
        meas-prod R ν
            (count-size R) q s,
      )

  cross-count : count R (mkpow R i (prod R p (mkpop 1 s)) (zero_form R)) ≤ count R p * count R s
  cross-count =
      let ν = one_if R in
      omega (
        arith,
        meas-mkpow R ν (count-size R) i (prod R p (mkpop 1 s)) (zero_form R),
        (count-size R).of_nil,
        meas-prod R ν
            (count-size R) p (mkpop 1 s),
        ap (λ z. count R p * z) (meas-mkpop ν 1 s),
      )

-- three of the four products of terms
three : (p q r s a b : ℕ) → p + q ≤ a → r + s ≤ b → p * r + q * s + p * s ≤ a * b
three p q r s a b h g =
    omega (arith, NatL.mul-le-mul h g, NatL.add-mul p q (r + s), NatL.mul-add p r s, NatL.mul-add q r s)

module _ {w n k : ℕ} (i j : ℕ) (p q r s : Form (Leaf w)) (f : Fit w n k (pow i p q) (pow j r s)) where
  abbrev R : Ring (Leaf w)
  R = ring_of w

  terms : count R p * count R r + count R q * count R s + count R p * count R s ≤ f.cx * f.cy
  terms = three (count R p) (count R q) (count R r) (count R s) f.cx f.cy f.of-x.few f.of-y.few

  lead-within : Within w n (f.cx * f.cy) (sums f.dx f.dy) (lead_of w i j p q r s)
  unfolding pow_of prod_of
  lead-within =
      let hx = f.of-x.normal in
      let hy = f.of-y.normal in
      record {
        normal =
            normal-mkpow R n (i + j) (prod R p r) (prod R q s) (omega (arith, hx.0)) hx.1 (normal-prod R n p r hx.2 hy.2)
            (normal-prod R (n - 1) q s hx.4 hy.4);
        bounded = lead-bounded R i j p q r s f.dx f.dy f.of-x.bounded f.of-y.bounded;
        few = omega (arith, lead-count R i j p q r s, terms);
      }

  cross-within : Within w n (f.cx * f.cy) (sums f.dx f.dy) (cross_of w i p s)
  unfolding pow_of prod_of pop_of zero_of
  cross-within =
      let hx = f.of-x.normal in
      let hy = f.of-y.normal in
      record {
        normal =
            normal-mkpow R n i (prod R p (mkpop 1 s)) (zero_form R) hx.0 hx.1
            (normal-prod R n p (mkpop 1 s) hx.2 (normal-mkpop R n 1 s hy.4)) tt;
        bounded = cross-bounded R i j p q r s f.dx f.dy f.of-x.bounded f.of-y.bounded;
        few = omega (arith, cross-count R i j p q r s, terms);
      }

  two-within : Within w n (f.cx * f.cy) (sums f.dx f.dy) (sum_of w (lead_of w i j p q r s) (cross_of w i p s))
  unfolding sum_of pow_of prod_of pop_of zero_of
  two-within =
      let one = mkpow R (i + j) (prod R p r) (prod R q s) in
      let two = mkpow R i (prod R p (mkpop 1 s)) (zero_form R) in
      record {
        normal = normal-sum R n one two lead-within.normal cross-within.normal;
        bounded = bounded-sum R (sums f.dx f.dy) one two lead-within.bounded cross-within.bounded;
        few = omega (arith, meas-sum R (one_if R) (count-size R) one two, lead-count R i j p q r s, cross-count R i j p q r s, terms);
      }

  pub lead-held : Held w (lead_of w i j p q r s)
  lead-held = held f (lead_of w i j p q r s) lead-within

  pub cross-held : Held w (cross_of w i p s)
  cross-held = held f (cross_of w i p s) cross-within

  pub two-held : Held w (sum_of w (lead_of w i j p q r s) (cross_of w i p s))
  two-held = held f (sum_of w (lead_of w i j p q r s) (cross_of w i p s)) two-within
