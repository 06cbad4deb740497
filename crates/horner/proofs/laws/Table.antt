-- "Operations on forms are limited by the same table, with these numbers for x and y": each operation's result keeps within the row of
-- document 01's table that is worked out from its operands' own measures.
use Rattle.std.specs.Prelude.{List, ◌≡◌, refl, ℕ, ◌+◌, ◌≤◌, ◌*◌, ◌^◌, ℤ, nat_abs, length}
use Rattle.std.proofs.Common.{sym, ◌∙◌, arith}
use Rattle.std.proofs.Math.Nat as NatL
use Rattle.std.proofs.lemmas.List.{length-map}
use Rattle.horner.specs.definitions.Form.{Form, sum, negate, prod, raise, Normal}
use Rattle.horner.specs.definitions.Rings.{ℤ_ring}
use Rattle.horner.specs.definitions.Measures.{maxs, sums, multiples, weight_of, degrees_of, terms_of, weight, one_if, count, terms}
use Rattle.horner.specs.definitions.Measures.{degrees}
use Rattle.horner.proofs.laws.Degree.{bounded-mono, length-maxs, maxs-left, maxs-right, length-degrees}
use Rattle.horner.specs.laws.Degree.{Bounded}
use Rattle.horner.proofs.laws.Degree.{bounded-degrees, degrees-least}
use Rattle.horner.specs.laws.Within.{Over}
use Rattle.horner.specs.definitions.Term.{Term, norm_ℤ}
use Rattle.horner.proofs.laws.Bounds.{bounded-sum, bounded-negate, length-sums, bounded-prod, bounded-raise}
use Rattle.horner.proofs.laws.Count.{box-pos, count-size, count-box}
use Rattle.horner.proofs.laws.Limits.{weight-norm, length-degrees_of, bounded-norm, terms_of-pos, count-norm}
use Rattle.horner.proofs.laws.Measure.{meas-sum, meas-negate, meas-prod, meas-raise}
use Rattle.horner.proofs.laws.Normal.{normal-sum, normal-negate, normal-prod, normal-raise}
use Rattle.horner.proofs.laws.Term.{normal-norm}
use Rattle.horner.proofs.laws.Weight.{weight-size, mul-pos, pow_pos}
use Rattle.horner.specs.laws.Table.{Fits}

-- from a bound of the degrees and one of the terms
fits : (n w : ℕ) (ds : List ℕ) (t : ℕ) (z : Form ℤ) → Normal ℤ_ring n z → length ds ≡ n → Bounded ds z → 1 ≤ t → weight z ≤ w
    → count ℤ_ring z ≤ t → Fits n w ds t z
fits n w ds t z h l b p a c =
    record {
      by-weight = a;
      by-degrees = degrees-least ℤ_ring n ds z h l b;
      by-terms = omega (arith, count-box ℤ_ring n ds z h b, box-pos ds);
    }

module _ (n : ℕ) (x y : Form ℤ) (hx : Normal ℤ_ring n x) (hy : Normal ℤ_ring n y) where
  pub sum_fits : Fits n (weight x + weight y) (maxs (degrees n x) (degrees n y)) (terms ℤ_ring x + terms ℤ_ring y) (sum ℤ_ring x y)
  sum_fits =
      fits n _ (maxs (degrees n x) (degrees n y)) _ (sum ℤ_ring x y) (normal-sum ℤ_ring n x y hx hy)
      (length-maxs (degrees n x) (degrees n y) ∙ length-degrees ℤ_ring n x hx)
      (bounded-sum ℤ_ring (maxs (degrees n x) (degrees n y)) x y
      (bounded-mono x (degrees n x) _ (maxs-left (degrees n x) (degrees n y)) (bounded-degrees ℤ_ring n x hx))
      (bounded-mono y (degrees n y) _
      (maxs-right (degrees n x) (degrees n y) (length-degrees ℤ_ring n y hy ∙ sym (length-degrees ℤ_ring n x hx)))
      (bounded-degrees ℤ_ring n y hy)))
      (omega arith) (meas-sum ℤ_ring nat_abs weight-size x y) (omega (arith, meas-sum ℤ_ring (one_if ℤ_ring) (count-size ℤ_ring) x y))

  pub prod-fits : Fits n (weight x * weight y) (sums (degrees n x) (degrees n y)) (terms ℤ_ring x * terms ℤ_ring y) (prod ℤ_ring x y)
  prod-fits =
      fits n _ (sums (degrees n x) (degrees n y)) _ (prod ℤ_ring x y) (normal-prod ℤ_ring n x y hx hy)
      (length-sums (degrees n x) (degrees n y) (length-degrees ℤ_ring n x hx ∙ sym (length-degrees ℤ_ring n y hy))
      ∙ length-degrees ℤ_ring n y hy)
      (bounded-prod ℤ_ring (degrees n x) (degrees n y) x y (bounded-degrees ℤ_ring n x hx) (bounded-degrees ℤ_ring n y hy))
      (mul-pos (terms ℤ_ring x) (terms ℤ_ring y) (omega arith) (omega arith)) (meas-prod ℤ_ring nat_abs weight-size x y)
      (omega (arith, meas-prod ℤ_ring (one_if ℤ_ring) (count-size ℤ_ring) x y, NatL.mul-le-mul (le-terms x) (le-terms y)))
    where
      le-terms : (z : Form ℤ) → count ℤ_ring z ≤ terms ℤ_ring z
      le-terms z = omega arith

module _ (n : ℕ) (x : Form ℤ) (hx : Normal ℤ_ring n x) where
  pub negate-fits : Fits n (weight x) (degrees n x) (terms ℤ_ring x) (negate ℤ_ring x)
  negate-fits =
      fits n _ (degrees n x) _ (negate ℤ_ring x) (normal-negate ℤ_ring n x hx) (length-degrees ℤ_ring n x hx)
      (bounded-negate ℤ_ring (degrees n x) x (bounded-degrees ℤ_ring n x hx))
      (omega arith) (omega (arith, meas-negate ℤ_ring nat_abs weight-size x))
      (omega (arith, meas-negate ℤ_ring (one_if ℤ_ring) (count-size ℤ_ring) x))

  pub raise-fits : (k : ℕ) → Fits n (weight x ^ k) (multiples k (degrees n x)) (terms ℤ_ring x ^ k) (raise ℤ_ring x k)
  raise-fits k =
      fits n _ (multiples k (degrees n x)) _ (raise ℤ_ring x k) (normal-raise ℤ_ring n x k hx)
      (length-map (degrees n x) (λ d. k * d) ∙ length-degrees ℤ_ring n x hx)
      (bounded-raise ℤ_ring (degrees n x) x (bounded-degrees ℤ_ring n x hx) k) (pow_pos (terms ℤ_ring x) k (omega arith))
      (meas-raise ℤ_ring nat_abs weight-size (omega arith) x (weight x) (omega arith) k)
      (meas-raise ℤ_ring (one_if ℤ_ring) (count-size ℤ_ring) (omega arith) x (terms ℤ_ring x) (omega arith) k)

-- a term's own measures bound those of its form
pub norm-fits : (n : ℕ) (t : Term) → Over n t → Fits n (weight_of t) (degrees_of n t) (terms_of n t) (norm_ℤ t)
norm-fits n t o =
    fits n _ (degrees_of n t) _ (norm_ℤ t) (normal-norm ℤ_ring (λ z. z) refl n t o) (length-degrees_of n t o)
    (bounded-norm ℤ_ring (λ z. z) n t o)
    (terms_of-pos n t) (weight-norm t) (count-norm ℤ_ring (λ z. z) refl n t o)
