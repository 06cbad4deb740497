-- The measures of terms (weight, degrees, worked out from the term alone), and that the normal form keeps within them.
use Rattle.std.specs.Prelude.{false, List, [], ◌∷◌, ◌≡◌, ℕ, suc, ◌-◌, ◌≤◌, ◌*◌, ℤ, pos, nat_abs, length}
use Rattle.std.proofs.Common.{sym, ◌∙◌, subst, arith}
use Rattle.std.proofs.Math.Nat as NatL
use Rattle.std.proofs.lemmas.List.{length-map}
use Rattle.horner.specs.definitions.Form.{Form, int, pow, zero_form, sum, negate, letter}
use Rattle.horner.specs.definitions.Rings.{ℤ_ring, Ring}
use Rattle.horner.proofs.laws.Degree.{bounded-mono, length-zeros, after-zeros, length-maxs, maxs-left, maxs-right}
use Rattle.horner.specs.laws.Degree.{Bounded}
use Rattle.horner.specs.definitions.Measures.{zeros, maxs, weight_of, degrees_of, box_of, terms_of, weight, one_if, count}
use Rattle.horner.specs.laws.Within.{Over}
use Rattle.horner.specs.definitions.Term.{Term, num, var, minus, plus, diff, times, expt, norm, norm_ℤ}
use Rattle.horner.proofs.laws.Bounds.{bounded-mkpop, bounded-sum, bounded-negate, length-sums, bounded-prod, bounded-raise}
use Rattle.horner.proofs.laws.Count.{box-pos, one-if-le, count-size, count-box}
use Rattle.horner.proofs.laws.Measure.{meas-mkpop, meas-sum, meas-negate, meas-prod, meas-raise}
use Rattle.horner.proofs.laws.Term.{normal-norm}
use Rattle.horner.proofs.laws.Weight.{weight-size, mul-pos, pow_pos}

pub weight-norm : (t : Term) → weight (norm_ℤ t) ≤ weight_of t
weight-norm (num z) = omega arith
weight-norm (var i) = omega (arith, meas-mkpop nat_abs i (pow 1 (int (pos 1)) (int (pos 0))))
weight-norm (minus s) = omega (arith, meas-negate ℤ_ring nat_abs weight-size (norm_ℤ s), weight-norm s)
weight-norm (plus s t) = omega (arith, meas-sum ℤ_ring nat_abs weight-size (norm_ℤ s) (norm_ℤ t), weight-norm s, weight-norm t)
weight-norm (diff s t) =
    omega (
      arith,
      meas-sum ℤ_ring nat_abs weight-size (norm_ℤ s) (negate ℤ_ring (norm_ℤ t)),
      meas-negate ℤ_ring nat_abs weight-size (norm_ℤ t),
      weight-norm s,
      weight-norm t,
    )
weight-norm (times s t) =
    omega (arith, meas-prod ℤ_ring nat_abs weight-size (norm_ℤ s) (norm_ℤ t), NatL.mul-le-mul (weight-norm s) (weight-norm t))
weight-norm (expt s k) = meas-raise ℤ_ring nat_abs weight-size (omega arith) (norm_ℤ s) (weight_of s) (weight-norm s) k

-- ---- the degrees, in a row of n

pub length-degrees_of : (n : ℕ) (t : Term) → Over n t → length (degrees_of n t) ≡ n
length-degrees_of n (num z) h = length-zeros n [] ∙ omega arith
length-degrees_of n (var i) h = length-zeros i (1 ∷ zeros (n - suc i) []) ∙ omega (arith, length-zeros (n - suc i) [])
length-degrees_of n (minus s) h = length-degrees_of n s h
length-degrees_of n (plus s t) h = length-maxs (degrees_of n s) (degrees_of n t) ∙ length-degrees_of n s h.0
length-degrees_of n (diff s t) h = length-maxs (degrees_of n s) (degrees_of n t) ∙ length-degrees_of n s h.0
length-degrees_of n (times s t) h =
    length-sums (degrees_of n s) (degrees_of n t) (length-degrees_of n s h.0 ∙ sym (length-degrees_of n t h.1))
    ∙ length-degrees_of n t h.1
length-degrees_of n (expt s k) h = length-map (degrees_of n s) (λ d. k * d) ∙ length-degrees_of n s h

module _ {A : Type 0} (R : Ring A) (ι : ℤ → A) where
  bounded-letter : (i : ℕ) (ds : List ℕ) → Bounded (zeros i (1 ∷ ds)) (letter R i)
  bounded-letter i ds =
      bounded-mkpop (zeros i (1 ∷ ds)) i (pow 1 (int R.unit) (zero_form R))
      (subst (λ z. Bounded z (pow 1 (int R.unit) (zero_form R))) (sym (after-zeros i (1 ∷ ds))) (omega arith, tt, tt))

  -- two bounds of one length, the larger of both
  both : (n : ℕ) (s t : Term) → Over n s → Over n t → (x y : Form A) → Bounded (degrees_of n s) x → Bounded (degrees_of n t) y
      → Bounded (maxs (degrees_of n s) (degrees_of n t)) (sum R x y)
  both n s t hs ht x y bx by =
      bounded-sum R (maxs (degrees_of n s) (degrees_of n t)) x y
      (bounded-mono x (degrees_of n s) _ (maxs-left (degrees_of n s) (degrees_of n t)) bx)
      (bounded-mono y (degrees_of n t) _
      (maxs-right (degrees_of n s) (degrees_of n t) (length-degrees_of n t ht ∙ sym (length-degrees_of n s hs))) by)

  pub bounded-norm : (n : ℕ) (t : Term) → Over n t → Bounded (degrees_of n t) (norm R ι t)
  bounded-norm n (num z) h = tt
  bounded-norm n (var i) h = bounded-letter i (zeros (n - suc i) [])
  bounded-norm n (minus s) h = bounded-negate R (degrees_of n s) (norm R ι s) (bounded-norm n s h)
  bounded-norm n (plus s t) h = both n s t h.0 h.1 (norm R ι s) (norm R ι t) (bounded-norm n s h.0) (bounded-norm n t h.1)
  bounded-norm n (diff s t) h =
      both n s t h.0 h.1 (norm R ι s) (negate R (norm R ι t)) (bounded-norm n s h.0)
      (bounded-negate R (degrees_of n t) (norm R ι t) (bounded-norm n t h.1))
  bounded-norm n (times s t) h =
      bounded-prod R (degrees_of n s) (degrees_of n t) (norm R ι s) (norm R ι t) (bounded-norm n s h.0) (bounded-norm n t h.1)
  bounded-norm n (expt s k) h = bounded-raise R (degrees_of n s) (norm R ι s) (bounded-norm n s h) k

-- ---- the terms: by the table, each row cut down to the box

-- a term counts for 1 at least
pub terms_of-pos : (n : ℕ) (t : Term) → 1 ≤ terms_of n t
terms_of-pos n (num z) = omega arith
terms_of-pos n (var i) = omega arith
terms_of-pos n (minus s) = terms_of-pos n s
terms_of-pos n (plus s t) = omega (arith, terms_of-pos n s, box-pos (degrees_of n (plus s t)))
terms_of-pos n (diff s t) = omega (arith, terms_of-pos n s, box-pos (degrees_of n (diff s t)))
terms_of-pos n (times s t) =
    omega (arith, mul-pos (terms_of n s) (terms_of n t) (terms_of-pos n s) (terms_of-pos n t), box-pos (degrees_of n (times s t)))
terms_of-pos n (expt s k) = omega (arith, pow_pos (terms_of n s) k (terms_of-pos n s), box-pos (degrees_of n (expt s k)))

module _ {A : Type 0} (R : Ring A) (ι : ℤ → A) (u : R.is_nil R.unit ≡ false) where
  in-box : (n : ℕ) (t : Term) → Over n t → count R (norm R ι t) ≤ box_of n t
  in-box n t h = count-box R n (degrees_of n t) (norm R ι t) (normal-norm R ι u n t h) (bounded-norm R ι n t h)

  unit-le : one_if R R.unit ≤ 1
  unit-le = one-if-le R R.unit

  pub count-norm : (n : ℕ) (t : Term) → Over n t → count R (norm R ι t) ≤ terms_of n t
  count-norm n (num z) h = one-if-le R (ι z)
  count-norm n (var i) h =
      omega (arith, meas-mkpop (one_if R) i (pow 1 (int R.unit) (zero_form R)), unit-le, (count-size R).of_nil)
  count-norm n (minus s) h = omega (arith, meas-negate R (one_if R) (count-size R) (norm R ι s), count-norm n s h)
  count-norm n (plus s t) h =
      omega (
        arith,
        meas-sum R (one_if R) (count-size R) (norm R ι s) (norm R ι t),
        count-norm n s h.0,
        count-norm n t h.1,
        in-box n (plus s t) h,
      )
  count-norm n (diff s t) h =
      omega (
        arith,
        meas-sum R (one_if R) (count-size R) (norm R ι s) (negate R (norm R ι t)),
        meas-negate R (one_if R) (count-size R) (norm R ι t),
        count-norm n s h.0,
        count-norm n t h.1,
        in-box n (diff s t) h,
      )
  count-norm n (times s t) h =
      omega (
        arith,
        meas-prod R (one_if R) (count-size R) (norm R ι s) (norm R ι t),
        NatL.mul-le-mul (count-norm n s h.0) (count-norm n t h.1),
        in-box n (times s t) h,
      )
  count-norm n (expt s k) h =
      omega (arith, meas-raise R (one_if R) (count-size R) unit-le (norm R ι s) (terms_of n s) (count-norm n s h) k, in-box n (expt s k) h)
