-- "A form's measures are those of the polynomial itself: weight is the sum of the absolute coefficients, terms the number of coefficients
-- that are not 0 (1 for the zero polynomial), degree the highest power." So it is of every normal form over a row of n.
use Rattle.std.specs.Prelude.{Bool, true, false, List, [], ◌∷◌, ◌⊎◌, ◌≡◌, refl, ℕ, zero, suc, ◌+◌, ◌≤◌, ◌<◌, max, ℤ, pos, nat_abs, length, get_or}
use Rattle.std.proofs.Common.{inl, inr, sym, ap, ◌∙◌, subst, arith}
use Rattle.horner.specs.definitions.Form.{Form, is_zero, Normal, evalh}
use Rattle.horner.specs.definitions.Measures.{coef_at, sum_box, monomial, degrees, one_if, terms, weight}
use Rattle.horner.specs.definitions.Points.{InBox}
use Rattle.horner.specs.definitions.Rings.{ℤ_ring}
use Rattle.horner.proofs.laws.Cancel.{zero_is}
use Rattle.horner.proofs.laws.Coefficients.{val-sum_box, weight-sum_box, count-sum_box, coef_at-zero}
use Rattle.horner.proofs.laws.Degree.{length-degrees, bounded-degrees}
use Rattle.horner.specs.laws.Degree.{Bounded}
use Rattle.horner.proofs.laws.Evalh.{evalh-val}
use Rattle.horner.proofs.laws.Highest.{in_bounds, reaches, zeros-zero}

-- the coefficients are numbered by their powers of the n variables; one that is not 0 has the power d of the j-th variable
pub record Reached (n j d : ℕ) (coefficient : List ℕ → ℤ) : Type 0 where
  pub powers : List ℕ
  pub long : length powers ≡ n
  pub not-zero : coefficient powers ≡ pos 0 → ⊥
  pub has-it : get_or powers j 0 ≡ d

-- d is the highest power of the j-th variable: none that is not 0 has a higher one, and some has it, or all are 0 and so is d
pub record HighestPower (n j d : ℕ) (coefficient : List ℕ → ℤ) : Type 0 where
  pub none-higher : (ks : List ℕ) → length ks ≡ n → (coefficient ks ≡ pos 0 → ⊥) → get_or ks j 0 ≤ d
  pub reached : Reached n j d coefficient ⊎ (((ks : List ℕ) → coefficient ks ≡ pos 0) × (d ≡ 0))

-- a point of a box has each coordinate within it
in-box : (ds ks : List ℕ) (j : ℕ) → InBox ds ks → get_or ks j 0 ≤ get_or ds j 0
in-box [] [] j h = omega arith
in-box [] (k ∷ ks) j h = absurd h
in-box (d ∷ ds) [] j h = absurd h
in-box (d ∷ ds) (k ∷ ks) zero h = h.0
in-box (d ∷ ds) (k ∷ ks) (suc j) h = in-box ds ks j h.1

module _ (n : ℕ) (x : Form ℤ) (h : Normal ℤ_ring n x) where
  -- of v_0^k_0 v_1^k_1 ..
  abbrev coefficient : List ℕ → ℤ
  coefficient ks = coef_at ℤ_ring ks x

  abbrev box : List ℕ
  box = degrees n x

  bounded : Bounded box x
  bounded = bounded-degrees ℤ_ring n x h

  normal : Normal ℤ_ring (length box) x
  normal = subst (λ m. Normal ℤ_ring m x) (sym (length-degrees ℤ_ring n x h)) h

  -- they are the polynomial's: its value is their sum, each times its powers of the variables
  pub value-is :
      (N : List ℤ) → length N ≡ n →
      evalh ℤ_ring x N ≡ sum_box ℤ_ring.◌⊞◌ box (λ ks. ℤ_ring.◌·◌ (monomial ℤ_ring ks N) (coefficient ks))
  value-is N e = evalh-val ℤ_ring n x N h (omega (arith, e)) ∙ val-sum_box ℤ_ring box x N normal bounded

  -- "weight is the sum of the absolute coefficients"
  pub weight_is : weight x ≡ sum_box ◌+◌ box (λ ks. nat_abs (coefficient ks))
  weight_is = weight-sum_box box x normal bounded

  -- "terms the number of coefficients that are not 0 (1 for the zero polynomial)"
  pub terms-is : terms ℤ_ring x ≡ max 1 (sum_box ◌+◌ box (λ ks. one_if ℤ_ring (coefficient ks)))
  terms-is = ap (max 1) (count-sum_box ℤ_ring box x normal bounded)

  -- "degree the highest power"
  pub degree-is : (j : ℕ) → j < n → HighestPower n j (get_or (degrees n x) j 0) coefficient
  degree-is j l =
      record {
        none-higher = λ ks e c. in-box box ks j (in_bounds ℤ_ring box ks x bounded (e ∙ sym (length-degrees ℤ_ring n x h)) c);
        reached = at (is_zero ℤ_ring x) refl;
      }
    where
      at :
          (b : Bool) → is_zero ℤ_ring x ≡ b →
          Reached n j (get_or box j 0) coefficient ⊎ (((ks : List ℕ) → coefficient ks ≡ pos 0) × (get_or box j 0 ≡ 0))
      at true z =
          let e = zero_is ℤ_ring x z in
          inr (λ ks. ap (coef_at ℤ_ring ks) e ∙ coef_at-zero ℤ_ring ks, ap (λ y. get_or (degrees n y) j 0) e ∙ zeros-zero n j)
      at false z =
          let r = reaches ℤ_ring n j x l h z in
          inl (record { powers = r.powers; long = r.long; not-zero = r.counts; has-it = r.highest })
