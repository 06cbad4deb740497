-- Sums, differences and negatives of forms, on the words of their runs.
use mathlib.Core.List.{List, [], ◌∷◌}
use Rattle.std.specs.Prelude.{◌≡◌, refl, ℕ, zero, suc}
use Rattle.std.proofs.Common.{sym, ◌∙◌, subst, arith}
use Rattle.std.proofs.Math.Path.{ap, ap₂}
use Rattle.code_counters.specs.laws.Reading.{plain-zero, coef, coef-sum}
use Rattle.horner.specs.definitions.Form.{Form, zero_form, sum, negate, Normal}
use Rattle.horner.specs.definitions.Measures.{zeros}
use Rattle.horner.specs.definitions.Rings.{Ring, Res, prime, p_ring}
use Rattle.horner.proofs.laws.Degree.{length-zeros}
use Rattle.horner.proofs.laws.Normal.{normal-sum, normal-negate}
use Rattle.horner.proofs.laws.Ring.{nil-add}
use Rattle.run.specs.Merging.{Each}
use Rattle.run.specs.Runs.{Run, Sorted, to_form, to_run, sum_r, times_r, negate_r}
use Rattle.run.proofs.laws.Forms.{canon-coef, form-of-run, run-of-form}
use Rattle.run.proofs.laws.Operations.{sorted-sum_r, sorted-negate_r, form-sum, form-negate, times-one, times-minus}
use Rattle.run_merge.specs.Words.{key_of, code_of, flat, summed}
use Rattle.run_merge.specs.laws.Coding.{Small, summed-code}
use Rattle.run_form.specs.Forms.{run_words, Low}
use Rattle.run_form.proofs.laws.Under.{sorted, small}

-- the sum with 0
zero-sum : {A : Type 0} (R : Ring A) (n : ℕ) (x : Form A) → Normal R n x → sum R (zero_form R) x ≡ x
zero-sum R n x h =
    canon-coef R n (sum R (zero_form R) x) x (normal-sum R n (zero_form R) x tt h) h
    (λ ks l. coef-sum R (zero_form R) x ks ∙ ap (λ z. R.◌⊞◌ z (coef R x ks)) (plain-zero R ks) ∙ nil-add R (coef R x ks))

-- the key of no exponents
pub key-zeros : (n : ℕ) → key_of (zeros n []) ≡ 0
key-zeros zero = refl
key-zeros (suc n) = omega (arith, key-zeros n)

-- the exponents stay
negate-small : (n : ℕ) (s : Run (Res prime)) → Each (Small n) s → Each (Small n) (negate_r p_ring s)
negate-small n [] h = tt
negate-small n (m ∷ s) h = (h.0, negate-small n s h.1)

-- a run with the form z is the run of z
pub run_of :
    (n : ℕ) (r : Run (Res prime)) (z : Form (Res prime)) → Sorted p_ring n r → to_form p_ring r ≡ z → flat (code_of r) ≡ run_words n z
unfolding run_words
run_of n r z h e = ap (λ q. flat (code_of q)) (sym (run-of-form p_ring n r h) ∙ ap (to_run p_ring n) e)

module _ {n : ℕ} {ds es : List ℕ} {x y : Form (Res prime)} (X : Low n ds x) (Y : Low n es y) where
  abbrev r : Run (Res prime)
  r = to_run p_ring n x

  abbrev s : Run (Res prime)
  s = to_run p_ring n y

  -- (0, 1) adds
  pub sum-run : summed 0 1 (run_words n x) (run_words n y) ≡ run_words n (sum p_ring x y)
  unfolding run_words
  sum-run =
      ap (λ k. summed k 1 (flat (code_of r)) (flat (code_of s))) (sym (key-zeros n))
      ∙ summed-code n r (zeros n []) p_ring.unit s (small X) (length-zeros n [] ∙ omega arith) (small Y)
      (subst (Each (Small n)) (sym one) (small Y))
      ∙ ap (λ z. flat (code_of (sum_r p_ring r z))) one
      ∙ run_of n (sum_r p_ring r s) (sum p_ring x y)
      (sorted-sum_r p_ring n r s (sorted X).long (sorted Y).long (sorted X).falls (sorted Y).falls)
      (form-sum p_ring n r s (sorted X).long (sorted Y).long
      ∙ ap₂ (sum p_ring) (form-of-run p_ring n x X.normal) (form-of-run p_ring n y Y.normal))
    where
      one : times_r p_ring (zeros n []) p_ring.unit s ≡ s
      one = times-one p_ring n s (sorted Y).long

  -- (0, P - 1) subtracts
  pub difference-run : summed 0 2147483646 (run_words n x) (run_words n y) ≡ run_words n (sum p_ring x (negate p_ring y))
  unfolding run_words
  difference-run =
      ap (λ k. summed k 2147483646 (flat (code_of r)) (flat (code_of s))) (sym (key-zeros n))
      ∙ summed-code n r (zeros n []) (p_ring.neg p_ring.unit) s (small X) (length-zeros n [] ∙ omega arith) (small Y)
      (subst (Each (Small n)) (sym minus) (negate-small n s (small Y)))
      ∙ ap (λ z. flat (code_of (sum_r p_ring r z))) minus
      ∙ run_of n (sum_r p_ring r (negate_r p_ring s)) (sum p_ring x (negate p_ring y))
      (sorted-sum_r p_ring n r (negate_r p_ring s) (sorted X).long opposite.long (sorted X).falls opposite.falls)
      (form-sum p_ring n r (negate_r p_ring s) (sorted X).long opposite.long
      ∙ ap₂ (sum p_ring) (form-of-run p_ring n x X.normal)
      (form-negate p_ring n s (sorted Y).long ∙ ap (negate p_ring) (form-of-run p_ring n y Y.normal)))
    where
      minus : times_r p_ring (zeros n []) (p_ring.neg p_ring.unit) s ≡ negate_r p_ring s
      minus = times-minus p_ring n s (sorted Y).long

      opposite : Sorted p_ring n (negate_r p_ring s)
      opposite = sorted-negate_r p_ring n s (sorted Y)

module _ {n : ℕ} {es : List ℕ} {y : Form (Res prime)} (Y : Low n es y) where
  -- 0 has no words
  zero-low : Low n es (zero_form p_ring)
  zero-low = record { four = Y.four; long = Y.long; degrees = Y.degrees; normal = tt; bounded = tt }

  -- from nothing, (0, 1) copies
  pub same-run : summed 0 1 [] (run_words n y) ≡ run_words n y
  unfolding run_words
  same-run = sum-run zero-low Y ∙ ap (run_words n) (zero-sum p_ring n y Y.normal)

  -- and (0, P - 1) negates
  pub negate-run : summed 0 2147483646 [] (run_words n y) ≡ run_words n (negate p_ring y)
  unfolding run_words
  negate-run =
      difference-run zero-low Y
      ∙ ap (run_words n) (zero-sum p_ring n (negate p_ring y) (normal-negate p_ring n y Y.normal))
