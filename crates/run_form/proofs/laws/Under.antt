-- The exponents in a form's run are its degrees at most.
use Rattle.std.specs.Prelude.{List, [], ◌∷◌, ◌≡◌, ℕ, ◌+◌, ◌-◌, ◌≤◌, length}
use Rattle.std.proofs.Common.{◌∙◌, ap, arith}
use Rattle.horner.specs.definitions.Form.{Form, int, pop, pow, Normal, after}
use Rattle.horner.specs.definitions.Measures.{zeros, count}
use Rattle.horner.specs.definitions.Rings.{Ring, Res, prime, p_ring}
use Rattle.horner.proofs.laws.Degree.{below-zeros, below-behind, length-after}
use Rattle.horner.specs.laws.Degree.{Bounded, Below}
use Rattle.horner.proofs.laws.Normal.{pow-level}
use Rattle.run.specs.Merging.{Each, rekey}
use Rattle.run.specs.Runs.{Run, Long, raise_key, Sorted, to_run}
use Rattle.run.proofs.laws.Forms.{long-to_run, sorted-to_run}
use Rattle.run.proofs.laws.Lengths.{length-to_run}
use Rattle.run.proofs.laws.Merging.{each-push, each_append, each-rekey}
use Rattle.run_merge.specs.Words.{Fits, pairs}
use Rattle.run_merge.specs.laws.Coding.{Small, fits-code}
use Rattle.run_merge.specs.laws.Room.{small-below, words-code}
use Rattle.run_form.specs.Forms.{run_words, Low}

module _ {A : Type 0} (R : Ring A) where
  -- behind i variables that do not occur
  behind :
      (n i : ℕ) (ds : List ℕ) → 1 ≤ n → length ds - i ≡ n → (r : Run A) → Each (Long n) r → Each (λ k. Below k (after i ds)) r →
      Each (λ k. Below (zeros i k) ds) r
  behind n i ds h e [] l b = tt
  behind n i ds h e (m ∷ r) l b =
      (below-behind i m.0 ds (omega (arith, l.0)) (omega (arith, l.0, e)) b.0, behind n i ds h e r l.1 b.1)

  -- the first exponent raised by i
  raise-below : (i d : ℕ) (ds ks : List ℕ) → i ≤ d → Below ks ((d - i) ∷ ds) → Below (raise_key i ks) (d ∷ ds)
  raise-below i d ds [] h b = tt
  raise-below i d ds (k ∷ ks) h b = (omega (arith, b.0), b.1)

  -- in a whole run
  above :
      (i d : ℕ) (ds : List ℕ) → i ≤ d → (r : Run A) → Each (λ k. Below k ((d - i) ∷ ds)) r → Each (λ k. Below (raise_key i k) (d ∷ ds)) r
  above i d ds h [] b = tt
  above i d ds h (m ∷ r) b = (raise-below i d ds m.0 h b.0, above i d ds h r b.1)

  -- behind one variable that does not occur
  under_first : (d : ℕ) (ds : List ℕ) (r : Run A) → Each (λ k. Below k ds) r → Each (λ k. Below (zeros 1 k) (d ∷ ds)) r
  under_first d ds [] b = tt
  under_first d ds (m ∷ r) b = ((omega arith, b.0), under_first d ds r b.1)

  -- the exponents of the run are below the form's degrees
  under-to_run : (n : ℕ) (ds : List ℕ) (x : Form A) → Normal R n x → length ds ≡ n → Bounded ds x → Each (λ k. Below k ds) (to_run R n x)
  under-to_run n ds (int c) h l b = each-push R.is_nil (λ k. Below k ds) (zeros n []) c [] (below-zeros n ds l) tt
  under-to_run n ds (pop i p) h l b =
      each-rekey (zeros i) (λ k. Below k ds) (to_run R (n - i) p)
      (behind (n - i) i ds (pow-level R (n - i) p h.1 h.2) (ap (λ m. m - i) l) (to_run R (n - i) p) (long-to_run R (n - i) p h.2)
      (under-to_run (n - i) (after i ds) p h.2 (length-after i ds ∙ ap (λ m. m - i) l) b))
  under-to_run n [] (pow i p q) h l b = absurd b
  under-to_run n (d ∷ ds) (pow i p q) h l b =
      each_append (λ k. Below k (d ∷ ds)) (rekey (raise_key i) (to_run R n p)) (rekey (zeros 1) (to_run R (n - 1) q))
      (each-rekey (raise_key i) (λ k. Below k (d ∷ ds)) (to_run R n p)
      (above i d ds b.0 (to_run R n p) (under-to_run n ((d - i) ∷ ds) p h.2 l b.1)))
      (each-rekey (zeros 1) (λ k. Below k (d ∷ ds)) (to_run R (n - 1) q)
      (under_first d ds (to_run R (n - 1) q) (under-to_run (n - 1) ds q h.4 (omega (arith, l)) b.2)))

module _ {n : ℕ} {ds : List ℕ} {x : Form (Res prime)} (L : Low n ds x) where
  -- the run of a low form is sorted
  pub sorted : Sorted p_ring n (to_run p_ring n x)
  sorted = sorted-to_run p_ring n x L.normal

  -- its exponents are below the degrees
  pub under : Each (λ k. Below k ds) (to_run p_ring n x)
  under = under-to_run p_ring n ds x L.normal L.long L.bounded

  -- and below 64
  pub small : Each (Small n) (to_run p_ring n x)
  small = small-below n ds (to_run p_ring n x) L.degrees sorted.long under

  -- its words are keys and remainders
  pub run_fits : Fits 0 (pairs (run_words n x))
  unfolding run_words
  run_fits = fits-code n (to_run p_ring n x) L.four small

-- two for each coefficient that is not 0
pub run_length : (n : ℕ) (x : Form (Res prime)) → length (run_words n x) ≡ count p_ring x + count p_ring x
unfolding run_words
run_length n x = omega (arith, words-code (to_run p_ring n x), length-to_run p_ring n x)
