-- How many monomials: a sorted run has as many as its form has coefficients that are not 0, so at most as many as the box of its degrees;
-- a sum has at most as many as both.
use Rattle.std.specs.Prelude.{Bool, true, false, cond, List, [], ◌∷◌, ◌≡◌, refl, ℕ, suc, ◌+◌, ◌-◌, ◌≤◌, length}
use Rattle.std.proofs.Common.{sym, ◌∙◌, ap, ap₂, arith, length-append}
use Rattle.std.proofs.lemmas.List.{length-map}
use Rattle.horner.specs.definitions.Form.{Form, int, pop, pow}
use Rattle.horner.specs.definitions.Measures.{zeros, box, count}
use Rattle.horner.specs.definitions.Rings.{Ring}
use Rattle.horner.proofs.laws.Count.{count-box}
use Rattle.horner.specs.laws.Degree.{Below}
use Rattle.horner.proofs.laws.Tests.{cond_cases}
use Rattle.run.specs.Merging.{Order, rekey, Each, push, purge, merge}
use Rattle.run.specs.Runs.{Run, raise_key, Sorted, to_form, to_run}
use Rattle.run.proofs.laws.Forms.{normal-to_form, run-of-form}
use Rattle.run.proofs.laws.Merging.{merge-by}
use Rattle.run.proofs.laws.Operations.{bounded-to_form}
use Rattle.run.proofs.laws.Orders.{order-cases}

module _ {K A : Type 0} (is_nil : A → Bool) (cmp : K → K → Order) (add : A → A → A) where
  length_push : (k : K) (c : A) (r : List (K × A)) → length (push is_nil k c r) ≤ suc (length r)
  length_push k c r = cond_cases (is_nil c) (λ l. length l ≤ suc (length r)) r ((k, c) ∷ r) (λ e. omega arith) (λ e. omega arith)

  length-purge : (r : List (K × A)) → length (purge is_nil r) ≤ length r
  length-purge [] = omega arith
  length-purge (m ∷ r) = omega (arith, length_push m.0 m.1 (purge is_nil r), length-purge r)

  -- a merged list is no longer than both
  pub length-merge : (r s : List (K × A)) → length (merge is_nil cmp add r s) ≤ length r + length s
  length-merge r s =
      merge-by is_nil cmp add (λ r s. length (merge is_nil cmp add r s) ≤ length r + length s)
      (λ s. omega (arith, length-purge s))
      (λ m r h. omega (arith, length_push m.0 m.1 (merge is_nil cmp add r []), h))
      (λ m r u s h h₂ h₃. order-cases (cmp m.0 u.0) (λ l. length l ≤ length (m ∷ r) + length (u ∷ s)) _ _ _
      (λ e. omega (arith, length_push m.0 m.1 (merge is_nil cmp add r (u ∷ s)), h))
      (λ e. omega (arith, length_push m.0 (add m.1 u.1) (merge is_nil cmp add r s), h₂))
      (λ e. omega (arith, length_push u.0 u.1 (merge is_nil cmp add (m ∷ r) s), h₃)))
      r s

module _ {A : Type 0} (R : Ring A) where
  open R use {is_nil}

  -- a form's run has as many monomials as the form has coefficients
  pub length-to_run : (n : ℕ) (x : Form A) → length (to_run R n x) ≡ count R x
  length-to_run n (int c) = go (is_nil c)
    where
      go : (b : Bool) → length {A = List ℕ × A} (cond b [] ((zeros n [], c) ∷ [])) ≡ cond b 0 1
      go true = refl
      go false = refl
  length-to_run n (pop i p) = length-map (to_run R (n - i) p) (λ m. (zeros i m.0, m.1)) ∙ length-to_run (n - i) p
  length-to_run n (pow i p q) =
      length-append (rekey (raise_key i) (to_run R n p)) (rekey (zeros 1) (to_run R (n - 1) q))
      ∙ ap₂ ◌+◌ (length-map (to_run R n p) (λ m. (raise_key i m.0, m.1)) ∙ length-to_run n p)
      (length-map (to_run R (n - 1) q) (λ m. (zeros 1 m.0, m.1)) ∙ length-to_run (n - 1) q)

  -- so has a sorted run
  pub length-count : (n : ℕ) (r : Run A) → Sorted R n r → length r ≡ count R (to_form R r)
  length-count n r h = ap length (sym (run-of-form R n r h)) ∙ length-to_run n (to_form R r)

  -- a sorted run within degrees has at most as many as their box
  pub length-box : (n : ℕ) (ds : List ℕ) (r : Run A) → Sorted R n r → Each (λ k. Below k ds) r → length r ≤ box ds
  length-box n ds r h u =
      omega (arith, length-count n r h, count-box R n ds (to_form R r) (normal-to_form R n r h.long) (bounded-to_form R ds r u))
