-- Products of forms, on the words of their runs, and the room that they take.
use mathlib.Core.List.{List, [], ◌∷◌}
use Rattle.std.specs.Prelude.{◌⊎◌, ◌≡◌, ℕ, ◌+◌, ◌*◌, ◌≤◌, ◌<◌}
use Rattle.std.proofs.Common.{inl, inr, sym, ◌∙◌, arith, le-leb}
use Rattle.std.proofs.Math.Path.{ap, ap₂, subst}
use Rattle.std.proofs.Math.Nat as NatL
use Rattle.std.proofs.Math.ListN.{length}
use Rattle.std.proofs.lemmas.Bool.{lt-leb}
use Rattle.horner.specs.definitions.Form.{Form, prod}
use Rattle.horner.specs.definitions.Measures.{sums, AllLe, box, count}
use Rattle.horner.specs.definitions.Rings.{Res, prime, p_ring}
use Rattle.horner.proofs.laws.Bounds.{sums-comm}
use Rattle.horner.proofs.laws.Compare.{lt-or-ge}
use Rattle.horner.specs.laws.Degree.{Below}
use Rattle.horner.proofs.laws.Prime.{P-regular}
use Rattle.run.specs.Merging.{Each}
use Rattle.run.specs.Runs.{Run, Long, to_run, times_r, prod_r}
use Rattle.run.proofs.laws.Forms.{form-of-run}
use Rattle.run.proofs.laws.Lengths.{length-to_run}
use Rattle.run.proofs.laws.Operations.{long-times, under-times, sorted-prod_r, form-prod-P, prod-swap-box}
use Rattle.run_merge.specs.Words.{code_of, pairs, flat, produced, summed, Producing}
use Rattle.run_merge.specs.laws.Coding.{pairs-flat}
use Rattle.run_merge.specs.laws.Products.{Products, product-code}
use Rattle.run_merge.specs.laws.Room.{Within, small-below, producing-code}
use Rattle.run_stack.specs.Stack.{multiplied, ProductRoom}
use Rattle.run_form.specs.Forms.{run_words, Low}
use Rattle.run_form.proofs.laws.Sums.{run_of}
use Rattle.run_form.proofs.laws.Under.{sorted, under, small}
use Rattle.run_form.specs.laws.Products.{Few, by-box, by_count}

-- more room serves too
producing-more : (z : List ℕ) (r : List (ℕ × ℕ)) (y : List ℕ) (w v : ℕ) → w ≤ v → Producing z r y w → Producing z r y v
unfolding Producing
producing-more z [] y w v h p = omega (arith, p)
producing-more z (m ∷ r) y w v h p = (p.0, p.1, p.2, omega (arith, p.3), producing-more (summed m.0 m.1 z y) r y w v h p.4)

module _ (n : ℕ) (ds es : List ℕ) (all : AllLe 63 (sums ds es)) where
  -- the products of two monomials have small exponents
  in-box :
      (r s : Run (Res prime)) → Each (Long n) r → Each (Long n) s → Each (λ k. Below k ds) r → Each (λ k. Below k es) s → Products n r s
  in-box [] s lr ls h g = tt
  in-box (m ∷ r) s lr ls h g = (
    small-below n (sums ds es) (times_r p_ring m.0 m.1 s) all (long-times p_ring n m.0 m.1 s lr.0 ls)
        (under-times p_ring n ds es m.0 m.1 s lr.0 ls h.0 g),
    in-box r s lr.1 ls h.1 g,
  )

  -- within the sums of the degrees
  within :
      (r s : Run (Res prime)) → Each (Long n) r → Each (Long n) s → Each (λ k. Below k ds) r → Each (λ k. Below k es) s →
      Within (sums ds es) r s
  within [] s lr ls h g = tt
  within (m ∷ r) s lr ls h g = (under-times p_ring n ds es m.0 m.1 s lr.0 ls h.0 g, within r s lr.1 ls h.1 g)

module _ {n : ℕ} {ds es : List ℕ} {x y : Form (Res prime)} (X : Low n ds x) (Y : Low n es y) (all : AllLe 63 (sums ds es)) where
  abbrev r : Run (Res prime)
  r = to_run p_ring n x

  abbrev s : Run (Res prime)
  s = to_run p_ring n y

  -- the words that `product` writes
  pub product-run : produced [] (pairs (run_words n x)) (run_words n y) ≡ run_words n (prod p_ring x y)
  unfolding run_words
  product-run =
      ap (λ q. produced [] q (flat (code_of s))) (pairs-flat (code_of r))
      ∙ product-code n [] r s tt (sorted X).long (small Y)
      (in-box n ds es all r s (sorted X).long (sorted Y).long (under X) (under Y))
      ∙ run_of n (prod_r p_ring r s) (prod p_ring x y) (sorted-prod_r p_ring n r s (sorted X) (sorted Y))
      (form-prod-P n ds es r s X.long Y.long all (sorted X) (sorted Y) (under X) (under Y)
      ∙ ap₂ (prod p_ring) (form-of-run p_ring n x X.normal) (form-of-run p_ring n y Y.normal))

  -- the factors may change places
  pub swapped-run : produced [] (pairs (run_words n y)) (run_words n x) ≡ run_words n (prod p_ring x y)
  unfolding run_words
  swapped-run =
      ap (λ q. produced [] q (flat (code_of r))) (pairs-flat (code_of s))
      ∙ product-code n [] s r tt (sorted Y).long (small X)
      (in-box n es ds (subst (AllLe 63) (sums-comm ds es) all) s r (sorted Y).long (sorted X).long (under Y) (under X))
      ∙ ap (λ q. flat (code_of q))
      (sym (prod-swap-box p_ring 63 P-regular n ds es r s X.long Y.long all (sorted X) (sorted Y) (under X) (under Y)))
      ∙ run_of n (prod_r p_ring r s) (prod p_ring x y) (sorted-prod_r p_ring n r s (sorted X) (sorted Y))
      (form-prod-P n ds es r s X.long Y.long all (sorted X) (sorted Y) (under X) (under Y)
      ∙ ap₂ (prod p_ring) (form-of-run p_ring n x X.normal) (form-of-run p_ring n y Y.normal))

  -- the shorter one first
  pub multiply-run : multiplied (run_words n x) (run_words n y) ≡ run_words n (prod p_ring x y)
  unfolding multiplied
  multiply-run = by (lt-or-ge (length (run_words n y)) (length (run_words n x)))
    where
      by : (length (run_words n y) < length (run_words n x)) ⊎ (length (run_words n x) ≤ length (run_words n y))
          → multiplied (run_words n x) (run_words n y) ≡ run_words n (prod p_ring x y)
      by (inl h) = rw (lt-leb (length (run_words n x)) (length (run_words n y)) h) swapped-run
      by (inr h) = rw (le-leb (length (run_words n x)) (length (run_words n y)) h) product-run

module _ {n : ℕ} {ds es : List ℕ} {x y : Form (Res prime)} (X : Low n ds x) (Y : Low n es y) (all : AllLe 63 (sums ds es))
    (few : Few ds es x y) where
  -- a table of 1,024 words is enough
  pub product-room : count p_ring y ≤ 256 → (w : ℕ) → 1024 ≤ w → Producing [] (pairs (run_words n x)) (run_words n y) w
  unfolding run_words
  product-room c w h =
      subst (λ q. Producing [] q (run_words n y) w) (sym (pairs-flat (code_of (to_run p_ring n x))))
      (producing-more [] (code_of (to_run p_ring n x)) (run_words n y) (256 + 256 + (length s + length s)) w
      (omega (arith, length-to_run p_ring n y))
      (producing-code n 256 (sums ds es) s X.four all (sorted Y) (small Y) [] (to_run p_ring n x)
      (record { long = tt; falls = tt; solid = tt }) tt (sorted X).long
      (within n ds es all (to_run p_ring n x) s (sorted X).long (sorted Y).long (under X) (under Y)) (side few) (omega arith)))
    where
      s : Run (Res prime)
      s = to_run p_ring n y

      side : Few ds es x y → (box (sums ds es) ≤ 256) ⊎ (0 + length (to_run p_ring n x) * length s ≤ 256)
      side (by-box h) = inl h
      side (by_count h) =
          inr (omega (arith, h, ap₂ ◌*◌ (length-to_run p_ring n x) (length-to_run p_ring n y)))

-- the factors may change places
few-swapped : {ds es : List ℕ} {x y : Form (Res prime)} → Few ds es x y → Few es ds y x
few-swapped {ds} {es} (by-box h) = by-box (subst (λ q. box q ≤ 256) (sums-comm ds es) h)
few-swapped {x = x} {y} (by_count h) = by_count (omega (arith, h, NatL.mul_comm (count p_ring x) (count p_ring y)))

-- it is enough with either first
pub both-room :
    {n : ℕ} {ds es : List ℕ} {x y : Form (Res prime)} → Low n ds x → Low n es y → AllLe 63 (sums ds es) → Few ds es x y →
    count p_ring x ≤ 256 → count p_ring y ≤ 256 → (w : ℕ) → 1024 ≤ w → ProductRoom (run_words n x) (run_words n y) w
both-room {n} {ds} {es} {x} {y} X Y all few cx cy w h = record {
  left-first = λ _. product-room X Y all few cy w h;
  right-first = λ _. product-room Y X (subst (AllLe 63) (sums-comm ds es) all) (few-swapped few) cx w h;
}
