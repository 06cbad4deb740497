-- The room that sums and products take: where the box of its degrees, or the monomials of the one times those of the other, are at most
-- b, all sums on the way to a product have at most b monomials.
use mathlib.Core.List.{List, [], ◌∷◌}
use Rattle.std.specs.Prelude.{◌⊎◌, ◌≡◌, refl, ℕ, suc, ◌+◌, ◌*◌, ◌^◌, ◌≤◌}
use Rattle.std.proofs.Common.{inl, inr, sym, ◌∙◌, arith}
use Rattle.std.proofs.Math.Path.{subst}
use Rattle.std.proofs.Math.Nat as NatL
use Rattle.std.proofs.Math.ListN.{length}
use Rattle.std.proofs.lemmas.List.{length-map}
use Rattle.horner.specs.definitions.Measures.{sums, AllLe, box}
use Rattle.horner.specs.definitions.Rings.{Res, prime, p_ring, below, prime-pos}
use Rattle.code.specs.Widths.{add_by, mul_by}
use Rattle.horner.proofs.laws.Degree.{all-le-below}
use Rattle.horner.specs.laws.Degree.{Below}
use Rattle.run.specs.Merging.{cmpℕ, cmp_l, Each}
use Rattle.run.specs.Runs.{Run, Long, Sorted, sum_r, times_r}
use Rattle.run.proofs.laws.Lengths.{length-merge, length-box}
use Rattle.run.proofs.laws.Merging.{each-merge}
use Rattle.run.proofs.laws.Operations.{sorted-sum_r, long-times, falls-times}
use Rattle.run_merge.specs.Words.{key_of, code_of, pairs, flat, is_no, times_w, merge_w, summed, Fits, Producing}
use Rattle.run_merge.specs.laws.Coding.{Small, key_below, key-sums, pairs-flat, summed-code, fits-code}

length-flat : (l : List (ℕ × ℕ)) → length (flat l) ≡ length l + length l
length-flat [] = refl
length-flat (m ∷ l) = omega (arith, length-flat l)

length_pairs : (l : List ℕ) → length (pairs l) + length (pairs l) ≤ length l
length_pairs [] = omega arith
length_pairs (k ∷ []) = omega arith
length_pairs (k ∷ c ∷ l) = omega (arith, length_pairs l)

-- a sum has at most as many words as both
pub length-summed : (k c : ℕ) (x y : List ℕ) → length (summed k c x y) ≤ length x + length y
unfolding summed
length-summed k c x y =
    let e : length (times_w k c (pairs y)) ≡ length (pairs y) = length-map (pairs y) (λ u. (k + u.0, mul_by prime c u.1)) in
    omega (
      arith,
      length-flat (merge_w (pairs x) (times_w k c (pairs y))),
      length-merge is_no cmpℕ (add_by prime) (pairs x) (times_w k c (pairs y)),
      length_pairs x,
      length_pairs y,
    )

-- two words a monomial
pub words-code : (r : Run (Res prime)) → length (flat (code_of r)) ≡ length r + length r
words-code r =
    let e : length (code_of r) ≡ length r = length-map r (λ m. (key_of m.0, m.1.0)) in
    omega (arith, length-flat (code_of r))

-- a run within degrees of at most 63 has small keys
pub small-below : (n : ℕ) (fs : List ℕ) (r : Run (Res prime)) → AllLe 63 fs → Each (Long n) r → Each (λ k. Below k fs) r → Each (Small n) r
small-below n fs [] a l b = tt
small-below n fs (m ∷ r) a l b = (record { long = l.0; each = all-le-below 63 m.0 fs b.0 a }, small-below n fs r a l.1 b.1)

fits-times : (n : ℕ) (ks : List ℕ) (c : Res prime) (s : Run (Res prime)) → n ≤ 4 → Long n ks → Each (Long n) s
    → Each (Small n) (times_r p_ring ks c s) → Fits (key_of ks) (code_of s)
fits-times n ks c [] l lk ls h = tt
fits-times n ks c (u ∷ s) l lk ls h = (
  omega (arith, key-sums ks u.0 (lk ∙ sym ls.0), key_below (sums ks u.0) h.0.each, wide),
  below prime prime-pos u.1,
  fits-times n ks c s l lk ls.1 h.1,
)
  where
    wide : 64 ^ length (sums ks u.0) ≤ 16777216
    wide =
        let g : length (sums ks u.0) ≤ 4 = omega (arith, h.0.long) in
        NatL.pow-le-pow_right {n = 64} (omega arith) {i = length (sums ks u.0)} {j = 4} g

-- the monomials of each product of a monomial of r with s stay below fs
abbrev pub Within : List ℕ → Run (Res prime) → Run (Res prime) → Type 0
Within fs [] s = Unit {0}
Within fs (m ∷ r) s = Each (λ k. Below k fs) (times_r p_ring m.0 m.1 s) × Within fs r s

module _ (n b : ℕ) (fs : List ℕ) (s : Run (Res prime)) (four : n ≤ 4) (bounds : AllLe 63 fs) (hs : Sorted p_ring n s)
    (small : Each (Small n) s) where
  -- what `product` asks holds of the words of sorted runs
  pub producing-code : (z r : Run (Res prime)) → Sorted p_ring n z → Each (λ k. Below k fs) z → Each (Long n) r → Within fs r s
      → (box fs ≤ b) ⊎ (length z + length r * length s ≤ b) → length z ≤ b
      → Producing (flat (code_of z)) (code_of r) (flat (code_of s)) (b + b + (length s + length s))
  unfolding Producing
  producing-code z [] hz uz lr w g l = omega (arith, words-code z)
  producing-code z (m ∷ r) hz uz lr w g l = (
    below prime prime-pos m.1,
    subst (Fits (key_of m.0)) (sym (pairs-flat (code_of s))) (fits-times n m.0 m.1 s four lr.0 hs.long st),
    fits-code n z four sz,
    omega (arith, words-code z, words-code s),
    subst (λ q. Producing q (code_of r) (flat (code_of s)) (b + b + (length s + length s)))
        (sym (summed-code n z m.0 m.1 s sz lr.0 small st))
        (producing-code z' r hz' uz' lr.1 w.1 (further g) (shorter g)),
  )
    where
      t : Run (Res prime)
      t = times_r p_ring m.0 m.1 s

      z' : Run (Res prime)
      z' = sum_r p_ring z t

      st : Each (Small n) t
      st = small-below n fs t bounds (long-times p_ring n m.0 m.1 s lr.0 hs.long) w.0

      sz : Each (Small n) z
      sz = small-below n fs z bounds hz.long uz

      hz' : Sorted p_ring n z'
      hz' =
          sorted-sum_r p_ring n z t hz.long (long-times p_ring n m.0 m.1 s lr.0 hs.long) hz.falls
          (falls-times p_ring n m.0 m.1 s lr.0 hs.long hs.falls)

      uz' : Each (λ k. Below k fs) z'
      uz' = each-merge p_ring.is_nil cmp_l p_ring.◌⊞◌ (λ k. Below k fs) z t uz w.0

      sum : length z' ≤ length z + length s
      sum =
          let e : length t ≡ length s = length-map s (λ u. (sums m.0 u.0, p_ring.◌·◌ m.1 u.1)) in
          omega (arith, length-merge p_ring.is_nil cmp_l p_ring.◌⊞◌ z t)

      more : suc (length r) * length s ≡ length r * length s + length s
      more = NatL.suc-mul (length r) (length s)

      further : (box fs ≤ b) ⊎ (length z + suc (length r) * length s ≤ b) → (box fs ≤ b) ⊎ (length z' + length r * length s ≤ b)
      further (inl g) = inl g
      further (inr g) = inr (omega (arith, sum, more))

      shorter : (box fs ≤ b) ⊎ (length z + suc (length r) * length s ≤ b) → length z' ≤ b
      shorter (inl g) = omega (arith, length-box p_ring n fs z' hz' uz')
      shorter (inr g) = omega (arith, sum, more)
