-- Words two by two, as `as_chunks` gives them, and the cut that `partition_point` finds among them.
-- Assumes nothing.
use Rattle.std.proofs.Common.{refl, sym, ap, subst, arith, List, [], ◌∷◌, ℕ, zero, suc, ◌+◌, ◌*◌, ◌≤◌, ◌<◌, length, Bool, true, false}
use Rattle.std.proofs.Math.Path.{◌≡◌, ◌∙◌}
use Rattle.std.proofs.Math.ListN.{get_or}
use Rattle.std.proofs.Math.Dec.{leb}
use Rattle.std.proofs.lemmas.Bool.{leb-true, leb-false, le-leb}
use Rattle.std.specs.Prelude.{take}
use Rattle.std.specs.Simd.{first_chunks}
use Rattle.std.specs.List.Sorted.{IsPartitionedBy, IsPartitionPoint}
use Rattle.run.specs.Merging.{over, cmpℕ, Each, Falls}
use Rattle.run.proofs.laws.Orders.{over-lt}
use Rattle.run_merge.specs.Words.{pairs}
use Rattle.run_code.specs.Decoding.{Even, Cut}
use Rattle.run_code.specs.laws.Cutting.{cut_on, cut-here, cut-end}

-- whether the key of two words is from limit on
abbrev pub from-limit : ℕ → List ℕ → Bool
from-limit limit m = leb limit (get_or m 0 0)

twice : (i : ℕ) → 2 * suc i ≡ suc (suc (2 * i))
twice i = omega arith

even-twice : (i : ℕ) → Even (2 * i)
even-twice zero = tt
even-twice (suc i) = subst Even (sym (twice i)) (even-twice i)

length-chunks : (k : ℕ) (x : List ℕ) → length (first_chunks 2 k x) ≡ k
length-chunks zero x = refl
length-chunks (suc k) x = ap suc (length-chunks k _)

chunk-key : (k i : ℕ) (x d : List ℕ) → i < k → 2 * k ≤ length x → get_or (get_or (first_chunks 2 k x) i d) 0 0 ≡ get_or x (2 * i) 0
chunk-key zero i x d a b = absurd (omega arith)
chunk-key (suc k) i [] d a b = absurd (omega arith)
chunk-key (suc k) i (u ∷ []) d a b = absurd (omega arith)
chunk-key (suc k) zero (u ∷ v ∷ l) d a b = refl
chunk-key (suc k) (suc i) (u ∷ v ∷ l) d a b =
    chunk-key k i l d (omega arith) (omega arith) ∙ ap (λ z. get_or (u ∷ v ∷ l) z 0) (sym (twice i))

each-key : (P : ℕ → Type 0) (j : ℕ) (l : List ℕ) → 2 * j + 1 < length l → Each P (pairs l) → P (get_or l (2 * j) 0)
each-key P j [] a h = absurd (omega arith)
each-key P j (u ∷ []) a h = absurd (omega arith)
each-key P zero (u ∷ v ∷ l) a h = h.0
each-key P (suc j) (u ∷ v ∷ l) a h = subst (λ z. P (get_or (u ∷ v ∷ l) z 0)) (sym (twice j)) (each-key P j l (omega arith) h.1)

-- a later key is no greater
falls-key : (i j : ℕ) (x : List ℕ) → i ≤ j → 2 * j + 1 < length x → Falls cmpℕ (pairs x) → get_or x (2 * j) 0 ≤ get_or x (2 * i) 0
falls-key i j [] a b h = absurd (omega arith)
falls-key i j (u ∷ []) a b h = absurd (omega arith)
falls-key zero zero (u ∷ v ∷ l) a b h = omega arith
falls-key zero (suc j) (u ∷ v ∷ l) a b h =
    subst (λ z. get_or (u ∷ v ∷ l) z 0 ≤ u) (sym (twice j))
    (omega (arith, over-lt u (get_or l (2 * j) 0) (each-key (λ k. cmpℕ u k ≡ over) j l (omega arith) h.0)))
falls-key (suc i) zero (u ∷ v ∷ l) a b h = absurd (omega arith)
falls-key (suc i) (suc j) (u ∷ v ∷ l) a b h =
    subst (λ z. get_or (u ∷ v ∷ l) z 0 ≤ get_or (u ∷ v ∷ l) (2 * suc i) 0) (sym (twice j))
    (subst (λ z. get_or l (2 * j) 0 ≤ get_or (u ∷ v ∷ l) z 0) (sym (twice i)) (falls-key i j l (omega arith) (omega arith) h.1))

module _ (limit : ℕ) (x : List ℕ) (f : Falls cmpℕ (pairs x)) where
  pub parted : (k : ℕ) → 2 * k ≤ length x → IsPartitionedBy (from-limit limit) (first_chunks 2 k x)
  parted k b i j d l m h =
      let less : j < k = omega (arith, length-chunks k x) in
      le-leb limit _ (omega (
        arith,
        leb-true limit _ h,
        chunk-key k j x d less b,
        chunk-key k i x d (omega arith) b,
        falls-key i j x l (omega arith) f,
      ))

  before : (i : ℕ) → 2 * i ≤ length x → ((j : ℕ) → j < i → limit ≤ get_or x (2 * j) 0) → Each (λ k. limit ≤ k) (pairs (take (2 * i) x))
  before zero b h = tt
  before (suc i) b h =
      let q : 2 * i + 2 ≡ 2 * suc i = omega arith in
      subst (λ z. Each (λ k. limit ≤ k) (pairs (take z x))) q
      (cut_on limit x (2 * i) (even-twice i) (omega arith) (before i (omega arith) (λ j l. h j (omega arith))) (h i (omega arith)))

  -- the point parts the words as a cut does
  pub cut-found : (k i : ℕ) → 2 * k ≤ length x → length x ≤ 2 * k + 1 → i ≤ k
      → IsPartitionPoint (λ m. from-limit limit m ≡ true) (λ m. from-limit limit m ≡ false) (first_chunks 2 k x) i → Cut limit x (2 * i)
  cut-found k i b e l p = go (leb k i) refl
    where
      passed : Each (λ k. limit ≤ k) (pairs (take (2 * i) x))
      passed = before i (omega arith) (λ j m. omega (
        arith,
        leb-true limit _ (p.0 j [] (omega arith) m),
        chunk-key k j x [] (omega arith) b,
      ))

      go : (t : Bool) → leb k i ≡ t → Cut limit x (2 * i)
      go true q = cut-end limit x (2 * i) (even-twice i) (omega arith) (omega (arith, leb-true k i q)) passed
      go false q =
          let more : i < k = leb-false k i q in
          cut-here limit x (2 * i) (even-twice i) (omega arith) passed
          (omega (
            arith,
            leb-false limit _ (p.1 i [] (omega arith) (omega (arith, length-chunks k x))),
            chunk-key k i x [] more b,
          ))
          f
