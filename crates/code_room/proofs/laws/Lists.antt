-- Laws of the lists of degrees.
use Rattle.std.specs.Prelude.{List, [], ◌∷◌, ◌≡◌, refl, ℕ, zero, suc, ◌-◌, ◌≤◌, length}
use Rattle.std.proofs.Common.{subst, arith}
use Rattle.std.proofs.Math.Nat as NatL
use Rattle.horner.specs.definitions.Measures.{first_or0, sums, box, AllLe}
use Rattle.horner.specs.definitions.Form.{after}
use Rattle.horner.proofs.laws.Bounds.{sums-comm, sums-right}
use Rattle.horner.proofs.laws.Count.{box-pos}
use Rattle.horner.proofs.laws.Degree.{below-refl}
use Rattle.horner.specs.laws.Degree.{Below}
use Rattle.code.specs.Coding.{limits}
use Rattle.code_room.specs.laws.Lists.{cut}

-- ---- two lists of bounds, added up
pub sums-left : (ds es : List ℕ) → Below ds (sums ds es)
sums-left ds es = subst (Below ds) (sums-comm es ds) (sums-right es ds)

pub first-left : (ds es : List ℕ) → first_or0 ds ≤ first_or0 (sums ds es)
first-left ds [] = omega arith
first-left ds (e ∷ es) = omega arith

-- ---- the rest of a list
pub all_after : (K i : ℕ) (ds : List ℕ) → AllLe K ds → AllLe K (after i ds)
all_after K zero ds a = a
all_after K (suc i) [] a = all_after K i [] a
all_after K (suc i) (d ∷ ds) a = all_after K i ds a.1

pub first-le : (K : ℕ) (ds : List ℕ) → AllLe K ds → first_or0 ds ≤ K
first-le K [] a = omega arith
first-le K (d ∷ ds) a = a.0

pub box-below : (ds es : List ℕ) → Below ds es → box ds ≤ box es
box-below [] es b = box-pos es
box-below (d ∷ ds) [] b = absurd b
box-below (d ∷ ds) (e ∷ es) b = NatL.mul-le-mul (one_more d e b.0) (box-below ds es b.1)
  where
    one_more : (d e : ℕ) → d ≤ e → suc d ≤ suc e
    one_more d e l = omega arith

-- bounds of at most 63 are within the limits of as many variables
pub below-limits : (n : ℕ) (ds : List ℕ) → length ds ≡ n → AllLe 63 ds → Below ds (limits n)
below-limits n [] l a = tt
below-limits zero (d ∷ ds) l a = absurd (omega arith)
below-limits (suc n) (d ∷ ds) l a = (a.0, below-limits n ds (omega arith) a.1)

pub length_cut : (i : ℕ) (ds : List ℕ) → length (cut i ds) ≡ length ds
length_cut i [] = refl
length_cut i (d ∷ ds) = refl

pub below-cut : (i : ℕ) (ds es : List ℕ) → Below (sums (cut i ds) es) (sums ds es)
below-cut i [] es = below-refl (sums [] es)
below-cut i (d ∷ ds) [] = (omega arith, below-refl ds)
below-cut i (d ∷ ds) (e ∷ es) = (omega arith, below-refl (sums ds es))

pub first-cut : (i k : ℕ) (ds es : List ℕ) → i ≤ first_or0 ds → first_or0 (sums ds es) ≤ k → first_or0 (sums (cut i ds) es) ≤ k - i
first-cut i k [] [] l h = omega arith
first-cut i k [] (e ∷ es) l h = omega arith
first-cut i k (d ∷ ds) [] l h = omega arith
first-cut i k (d ∷ ds) (e ∷ es) l h = omega arith
