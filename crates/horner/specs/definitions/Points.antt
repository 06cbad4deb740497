-- Points of whole numbers from zero up, their order, and the first one at which the values of two terms leave different remainders.
use Rattle.std.specs.Prelude.{Bool, true, false, not, List, [], ◌∷◌, ◌++◌, map, ◌⊎◌, ◌≡◌, ℕ, zero, suc, ◌≤◌, ◌<◌, eqb, pos, length}
use Rattle.horner.specs.definitions.Measures.{maxs, degrees}
use Rattle.horner.specs.definitions.Rings.{remainder_by}
use Rattle.horner.specs.definitions.Term.{Term, norm_ℤ, eval_ℤ}

-- no coordinate above the bounds
abbrev pub InBox : List ℕ → List ℕ → Type 0
InBox [] [] = Unit {0}
InBox [] (a ∷ N) = ⊥
InBox (d ∷ ds) [] = ⊥
InBox (d ∷ ds) (a ∷ N) = (a ≤ d) × InBox ds N

-- "Points are ordered by the first variable, then the second, and so on."
abbrev pub Before : List ℕ → List ℕ → Type 0
Before [] N = ⊥
Before (a ∷ M) [] = ⊥
Before (a ∷ M) (b ∷ N) = (a < b) ⊎ ((a ≡ b) × Before M N)

-- the remainder by m that the term's value leaves at the point
abbrev pub leaves : ℕ → Term → List ℕ → ℕ
leaves m t N = remainder_by m (eval_ℤ t (map pos N))

-- in each of n variables the "highest power in the two forms"
abbrev pub highest : ℕ → Term → Term → List ℕ
highest n f g = maxs (degrees n (norm_ℤ f)) (degrees n (norm_ℤ g))

-- Demand 3: "the first, in row order, among all assignments of whole numbers from zero up where the values leave different remainders by"
-- m; "no coordinate exceeds that variable's highest power in the two forms." Over a row of n
pub record IsPoint (m n : ℕ) (f g : Term) (N : List ℕ) : Type 0 where
  pub long : length N ≡ n
  pub differs : leaves m f N ≡ leaves m g N → ⊥
  pub earlier : (M : List ℕ) → length M ≡ n → Before M N → leaves m f M ≡ leaves m g M
  pub inside : InBox (highest n f g) N

-- ---- it is looked for among the points of a box, in row order
-- k numbers from a up, each before every point of the other variables
abbrev pub under : ℕ → ℕ → List (List ℕ) → List (List ℕ)
under zero a Ns = []
under (suc k) a Ns = map (λ N. a ∷ N) Ns ++ under k (suc a) Ns

abbrev pub points : List ℕ → List (List ℕ)
points [] = [] ∷ []
points (d ∷ ds) = under (suc d) 0 (points ds)

abbrev pub first_of : (List ℕ → Bool) → List (List ℕ) → List ℕ
first_of t [] = []
first_of t (N ∷ Ns) = elim (t N) [ true ↦ N | false ↦ first_of t Ns ]

abbrev pub point_of : ℕ → ℕ → Term → Term → List ℕ
point_of m n f g = first_of (λ N. not (eqb (leaves m f N) (leaves m g N))) (points (highest n f g))
