-- Runs in words: two for each monomial, its key and then its coefficient, a remainder by P. A key holds the exponents, 6 bits each, first
-- variable highest, so that the order of the keys as numbers is the order of the run.
use Rattle.std.specs.Prelude.{Bool, List, [], ◌∷◌, ◌++◌, map, ◌≡◌, ℕ, ◌+◌, ◌*◌, ◌^◌, ◌≤◌, ◌<◌, eqb, length, take}
use Rattle.horner.specs.definitions.Rings.{Res, prime}
use Rattle.code.specs.Widths.{add_by, mul_by}
use Rattle.run.specs.Merging.{cmpℕ, push, purge, merge}
use Rattle.run.specs.Runs.{Run}

-- 6 bits for each exponent, the first one highest
abbrev pub key_of : List ℕ → ℕ
key_of [] = 0
key_of (k ∷ ks) = k * 64 ^ length ks + key_of ks

-- the keys and the remainders of a run
abbrev pub code_of : Run (Res prime) → List (ℕ × ℕ)
code_of r = map (λ m. (key_of m.0, m.1.0)) r

-- ---- words, two by two
abbrev pub pairs : List ℕ → List (ℕ × ℕ)
pairs [] = []
pairs (k ∷ []) = []
pairs (k ∷ c ∷ l) = (k, c) ∷ pairs l

-- pairs as words
abbrev pub flat : List (ℕ × ℕ) → List ℕ
flat [] = []
flat (m ∷ r) = m.0 ∷ m.1 ∷ flat r

-- whether a coefficient is 0
abbrev pub is_no : ℕ → Bool
is_no c = eqb c 0

-- the monomial (k, c) times a list of pairs
abbrev pub times_w : ℕ → ℕ → List (ℕ × ℕ) → List (ℕ × ℕ)
times_w k c s = map (λ u. (k + u.0, mul_by prime c u.1)) s

-- the sum of two lists of pairs
abbrev pub merge_w : List (ℕ × ℕ) → List (ℕ × ℕ) → List (ℕ × ℕ)
merge_w r s = merge is_no cmpℕ (add_by prime) r s

-- the words of x plus the monomial (k, c) times y
unfoldable pub summed : ℕ → ℕ → List ℕ → List ℕ → List ℕ
summed k c x y = flat (merge_w (pairs x) (times_w k c (pairs y)))

-- the words of the monomial (k, c) times y
unfoldable pub scaled : ℕ → ℕ → List ℕ → List ℕ
scaled k c y = flat (purge is_no (times_w k c (pairs y)))

-- the words of one monomial: none where c is 0
unfoldable pub pushed : ℕ → ℕ → List ℕ
pushed k c = flat (push is_no k c [])

-- keys that fit a word with k added, and coefficients by P
abbrev pub Fits : ℕ → List (ℕ × ℕ) → Type 0
Fits k [] = Unit {0}
Fits k (m ∷ r) = (k + m.0 < 4294967296) × (m.1 < prime) × Fits k r

-- e begins with the first n words of d and then l; r is how many those are
pub record Wrote (l d : List ℕ) (n r : ℕ) (e : List ℕ) : Type 0 where
  pub size : r ≡ n + length l
  pub is : take r e ≡ take n d ++ l

-- ---- products: z and the products of the monomials of r and y, one after the other
unfoldable pub produced : List ℕ → List (ℕ × ℕ) → List ℕ → List ℕ
produced z [] y = z
produced z (m ∷ r) y = produced (summed m.0 m.1 z y) r y

-- all that is added up on the way fits w words
unfoldable pub Producing : List ℕ → List (ℕ × ℕ) → List ℕ → ℕ → Type 0
Producing z [] y w = length z ≤ w
Producing z (m ∷ r) y w =
    (m.1 < prime) × Fits m.0 (pairs y) × Fits 0 (pairs z) × (length z + length y ≤ w) × Producing (summed m.0 m.1 z y) r y w
