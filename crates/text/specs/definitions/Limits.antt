-- The measures of every subterm, and the first that is over a limit.
use Rattle.std.specs.Prelude.{Bool, true, false, ◌&&◌, List, [], ◌∷◌, ◌++◌, ℕ, leb, length}
use Rattle.dialect.specs.Dialects.{ordinary}
use Rattle.dialect.specs.declared.Dialect.{Dialect}
use Rattle.horner.specs.definitions.Measures.{weight_of, degrees_of, terms_of}
use Rattle.text.specs.definitions.Answer.{Reading, read, onward, fine, told}
use Rattle.text.specs.definitions.Bytes as B
use Rattle.text.specs.definitions.Bytes.{all}
use Rattle.text.specs.definitions.Reading.{read_term}
use Rattle.text.specs.definitions.Tree.{Tree, num, letter, neg, two, power, start_of, end_of, term_of}

-- the subterms in order of finishing: a subterm is finished behind its parts
abbrev pub finishing : Tree → List Tree
finishing (num p w z) = num p w z ∷ []
finishing (letter p b) = letter p b ∷ []
finishing (neg p o c x) = finishing x ++ (neg p o c x ∷ [])
finishing (two p o c g x y) = finishing x ++ (finishing y ++ (two p o c g x y ∷ []))
finishing (power p o c x q n) = finishing x ++ (power p o c x q n ∷ [])

-- the exponent of a power, which no degree need show
abbrev pub exponent_fits : Tree → Bool
exponent_fits (num p w z) = true
exponent_fits (letter p b) = true
exponent_fits (neg p o c x) = true
exponent_fits (two p o c g x y) = true
exponent_fits (power p o c x q n) = leb n 63

-- "exponent n and each degree at most 63"
abbrev pub powers_fit : List ℕ → Tree → Bool
powers_fit row t = exponent_fits t && all (λ d. leb d 63) (degrees_of (length row) (term_of row t))

-- "weight at most 1,073,741,823"
abbrev pub weight_fits : List ℕ → Tree → Bool
weight_fits row t = leb (weight_of (term_of row t)) 1073741823

-- "terms at most 256"
abbrev pub terms_fit : List ℕ → Tree → Bool
terms_fit row t = leb (terms_of (length row) (term_of row t)) 256

-- 0, or the number of the refusal: "at one node .. the lower number wins". Where a limit is passed the later measures are not worked out:
-- a power is taken only with an exponent of at most 63 and, in order of finishing, of parts that are within the limits
abbrev pub over_limit : List ℕ → Tree → ℕ
over_limit row t =
    elim (powers_fit row t) [
      | true ↦ elim (weight_fits row t) [ true ↦ elim (terms_fit row t) [ true ↦ 0 | false ↦ 10 ] | false ↦ 9 ]
      | false ↦ 8
    ]

-- "for 8 to 10 together in terms, the first offending node in order of finishing decides"; its place is where the subterm begins, its end
-- "after the subterm"
abbrev pub first_past : List ℕ → Reading Tree → List Tree → Reading Tree
first_past row r [] = r
first_past row r (t ∷ ts) = fine (over_limit row t) (start_of t) (end_of t) (λ u. first_past row r ts)

-- a term, once it is read
unfoldable pub measured : List ℕ → Tree → Reading Tree
measured row t = first_past row (read t) (finishing t)

-- a term's text, with all its refusals: "then 3; then 4, 5, 6 at the earliest place; .. then 8, 9, 10"
unfoldable pub accept : Dialect → List ℕ → List ℕ → Reading Tree
unfolding read_term measured
accept D row s = onward (read_term D row s) (measured row)

-- document 01's own terms, by number and place
unfoldable pub accept_term : List ℕ → List ℕ → B.Reading Tree
unfolding accept
accept_term row s = told (accept ordinary row s)
