-- Measuring the text of a form, part by part. Numbers that may be large are cut down above their limit, which changes no comparison with
-- it.
use Rattle.std.specs.Prelude.{List, ◌≡◌, ℕ, zero, suc, ◌+◌, min, max, eqb, ℤ, get_or}
use Rattle.horner.specs.definitions.Form.{Form, int, pop, pow}
use Rattle.horner.specs.definitions.Rings.{ℤ_ring}
use Rattle.horner.specs.definitions.Measures.{weight, degrees, count, terms}
use Rattle.text_laws.specs.laws.Picks.{pick}
use Rattle.measure.specs.declared.Measures.{Measures}
use Rattle.form_head.specs.Heads.{Stands, Ends}

-- the measures of a form over a row of m: "weight is the sum of the absolute coefficients, terms the number of coefficients that are not 0
-- (1 for the zero polynomial), degree the highest power"; 0 beyond the row
abbrev pub measures_of : ℕ → Form ℤ → Measures
measures_of m f =
    record {
      weight = weight f;
      terms = terms ℤ_ring f;
      d0 = get_or (degrees m f) 0 0;
      d1 = get_or (degrees m f) 1 0;
      d2 = get_or (degrees m f) 2 0;
      d3 = get_or (degrees m f) 3 0;
    }

-- ---- degrees, counted from a form's own level
-- behind i variables more
abbrev pub behind : ℕ → (ℕ → ℕ) → ℕ → ℕ
behind zero d k = d k
behind (suc i) d zero = 0
behind (suc i) d (suc k) = behind i d k

-- the degree in the k-th variable from the form's level on
abbrev pub degree_at : Form ℤ → ℕ → ℕ
degree_at (int z) k = 0
degree_at (pop i p) k = behind i (degree_at p) k
degree_at (pow i p q) zero = i + degree_at p 0
degree_at (pow i p q) (suc k) = max (degree_at p (suc k)) (degree_at q k)

-- what a pass finds: the weight, the count of coefficients that are not 0, and the degrees, each cut down just above its limit
abbrev pub cut_of : Form ℤ → Measures
cut_of g =
    record {
      weight = min (weight g) 1073741824;
      terms = min (count ℤ_ring g) 257;
      d0 = min (degree_at g 0) 64;
      d1 = min (degree_at g 1) 64;
      d2 = min (degree_at g 2) 64;
      d3 = min (degree_at g 3) 64;
    }

-- ---- a node's from its parts'
abbrev pub leaf_m : ℕ → Measures
leaf_m number = record { weight = number; terms = pick (eqb number 0) 0 1; d0 = 0; d1 = 0; d2 = 0; d3 = 0 }

-- one variable later
abbrev pub later_m : Measures → Measures
later_m a = record { weight = a.weight; terms = a.terms; d0 = 0; d1 = a.d0; d2 = a.d1; d3 = a.d2 }

abbrev pub pop_m : ℕ → Measures → Measures
pop_m zero a = a
pop_m (suc i) a = later_m (pop_m i a)

abbrev pub pow_m : ℕ → Measures → Measures → Measures
pow_m i a b =
    record {
      weight = min (a.weight + b.weight) 1073741824;
      terms = min (a.terms + b.terms) 257;
      d0 = min (i + a.d0) 64;
      d1 = max a.d1 b.d0;
      d2 = max a.d2 b.d1;
      d3 = max a.d3 b.d2;
    }

-- at least one term
abbrev pub at_least_one : Measures → Measures
at_least_one a = record { weight = a.weight; terms = max 1 a.terms; d0 = a.d0; d1 = a.d1; d2 = a.d2; d3 = a.d3 }

-- of whatever form stands at the place
pub record MeasuredAt (s : List ℕ) (at : ℕ) (r : Measures) (next : ℕ) : Type 0 where
  pub ends : Ends s at next
  pub is : (g : Form ℤ) (rest : List ℕ) → Stands s at g rest → r ≡ cut_of g
