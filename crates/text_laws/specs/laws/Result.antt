-- What is written is a form again: a normal form whose measures are within the limits has a short text, which is accepted as that form. So
-- it is of the form of an accepted term, and of what the operations make of forms (horner/laws/Table bounds their measures).
use Rattle.std.specs.Prelude.{List, [], ◌∷◌, ℕ, ◌≤◌, min, ℤ, length}
use Rattle.std.proofs.Common.{arith}
use Rattle.horner.specs.definitions.Form.{Form, Normal}
use Rattle.horner.specs.definitions.Measures.{AllLe, box, degrees}
use Rattle.horner.specs.definitions.Rings.{ℤ_ring}
use Rattle.horner.proofs.laws.Degree.{bounded-mono, bounded-degrees, all-le-below}
use Rattle.horner.specs.laws.Degree.{Bounded}
use Rattle.horner.specs.laws.Table as Table
use Rattle.text.specs.definitions.FormReading.{text}
use Rattle.text_laws.specs.laws.FormAccepted.{Fits}
use Rattle.text_laws.specs.laws.Length.{first-length}

-- what document 01's table keeps within the limits is within them
pub table_fits :
    (n w : ℕ) (ds : List ℕ) (t : ℕ) (f : Form ℤ) → Table.Fits n w ds t f → AllLe 63 ds → w ≤ 1073741823 → min t (box ds) ≤ 256 → Fits n f
table_fits n w ds t f k d h c =
    record {
      degrees-fit = all-le-below 63 (degrees n f) ds k.by-degrees d;
      weight-fits = omega (arith, k.by-weight);
      terms-fit = omega (arith, k.by-terms);
    }

-- in at most 4 variables
module _ (n : ℕ) (f : Form ℤ) (l : n ≤ 4) (h : Normal ℤ_ring n f) (k : Fits n f) where
  bounded : Bounded (degrees n f) f
  bounded = bounded-degrees ℤ_ring n f h

  -- so long is the form with all powers of the first variable, and 256 coefficients: 90 of -10,000,000 and 166 of -1,000,000
  pub text-short : length (text f) ≤ 13529
  text-short = at (degrees n f) bounded k.degrees-fit
    where
      by_first : (d : ℕ) (ds : List ℕ) → Bounded (d ∷ ds) f → AllLe 63 (d ∷ ds) → length (text f) ≤ 13529
      by_first d ds b a = omega (arith, first-length f n d ds l h b a k.weight-fits, a.0, k.weight-fits, k.terms-fit)

      at : (ds : List ℕ) → Bounded ds f → AllLe 63 ds → length (text f) ≤ 13529
      at [] b a = by_first 0 [] (bounded-mono f [] (0 ∷ []) tt b) (omega arith, tt)
      at (d ∷ ds) b a = by_first d ds b a
