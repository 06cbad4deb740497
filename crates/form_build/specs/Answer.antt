-- The answer on the text of a form.
use Rattle.std.specs.Prelude.{Result, Ok, Err, List, ◌≡◌, ℕ, eqb, ℤ}
use Rattle.refusal.specs.Refusal.{fault}
use Rattle.refusal.specs.declared.Fault.{Fault}
use Rattle.horner.specs.definitions.Form.{Form}
use Rattle.text.specs.definitions.Bytes.{Reading, read, refused}
use Rattle.text.specs.definitions.FormReading.{read_form}
use Rattle.text_laws.specs.laws.Picks.{pick}
use Rattle.measure.specs.declared.Measures.{Measures}
use Rattle.measure.specs.Measure.{limit_m}
use Rattle.form_build.specs.Measure.{measures_of}

-- s is the text of a form
pub record IsRead (s : List ℕ) : Type 0 where
  pub f : Form ℤ
  pub is : read_form s ≡ read f

-- the refusal's number and place, or the form's measures
abbrev pub judged_of : ℕ → Reading (Form ℤ) → Result Measures Fault
judged_of m (read f) = Ok (measures_of m f)
judged_of m (refused bad) = Err bad

-- by the measures: place "0 for forms"
abbrev pub limited_m : Measures → Result Measures Fault
limited_m a = pick (eqb (limit_m a) 0) (Ok a) (Err (fault (limit_m a) 0))
