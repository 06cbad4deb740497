-- What is read of a form's text.
use Rattle.std.specs.Prelude.{Result, Ok, Err, List, ◌≡◌, ℕ, ℤ}
use Rattle.refusal.specs.declared.Fault.{Fault}
use Rattle.horner.specs.definitions.Form.{Form as HForm}
use Rattle.code.specs.Coding.{Made}
use Rattle.text.specs.definitions.Bytes.{read, refused}
use Rattle.text.specs.definitions.FormReading.{accept_form}
use Rattle.measure.specs.declared.Measures.{Measures}
use Rattle.form_build.specs.Build.{over_p}
use Rattle.form_build.specs.Measure.{measures_of}
use Rattle.form_read.specs.declared.FormCode.{FormCode}

-- s is accepted as the form f over a row of m; its measures are a, and its code stands in the first n words of l
pub record IsForm (m : ℕ) (s : List ℕ) (a : Measures) (n : ℕ) (l : List ℕ) : Type 0 where
  pub f : HForm ℤ
  pub accepted : accept_form m s ≡ read f
  pub found : a ≡ measures_of m f
  pub made : Made 0 (over_p f) n l

-- what is found of the form s
pub data FormRead (m : ℕ) (s : List ℕ) (r : Result FormCode Fault) (l : List ℕ) : Type 0 where
  refusal : (bad : Fault) → accept_form m s ≡ refused bad → r ≡ Err bad → FormRead m s r l
  form : (a : Measures) (n : ℕ) → IsForm m s a n l → r ≡ Ok (record { measures = a; words = n }) → FormRead m s r l
