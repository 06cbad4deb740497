-- What an operation on two forms is given, and what it keeps to.
use Rattle.std.specs.Prelude.{List, ◌≡◌, ℕ, ◌≤◌, ℤ, length}
use Rattle.horner.specs.definitions.Form.{Form as HForm}
use Rattle.horner.specs.definitions.Measures.{degrees}
use Rattle.reply.specs.definitions.Calls.{Measured}
use Rattle.measure.specs.declared.Measures.{Measures}
use Rattle.measure.specs.Measure.{limit_m}
use Rattle.form_build.specs.Measure.{measures_of}
use Rattle.door_forms.specs.Forms.{IsPair}
use Rattle.door_forms.specs.declared.FormPair.{FormPair}
use Rattle.door_forms.specs.laws.Limits.{Meets, Inside}
use Rattle.door_forms.specs.laws.Results.{Within}

-- two accepted forms side by side, whose result is within the limits
pub record Fitting (found : Measures → Measures → Measures) (p : FormPair) (l : List ℕ) : Type 0 where
  pub m : ℕ
  pub s : List ℕ
  pub t : List ℕ
  pub few : m ≤ 4
  pub pair : IsPair m s t p l
  pub fits : limit_m (found p.left.measures p.right.measures) ≡ 0

-- what is found of a result stands for its measures; and a result of forms within the limits is within them where its measures are
pub record OperationLaws (measured : ℕ → HForm ℤ → HForm ℤ → Measured) (found : Measures → Measures → Measures)
    (op : HForm ℤ → HForm ℤ → HForm ℤ) : Type 0 where
  pub meets :
      (m : ℕ) → m ≤ 4 → (x y : HForm ℤ) → length (degrees m x) ≡ m → length (degrees m y) ≡ m →
      Meets (measured m x y) (found (measures_of m x) (measures_of m y))
  pub within :
      (m : ℕ) (x y : HForm ℤ) → Within m (degrees m x) x → Within m (degrees m y) y → Inside (measured m x y) →
      Within m (measured m x y).powers (op x y)
