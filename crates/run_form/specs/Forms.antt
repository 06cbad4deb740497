-- The words of a form's run, and what the laws ask of a form.
use Rattle.std.specs.Prelude.{List, ◌≡◌, ℕ, ◌≤◌, length}
use Rattle.horner.specs.definitions.Form.{Form, Normal}
use Rattle.horner.specs.definitions.Measures.{AllLe}
use Rattle.horner.specs.definitions.Rings.{Res, prime, p_ring}
use Rattle.horner.specs.laws.Degree.{Bounded}
use Rattle.run.specs.Runs.{to_run}
use Rattle.run_merge.specs.Words.{code_of, flat}

-- in a row of n variables: two words for each coefficient that is not 0
unfoldable pub run_words : ℕ → Form (Res prime) → List ℕ
run_words n x = flat (code_of (to_run p_ring n x))

-- a normal form in n variables, at most four, of degrees up to ds, none of them above 63
pub record Low (n : ℕ) (ds : List ℕ) (x : Form (Res prime)) : Type 0 where
  pub four : n ≤ 4
  pub long : length ds ≡ n
  pub degrees : AllLe 63 ds
  pub normal : Normal p_ring n x
  pub bounded : Bounded ds x
