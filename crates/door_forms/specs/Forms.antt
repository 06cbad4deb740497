-- What is read of two forms' texts, the left one first.
use Rattle.std.specs.Prelude.{Result, Ok, Err, List, ◌≡◌, ℕ, ℤ, drop}
use Rattle.horner.specs.definitions.Form.{Form as HForm}
use Rattle.text.specs.definitions.Bytes.{read, refused}
use Rattle.text.specs.definitions.FormReading.{accept_form}
use Rattle.refusal.specs.Refusal.{on_side}
use Rattle.refusal.specs.declared.Fault.{Fault}
use Rattle.refusal.specs.declared.Refusal.{Refusal}
use Rattle.refusal.specs.declared.Side.TheVariants.{Left, Right}
use Rattle.form_read.specs.Read.{IsForm}
use Rattle.door_forms.specs.declared.FormPair.{FormPair}

-- both are accepted: the left form stands in the first words of l, the right one in the words behind it
pub record IsPair (m : ℕ) (s t : List ℕ) (p : FormPair) (l : List ℕ) : Type 0 where
  pub of_left : IsForm m s p.left.measures p.left.words l
  pub of_right : IsForm m t p.right.measures p.right.words (drop p.left.words l)

-- "A refusal of the left text ends the call before the right one is read"
pub data PairRead (m : ℕ) (s t : List ℕ) (r : Result FormPair Refusal) (l : List ℕ) : Type 0 where
  left-refusal : (bad : Fault) → accept_form m s ≡ refused bad → r ≡ Err (on_side Left bad) → PairRead m s t r l
  right-refusal :
      (f : HForm ℤ) (bad : Fault) → accept_form m s ≡ read f → accept_form m t ≡ refused bad → r ≡ Err (on_side Right bad) →
      PairRead m s t r l
  forms : (p : FormPair) → IsPair m s t p l → r ≡ Ok p → PairRead m s t r l
