-- What stands besides: theorems of this crate that no other proof leans on.
use Rattle.std.specs.Prelude.{Result, Err, List, ◌≡◌, ℕ, ℤ, length}
use Rattle.std.proofs.Common.{sym, ap}
use Rattle.refusal.specs.Refusal.{on_side}
use Rattle.refusal.specs.declared.Fault.{Fault}
use Rattle.refusal.specs.declared.Side.TheVariants.{Left}
use Rattle.reply.specs.definitions.Calls.{form_remainder_of}
use Rattle.form_read.specs.Read.{FormRead}
use Rattle.form_read.specs.declared.FormCode.{FormCode}
use Rattle.form_read.specs.laws.Read.{read-refusal}
use Rattle.door_point.specs.Point.{remaindered_of}
use Rattle.call_form_remainder.specs.laws.Remainder.{answer}

module _ (row : List ℕ) {s l : List ℕ} (N : List ℤ) where
  pub remainder-refused :
      {bad : Fault} {r : Result FormCode Fault} → r ≡ Err bad → FormRead (length row) s r l →
      Err (on_side Left bad) ≡ remaindered_of (form_remainder_of row s N)
  remainder-refused h t = ap (λ x. remaindered_of (answer N x)) (sym (read-refusal h t))
