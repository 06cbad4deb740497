-- What stands besides: theorems of this crate that no other proof leans on.
use Rattle.std.specs.Prelude.{Result, Err, List, ◌≡◌, ℕ, ℤ}
use Rattle.std.proofs.Common.{sym, ap}
use Rattle.refusal.specs.Refusal.{on_side}
use Rattle.refusal.specs.declared.Fault.{Fault}
use Rattle.refusal.specs.declared.Side.TheVariants.{Left}
use Rattle.reply.specs.definitions.Calls.{remainder_of}
use Rattle.term_read.specs.Read.{TermRead}
use Rattle.term_read.specs.laws.Reading.{read-refusal}
use Rattle.door_point.specs.Point.{remaindered_of}
use Rattle.call_remainder.specs.laws.Remainder.{answer}

module _ {row s l : List ℕ} (N : List ℤ) where
  -- the text is refused
  pub remainder-refused :
      {bad : Fault} {r : Result ℕ Fault} → r ≡ Err bad → TermRead row s r l →
      Err (on_side Left bad) ≡ remaindered_of (remainder_of row s N)
  remainder-refused h t = ap (λ x. remaindered_of (answer row N x)) (sym (read-refusal h t))
