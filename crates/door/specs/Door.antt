-- The test of what was lent.
use Rattle.std.specs.Prelude.{Result, Ok, Err, cond, List, ℕ}
use Rattle.refusal.specs.Refusal.{of_neither}
use Rattle.refusal.specs.declared.Refusal.{Refusal}
use Rattle.text.specs.definitions.Bytes.{is_row}
use Rattle.reply.specs.definitions.Reply.{enough}

abbrev pub ready_of : List ℕ → List ℕ → Result (Unit {0}) Refusal
ready_of row lengths = cond (is_row row) (cond (enough lengths) (Ok tt) (Err (of_neither 2))) (Err (of_neither 1))
