-- What the syntax pass answers: the reading of a form without what was read.
use Rattle.std.specs.Prelude.{Result, Ok, Err, ℤ}
use Rattle.horner.specs.definitions.Form.{Form as HForm}
use Rattle.refusal.specs.declared.Fault.{Fault}
use Rattle.text.specs.definitions.Bytes.{Reading, read, refused}

abbrev pub form_syntax_of : Reading (HForm ℤ) → Result (Unit {0}) Fault
form_syntax_of (read f) = Ok tt
form_syntax_of (refused bad) = Err bad
