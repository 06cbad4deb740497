use Rattle.std.proofs.Common.{◌*◌, ◌≤◌}
use Rattle.std.specs.Prelude.{take}
use Rattle.form_write.specs.Write.{Wrote}
use Rattle.text_line.specs.Line.{numbers_text}
use Rattle.text_line.proofs.put_numbers.Given as goal

abbrev pub invariant-loop-n : goal.invariant-loop-n
invariant-loop-n l = record {
  short : l.at ≤ 11 * l.n-index;
  wrote : Wrote l.at (numbers_text (take l.n-index l.numbers)) l.initial.out l.out;
}
