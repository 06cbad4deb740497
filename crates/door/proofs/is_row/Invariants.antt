use Rattle.std.proofs.Math.Path.{◌≡◌}
use Rattle.std.specs.Prelude.{drop}
use Rattle.text.specs.definitions.Bytes.{is_row}
use Rattle.door.specs.laws.Rows.{letters}
use Rattle.door.proofs.is_row.Given as goal

abbrev pub invariant-loop-i : goal.invariant-loop-i
invariant-loop-i l = is_row l.row ≡ letters (drop l.i l.row)
