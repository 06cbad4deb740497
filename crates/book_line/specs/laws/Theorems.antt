-- What stands besides: theorems of this crate that no other proof leans on.
use Rattle.std.specs.Prelude.{◌≤◌, length}
use Rattle.std.proofs.Common.{arith}
use Rattle.refusal.specs.declared.Side.{Side}
use Rattle.refusal.specs.declared.Side.TheVariants.{Left, Right, Neither}
use Rattle.book_line.specs.Lines.{refused_start}

pub start-10 : (s : Side) → length (refused_start s) ≤ 10
start-10 Left = omega arith
start-10 Right = omega arith
start-10 Neither = omega arith
