use Rattle.std.proofs.Common.{length, ◌++◌}
use Rattle.std.specs.Prelude.{take}
use Rattle.run_merge.specs.Words.{scaled}
use Rattle.run_merge.specs.laws.Steps.{Resting}
use Rattle.run_merge.proofs.rest.Given as goal

abbrev pub invariant-loop-y : goal.invariant-loop-y
invariant-loop-y l = Resting (take l.fn.n l.fn.out ++ scaled l.k l.c l.fn.y) l.k l.c l.y 0 l.n l.out

abbrev pub decreases-loop-y : goal.decreases-loop-y
decreases-loop-y l = length l.y
