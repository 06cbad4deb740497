use Rattle.std.proofs.Common.{length, ◌+◌}
use Rattle.run_merge.specs.Words.{summed}
use Rattle.run_merge.specs.laws.Steps.{Adding}
use Rattle.run_merge.proofs.add_times.Given as goal

abbrev pub invariant-loop-x : goal.invariant-loop-x
invariant-loop-x l = Adding (summed l.k l.c l.fn.x l.fn.y) l.k l.c l.x l.y 0 0 l.n l.out

abbrev pub decreases-loop-x : goal.decreases-loop-x
decreases-loop-x l = length l.x + length l.y
