-- What y is worked out to be, x is; y falls.
use Rattle.std.proofs.Common.{ℕ}
use Rattle.code_remainder.specs.Folding.{WorkedOut}
use Rattle.code_remainder.proofs.by_p.Given as goal

abbrev pub invariant-loop-y : goal.invariant-loop-y
invariant-loop-y l = (r : ℕ) → WorkedOut l.y r → WorkedOut l.x r

abbrev pub decreases-loop-y : goal.decreases-loop-y
decreases-loop-y l = l.y
