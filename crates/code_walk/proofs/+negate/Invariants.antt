use Rattle.std.proofs.Common.{length}
use Rattle.code_walk.proofs.+negate.Given as goal

abbrev pub decreases-negate : goal.decreases-negate
decreases-negate l = length l.x.now
