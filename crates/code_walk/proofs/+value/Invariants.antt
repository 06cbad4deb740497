use Rattle.std.proofs.Common.{length}
use Rattle.code_walk.proofs.+value.Given as goal

abbrev pub decreases-value : goal.decreases-value
decreases-value l = length l.x.now
