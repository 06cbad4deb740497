use Rattle.std.proofs.Common.{length}
use Rattle.code_walk.proofs.+carry.Given as goal

abbrev pub decreases-carry : goal.decreases-carry
decreases-carry l = length l.y.now
