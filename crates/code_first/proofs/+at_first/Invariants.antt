use Rattle.std.proofs.Common.{length}
use Rattle.code_first.proofs.+at_first.Given as goal

abbrev pub decreases-at_first : goal.decreases-at_first
decreases-at_first l = length l.x.now
