use Rattle.std.proofs.Common.{length}
use Rattle.code_sum.proofs.+add_int.Given as goal

abbrev pub decreases-add_int : goal.decreases-add_int
decreases-add_int l = length l.y.now
