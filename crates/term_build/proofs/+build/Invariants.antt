use Rattle.std.proofs.Common.{length}
use Rattle.term_build.proofs.+build.Given as goal

abbrev pub decreases-build : goal.decreases-build
decreases-build l = length l.w.now
