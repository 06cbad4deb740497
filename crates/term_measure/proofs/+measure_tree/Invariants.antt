use Rattle.std.proofs.Common.{length}
use Rattle.term_measure.proofs.+measure_tree.Given as goal

abbrev pub decreases-measure_tree : goal.decreases-measure_tree
decreases-measure_tree l = length l.w.now
