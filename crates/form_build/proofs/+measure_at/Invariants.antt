use Rattle.std.proofs.Common.{◌-◌, length}
use Rattle.form_build.proofs.+measure_at.Given as goal

abbrev pub decreases-measure_at : goal.decreases-measure_at
decreases-measure_at l = length l.s.now - l.at
