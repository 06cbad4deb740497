use Rattle.std.proofs.Common.{length, ◌-◌}
use Rattle.form_build.proofs.+build_at.Given as goal

abbrev pub decreases-build_at : goal.decreases-build_at
decreases-build_at l = length l.s.now - l.at
