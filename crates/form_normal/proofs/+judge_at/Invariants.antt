use Rattle.std.proofs.Common.{length, ◌-◌}
use Rattle.form_normal.proofs.+judge_at.Given as goal

abbrev pub decreases-judge_at : goal.decreases-judge_at
decreases-judge_at l = length l.s.now - l.at
