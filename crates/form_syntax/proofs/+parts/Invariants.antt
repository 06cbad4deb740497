use Rattle.std.proofs.Common.{◌+◌, ◌*◌, ◌-◌, length}
use Rattle.form_syntax.proofs.+parts.Given as goal

abbrev pub decreases-form_at : goal.decreases-form_at
decreases-form_at l = 2 * (length l.s.now - l.at)

abbrev pub decreases-last_at : goal.decreases-last_at
decreases-last_at l = 2 * (length l.s.now - l.at) + 1

abbrev pub decreases-pop_at : goal.decreases-pop_at
decreases-pop_at l = 2 * (length l.s.now - l.at)

abbrev pub decreases-pow_at : goal.decreases-pow_at
decreases-pow_at l = 2 * (length l.s.now - l.at)
