use Rattle.std.proofs.Common.{◌+◌, ◌*◌, ◌-◌}
use Rattle.term_parse.proofs.Source.+terms.Given as goal

abbrev pub decreases-list_at : goal.decreases-list_at
decreases-list_at l = 4 * (l.self.now.dialect.depth - l.depth) - 1

abbrev pub decreases-operand_of : goal.decreases-operand_of
decreases-operand_of l = 4 * (l.self.now.dialect.depth - l.depth)

abbrev pub decreases-power_at : goal.decreases-power_at
decreases-power_at l = 4 * (l.self.now.dialect.depth - l.depth) - 2

abbrev pub decreases-second_at : goal.decreases-second_at
decreases-second_at l = 4 * (l.self.now.dialect.depth - l.depth) - 3

abbrev pub decreases-term_at : goal.decreases-term_at
decreases-term_at l = 4 * (l.self.now.dialect.depth - l.depth) + 1
