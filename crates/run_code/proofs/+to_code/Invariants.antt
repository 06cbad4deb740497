use Rattle.std.proofs.Common.{◌+◌, ◌-◌}
use Rattle.std.proofs.Math.ListN.{get_or}
use Rattle.run_code.proofs.+to_code.Given as goal

abbrev pub decreases-to_code : goal.decreases-to_code
decreases-to_code l = get_or l.x.now 0 0 - l.base + l.n
