use Rattle.std.proofs.Common.{◌^◌, min}
use Rattle.std.proofs.Math.Path.{◌≡◌}
use Rattle.measure.proofs.cut_power.Given as goal

abbrev pub invariant-loop-i : goal.invariant-loop-i
invariant-loop-i l = l.r ≡ min (l.a ^ l._i) l.limit
