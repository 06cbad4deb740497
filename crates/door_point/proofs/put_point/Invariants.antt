use Rattle.std.proofs.Common.{◌++◌, drop, take}
use Rattle.std.proofs.Math.Path.{◌≡◌}
use Rattle.door_point.specs.Point.{residues_of}
use Rattle.door_point.proofs.put_point.Given as goal

abbrev pub invariant-loop-i : goal.invariant-loop-i
invariant-loop-i l = l.out ≡ residues_of (take l.i l.point) ++ drop l.i l.initial.out
