use Rattle.std.proofs.Common.{◌+◌, ◌-◌}
use Rattle.std.proofs.Math.Path.{◌≡◌}
use Rattle.desk_field.specs.Fields.{coordinates_of}
use Rattle.desk_field.proofs.coordinates_in.Given as goal

abbrev pub invariant-loop-k : goal.invariant-loop-k
invariant-loop-k l = l.k + coordinates_of (l.n - l.k) l.left ≡ coordinates_of l.n l.s
