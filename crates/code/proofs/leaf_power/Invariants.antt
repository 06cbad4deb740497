-- r is the k-th power, a leaf.
use Rattle.std.proofs.Common.{◌≡◌, ◌<◌}
use Rattle.code.specs.Widths.{pow_by, modulus}
use Rattle.code.proofs.leaf_power.Given as goal

abbrev pub invariant-loop-k : goal.invariant-loop-k
invariant-loop-k l = (l.r ≡ pow_by (modulus l.width) l.a l.k) × (l.r < modulus l.width)
