use Rattle.std.proofs.Common.{true, length, ℕ, ◌-◌, ◌<◌}
use Rattle.std.proofs.Math.Path.{◌≡◌}
use Rattle.code.specs.Coding.{dec}
use Rattle.code_point.specs.Points.{vanishes}
use Rattle.code_point.proofs.least_value.Given as goal

abbrev pub invariant-loop-a : goal.invariant-loop-a
invariant-loop-a l =
    (length l.out ≡ length l.initial.out) × ((length l.spare ≡ length l.initial.spare) × ((b : ℕ) → b < l.a → vanishes (dec 0 l.x) b ≡ true))

abbrev pub decreases-loop-a : goal.decreases-loop-a
decreases-loop-a l = 64 - l.a
