use Rattle.std.proofs.Math.Path.{◌≡◌}
use Rattle.form_build.specs.Measure.{pop_m}
use Rattle.form_build.proofs.popped.Given as goal

abbrev pub invariant-loop : goal.invariant-loop
invariant-loop l = l.r ≡ pop_m l.counter l.fn.a
