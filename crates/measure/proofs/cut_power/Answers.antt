-- `measure::cut_power` meets its contract. The invariant: r is the power so far, cut down.
use Rattle.std.proofs.Common.{ap, arith, ◌*◌, min}
use Rattle.std.proofs.Math.Path.{◌∙◌}
use Rattle.std.proofs.Math.Nat.{pow-zero}
use Rattle.measure.specs.Cuts.{cut-next}
use Rattle.measure.proofs.cut_power.Goals as goal

pub loop-i-init : goal.loop-i-init
loop-i-init c =
    omega (arith, pow-zero c.args.a)

pub loop-i-preserved : goal.loop-i-preserved
loop-i-preserved c =
    c.cut_product-r.ensures ∙ ap (λ m. min (c.args.a * m) c.args.limit) c.loop-i.invariant ∙ cut-next c.args.a c.loop-i._i c.args.limit
