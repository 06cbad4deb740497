-- `measure::raise` meets its contract, field by field.
use Rattle.std.proofs.Common.{refl, ap, arith, ◌^◌, min}
use Rattle.std.proofs.Math.Path.{◌∙◌}
use Rattle.measure.specs.Cuts.{times-63}
use Rattle.measure.specs.Made.{made}
use Rattle.measure.proofs.raise.Goals as goal

pub overflow_mul-d0 : goal.overflow_mul-d0
overflow_mul-d0 c =
    omega (arith, times-63 c.requires.1 c.requires.0.small-0)

pub overflow_mul-d1 : goal.overflow_mul-d1
overflow_mul-d1 c =
    omega (arith, times-63 c.requires.1 c.requires.0.small-1)

pub overflow_mul-d2 : goal.overflow_mul-d2
overflow_mul-d2 c =
    omega (arith, times-63 c.requires.1 c.requires.0.small-2)

pub overflow_mul-d3 : goal.overflow_mul-d3
overflow_mul-d3 c =
    omega (arith, times-63 c.requires.1 c.requires.0.small-3)

pub box_of-requires : goal.box_of-requires
box_of-requires c = (
  omega (arith, times-63 c.requires.1 c.requires.0.small-0),
  (
    omega (arith, times-63 c.requires.1 c.requires.0.small-1),
    (omega (arith, times-63 c.requires.1 c.requires.0.small-2), omega (arith, times-63 c.requires.1 c.requires.0.small-3)),
  ),
)

pub returns : goal.returns
returns c =
    made (λ x. min (min (c.args.a.terms ^ c.args.k) 16777216) x) c.cut_power.ensures refl refl refl refl
    c.box_of.ensures
    (c.min.ensures ∙ ap (λ m. min m c.box_of.result) c.cut_power-2.ensures)
