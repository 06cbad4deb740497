-- `measure::add` meets its contract, field by field.
use Rattle.std.proofs.Common.{refl, ◌+◌, min}
use Rattle.measure.specs.Made.{made}
use Rattle.measure.proofs.add.Goals as goal

pub returns : goal.returns
returns c =
    made (min (c.args.a.terms + c.args.b.terms)) refl c.max-d0.ensures c.max-d1.ensures c.max-d2.ensures
    c.max-d3.ensures c.box_of.ensures c.min.ensures
