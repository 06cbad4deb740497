-- `code_walk::scale` meets its contract: it carries the form to its own ring, times the leaf.
-- Assumes nothing.
use Rattle.std.proofs.Common.{ap}
use Rattle.code.specs.Coding.{enc, dec}
use Rattle.code.proofs.Lists.{begins-as}
use Rattle.code_walk.specs.laws.Carrying.{carry-scale}
use Rattle.code_walk.proofs.scale.Goals as goal

pub returns : goal.returns
returns c =
    begins-as c.carry.ensures
    (ap (enc c.args.width) (carry-scale c.args.width c.args.a (dec c.args.width c.args.y.now)))
