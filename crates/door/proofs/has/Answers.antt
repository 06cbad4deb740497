-- `door::has` meets its contract.
use Rattle.std.proofs.Math.Path.{◌∙◌}
use Rattle.door.specs.laws.Rows.{in-any}
use Rattle.door.proofs.has.Goals as goal

pub returns : goal.returns
returns c =
    c.contains.ensures.value ∙ in-any c.args.row.now c.args.b
