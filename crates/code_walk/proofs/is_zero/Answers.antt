-- `code_walk::is_zero` meets its contract: only the code of 0 begins with 0.
-- Assumes nothing.
use Rattle.std.proofs.Common.{arith}
use Rattle.code.specs.laws.Codes.{some}
use Rattle.code_walk.specs.laws.Shapes.{zero-head}
use Rattle.code_walk.proofs.is_zero.Goals as goal

pub bounds-x-0 : goal.bounds-x-0
bounds-x-0 c =
    omega (arith, some c.requires)

pub returns : goal.returns
returns c =
    zero-head c.args.width c.requires
