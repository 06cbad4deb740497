-- `code::join` meets its contract: two shifts in a row.
-- Assumes nothing.
use Rattle.std.proofs.Common.{rules}
use Rattle.code.proofs.Regions.{joined}
use Rattle.code.proofs.join.Goals as goal

pub returns : goal.returns
returns c =
    let shift2 = c.shift-2 in
    joined c.args.out.now c.shift.new.s shift2.new.s c.args.s c.args.b c.requires
    c.shift.ensures c.shift.auto.s
    shift2.ensures (search rules)
