-- `code::plain_pow` meets its contract: a store before the two forms.
-- Assumes nothing.
use Rattle.code.proofs.Placed.{stored}
use Rattle.code.proofs.plain_pow.Goals as goal

pub returns : goal.returns
returns c =
    stored c.args.out.now c.args.a c.args.b c.args.i c.requires.b_in_bounds.0 c.requires.coded.0 c.requires.coded.1
