-- `code::put_pow` meets its contract: the head word is stored, and p copied behind it.
-- Assumes nothing.
use Rattle.std.proofs.Common.{◌+◌, ◌*◌, length, arith}
use Rattle.code.proofs.Lists.{begins-set, begins-tail}
use Rattle.code.proofs.Regions.{begins-copy}
use Rattle.code.proofs.put_pow.Goals as goal

pub returns : goal.returns
returns c =
    begins-tail (begins-set c.args.out.now (2147483648 + 64 * length c.args.p.now + c.args.i) (omega (arith, c.requires.room_under)))
    (begins-copy c.args.p.now _ c.copy.new.out c.copy.ensures)
