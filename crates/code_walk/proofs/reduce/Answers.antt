-- `code_walk::reduce` meets its contract: it carries the form from the remainders by P, times 1.
-- Assumes nothing.
use Rattle.std.proofs.Common.{ap}
use Rattle.code.specs.Coding.{enc, dec}
use Rattle.code.specs.laws.Widths.{modulus-big}
use Rattle.code.proofs.Lists.{begins-as}
use Rattle.code_walk.specs.laws.Carrying.{carry-reduce}
use Rattle.code_walk.proofs.reduce.Goals as goal

pub carry-requires : goal.carry-requires
carry-requires c =
    record {
      a_bound = modulus-big c.args.width;
      coded = c.requires.coded;
      room_under = c.requires.room_under;
    }

pub returns : goal.returns
returns c =
    begins-as c.carry.ensures (ap (enc c.args.width) (carry-reduce c.args.width (dec 0 c.args.x.now)))
