-- `code_cross::scale_pop` meets its contract: `code_walk::scale`, and then `code::make_pop`.
-- Assumes nothing.
use Rattle.std.proofs.Common.{arith}
use Rattle.code.specs.Coding.{dec}
use Rattle.code.specs.laws.Codes.{coded}
use Rattle.code.specs.laws.Good.{scale-good}
use Rattle.code.proofs.Making.{pop-asks, pop-gives}
use Rattle.code_room.proofs.laws.Equations.{scale-pop}
use Rattle.code_cross.proofs.Products.{scale-made}
use Rattle.code_cross.proofs.scale_pop.Goals as goal

pub make_pop-requires-clause-coded : goal.make_pop-requires-clause-coded
make_pop-requires-clause-coded c =
    coded (scale-made c.args.a c.args.out.now (omega (arith, c.requires.room_under)) c.scale-n.ensures c.requires.coded.good)

pub make_pop-requires-clause-good : goal.make_pop-requires-clause-good
make_pop-requires-clause-good c =
    pop-asks c.args.i (scale-made c.args.a c.args.out.now (omega (arith, c.requires.room_under)) c.scale-n.ensures c.requires.coded.good)
    (scale-pop c.args.width c.args.a c.args.i (dec c.args.width c.args.p.now)) (scale-good c.args.a c.requires.good)

pub returns : goal.returns
returns c =
    pop-gives c.args.i (scale-made c.args.a c.args.out.now (omega (arith, c.requires.room_under)) c.scale-n.ensures c.requires.coded.good)
    (scale-pop c.args.width c.args.a c.args.i (dec c.args.width c.args.p.now)) c.make_pop.ensures
