-- `call_counters::counted` meets its contract, in as much of the tables as a node's word can say.
use Rattle.std.proofs.Common.{arith, length-take-le}
use Rattle.code.proofs.Lists.{length-tail-part}
use Rattle.call_counters.proofs.counted.Goals as goal

pub same_counters-requires-clause-room_under : goal.same_counters-requires-clause-room_under
same_counters-requires-clause-room_under c =
    omega (
      arith,
      length-take-le c.args.k c.args.l.now c.requires.sides.inside,
      length-take-le 16384 c.args.a.now c.requires.wide.first,
      c.requires.wide.forms,
      c.requires.sides.inside,
    )

pub same_counters-requires-clause-room_under_2 : goal.same_counters-requires-clause-room_under_2
same_counters-requires-clause-room_under_2 c =
    omega (
      arith,
      length-take-le c.args.k c.args.l.now c.requires.sides.inside,
      length-tail-part c.args.k c.args.l.now,
      length-take-le 16384 c.args.b.now c.requires.wide.second,
      c.requires.wide.forms,
      c.requires.sides.inside,
    )
