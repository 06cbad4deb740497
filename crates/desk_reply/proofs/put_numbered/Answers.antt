-- `desk_reply::put_numbered` meets its contract: words, and a numeral behind them.
use Rattle.std.proofs.Common.{arith}
use Rattle.form_write.specs.laws.Wrote.{wrote_on, wrote-room}
use Rattle.text_line.specs.laws.Sizes.{numeral-20}
use Rattle.desk_reply.proofs.put_numbered.Goals as goal

pub write_number-requires : goal.write_number-requires
write_number-requires c =
    omega (arith, wrote-room c.put-at.ensures, c.put-at.ensures.size, numeral-20 c.args.n (omega (arith, c.ranges.n)), c.requires)

pub returns : goal.returns
returns c =
    record {
      wrote = wrote_on c.put-at.ensures c.write_number.ensures;
      upper_bound = omega (arith, c.put-at.ensures.size, c.write_number.ensures.size, numeral-20 c.args.n (omega (arith, c.ranges.n)));
    }
