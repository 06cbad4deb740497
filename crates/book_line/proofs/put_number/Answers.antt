-- `book_line::put_number` meets its contract: the digits, and a byte behind them.
use Rattle.std.proofs.Common.{arith}
use Rattle.form_write.specs.laws.Wrote.{wrote-byte, wrote-length}
use Rattle.text_line.specs.laws.Sizes.{numeral-20}
use Rattle.book_line.proofs.put_number.Goals as goal

pub write_number-k-requires : goal.write_number-k-requires
write_number-k-requires c =
    omega (arith, numeral-20 c.args.n (omega (arith, c.ranges.n)), c.requires)

pub bounds-out-k : goal.bounds-out-k
bounds-out-k c =
    omega (
      arith,
      wrote-length c.write_number-k.ensures,
      c.write_number-k.ensures.size,
      numeral-20
          c.args.n (omega (arith, c.ranges.n)),
      c.requires,
    )

pub returns : goal.returns
returns c =
    let l = numeral-20 c.args.n (omega (arith, c.ranges.n)) in
    record {
      wrote = wrote-byte c.write_number-k.ensures c.args.last
          (omega (arith, c.write_number-k.ensures.size, l, c.requires));
      upper_bound = omega (
        arith,
        c.write_number-k.ensures.size,
        l,
      );
    }
