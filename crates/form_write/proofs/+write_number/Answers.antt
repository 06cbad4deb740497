-- `form_write::write_number` meets its contract: the digits of the tenth, and one byte behind them. The measure is the number.
use Rattle.std.proofs.Common.{sym, arith, ◌%◌, ◌+◌}
use Rattle.text_laws.specs.laws.Numerals.{decimal-short, decimal-long}
use Rattle.form_write.specs.laws.Sizes.{numeral-long, numeral-some}
use Rattle.form_write.specs.laws.Wrote.{wrote_none, wrote_as, wrote-byte, wrote-length}
use Rattle.form_write.proofs.+write_number.Goals as goal

pub bounds-out-0 : goal.bounds-out-0
bounds-out-0 t c =
    omega (arith, numeral-some c.args.n, c.requires)

pub returns-then-n-lt10 : goal.returns-then-n-lt10
returns-then-n-lt10 t c =
    wrote_as (wrote-byte (wrote_none c.args.out.now) (48 + c.args.n) (omega (arith, numeral-some c.args.n, c.requires)))
    (sym (decimal-short c.args.n c.if-n-lt10.true))

pub write_number-k-requires : goal.write_number-k-requires
write_number-k-requires t c =
    (omega (arith, c.decreases, c.if-n-lt10.false), omega (arith, c.requires, numeral-long c.args.n c.if-n-lt10.false))

pub bounds-out-k : goal.bounds-out-k
bounds-out-k t c =
    omega (
      arith,
      c.write_number-k.ensures.size,
      wrote-length c.write_number-k.ensures,
      c.requires,
      numeral-long c.args.n c.if-n-lt10.false,
    )

pub returns : goal.returns
returns t c =
    wrote_as (wrote-byte c.write_number-k.ensures (48 + c.args.n % 10)
    (omega (arith, c.write_number-k.ensures.size, c.requires, numeral-long c.args.n c.if-n-lt10.false)))
    (sym (decimal-long c.args.n c.if-n-lt10.false))
