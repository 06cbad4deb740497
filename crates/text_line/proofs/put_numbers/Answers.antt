-- `text_line::put_numbers` meets its contract. The invariant: the numbers so far stand in front, at most 11 bytes each.
use Rattle.std.proofs.Common.{arith}
use Rattle.form_write.specs.laws.Wrote.{wrote_as, wrote_on}
use Rattle.text_line.specs.laws.Sizes.{numbers_on}
use Rattle.text_line.proofs.put_numbers.Goals as goal

pub loop-n-preserved : goal.loop-n-preserved
loop-n-preserved c =
    record {
      short = omega (arith, c.put_spaced-at.ensures.upper_bound);
      wrote = wrote_as (wrote_on c.loop-n.invariant.wrote c.put_spaced-at.ensures.wrote)
          (numbers_on c.args.numbers.now c.loop-n.n-index c.loop-n-test.true);
    }
