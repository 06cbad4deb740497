-- `text_line::put_spaced` meets its contract: a space and a numeral behind it.
use Rattle.std.proofs.Common.{arith}
use Rattle.form_write.specs.laws.Wrote.{wrote-room}
use Rattle.text_line.specs.laws.Sizes.{numeral-10}
use Rattle.text_line.proofs.put_spaced.Goals as goal

pub write_number-k-requires : goal.write_number-k-requires
write_number-k-requires c =
    omega (arith, wrote-room c.put-at.ensures, c.put-at.ensures.size, numeral-10 c.from.result (omega (arith, c.from.ensures)), c.requires)

pub returns-clause-upper_bound : goal.returns-clause-upper_bound
returns-clause-upper_bound c =
    omega (arith, c.put-at.ensures.size, c.write_number-k.ensures.size, numeral-10 c.from.result (omega (arith, c.from.ensures)))
