-- `text_line::different` meets its contract: the word, the point, and both remainders, each behind the one before.
use Rattle.form_write.specs.laws.Wrote.{wrote_on}
use Rattle.text_line.proofs.different.Goals as goal

pub returns-clause-wrote : goal.returns-clause-wrote
returns-clause-wrote c =
    wrote_on (wrote_on (wrote_on c.put-a.ensures c.put_numbers-k.ensures.wrote) c.put_spaced-m.ensures.wrote) c.put_spaced-n.ensures.wrote
