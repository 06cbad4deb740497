-- `book_line::put_two` meets its contract: words and two numbers, each behind the one before.
use Rattle.form_write.specs.laws.Wrote.{wrote_on}
use Rattle.book_line.proofs.put_two.Goals as goal

pub returns-clause-wrote : goal.returns-clause-wrote
returns-clause-wrote c =
    wrote_on (wrote_on c.put-a.ensures c.put_number.ensures.wrote) c.put_number-2.ensures.wrote
