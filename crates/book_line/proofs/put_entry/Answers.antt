-- `book_line::put_entry` meets its contract: the number, and the answer behind it.
use Rattle.form_write.specs.laws.Wrote.{wrote_on}
use Rattle.book_line.specs.Lines.{entry_text}
use Rattle.book_line.proofs.put_entry.Goals as goal

pub returns-clause-wrote : goal.returns-clause-wrote
unfolding entry_text
returns-clause-wrote c =
    wrote_on c.put_number-a.ensures.wrote c.put_answer.ensures.wrote
