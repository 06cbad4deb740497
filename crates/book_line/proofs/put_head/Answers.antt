-- `book_line::put_head` meets its contract.
use Rattle.book_line.specs.Lines.{head_text}
use Rattle.book_line.proofs.put_head.Goals as goal

pub returns-clause-wrote : goal.returns-clause-wrote
unfolding head_text
returns-clause-wrote c =
    c.put_two.ensures.wrote
