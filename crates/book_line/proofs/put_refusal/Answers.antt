-- `book_line::put_refusal` meets its contract.
use Rattle.book_line.specs.Lines.{refusal_text}
use Rattle.book_line.proofs.put_refusal.Goals as goal

pub returns : goal.returns
unfolding refusal_text
returns c =
    c.put_two.ensures.wrote
