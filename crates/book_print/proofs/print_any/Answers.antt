-- `book_print::print_any` meets its contract: a refused book, or one that is fine.
use Rattle.form_write.specs.laws.Wrote.{wrote_as}
use Rattle.book_print.specs.laws.Whole.{refused-text}
use Rattle.book_print.proofs.print_any.Goals as goal

pub returns-in-Err : goal.returns-in-Err
returns-in-Err c =
    wrote_as c.put_refusal.ensures
    (refused-text c.args.book.now c.read_book.ensures c.in-Err.is)
