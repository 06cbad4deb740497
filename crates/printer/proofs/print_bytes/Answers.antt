-- What print_book promises of its page is what is shown.
use Rattle.printer.specs.Printer.{shown}
use Rattle.book.specs.definitions.Book.{print_reply}
use Rattle.printer.proofs.Shown.{told_is}
use Rattle.printer.proofs.print_bytes.Goals as goal

pub returns : goal.returns
unfolding shown print_reply
returns g c =
    let printed = c.print_book-answer.ensures in
    let same = told_is _ _ _ _ printed.answer printed.result in
    rw same at c.write_answer.ensures
