-- `book_read::read_book` meets its contract: the length, the number of variables, the letters, the contents.
use Rattle.std.proofs.Common.{sym, ap}
use Rattle.std.proofs.Math.Path.{◌∙◌}
use Rattle.std.proofs.lemmas.Result.{err_from_is_err_and}
use Rattle.book_read.specs.Heads.{head_of}
use Rattle.book_read.specs.laws.Whole.{book-long, book-cut, book-few, book-many, book-letters, book-contents}
use Rattle.book_read.proofs.read_book.Goals as goal

pub returns-then-book-gt65535 : goal.returns-then-book-gt65535
returns-then-book-gt65535 c =
    sym (book-long c.args.book.now c.if-book-gt65535.true)

pub returns-then-book-lt1 : goal.returns-then-book-lt1
returns-then-book-lt1 c =
    c.wrong.ensures ∙ sym (book-cut c.args.book.now c.if-book-gt65535.false c.if-book-lt1.true)

pub returns-then-n-lt1 : goal.returns-then-n-lt1
returns-then-n-lt1 c =
    c.wrong-then-n-lt1.ensures ∙ sym (book-few c.args.book.now c.if-book-gt65535.false c.if-book-lt1.false c.if-n-lt1.true)

pub returns-then-n-gt4 : goal.returns-then-n-gt4
returns-then-n-gt4 c =
    c.wrong-then-n-gt4.ensures ∙ sym (book-many c.args.book.now c.if-book-gt65535.false c.if-book-lt1.false c.if-n-lt1.false c.if-n-gt4.true)

pub returns-in_err-read_letters : goal.returns-in_err-read_letters
returns-in_err-read_letters c =
    let p = err_from_is_err_and c.from_residual.result c.from_residual.ensures.1 in
    rw (p.1, p.2) (sym (book-letters c.args.book.now c.if-book-gt65535.false c.if-book-lt1.false c.if-n-lt1.false c.if-n-gt4.false
    c.read_letters.ensures c.in_err-read_letters.was))

pub returns : goal.returns
returns c =
    c.read_contents.ensures
    ∙ ap head_of (sym (book-contents c.args.book.now c.if-book-gt65535.false c.if-book-lt1.false c.if-n-lt1.false
    c.if-n-gt4.false c.read_letters.ensures c.in_ok-read_letters.was))
