-- The vector begins empty, and the input is read to its end, or to so many bytes.
use Rattle.printer.proofs.Shown.{first_of}
use Rattle.printer.proofs.read_book.Goals as goal

pub returns : goal.returns
returns g c =
    let read = c.in_ok-read_to_end.ensures.bytes in
    let begun = rw c.new-book.ensures.items at read in
    let bounded = rw c.take.ensures.limit at begun in
    let known = rw c.take.ensures.inner at bounded in
    first_of 65536 (g.R.Read.remaining c.args.input) c.read_to_end.new.buf.items known
