-- `book_print::print_fine` meets its contract: the first line, and the entries' lines behind it.
use Rattle.std.proofs.Common.{arith}
use Rattle.form_write.specs.laws.Wrote.{wrote_as, wrote_on, wrote-room}
use Rattle.book_print.specs.laws.Sound.{sound}
use Rattle.book_print.proofs.print_fine.Goals as goal

pub bounds-book-0 : goal.bounds-book-0
bounds-book-0 c =
    omega (arith, (sound c.args.book.now c.requires.book_value).count)

pub bounds-book-q : goal.bounds-book-q
bounds-book-q c =
    omega (arith, (sound c.args.book.now c.requires.book_value).count)

pub print_entries-requires : goal.print_entries-requires
print_entries-requires c =
    let s = sound c.args.book.now c.requires.book_value in
    record {
      row = (s.row, s.left);
      full = c.requires.full;
      k_in_bounds = omega (arith, wrote-room c.put_head-h.ensures.wrote, c.put_head-h.ensures.upper_bound, c.requires.page_in_bounds, s.left.number);
    }

pub returns : goal.returns
returns c =
    wrote_as (wrote_on c.put_head-h.ensures.wrote c.print_entries.ensures.wrote)
    (sound c.args.book.now c.requires.book_value).text
