-- `book_print::print_entry` meets its contract: the two bodies compared, and the line written.
use Rattle.std.proofs.Common.{sym, arith, length-take-le}
use Rattle.form_write.specs.laws.Wrote.{wrote_as}
use Rattle.book_print.specs.laws.Entry.{lent-proper, lent-short, entry-line}
use Rattle.book_print.proofs.print_entry.Goals as goal

pub compare_of-answer-requires : goal.compare_of-answer-requires
compare_of-answer-requires c =
    record {
      row_value = lent-proper c.args.book.now c.args.n c.args.p c.args.at c.requires.row.0;
      full = c.requires.full;
      row_in_bounds = lent-short c.args.book.now c.args.n c.args.p c.args.at c.requires.row.0;
    }

pub slice_bounds-put_entry-end : goal.slice_bounds-put_entry-end
slice_bounds-put_entry-end c =
    sym (length-take-le c.args.n c.compare_of-answer.new.point (omega (arith, c.compare_of-answer.auto, c.requires.row.0.most)))

pub put_entry-requires : goal.put_entry-requires
put_entry-requires c =
    record {
      point_len_bound = omega (
        arith,
        length-take-le c.args.n c.compare_of-answer.new.point (omega (arith, c.compare_of-answer.auto, c.requires.row.0.most)),
        c.requires.row.0.most,
      );
      in_bounds = c.requires.in_bounds;
    }

pub returns : goal.returns
returns c =
    record {
      wrote = wrote_as c.put_entry.ensures.wrote
          (entry-line c.args.book.now c.args.n c.args.p c.args.at c.requires.row.0 c.number_at.result c.number_at-2.result c.args.i _
          c.number_at.ensures.value c.number_at-2.ensures.value c.compare_of-answer.ensures.value c.compare_of-answer.ensures.point_then);
      upper_bound = c.put_entry.ensures.upper_bound;
    }
