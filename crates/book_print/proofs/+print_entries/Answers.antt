-- `book_print::print_entries` meets its contract, entry by entry: a line, and the others behind it. The measure is how many are left.
use Rattle.std.proofs.Common.{arith}
use Rattle.form_write.specs.laws.Wrote.{wrote_none, wrote_as, wrote_on, wrote-room, wrote-length}
use Rattle.book_print.specs.laws.Walk.{here_of, step, no_lines}
use Rattle.book_print.proofs.+print_entries.Goals as goal

pub returns-then-k-eq0 : goal.returns-then-k-eq0
returns-then-k-eq0 t c =
    record {
      wrote = wrote_as (wrote_none c.args.out.now)
          (no_lines c.args.book.now c.args.n c.args.p c.args.at c.args.i c.if-k-eq0.true);
      upper_bound = omega arith;
    }

pub overflow_add-p : goal.overflow_add-p
overflow_add-p t c =
    omega (arith, c.requires.row.1.fields)

pub number_at-requires : goal.number_at-requires
number_at-requires t c =
    omega (
      arith,
      (here_of c.args.book.now c.args.p c.args.at c.args.i c.args.k c.if-k-eq0.false c.requires.row.1).fields,
    )

pub overflow_add-mid : goal.overflow_add-mid
overflow_add-mid t c =
    omega (arith, c.requires.row.1.start, c.number_at.ensures.upper_bound)

pub overflow_add-p-2 : goal.overflow_add-p-2
overflow_add-p-2 t c =
    omega (arith, c.requires.row.1.fields)

pub number_at-requires-2 : goal.number_at-requires-2
number_at-requires-2 t c =
    omega (
      arith,
      (here_of c.args.book.now c.args.p c.args.at c.args.i c.args.k c.if-k-eq0.false
          c.requires.row.1).fields,
    )

pub overflow_add-end : goal.overflow_add-end
overflow_add-end t c =
    omega (arith, c.requires.row.1.start, c.number_at.ensures.upper_bound, c.number_at-2.ensures.upper_bound)

pub print_entry-h-requires : goal.print_entry-h-requires
print_entry-h-requires t c =
    record {
      row = (
        c.requires.row.0,
        here_of c.args.book.now c.args.p c.args.at c.args.i c.args.k c.if-k-eq0.false c.requires.row.1,
      );
      full = c.requires.full;
      in_bounds = omega (arith, c.if-k-eq0.false, c.requires.k_in_bounds);
    }

pub overflow_add-p-3 : goal.overflow_add-p-3
overflow_add-p-3 t c =
    omega (arith, c.requires.row.1.fields)

pub overflow_add-i : goal.overflow_add-i
overflow_add-i t c =
    omega (arith, c.requires.row.1.number)

pub overflow_sub-k : goal.overflow_sub-k
overflow_sub-k t c =
    omega (arith, c.if-k-eq0.false)

pub slice_bounds-print_entries-count : goal.slice_bounds-print_entries-count
slice_bounds-print_entries-count t c =
    omega (arith, wrote-length c.print_entry-h.ensures.wrote, c.print_entry-h.ensures.wrote.fits)

pub print_entries-requires : goal.print_entries-requires
print_entries-requires t c = (
  omega (arith, c.decreases, c.if-k-eq0.false),
  (
    (
      c.requires.row.0,
      (step c.args.book.now c.args.n c.args.p c.args.at c.args.i c.args.k c.requires.row.0.short
          c.if-k-eq0.false c.requires.row.1 c.number_at.ensures.value c.number_at-2.ensures.value).left,
    ),
    (
      omega (arith, c.print_entry-h.auto, c.requires.full),
      omega (arith, wrote-room c.print_entry-h.ensures.wrote, c.print_entry-h.ensures.upper_bound, c.requires.k_in_bounds, c.if-k-eq0.false),
    ),
  ),
)

pub overflow_add-result : goal.overflow_add-result
overflow_add-result t c =
    omega (
      arith,
      c.print_entry-h.ensures.upper_bound,
      c.print_entries.ensures.upper_bound,
      c.requires.row.1.number,
    )

pub returns : goal.returns
returns t c =
    record {
      wrote = wrote_as (wrote_on c.print_entry-h.ensures.wrote c.print_entries.ensures.wrote) (step c.args.book.now c.args.n
          c.args.p c.args.at c.args.i c.args.k c.requires.row.0.short c.if-k-eq0.false c.requires.row.1
          c.number_at.ensures.value c.number_at-2.ensures.value).lines;
      upper_bound = omega (arith, c.print_entry-h.ensures.upper_bound, c.print_entries.ensures.upper_bound, c.if-k-eq0.false);
    }
