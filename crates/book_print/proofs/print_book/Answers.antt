-- `book_print::print_book` meets its contract: the tables looked at, the text made, the tables cleared, the text handed over where it
-- fits.
use Rattle.std.proofs.Common.{ap, sym, arith, [], ◌∷◌, length}
use Rattle.std.proofs.Math.Path.{◌∙◌}
use Rattle.reply.specs.definitions.Reply.{refuses}
use Rattle.door.specs.laws.Ending.{zeros_of}
use Rattle.door.specs.laws.Door.{four-full}
use Rattle.book_print.specs.laws.Whole.{reply-2, reply-11, reply-text, whole-2, whole-11, whole-text, front}
use Rattle.book_print.proofs.print_book.Goals as goal

pub returns-then-not-enough : goal.returns-then-not-enough
returns-then-not-enough c =
    let ts = length c.args.a.now ∷ length c.args.b.now ∷ length c.args.c.now ∷ length c.args.d.now ∷ [] in
    let e = whole-2 _ c.args.out.now c.args.a.now c.args.b.now c.args.c.now c.args.d.now (reply-2 ts c.args.book.now (length c.args.out.now)
    (sym c.enough.ensures ∙ c.if-not-enough.true)) in
    record { answer = ap refuses c.of_neither.ensures ∙ e.answer; result = e.result; tables = e.tables }

pub print_any-n-requires : goal.print_any-n-requires
print_any-n-requires c =
    record {
      full = four-full (length c.args.a.now) (length c.args.b.now) (length c.args.c.now) (length c.args.d.now)
          (sym c.enough.ensures ∙ c.if-not-enough.false);
      page_in_bounds = omega arith;
    }

pub returns-then-out-n : goal.returns-then-out-n
returns-then-out-n c =
    let ts = length c.args.a.now ∷ length c.args.b.now ∷ length c.args.c.now ∷ length c.args.d.now ∷ [] in
    let z = zeros_of c.print_any-n.auto.a c.print_any-n.auto.b c.print_any-n.auto.c c.print_any-n.auto.d
    (c.clear_tables.ensures.a_after, (c.clear_tables.ensures.b_after, (c.clear_tables.ensures.c_after, c.clear_tables.ensures.d_after))) in
    let e = whole-11 _ c.args.out.now c.args.a.now c.args.b.now c.args.c.now c.args.d.now z
    (reply-11 ts c.args.book.now (length c.args.out.now) (sym c.enough.ensures ∙ c.if-not-enough.false)
    (omega (arith, c.print_any-n.ensures.size, c.if-out-n.true))) in
    record { answer = ap refuses c.of_neither-then-out-n.ensures ∙ e.answer; result = e.result; tables = e.tables }

pub slice_bounds-put-end : goal.slice_bounds-put-end
slice_bounds-put-end c =
    c.print_any-n.ensures.size ∙ sym (ap length (front c.print_any-n.ensures))

pub put-requires : goal.put-requires
put-requires c =
    omega (arith, ap length (front c.print_any-n.ensures), c.print_any-n.ensures.size, c.if-out-n.false)

pub returns : goal.returns
returns c =
    let ts = length c.args.a.now ∷ length c.args.b.now ∷ length c.args.c.now ∷ length c.args.d.now ∷ [] in
    whole-text _ c.args.out.now c.args.a.now c.args.b.now c.args.c.now c.args.d.now
    (zeros_of c.print_any-n.auto.a c.print_any-n.auto.b c.print_any-n.auto.c c.print_any-n.auto.d
    (c.clear_tables.ensures.a_after, (c.clear_tables.ensures.b_after, (c.clear_tables.ensures.c_after, c.clear_tables.ensures.d_after))))
    (reply-text ts c.args.book.now (length c.args.out.now)
    (sym c.enough.ensures ∙ c.if-not-enough.false)
    (omega (arith, c.print_any-n.ensures.size, c.if-out-n.false)))
    c.print_any-n.ensures.size (front c.print_any-n.ensures) c.put.ensures
