-- `call_form_remainder::form_remainder` meets its contract: the row, the tables and the point are looked at, the inner call answers, the
-- tables are cleared.
use Rattle.std.proofs.Common.{ap, sym, refl, length, [], ◌∷◌}
use Rattle.std.proofs.Math.Path.{◌∙◌}
use Rattle.reply.specs.definitions.Reply.{refuses}
use Rattle.door.specs.laws.Door.{ready-open}
use Rattle.door.specs.laws.Ending.{zeros_of}
use Rattle.refusal.proofs.Exits.{exits}
use Rattle.door_point.specs.laws.Whole.{refused-whole, other_length, answered-whole}
use Rattle.call_form_remainder.specs.laws.Remainder.{remainder-pointed, remainder-clears}
use Rattle.call_form_remainder.proofs.form_remainder.Goals as goal

pub returns-in_err-ready : goal.returns-in_err-ready
returns-in_err-ready c =
    let ts = length c.args.a.now ∷ length c.args.b.now ∷ length c.args.c.now ∷ length c.args.d.now ∷ [] in
    rw (exits c.from_residual.ensures.1)
    (refused-whole c.args.row.now ts c.args.point.now _ _ (remainder-pointed c.args.row.now ts c.args.s.now c.args.point.now) c.args.a.now
    c.args.b.now c.args.c.now c.args.d.now (sym c.ready.ensures ∙ c.in_err-ready.was))

pub returns-then-point-row : goal.returns-then-point-row
returns-then-point-row c =
    let ts = length c.args.a.now ∷ length c.args.b.now ∷ length c.args.c.now ∷ length c.args.d.now ∷ [] in
    let o = ready-open c.args.row.now ts (sym c.ready.ensures ∙ c.in_ok-ready.was) in
    let e = other_length c.args.row.now ts c.args.point.now _ _ (remainder-pointed c.args.row.now ts c.args.s.now c.args.point.now)
    c.args.a.now c.args.b.now c.args.c.now c.args.d.now o c.if-point-row.true (zeros_of refl refl refl refl (c.clear_tables.ensures.a_after, (c.clear_tables.ensures.b_after, (c.clear_tables.ensures.c_after, c.clear_tables.ensures.d_after)))) in
    record { answer = ap refuses c.of_neither.ensures ∙ e.answer; tables = e.tables }

pub returns : goal.returns
returns c =
    let ts = length c.args.a.now ∷ length c.args.b.now ∷ length c.args.c.now ∷ length c.args.d.now ∷ [] in
    let o = ready-open c.args.row.now ts (sym c.ready.ensures ∙ c.in_ok-ready.was) in
    answered-whole c.args.row.now ts c.args.point.now _ _ (remainder-pointed c.args.row.now ts c.args.s.now c.args.point.now) c.args.a.now
    c.args.b.now c.args.c.now c.args.d.now o c.if-point-row.false (remainder-clears c.args.row.now ts c.args.s.now c.args.point.now) c.form_remainder_of-answer.ensures
    (zeros_of c.form_remainder_of-answer.auto.a c.form_remainder_of-answer.auto.b refl refl (c.clear_tables-2.ensures.a_after, (c.clear_tables-2.ensures.b_after, (c.clear_tables-2.ensures.c_after, c.clear_tables-2.ensures.d_after))))
