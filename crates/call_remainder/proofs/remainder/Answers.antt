-- `call_remainder::remainder` meets its contract: the row, the tables and the point's length are looked at, the inner call answers, the
-- tables are cleared.
use Rattle.std.proofs.Common.{ap, sym, refl, length, [], ◌∷◌}
use Rattle.std.proofs.Math.Path.{◌∙◌}
use Rattle.std.proofs.lemmas.Result.{err_from_is_err_and}
use Rattle.reply.specs.definitions.Reply.{refuses}
use Rattle.door.specs.laws.Door.{ready-open}
use Rattle.door.specs.laws.Ending.{zeros_of}
use Rattle.call_remainder.specs.laws.Remainder.{remainder-pointed, remainder-clears}
use Rattle.door_point.specs.laws.Whole.{refused-whole, other_length, answered-whole}
use Rattle.call_remainder.proofs.remainder.Goals as goal

pub returns-in_err-ready : goal.returns-in_err-ready
returns-in_err-ready c =
    let ts = length c.args.a.now ∷ length c.args.b.now ∷ length c.args.c.now ∷ length c.args.d.now ∷ [] in
    let p = err_from_is_err_and c.from_residual.result c.from_residual.ensures.1 in
    rw (p.1, p.2)
    (refused-whole c.args.row.now ts c.args.point.now _ _ (remainder-pointed c.args.row.now ts c.args.s.now c.args.point.now) c.args.a.now
    c.args.b.now c.args.c.now c.args.d.now (sym c.ready.ensures ∙ c.in_err-ready.was))

pub returns-then-point-row : goal.returns-then-point-row
returns-then-point-row c =
    let ts = length c.args.a.now ∷ length c.args.b.now ∷ length c.args.c.now ∷ length c.args.d.now ∷ [] in
    let o = ready-open c.args.row.now ts (sym c.ready.ensures ∙ c.in_ok-ready.was) in
    let z = c.clear_tables.ensures in
    let e = other_length c.args.row.now ts c.args.point.now _ _ (remainder-pointed c.args.row.now ts c.args.s.now c.args.point.now)
    c.args.a.now c.args.b.now c.args.c.now c.args.d.now o c.if-point-row.true
    (zeros_of refl refl refl refl (z.a_after, (z.b_after, (z.c_after, z.d_after)))) in
    record { answer = ap refuses c.of_neither.ensures ∙ e.answer; tables = e.tables }

pub returns : goal.returns
returns c =
    let ts = length c.args.a.now ∷ length c.args.b.now ∷ length c.args.c.now ∷ length c.args.d.now ∷ [] in
    let o = ready-open c.args.row.now ts (sym c.ready.ensures ∙ c.in_ok-ready.was) in
    let l = c.remainder_of-answer.auto in
    let z = c.clear_tables-2.ensures in
    answered-whole c.args.row.now ts c.args.point.now _ _ (remainder-pointed c.args.row.now ts c.args.s.now c.args.point.now) c.args.a.now
    c.args.b.now c.args.c.now c.args.d.now o c.if-point-row.false (remainder-clears c.args.row.now ts c.args.s.now c.args.point.now)
    c.remainder_of-answer.ensures (zeros_of l.a l.b l.c l.d (z.a_after, (z.b_after, (z.c_after, z.d_after))))
