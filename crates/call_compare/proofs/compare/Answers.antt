-- `call_compare::compare` meets its contract: the row, the tables and the point buffer are looked at, the inner call answers, the tables
-- are cleared.
use Rattle.std.proofs.Common.{sym, ap, arith, [], ◌∷◌, length}
use Rattle.std.proofs.Math.Path.{◌∙◌}
use Rattle.std.proofs.lemmas.Result.{err_from_is_err_and}
use Rattle.reply.specs.definitions.Reply.{refuses}
use Rattle.door.specs.laws.Door.{ready-open, ready-small}
use Rattle.door.specs.laws.Ending.{zeros_of}
use Rattle.call_compare.specs.laws.Whole.{compare-open, compare-not-open, compare-short, compare-clears, refused-whole, answered-whole}
use Rattle.call_compare.proofs.compare.Goals as goal

pub returns-in_err-ready : goal.returns-in_err-ready
returns-in_err-ready c =
    let ts = length c.args.a.now ∷ length c.args.b.now ∷ length c.args.c.now ∷ length c.args.d.now ∷ [] in
    let closed = sym c.ready.ensures ∙ c.in_err-ready.was in
    let p = err_from_is_err_and c.from_residual.result c.from_residual.ensures.1 in
    rw (p.1, p.2)
    (refused-whole _ c.args.point.now c.args.a.now c.args.b.now c.args.c.now c.args.d.now (ready-small c.args.row.now ts closed)
    (compare-not-open c.args.row.now ts (length c.args.point.now) c.args.s.now c.args.t.now closed))

pub returns-then-point-row : goal.returns-then-point-row
returns-then-point-row c =
    let ts = length c.args.a.now ∷ length c.args.b.now ∷ length c.args.c.now ∷ length c.args.d.now ∷ [] in
    let o = ready-open c.args.row.now ts (sym c.ready.ensures ∙ c.in_ok-ready.was) in
    let e = refused-whole _ c.args.point.now c.args.a.now c.args.b.now c.args.c.now c.args.d.now (omega arith)
    (compare-short c.args.row.now ts (length c.args.point.now) c.args.s.now c.args.t.now o c.if-point-row.true) in
    record { answer = ap refuses c.of_neither.ensures ∙ e.answer; point = e.point; tables = e.tables }

pub returns : goal.returns
returns c =
    let ts = length c.args.a.now ∷ length c.args.b.now ∷ length c.args.c.now ∷ length c.args.d.now ∷ [] in
    let o = ready-open c.args.row.now ts (sym c.ready.ensures ∙ c.in_ok-ready.was) in
    let l = c.compare_of-answer.auto in
    let z = c.clear_tables.ensures in
    answered-whole _ _ c.args.point.now c.args.a.now c.args.b.now c.args.c.now c.args.d.now
    (compare-open c.args.row.now ts (length c.args.point.now) c.args.s.now c.args.t.now o c.if-point-row.false)
    (compare-clears c.args.row.now c.args.s.now c.args.t.now) (c.compare_of-answer.ensures.value, c.compare_of-answer.ensures.point_then)
    (zeros_of l.a l.b l.c l.d (z.a_after, (z.b_after, (z.c_after, z.d_after))))
