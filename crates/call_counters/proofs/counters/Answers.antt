-- `call_counters::counters` meets its contract: the row and the tables are looked at, the inner call answers, the tables are cleared.
use Rattle.std.proofs.Common.{sym, length, [], ◌∷◌}
use Rattle.std.proofs.Math.Path.{◌∙◌}
use Rattle.std.proofs.lemmas.Result.{err_from_is_err_and}
use Rattle.door.specs.laws.Door.{ready-open, ready-small}
use Rattle.door.specs.laws.Ending.{zeros_of}
use Rattle.call_counters.specs.laws.Whole.{counters-inner, counters-not-open, inner-clears, refused-whole, answered-whole}
use Rattle.call_counters.proofs.counters.Goals as goal

pub returns-in_err-ready : goal.returns-in_err-ready
returns-in_err-ready c =
    let ts = length c.args.a.now ∷ length c.args.b.now ∷ length c.args.c.now ∷ length c.args.d.now ∷ [] in
    let closed = sym c.ready.ensures ∙ c.in_err-ready.was in
    let p = err_from_is_err_and c.from_residual.result c.from_residual.ensures.1 in
    rw (p.1, p.2)
    (refused-whole _ c.args.a.now c.args.b.now c.args.c.now c.args.d.now (ready-small c.args.row.now ts closed)
    (counters-not-open c.args.row.now ts c.args.width c.args.s.now c.args.t.now closed))

pub returns : goal.returns
returns c =
    let ts = length c.args.a.now ∷ length c.args.b.now ∷ length c.args.c.now ∷ length c.args.d.now ∷ [] in
    let o = ready-open c.args.row.now ts (sym c.ready.ensures ∙ c.in_ok-ready.was) in
    let l = c.counters_of-answer.auto in
    let z = c.clear_tables.ensures in
    answered-whole _ _ c.args.a.now c.args.b.now c.args.c.now c.args.d.now
    (counters-inner c.args.row.now ts c.args.width c.args.s.now c.args.t.now o)
    (inner-clears c.args.row.now ts c.args.width c.args.s.now c.args.t.now) c.counters_of-answer.ensures
    (zeros_of l.a l.b l.c l.d (z.a_after, (z.b_after, (z.c_after, z.d_after))))
