-- `call_negate::negate` meets its contract: the row and the tables are looked at, the inner call answers, the tables are cleared.
use Rattle.std.proofs.Common.{refl, length, sym, [], ◌∷◌}
use Rattle.door.specs.laws.Door.{ready-small, ready-open}
use Rattle.std.proofs.Math.Path.{◌∙◌}
use Rattle.refusal.proofs.Exits.{exits}
use Rattle.door_result.specs.laws.Whole.{refused-whole, answered-whole}
use Rattle.door.specs.laws.Ending.{zeros_of}
use Rattle.call_negate.specs.laws.Negate.{negate-open, negate-not-open, negate-clears}
use Rattle.call_negate.proofs.negate.Goals as goal

pub returns-in_err-ready : goal.returns-in_err-ready
returns-in_err-ready c =
    let ts = length c.args.a.now ∷ length c.args.b.now ∷ length c.args.c.now ∷ length c.args.d.now ∷ [] in
    let closed = sym c.ready.ensures ∙ c.in_err-ready.was in
    rw (exits c.from_residual.ensures.1)
    (refused-whole _ c.args.res.now c.args.a.now c.args.b.now c.args.c.now c.args.d.now (ready-small c.args.row.now ts closed)
    (negate-not-open c.args.row.now ts c.args.s.now (length c.args.res.now) closed))

pub returns : goal.returns
returns c =
    let ts = length c.args.a.now ∷ length c.args.b.now ∷ length c.args.c.now ∷ length c.args.d.now ∷ [] in
    let o = ready-open c.args.row.now ts (sym c.ready.ensures ∙ c.in_ok-ready.was) in
    answered-whole _ _ c.args.res.now c.args.a.now c.args.b.now c.args.c.now c.args.d.now
    (negate-open c.args.row.now ts c.args.s.now (length c.args.res.now) o)
    (negate-clears c.args.row.now ts c.args.s.now (length c.args.res.now)) c.negate_of-answer.ensures.value c.negate_of-answer.ensures.res_after
    (zeros_of c.negate_of-answer.auto.a c.negate_of-answer.auto.b refl refl (c.clear_tables.ensures.a_after, (c.clear_tables.ensures.b_after, (c.clear_tables.ensures.c_after, c.clear_tables.ensures.d_after))))
