-- `call_raise::raise` meets its contract: the row and the tables are looked at, the inner call answers, the tables are cleared.
use Rattle.std.proofs.Common.{sym, [], ◌∷◌, length}
use Rattle.door.specs.laws.Door.{ready-small, ready-open}
use Rattle.std.proofs.Math.Path.{◌∙◌}
use Rattle.refusal.proofs.Exits.{exits}
use Rattle.door_result.specs.laws.Whole.{refused-whole, answered-whole}
use Rattle.door.specs.laws.Ending.{zeros_of}
use Rattle.call_raise.specs.laws.Raise.{raise-open, raise-not-open, raise-clears}
use Rattle.call_raise.proofs.raise.Goals as goal

pub returns-in_err-ready : goal.returns-in_err-ready
returns-in_err-ready c =
    let ts = length c.args.a.now ∷ length c.args.b.now ∷ length c.args.c.now ∷ length c.args.d.now ∷ [] in
    let closed = sym c.ready.ensures ∙ c.in_err-ready.was in
    rw (exits c.from_residual.ensures.1)
    (refused-whole _ c.args.res.now c.args.a.now c.args.b.now c.args.c.now c.args.d.now (ready-small c.args.row.now ts closed)
    (raise-not-open c.args.row.now ts c.args.s.now c.args.k (length c.args.res.now) closed))

pub returns : goal.returns
returns c =
    let ts = length c.args.a.now ∷ length c.args.b.now ∷ length c.args.c.now ∷ length c.args.d.now ∷ [] in
    let o = ready-open c.args.row.now ts (sym c.ready.ensures ∙ c.in_ok-ready.was) in
    answered-whole _ _ c.args.res.now c.args.a.now c.args.b.now c.args.c.now c.args.d.now
    (raise-open c.args.row.now ts c.args.s.now c.args.k (length c.args.res.now) o)
    (raise-clears c.args.row.now c.args.s.now c.args.k (length c.args.res.now)) c.raise_of-answer.ensures.value c.raise_of-answer.ensures.res_after
    (zeros_of c.raise_of-answer.auto.a c.raise_of-answer.auto.b c.raise_of-answer.auto.c c.raise_of-answer.auto.d
    (c.clear_tables.ensures.a_after, (c.clear_tables.ensures.b_after, (c.clear_tables.ensures.c_after, c.clear_tables.ensures.d_after))))
