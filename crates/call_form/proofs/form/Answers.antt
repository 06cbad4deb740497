-- `call_form::form` meets its contract: the row and the tables are looked at, the inner call answers, the tables are cleared.
use Rattle.std.proofs.Common.{sym, [], ◌∷◌, length}
use Rattle.door.specs.laws.Ending.{zeros_of}
use Rattle.refusal.proofs.Exits.{exits}
use Rattle.door_result.specs.laws.Whole.{refused-whole, answered-whole}
use Rattle.std.proofs.Math.Path.{◌∙◌}
use Rattle.door.specs.laws.Door.{ready-open, ready-small}
use Rattle.call_form.specs.laws.Form.{form-open, form-not-open, form-clears}
use Rattle.call_form.proofs.form.Goals as goal

pub returns-in_err-ready : goal.returns-in_err-ready
returns-in_err-ready c =
    let ts = length c.args.a.now ∷ length c.args.b.now ∷ length c.args.c.now ∷ length c.args.d.now ∷ [] in
    let closed = sym c.ready.ensures ∙ c.in_err-ready.was in
    rw (exits c.from_residual.ensures.1)
    (refused-whole _ c.args.res.now c.args.a.now c.args.b.now c.args.c.now c.args.d.now (ready-small c.args.row.now ts closed)
    (form-not-open c.args.row.now ts c.args.s.now (length c.args.res.now) closed))

pub returns : goal.returns
returns c =
    let ts = length c.args.a.now ∷ length c.args.b.now ∷ length c.args.c.now ∷ length c.args.d.now ∷ [] in
    let o = ready-open c.args.row.now ts (sym c.ready.ensures ∙ c.in_ok-ready.was) in
    answered-whole _ _ c.args.res.now c.args.a.now c.args.b.now c.args.c.now c.args.d.now
    (form-open c.args.row.now ts c.args.s.now (length c.args.res.now) o)
    (form-clears c.args.row.now ts c.args.s.now (length c.args.res.now)) c.form_of-answer.ensures.value c.form_of-answer.ensures.res_after
    (zeros_of c.form_of-answer.auto.a c.form_of-answer.auto.b c.form_of-answer.auto.c c.form_of-answer.auto.d
    (c.clear_tables.ensures.a_after, (c.clear_tables.ensures.b_after, (c.clear_tables.ensures.c_after, c.clear_tables.ensures.d_after))))
