-- `desk_form::form_remainder_line` meets its contract.
use Rattle.std.proofs.Common.{refl, List, [], ◌∷◌, ℕ, length}
use Rattle.door_point.specs.Point.{is-remainder}
use Rattle.form_write.specs.laws.Wrote.{wrote_as}
use Rattle.reply.specs.definitions.Calls.{form_remainder_reply}
use Rattle.desk_serve.specs.Laws.{fault-some, fault-no, pointed-not, point-length, remainder-fields}
use Rattle.desk_form.proofs.form_remainder_line.Goals as goal

pub returns-in-Some : goal.returns-in-Some
returns-in-Some c =
    wrote_as c.wrong.ensures
    (let f = fault-some _ c.point_fault.ensures c.in-Some.is in pointed-not c.args.line.now _ f.0 f.1)

pub slice_bounds-form_remainder-end : goal.slice_bounds-form_remainder-end
slice_bounds-form_remainder-end c =
    point-length c.args.line.now c.five-point.ensures c.point_length-e.ensures

pub returns : goal.returns
returns c =
    let tables : List ℕ =
    length c.args.a.now ∷ length c.args.b.now ∷ length c.args.c.now ∷ length c.args.d.now ∷ [] in
    wrote_as c.remaindered.ensures
    (remainder-fields c.args.line.now c.five-point.ensures c.point_length-e.ensures
    (λ u v N. form_remainder_reply u tables v N)
    (fault-no _ c.point_fault.ensures c.in_default.is) refl c.field-row.ensures
    c.field-x.ensures (is-remainder c.form_remainder-answer.ensures))
