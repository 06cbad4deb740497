-- `desk_form::raise_line` meets its contract.
use Rattle.std.proofs.Common.{List, [], ◌∷◌, ℕ, length}
use borrow.Rule.Slice.PartMut.{same_len_mid}
use Rattle.door_result.specs.Result.{is-written}
use Rattle.form_write.specs.laws.Wrote.{wrote_as}
use Rattle.reply.specs.definitions.Calls.{raise_reply}
use Rattle.desk_reply.specs.laws.Replies.{text-room, text-line}
use Rattle.desk_serve.specs.Laws.{numbered-missing, numbered-wrong}
use Rattle.desk_form.specs.Form.{raise_by}
use Rattle.desk_form.specs.Laws.{within-raise, raise-miscounted, raise-fields}
use Rattle.desk_form.proofs.raise_line.Goals as goal

pub returns : goal.returns
returns c =
    let tables : List ℕ =
    length c.args.a.now ∷ length c.args.b.now ∷ length c.args.c.now ∷ length c.args.d.now ∷ [] in
    wrote_as
    (text-line c.args.out.now c.requires (raise_reply c.field-row.result.now tables c.field-x.result.now _) (within-raise tables c.field-row.result.now c.field-x.result.now _)
    (is-written c.raise-answer.ensures) c.raise-answer.ensures.result c.written.ensures)
    (raise-fields tables c.args.line.now c.count-n.ensures c.if-n-lt4.false
    c.natural.ensures c.field.ensures
    c.in-Some.is c.if-n-ne4.false c.field-row.ensures c.field-x.ensures)

pub returns-then-n-lt4 : goal.returns-then-n-lt4
returns-then-n-lt4 c =
    let tables : List ℕ =
    length c.args.a.now ∷ length c.args.b.now ∷ length c.args.c.now ∷ length c.args.d.now ∷ [] in
    wrote_as c.wrong.ensures
    (numbered-missing 3 c.args.line.now (raise_by tables c.args.line.now) c.count-n.ensures c.if-n-lt4.true)

pub returns-in_default : goal.returns-in_default
returns-in_default c =
    let tables : List ℕ =
    length c.args.a.now ∷ length c.args.b.now ∷ length c.args.c.now ∷ length c.args.d.now ∷ [] in
    wrote_as c.wrong-in_default.ensures
    (numbered-wrong 3 c.args.line.now (raise_by tables c.args.line.now) c.count-n.ensures c.if-n-lt4.false c.natural.ensures c.field.ensures
    c.in_default.is)

pub returns-then-n-ne4 : goal.returns-then-n-ne4
returns-then-n-ne4 c =
    let tables : List ℕ =
    length c.args.a.now ∷ length c.args.b.now ∷ length c.args.c.now ∷ length c.args.d.now ∷ [] in
    wrote_as c.miscounted.ensures
    (raise-miscounted tables c.args.line.now c.count-n.ensures c.if-n-lt4.false c.natural.ensures c.field.ensures
    c.in-Some.is c.if-n-ne4.true)

pub written-requires : goal.written-requires
written-requires c =
    let tables : List ℕ =
    length c.args.a.now ∷ length c.args.b.now ∷ length c.args.c.now ∷ length c.args.d.now ∷ [] in
    text-room c.args.out.now c.requires (raise_reply c.field-row.result.now tables c.field-x.result.now _) (within-raise tables c.field-row.result.now c.field-x.result.now _) (is-written c.raise-answer.ensures)
    (same_len_mid 5 65535 c.args.out.now c.raise-answer.new.res c.raise-answer.auto.res)
