-- `desk_form::negate_line` meets its contract.
use Rattle.std.proofs.Common.{List, [], ◌∷◌, ℕ, length}
use borrow.Rule.Slice.PartMut.{same_len_mid}
use Rattle.door_result.specs.Result.{is-written}
use Rattle.form_write.specs.laws.Wrote.{wrote_as}
use Rattle.reply.specs.definitions.Calls.{negate_reply}
use Rattle.desk_reply.specs.laws.Replies.{text-room}
use Rattle.desk_serve.specs.Laws.{counted-not}
use Rattle.desk_serve.specs.Texts.{one-text}
use Rattle.desk_form.specs.Laws.{within-negate}
use Rattle.desk_form.proofs.negate_line.Goals as goal

pub returns : goal.returns
returns c =
    let tables : List ℕ =
    length c.args.a.now ∷ length c.args.b.now ∷ length c.args.c.now ∷ length c.args.d.now ∷ [] in
    one-text c.args.line.now c.requires c.count-n.ensures c.field-row.ensures c.field-x.ensures
    (λ u v. negate_reply u tables v) (within-negate tables) c.if-n-ne3.false
    (is-written c.negate-answer.ensures) c.negate-answer.ensures.result c.written.ensures

pub returns-then-n-ne3 : goal.returns-then-n-ne3
returns-then-n-ne3 c =
    wrote_as c.miscounted.ensures
    (counted-not 3 c.args.line.now _ c.count-n.ensures c.if-n-ne3.true)

pub written-requires : goal.written-requires
written-requires c =
    let tables : List ℕ =
    length c.args.a.now ∷ length c.args.b.now ∷ length c.args.c.now ∷ length c.args.d.now ∷ [] in
    text-room c.args.out.now c.requires (negate_reply c.field-row.result.now tables c.field-x.result.now) (within-negate tables c.field-row.result.now c.field-x.result.now) (is-written c.negate-answer.ensures)
    (same_len_mid 5 65535 c.args.out.now c.negate-answer.new.res c.negate-answer.auto.res)
