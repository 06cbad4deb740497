-- `desk_operation::multiply_line` meets its contract.
use Rattle.std.proofs.Common.{List, [], ◌∷◌, ℕ, length}
use borrow.Rule.Slice.PartMut.{same_len_mid}
use Rattle.door_result.specs.Result.{is-written}
use Rattle.form_write.specs.laws.Wrote.{wrote_as}
use Rattle.reply.specs.definitions.Calls.{multiply_reply}
use Rattle.desk_reply.specs.laws.Replies.{text-room}
use Rattle.desk_serve.specs.Laws.{counted-not}
use Rattle.desk_serve.specs.Texts.{two-texts}
use Rattle.desk_operation.specs.Laws.{within-multiply}
use Rattle.desk_operation.proofs.multiply_line.Goals as goal

pub returns : goal.returns
returns c =
    let tables : List ℕ =
    length c.args.a.now ∷ length c.args.b.now ∷ length c.args.c.now ∷ length c.args.d.now ∷ [] in
    two-texts c.args.line.now c.requires c.count-n.ensures c.field-row.ensures
    c.field-x.ensures c.field-y.ensures
    (λ u v w. multiply_reply u tables v w) (within-multiply tables) c.if-n-ne4.false
    (is-written c.multiply-answer.ensures) c.multiply-answer.ensures.result c.written.ensures

pub returns-then-n-ne4 : goal.returns-then-n-ne4
returns-then-n-ne4 c =
    wrote_as c.miscounted.ensures
    (counted-not 4 c.args.line.now _ c.count-n.ensures c.if-n-ne4.true)

pub written-requires : goal.written-requires
written-requires c =
    let tables : List ℕ =
    length c.args.a.now ∷ length c.args.b.now ∷ length c.args.c.now ∷ length c.args.d.now ∷ [] in
    text-room c.args.out.now c.requires (multiply_reply c.field-row.result.now tables c.field-x.result.now c.field-y.result.now) (within-multiply tables c.field-row.result.now c.field-x.result.now c.field-y.result.now) (is-written c.multiply-answer.ensures)
    (same_len_mid 5 65535 c.args.out.now c.multiply-answer.new.res c.multiply-answer.auto.res)
