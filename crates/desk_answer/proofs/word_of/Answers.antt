-- `desk_answer::word_of` meets its contract: each test that fails passes over a row of the table, and the first that holds has its word.
use Rattle.std.proofs.Common.{List, ℕ, sym}
use Rattle.std.specs.Prelude.{drop}
use Rattle.std.proofs.Math.Path.{◌≡◌, ◌∙◌}
use Rattle.desk_answer.specs.Answer.{words, word_in, word_of}
use Rattle.desk_answer.specs.Laws.{passed, found}
use Rattle.desk_answer.proofs.word_of.Goals as goal

pub returns-then-same : goal.returns-then-same
unfolding word_of
returns-then-same c =
    sym (found c.args.field.now words c.same.ensures c.if-same.true)

pub returns-then-same-2 : goal.returns-then-same-2
unfolding word_of
returns-then-same-2 c =
    let field1 : List ℕ =
    c.args.field.now in
    let left1 : word_of field1 ≡ word_in field1 (drop 1 words) =
    passed field1 words c.same.ensures c.if-same.false in
    sym (left1 ∙ found field1 (drop 1 words) c.same-2.ensures c.if-same-2.true)

pub returns-then-same-3 : goal.returns-then-same-3
unfolding word_of
returns-then-same-3 c =
    let field1 : List ℕ =
    c.args.field.now in
    let field2 : List ℕ =
    field1 in
    let left1 : word_of field1 ≡ word_in field1 (drop 1 words) =
    passed field1 words c.same.ensures c.if-same.false in
    let left2 : word_of field2 ≡ word_in field2 (drop 2 words) =
    left1 ∙ passed field2 (drop 1 words) c.same-2.ensures c.if-same-2.false in
    sym (left2 ∙ found field2 (drop 2 words) c.same-3.ensures c.if-same-3.true)

pub returns-then-same-4 : goal.returns-then-same-4
unfolding word_of
returns-then-same-4 c =
    let field1 : List ℕ =
    c.args.field.now in
    let field2 : List ℕ =
    field1 in
    let field3 : List ℕ =
    field2 in
    let left1 : word_of field1 ≡ word_in field1 (drop 1 words) =
    passed field1 words c.same.ensures c.if-same.false in
    let left2 : word_of field2 ≡ word_in field2 (drop 2 words) =
    left1 ∙ passed field2 (drop 1 words) c.same-2.ensures c.if-same-2.false in
    let left3 : word_of field3 ≡ word_in field3 (drop 3 words) =
    left2 ∙ passed field3 (drop 2 words) c.same-3.ensures c.if-same-3.false in
    sym (left3 ∙ found field3 (drop 3 words) c.same-4.ensures c.if-same-4.true)

pub returns-then-same-5 : goal.returns-then-same-5
unfolding word_of
returns-then-same-5 c =
    let field1 : List ℕ =
    c.args.field.now in
    let field2 : List ℕ =
    field1 in
    let field3 : List ℕ =
    field2 in
    let field4 : List ℕ =
    field3 in
    let left1 : word_of field1 ≡ word_in field1 (drop 1 words) =
    passed field1 words c.same.ensures c.if-same.false in
    let left2 : word_of field2 ≡ word_in field2 (drop 2 words) =
    left1 ∙ passed field2 (drop 1 words) c.same-2.ensures c.if-same-2.false in
    let left3 : word_of field3 ≡ word_in field3 (drop 3 words) =
    left2 ∙ passed field3 (drop 2 words) c.same-3.ensures c.if-same-3.false in
    let left4 : word_of field4 ≡ word_in field4 (drop 4 words) =
    left3 ∙ passed field4 (drop 3 words) c.same-4.ensures c.if-same-4.false in
    sym (left4 ∙ found field4 (drop 4 words) c.same-5.ensures c.if-same-5.true)

pub returns-then-same-6 : goal.returns-then-same-6
unfolding word_of
returns-then-same-6 c =
    let field1 : List ℕ =
    c.args.field.now in
    let field2 : List ℕ =
    field1 in
    let field3 : List ℕ =
    field2 in
    let field4 : List ℕ =
    field3 in
    let field5 : List ℕ =
    field4 in
    let left1 : word_of field1 ≡ word_in field1 (drop 1 words) =
    passed field1 words c.same.ensures c.if-same.false in
    let left2 : word_of field2 ≡ word_in field2 (drop 2 words) =
    left1 ∙ passed field2 (drop 1 words) c.same-2.ensures c.if-same-2.false in
    let left3 : word_of field3 ≡ word_in field3 (drop 3 words) =
    left2 ∙ passed field3 (drop 2 words) c.same-3.ensures c.if-same-3.false in
    let left4 : word_of field4 ≡ word_in field4 (drop 4 words) =
    left3 ∙ passed field4 (drop 3 words) c.same-4.ensures c.if-same-4.false in
    let left5 : word_of field5 ≡ word_in field5 (drop 5 words) =
    left4 ∙ passed field5 (drop 4 words) c.same-5.ensures c.if-same-5.false in
    sym (left5 ∙ found field5 (drop 5 words) c.same-6.ensures c.if-same-6.true)

pub returns-then-same-7 : goal.returns-then-same-7
unfolding word_of
returns-then-same-7 c =
    let field1 : List ℕ =
    c.args.field.now in
    let field2 : List ℕ =
    field1 in
    let field3 : List ℕ =
    field2 in
    let field4 : List ℕ =
    field3 in
    let field5 : List ℕ =
    field4 in
    let field6 : List ℕ =
    field5 in
    let left1 : word_of field1 ≡ word_in field1 (drop 1 words) =
    passed field1 words c.same.ensures c.if-same.false in
    let left2 : word_of field2 ≡ word_in field2 (drop 2 words) =
    left1 ∙ passed field2 (drop 1 words) c.same-2.ensures c.if-same-2.false in
    let left3 : word_of field3 ≡ word_in field3 (drop 3 words) =
    left2 ∙ passed field3 (drop 2 words) c.same-3.ensures c.if-same-3.false in
    let left4 : word_of field4 ≡ word_in field4 (drop 4 words) =
    left3 ∙ passed field4 (drop 3 words) c.same-4.ensures c.if-same-4.false in
    let left5 : word_of field5 ≡ word_in field5 (drop 5 words) =
    left4 ∙ passed field5 (drop 4 words) c.same-5.ensures c.if-same-5.false in
    let left6 : word_of field6 ≡ word_in field6 (drop 6 words) =
    left5 ∙ passed field6 (drop 5 words) c.same-6.ensures c.if-same-6.false in
    sym (left6 ∙ found field6 (drop 6 words) c.same-7.ensures c.if-same-7.true)

pub returns-then-same-8 : goal.returns-then-same-8
unfolding word_of
returns-then-same-8 c =
    let field1 : List ℕ =
    c.args.field.now in
    let field2 : List ℕ =
    field1 in
    let field3 : List ℕ =
    field2 in
    let field4 : List ℕ =
    field3 in
    let field5 : List ℕ =
    field4 in
    let field6 : List ℕ =
    field5 in
    let field7 : List ℕ =
    field6 in
    let left1 : word_of field1 ≡ word_in field1 (drop 1 words) =
    passed field1 words c.same.ensures c.if-same.false in
    let left2 : word_of field2 ≡ word_in field2 (drop 2 words) =
    left1 ∙ passed field2 (drop 1 words) c.same-2.ensures c.if-same-2.false in
    let left3 : word_of field3 ≡ word_in field3 (drop 3 words) =
    left2 ∙ passed field3 (drop 2 words) c.same-3.ensures c.if-same-3.false in
    let left4 : word_of field4 ≡ word_in field4 (drop 4 words) =
    left3 ∙ passed field4 (drop 3 words) c.same-4.ensures c.if-same-4.false in
    let left5 : word_of field5 ≡ word_in field5 (drop 5 words) =
    left4 ∙ passed field5 (drop 4 words) c.same-5.ensures c.if-same-5.false in
    let left6 : word_of field6 ≡ word_in field6 (drop 6 words) =
    left5 ∙ passed field6 (drop 5 words) c.same-6.ensures c.if-same-6.false in
    let left7 : word_of field7 ≡ word_in field7 (drop 7 words) =
    left6 ∙ passed field7 (drop 6 words) c.same-7.ensures c.if-same-7.false in
    sym (left7 ∙ found field7 (drop 7 words) c.same-8.ensures c.if-same-8.true)

pub returns-then-same-9 : goal.returns-then-same-9
unfolding word_of
returns-then-same-9 c =
    let field1 : List ℕ =
    c.args.field.now in
    let field2 : List ℕ =
    field1 in
    let field3 : List ℕ =
    field2 in
    let field4 : List ℕ =
    field3 in
    let field5 : List ℕ =
    field4 in
    let field6 : List ℕ =
    field5 in
    let field7 : List ℕ =
    field6 in
    let field8 : List ℕ =
    field7 in
    let left1 : word_of field1 ≡ word_in field1 (drop 1 words) =
    passed field1 words c.same.ensures c.if-same.false in
    let left2 : word_of field2 ≡ word_in field2 (drop 2 words) =
    left1 ∙ passed field2 (drop 1 words) c.same-2.ensures c.if-same-2.false in
    let left3 : word_of field3 ≡ word_in field3 (drop 3 words) =
    left2 ∙ passed field3 (drop 2 words) c.same-3.ensures c.if-same-3.false in
    let left4 : word_of field4 ≡ word_in field4 (drop 4 words) =
    left3 ∙ passed field4 (drop 3 words) c.same-4.ensures c.if-same-4.false in
    let left5 : word_of field5 ≡ word_in field5 (drop 5 words) =
    left4 ∙ passed field5 (drop 4 words) c.same-5.ensures c.if-same-5.false in
    let left6 : word_of field6 ≡ word_in field6 (drop 6 words) =
    left5 ∙ passed field6 (drop 5 words) c.same-6.ensures c.if-same-6.false in
    let left7 : word_of field7 ≡ word_in field7 (drop 7 words) =
    left6 ∙ passed field7 (drop 6 words) c.same-7.ensures c.if-same-7.false in
    let left8 : word_of field8 ≡ word_in field8 (drop 8 words) =
    left7 ∙ passed field8 (drop 7 words) c.same-8.ensures c.if-same-8.false in
    sym (left8 ∙ found field8 (drop 8 words) c.same-9.ensures c.if-same-9.true)

pub returns-then-same-10 : goal.returns-then-same-10
unfolding word_of
returns-then-same-10 c =
    let field1 : List ℕ =
    c.args.field.now in
    let field2 : List ℕ =
    field1 in
    let field3 : List ℕ =
    field2 in
    let field4 : List ℕ =
    field3 in
    let field5 : List ℕ =
    field4 in
    let field6 : List ℕ =
    field5 in
    let field7 : List ℕ =
    field6 in
    let field8 : List ℕ =
    field7 in
    let field9 : List ℕ =
    field8 in
    let left1 : word_of field1 ≡ word_in field1 (drop 1 words) =
    passed field1 words c.same.ensures c.if-same.false in
    let left2 : word_of field2 ≡ word_in field2 (drop 2 words) =
    left1 ∙ passed field2 (drop 1 words) c.same-2.ensures c.if-same-2.false in
    let left3 : word_of field3 ≡ word_in field3 (drop 3 words) =
    left2 ∙ passed field3 (drop 2 words) c.same-3.ensures c.if-same-3.false in
    let left4 : word_of field4 ≡ word_in field4 (drop 4 words) =
    left3 ∙ passed field4 (drop 3 words) c.same-4.ensures c.if-same-4.false in
    let left5 : word_of field5 ≡ word_in field5 (drop 5 words) =
    left4 ∙ passed field5 (drop 4 words) c.same-5.ensures c.if-same-5.false in
    let left6 : word_of field6 ≡ word_in field6 (drop 6 words) =
    left5 ∙ passed field6 (drop 5 words) c.same-6.ensures c.if-same-6.false in
    let left7 : word_of field7 ≡ word_in field7 (drop 7 words) =
    left6 ∙ passed field7 (drop 6 words) c.same-7.ensures c.if-same-7.false in
    let left8 : word_of field8 ≡ word_in field8 (drop 8 words) =
    left7 ∙ passed field8 (drop 7 words) c.same-8.ensures c.if-same-8.false in
    let left9 : word_of field9 ≡ word_in field9 (drop 9 words) =
    left8 ∙ passed field9 (drop 8 words) c.same-9.ensures c.if-same-9.false in
    sym (left9 ∙ found field9 (drop 9 words) c.same-10.ensures c.if-same-10.true)

pub returns : goal.returns
unfolding word_of
returns c =
    let field1 : List ℕ =
    c.args.field.now in
    let field2 : List ℕ =
    field1 in
    let field3 : List ℕ =
    field2 in
    let field4 : List ℕ =
    field3 in
    let field5 : List ℕ =
    field4 in
    let field6 : List ℕ =
    field5 in
    let field7 : List ℕ =
    field6 in
    let field8 : List ℕ =
    field7 in
    let field9 : List ℕ =
    field8 in
    let left1 : word_of field1 ≡ word_in field1 (drop 1 words) =
    passed field1 words c.same.ensures c.if-same.false in
    let left2 : word_of field2 ≡ word_in field2 (drop 2 words) =
    left1 ∙ passed field2 (drop 1 words) c.same-2.ensures c.if-same-2.false in
    let left3 : word_of field3 ≡ word_in field3 (drop 3 words) =
    left2 ∙ passed field3 (drop 2 words) c.same-3.ensures c.if-same-3.false in
    let left4 : word_of field4 ≡ word_in field4 (drop 4 words) =
    left3 ∙ passed field4 (drop 3 words) c.same-4.ensures c.if-same-4.false in
    let left5 : word_of field5 ≡ word_in field5 (drop 5 words) =
    left4 ∙ passed field5 (drop 4 words) c.same-5.ensures c.if-same-5.false in
    let left6 : word_of field6 ≡ word_in field6 (drop 6 words) =
    left5 ∙ passed field6 (drop 5 words) c.same-6.ensures c.if-same-6.false in
    let left7 : word_of field7 ≡ word_in field7 (drop 7 words) =
    left6 ∙ passed field7 (drop 6 words) c.same-7.ensures c.if-same-7.false in
    let left8 : word_of field8 ≡ word_in field8 (drop 8 words) =
    left7 ∙ passed field8 (drop 7 words) c.same-8.ensures c.if-same-8.false in
    let left9 : word_of field9 ≡ word_in field9 (drop 9 words) =
    left8 ∙ passed field9 (drop 8 words) c.same-9.ensures c.if-same-9.false in
    sym (left9 ∙ passed field9 (drop 9 words) c.same-10.ensures c.if-same-10.false)
