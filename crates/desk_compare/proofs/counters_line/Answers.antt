-- `desk_compare::counters_line` meets its contract.
use Rattle.std.proofs.Common.{List, [], ◌∷◌, ℕ, length}
use Rattle.call_counters.specs.Counters.{is-counted}
use Rattle.form_write.specs.laws.Wrote.{wrote_as}
use Rattle.desk_serve.specs.Laws.{numbered-missing, numbered-wrong}
use Rattle.desk_compare.specs.Compare.{counters_by}
use Rattle.desk_compare.specs.Laws.{counters-miscounted, counters-fields}
use Rattle.desk_compare.proofs.counters_line.Goals as goal

pub returns-then-n-lt3 : goal.returns-then-n-lt3
returns-then-n-lt3 c =
    let tables : List ℕ =
    length c.args.a.now ∷ length c.args.b.now ∷ length c.args.c.now ∷ length c.args.d.now ∷ [] in
    let line = c.args.line.now in
    wrote_as c.wrong.ensures
    (numbered-missing 2 line (counters_by tables line) c.count-n.ensures c.if-n-lt3.true)

pub returns-in_default : goal.returns-in_default
returns-in_default c =
    let tables : List ℕ =
    length c.args.a.now ∷ length c.args.b.now ∷ length c.args.c.now ∷ length c.args.d.now ∷ [] in
    let line = c.args.line.now in
    wrote_as c.wrong-in_default.ensures
    (numbered-wrong 2 line (counters_by tables line) c.count-n.ensures c.if-n-lt3.false c.natural.ensures c.field.ensures
    c.in_default.is)

pub returns-then-n-ne5 : goal.returns-then-n-ne5
returns-then-n-ne5 c =
    let tables : List ℕ =
    length c.args.a.now ∷ length c.args.b.now ∷ length c.args.c.now ∷ length c.args.d.now ∷ [] in
    wrote_as c.miscounted.ensures
    (counters-miscounted tables c.args.line.now c.count-n.ensures c.if-n-lt3.false c.natural.ensures c.field.ensures
    c.in-Some.is c.if-n-ne5.true)

pub returns : goal.returns
returns c =
    let tables : List ℕ =
    length c.args.a.now ∷ length c.args.b.now ∷ length c.args.c.now ∷ length c.args.d.now ∷ [] in
    wrote_as c.counted.ensures
    (counters-fields tables c.args.line.now c.count-n.ensures c.if-n-lt3.false
    c.natural.ensures c.field.ensures
    c.in-Some.is c.if-n-ne5.false c.field-row.ensures c.field-s.ensures
    c.field-t.ensures
    (is-counted c.counters-answer.ensures))
