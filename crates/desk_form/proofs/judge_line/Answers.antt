-- `desk_form::judge_line` meets its contract.
use Rattle.call_judge.specs.Judge.{is-judged}
use Rattle.form_write.specs.laws.Wrote.{wrote_as}
use Rattle.desk_serve.specs.Laws.{counted-not}
use Rattle.desk_form.specs.Laws.{judge-fields}
use Rattle.desk_form.proofs.judge_line.Goals as goal

pub returns-then-n-ne3 : goal.returns-then-n-ne3
returns-then-n-ne3 c =
    wrote_as c.miscounted.ensures
    (counted-not 3 c.args.line.now _ c.count-n.ensures c.if-n-ne3.true)

pub returns : goal.returns
returns c =
    wrote_as c.judged.ensures
    (judge-fields c.args.line.now c.count-n.ensures c.if-n-ne3.false
    c.field-row.ensures c.field-x.ensures (is-judged c.judge-answer.ensures))
