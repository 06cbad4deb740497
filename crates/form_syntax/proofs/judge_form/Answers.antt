-- `form_syntax::judge_form` meets its contract: the walk over the whole text gives the reading's verdict.
use Rattle.std.proofs.Common.{arith}
use Rattle.refusal.proofs.Exits.{exits}
use Rattle.form_syntax.specs.laws.Forms.{too_long, judge-off, judge-whole, judge-more}
use Rattle.form_syntax.proofs.judge_form.Goals as goal

pub returns-then-s-gt65535 : goal.returns-then-s-gt65535
returns-then-s-gt65535 c =
    too_long c.args.s.now (omega arith)

pub returns : goal.returns
returns c =
    judge-whole c.args.s.now c.if-s-gt65535.false _ c.form_at.ensures c.in_ok-e.was c.if-e-s.false

pub returns-in_err-e : goal.returns-in_err-e
returns-in_err-e c =
    rw (exits c.from_residual.ensures.1)
    (judge-off c.args.s.now c.if-s-gt65535.false _ c.form_at.ensures c.in_err-e.was)

pub returns-then-e-s : goal.returns-then-e-s
returns-then-e-s c =
    rw c.unexpected.ensures (judge-more c.args.s.now c.if-s-gt65535.false _ c.form_at.ensures c.in_ok-e.was c.if-e-s.true)
