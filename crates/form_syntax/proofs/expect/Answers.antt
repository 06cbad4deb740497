-- `form_syntax::expect` meets its contract.
use Rattle.std.proofs.Common.{sym, arith}
use Rattle.std.proofs.Math.Path.{◌∙◌}
use Rattle.form_syntax.specs.laws.Steps.{at-inside}
use Rattle.form_syntax.specs.laws.Parts.{expect-yes, expect-no}
use Rattle.form_syntax.proofs.expect.Goals as goal

pub overflow_add-result : goal.overflow_add-result
overflow_add-result c =
    omega (arith, at-inside c.args.s.now _ _ (sym c.is_at.ensures ∙ c.if-is_at.true))

pub returns-then-is_at : goal.returns-then-is_at
returns-then-is_at c =
    expect-yes c.args.s.now _ _ (sym c.is_at.ensures ∙ c.if-is_at.true)

pub returns : goal.returns
returns c =
    rw c.unexpected.ensures (expect-no c.args.s.now _ _ (sym c.is_at.ensures ∙ c.if-is_at.false))
