-- `form_syntax::int_at` meets its contract: no sign; `-0`; a sign and more.
use Rattle.std.proofs.Common.{sym, arith}
use Rattle.std.proofs.Math.Path.{◌∙◌}
use Rattle.form_syntax.specs.laws.Steps.{at-inside}
use Rattle.form_syntax.specs.laws.Numbers.{int-zero, int-signed}
use Rattle.form_syntax.proofs.int_at.Goals as goal

pub overflow_add-i : goal.overflow_add-i
overflow_add-i c =
    omega (
      arith,
      at-inside c.args.s.now _ _ (sym c.is_at.ensures ∙ c.if-not-is_at.false),
    )

pub returns-then-is_at : goal.returns-then-is_at
returns-then-is_at c =
    rw c.unexpected.ensures (int-zero c.args.s.now _ (sym c.is_at.ensures ∙ c.if-not-is_at.false)
    (sym c.is_at-2.ensures ∙ c.if-is_at.true))

pub returns : goal.returns
returns c =
    int-signed c.args.s.now _ (sym c.is_at.ensures ∙ c.if-not-is_at.false) _
    (sym c.is_at-2.ensures ∙ c.if-is_at.false) c.natural_at-2.ensures
