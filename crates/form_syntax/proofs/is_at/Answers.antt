-- `form_syntax::is_at` meets its contract.
use Rattle.std.proofs.Common.{sym}
use Rattle.form_syntax.specs.laws.Steps.{is_byte, is-end}
use Rattle.form_syntax.proofs.is_at.Goals as goal

pub returns-then-s-at : goal.returns-then-s-at
returns-then-s-at c =
    sym (is-end c.args.s.now _ _ c.if-s-at.true)

pub returns : goal.returns
returns c =
    sym (is_byte c.args.s.now _ _ c.if-s-at.false)
