-- `form_syntax::natural_at` meets its contract, by the first byte.
use Rattle.std.proofs.Common.{sym, arith}
use Rattle.std.proofs.Math.Path.{◌∙◌}
use Rattle.form_syntax.specs.laws.Numbers.{natural-end, natural-zero, natural-none, natural-more, digits-found}
use Rattle.form_syntax.proofs.natural_at.Goals as goal

pub returns-then-s-at : goal.returns-then-s-at
returns-then-s-at c =
    rw c.unexpected.ensures (natural-end c.args.s.now _ c.if-s-at.true)

pub returns-then-b-eq48 : goal.returns-then-b-eq48
returns-then-b-eq48 c =
    natural-zero c.args.s.now _ c.if-s-at.false c.if-b-eq48.true

pub returns-then-not-is_digit : goal.returns-then-not-is_digit
returns-then-not-is_digit c =
    rw c.unexpected-then-not-is_digit.ensures (natural-none c.args.s.now _ c.if-s-at.false c.if-b-eq48.false
    (sym c.is_digit.ensures ∙ c.if-not-is_digit.true))

pub returns : goal.returns
returns c =
    rw c.digits_end.ensures
    (natural-more c.args.s.now _ c.if-s-at.false c.if-b-eq48.false _
    (sym c.is_digit.ensures ∙ c.if-not-is_digit.false) (digits-found c.args.s.now _ (omega arith)))
