-- `form_syntax::form_at`, `last_at`, `pop_at` and `pow_at` meet their contracts, part by part. The measure is twice the number of bytes
-- left, and one more for `last_at`, which begins with a form.
use Rattle.std.proofs.Common.{sym, arith}
use Rattle.std.proofs.Math.Path.{◌∙◌}
use Rattle.refusal.proofs.Exits.{handed_on}
use Rattle.form_syntax.specs.laws.Steps.{at-inside}
use Rattle.form_syntax.specs.laws.Forms.{pop-off, pow-off, pop-all, first_off, space-off, pow-all}
use Rattle.form_syntax.specs.laws.Forms.{form-deep, form-off, form-pop, form-pow, form-none}
use Rattle.form_syntax.proofs.+parts.Goals as goal

-- ---- form_at

pub form_at-returns-then-depth-ge-DEEPEST : goal.form_at-returns-then-depth-ge-DEEPEST
form_at-returns-then-depth-ge-DEEPEST t c =
    form-deep c.args.s.now _ _
    (sym c.is_at.ensures ∙ c.if-not-is_at.false) c.if-depth-ge-DEEPEST.true

pub form_at-overflow_add-at : goal.form_at-overflow_add-at
form_at-overflow_add-at t c =
    omega (
      arith,
      at-inside c.args.s.now _ _
          (sym c.is_at.ensures ∙ c.if-not-is_at.false),
    )

pub form_at-returns-in_err-n : goal.form_at-returns-in_err-n
form_at-returns-in_err-n t c =
    rw (handed_on c.in_err-n.was c.from_residual.ensures.1)
    (form-off c.args.s.now _ _ (sym c.is_at.ensures ∙ c.if-not-is_at.false)
    c.if-depth-ge-DEEPEST.false _ c.letters_at.ensures c.in_err-n.was)

pub form_at-returns-then-is_at : goal.form_at-returns-then-is_at
form_at-returns-then-is_at t c =
    form-pop c.args.s.now _ _ (sym c.is_at.ensures ∙ c.if-not-is_at.false)
    c.if-depth-ge-DEEPEST.false _ c.letters_at.ensures _ c.in_ok-n.was (sym c.is_at-2.ensures ∙ c.if-is_at.true)
    _ c.pop_at.ensures

pub form_at-returns-then-is_at-2 : goal.form_at-returns-then-is_at-2
form_at-returns-then-is_at-2 t c =
    form-pow c.args.s.now _ _ (sym c.is_at.ensures ∙ c.if-not-is_at.false)
    c.if-depth-ge-DEEPEST.false _ c.letters_at.ensures _ c.in_ok-n.was (sym c.is_at-3.ensures ∙ c.if-is_at-2.true)
    _ c.pow_at.ensures

pub form_at-returns : goal.form_at-returns
form_at-returns t c =
    rw c.unexpected.ensures
    (form-none c.args.s.now _ _ (sym c.is_at.ensures ∙ c.if-not-is_at.false)
    c.if-depth-ge-DEEPEST.false _ c.letters_at.ensures _ c.in_ok-n.was (sym c.is_at-2.ensures ∙ c.if-is_at.false)
    (sym c.is_at-3.ensures ∙ c.if-is_at-2.false))

-- ---- pop_at

pub pop_at-returns-in_err-i : goal.pop_at-returns-in_err-i
pop_at-returns-in_err-i t c =
    rw (handed_on c.in_err-i.was c.from_residual.ensures.1)
    (pop-off c.args.s.now _ _ _ c.index_at.ensures c.in_err-i.was)

pub pop_at-returns : goal.pop_at-returns
pop_at-returns t c =
    pop-all c.args.s.now _ _ _ c.index_at.ensures _ c.in_ok-i.was _
    c.last_at.ensures

-- ---- pow_at

pub pow_at-returns-in_err-i : goal.pow_at-returns-in_err-i
pow_at-returns-in_err-i t c =
    rw (handed_on c.in_err-i.was c.from_residual.ensures.1)
    (pow-off c.args.s.now _ _ _ c.index_at.ensures c.in_err-i.was)

pub pow_at-returns-in_err-e : goal.pow_at-returns-in_err-e
pow_at-returns-in_err-e t c =
    rw (handed_on c.in_err-e.was c.from_residual-in_err-e.ensures.1)
    (first_off c.args.s.now _ _ _ c.index_at.ensures _ c.in_ok-i.was _ c.form_at.ensures
    c.in_err-e.was)

pub pow_at-returns-in_err-q : goal.pow_at-returns-in_err-q
pow_at-returns-in_err-q t c =
    rw (handed_on c.in_err-q.was c.from_residual-in_err-q.ensures.1)
    (space-off c.args.s.now _ _ _ c.index_at.ensures _ c.in_ok-i.was _
    c.form_at.ensures _ c.in_ok-e.was _ c.expect.ensures c.in_err-q.was)

pub pow_at-returns : goal.pow_at-returns
pow_at-returns t c =
    pow-all c.args.s.now _ _ _ c.index_at.ensures _ c.in_ok-i.was _
    c.form_at.ensures _ c.in_ok-e.was _ c.expect.ensures c.in_ok-q.was _
    c.last_at.ensures
