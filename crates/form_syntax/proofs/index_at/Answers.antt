-- `form_syntax::index_at` meets its contract, part by part.
use Rattle.refusal.proofs.Exits.{handed_on}
use Rattle.form_syntax.specs.laws.Parts.{index-off, index-none, index-all}
use Rattle.form_syntax.proofs.index_at.Goals as goal

pub returns-in_err-i : goal.returns-in_err-i
returns-in_err-i c =
    rw (handed_on c.in_err-i.was c.from_residual.ensures.1)
    (index-off c.args.s.now _ _ c.expect.ensures c.in_err-i.was)

pub returns-in_err-e : goal.returns-in_err-e
returns-in_err-e c =
    rw (handed_on c.in_err-e.was c.from_residual-in_err-e.ensures.1)
    (index-none c.args.s.now _ _ c.expect.ensures _ c.in_ok-i.was _ c.natural_at.ensures
    c.in_err-e.was)

pub returns : goal.returns
returns c =
    index-all c.args.s.now _ _ c.expect.ensures _ c.in_ok-i.was _ c.natural_at.ensures
    c.in_ok-e.was _ c.expect-2.ensures
