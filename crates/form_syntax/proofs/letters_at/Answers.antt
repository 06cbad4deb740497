-- `form_syntax::letters_at` meets its contract, byte by byte.
use Rattle.refusal.proofs.Exits.{handed_on}
use Rattle.form_syntax.specs.laws.Parts.{letters-off, letters}
use Rattle.form_syntax.proofs.letters_at.Goals as goal

pub returns-in_err-o : goal.returns-in_err-o
returns-in_err-o c =
    rw (handed_on c.in_err-o.was c.from_residual.ensures.1)
    (letters-off c.args.s.now _ _ c.expect.ensures c.in_err-o.was)

pub returns : goal.returns
returns c =
    letters c.args.s.now _ _ c.expect.ensures c.in_ok-o.was _ c.expect-2.ensures
