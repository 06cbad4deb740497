-- `form_read::read_form` meets its contract: what is refused, and what is built.
use Rattle.std.proofs.Common.{sym, arith, length-take-le}
use Rattle.std.proofs.Math.Path.{◌∙◌}
use Rattle.std.proofs.lemmas.Result.{err_from_is_err_and}
use Rattle.std.specs.Prelude.{drop}
use Rattle.form_read.specs.laws.Read.{judged-refused, built}
use Rattle.form_read.proofs.read_form.Goals as goal

pub returns-in_err-measures : goal.returns-in_err-measures
returns-in_err-measures c =
    let p = err_from_is_err_and c.from_residual.result c.from_residual.ensures.1 in
    rw (p.1, p.2) (judged-refused _ _ _ _ (sym c.accept_form.ensures ∙ c.in_err-measures.was))

pub build_form-words-requires-clause-in_bounds : goal.build_form-words-requires-clause-in_bounds
build_form-words-requires-clause-in_bounds c =
    omega (arith, length-take-le 3073 c.args.out.now c.requires.1)

pub returns : goal.returns
returns c =
    built _ _ _ c.build_form-words.new.out (drop 3073 c.args.out.now) (sym c.accept_form.ensures ∙ c.in_ok-measures.was)
    c.build_form-words.ensures
