-- `term_measure::judge` meets its contract.
use Rattle.std.proofs.Common.{sym, ap, ◌∙◌, eq-eqb, ne_eqb}
use Rattle.std.specs.Prelude.{Err}
use Rattle.text_laws.specs.laws.Picks.{pick_yes, pick_no}
use Rattle.term_measure.specs.Found.{flaw_in}
use Rattle.term_measure.proofs.judge.Goals as goal

pub returns-in-Ok : goal.returns-in-Ok
returns-in-Ok c =
    sym (pick_yes _ _ (eq-eqb _ _ c.in-Ok.ensures))

pub returns-in-Err : goal.returns-in-Err
returns-in-Err c =
    ap Err (c.flaw_in.ensures ∙ ap (λ n. flaw_in n c.args.v) (sym c.in-Err.ensures.0))
    ∙ sym (pick_no _ _ (ne_eqb _ _ (λ z. c.in-Err.ensures.1 (sym c.in-Err.ensures.0 ∙ z))))
