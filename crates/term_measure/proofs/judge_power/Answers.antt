-- `term_measure::judge_power` meets its contract, by the limit of exponents.
use Rattle.std.proofs.Common.{sym, ap, ◌∙◌, lt-ltb, le-ltb}
use Rattle.std.specs.Prelude.{Err}
use Rattle.text_laws.specs.laws.Picks.{pick_yes, pick_no}
use Rattle.term_measure.specs.Found.{judged}
use Rattle.term_measure.proofs.judge_power.Goals as goal

pub returns-then-k-gt-EXPONENT : goal.returns-then-k-gt-EXPONENT
returns-then-k-gt-EXPONENT c =
    ap Err c.flaw_in.ensures ∙ sym (pick_yes _ _ (lt-ltb _ _ c.if-k-gt-EXPONENT.true))

pub returns : goal.returns
returns c =
    c.judge.ensures ∙ ap (λ m. judged m c.args.v) c.raise.ensures ∙ sym (pick_no _ _ (le-ltb _ _ c.if-k-gt-EXPONENT.false))
