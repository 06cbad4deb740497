-- `term_measure::weight_in` meets its contract.
use Rattle.std.proofs.Common.{sym}
use Rattle.std.proofs.Math.Path.{◌∙◌}
use borrow.Author.Tests.{eq-eqb, ne_eqb, lt-ltb, le-ltb}
use Rattle.text_laws.specs.laws.Picks.{pick_yes, pick_no}
use Rattle.term_measure.proofs.weight_in.Goals as goal

pub returns-then-h-eq2147483647 : goal.returns-then-h-eq2147483647
returns-then-h-eq2147483647 c =
    sym (pick_yes _ _ (eq-eqb _ _ c.if-h-eq2147483647.true))

pub returns-then-h-gt1073741823 : goal.returns-then-h-gt1073741823
returns-then-h-gt1073741823 c =
    sym (pick_no _ _ (ne_eqb _ _ c.if-h-eq2147483647.false) ∙ pick_yes _ _ (lt-ltb _ _ c.if-h-gt1073741823.true))

pub returns : goal.returns
returns c =
    sym (pick_no _ _ (ne_eqb _ _ c.if-h-eq2147483647.false) ∙ pick_no _ _ (le-ltb _ _ c.if-h-gt1073741823.false))
