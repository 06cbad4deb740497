-- `measure::limit_of` meets its contract, limit by limit.
use Rattle.std.proofs.Common.{sym, lt-ltb, le-ltb}
use Rattle.std.proofs.Math.Path.{◌∙◌}
use Rattle.text_laws.specs.laws.Picks.{pick_yes, pick_no}
use Rattle.measure.proofs.limit_of.Goals as goal

pub returns-then-m-gt63 : goal.returns-then-m-gt63
returns-then-m-gt63 c =
    sym (pick_yes _ _ (lt-ltb _ _ c.if-m-gt63.true))

pub returns-then-m-gt63-2 : goal.returns-then-m-gt63-2
returns-then-m-gt63-2 c =
    sym (pick_no _ _ (le-ltb _ _ c.if-m-gt63.false) ∙ pick_yes _ _ (lt-ltb _ _ c.if-m-gt63-2.true))

pub returns-then-m-gt63-3 : goal.returns-then-m-gt63-3
returns-then-m-gt63-3 c =
    sym (pick_no _ _ (le-ltb _ _ c.if-m-gt63.false) ∙ pick_no _ _ (le-ltb _ _ c.if-m-gt63-2.false)
    ∙ pick_yes _ _ (lt-ltb _ _ c.if-m-gt63-3.true))

pub returns-then-m-gt63-4 : goal.returns-then-m-gt63-4
returns-then-m-gt63-4 c =
    sym (pick_no _ _ (le-ltb _ _ c.if-m-gt63.false) ∙ pick_no _ _ (le-ltb _ _ c.if-m-gt63-2.false)
    ∙ pick_no _ _ (le-ltb _ _ c.if-m-gt63-3.false) ∙ pick_yes _ _ (lt-ltb _ _ c.if-m-gt63-4.true))

pub returns-then-m-gt1073741823 : goal.returns-then-m-gt1073741823
returns-then-m-gt1073741823 c =
    sym (pick_no _ _ (le-ltb _ _ c.if-m-gt63.false) ∙ pick_no _ _ (le-ltb _ _ c.if-m-gt63-2.false)
    ∙ pick_no _ _ (le-ltb _ _ c.if-m-gt63-3.false) ∙ pick_no _ _ (le-ltb _ _ c.if-m-gt63-4.false)
    ∙ pick_yes _ _ (lt-ltb _ _ c.if-m-gt1073741823.true))

pub returns-then-m-gt256 : goal.returns-then-m-gt256
returns-then-m-gt256 c =
    sym (pick_no _ _ (le-ltb _ _ c.if-m-gt63.false) ∙ pick_no _ _ (le-ltb _ _ c.if-m-gt63-2.false)
    ∙ pick_no _ _ (le-ltb _ _ c.if-m-gt63-3.false) ∙ pick_no _ _ (le-ltb _ _ c.if-m-gt63-4.false)
    ∙ pick_no _ _ (le-ltb _ _ c.if-m-gt1073741823.false) ∙ pick_yes _ _ (lt-ltb _ _ c.if-m-gt256.true))

pub returns : goal.returns
returns c =
    sym (pick_no _ _ (le-ltb _ _ c.if-m-gt63.false) ∙ pick_no _ _ (le-ltb _ _ c.if-m-gt63-2.false)
    ∙ pick_no _ _ (le-ltb _ _ c.if-m-gt63-3.false) ∙ pick_no _ _ (le-ltb _ _ c.if-m-gt63-4.false)
    ∙ pick_no _ _ (le-ltb _ _ c.if-m-gt1073741823.false) ∙ pick_no _ _ (le-ltb _ _ c.if-m-gt256.false))
