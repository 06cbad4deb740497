-- `desk_field::value` meets its contract.
use Rattle.std.proofs.Common.{sym, ◌∙◌}
use Rattle.desk_field.specs.Numbers.{cut-none, cut-some}
use Rattle.desk_field.proofs.value.Goals as goal

pub returns-then-not-is_natural : goal.returns-then-not-is_natural
returns-then-not-is_natural c =
    cut-none c.args.w.now (sym c.is_natural.ensures ∙ c.if-not-is_natural.true)

pub returns : goal.returns
returns c =
    cut-some c.args.w.now (sym c.is_natural.ensures ∙ c.if-not-is_natural.false) c.cut_wide.result c.cut_wide.ensures
