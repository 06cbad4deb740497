-- `form_write::digits_of` meets its contract: a numeral has one digit more than its logarithm, and 0 as many as 1.
use Rattle.std.proofs.Common.{sym}
use Rattle.form_write.specs.laws.Sizes.{numeral_log_or_1}
use Rattle.form_write.proofs.digits_of.Goals as goal

pub returns : goal.returns
returns c =
    sym (numeral_log_or_1 _ _ _ c.max.ensures c.ilog10.ensures.power_le c.ilog10.ensures.next_power_gt)
