use Rattle.std.proofs.Common.{length}
use Rattle.form_write.proofs.+text_length.Given as goal

abbrev pub decreases-text_length : goal.decreases-text_length
decreases-text_length l = length l.x.now
