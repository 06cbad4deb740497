use Rattle.std.proofs.Common.{length}
use Rattle.form_write.proofs.+write_text.Given as goal

abbrev pub decreases-write_text : goal.decreases-write_text
decreases-write_text l = length l.x.now
