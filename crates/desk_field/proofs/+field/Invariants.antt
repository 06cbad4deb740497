use Rattle.desk_field.proofs.+field.Given as goal

abbrev pub decreases-field : goal.decreases-field
decreases-field l = l.k
