use Rattle.code_point.proofs.+first_point.Given as goal

abbrev pub decreases-first_point : goal.decreases-first_point
decreases-first_point l = l.n
