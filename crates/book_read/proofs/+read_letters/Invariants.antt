use Rattle.book_read.proofs.+read_letters.Given as goal

abbrev pub decreases-read_letters : goal.decreases-read_letters
decreases-read_letters l = l.k
