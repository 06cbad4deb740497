use Rattle.book_read.proofs.+read_entries.Given as goal

abbrev pub decreases-read_entries : goal.decreases-read_entries
decreases-read_entries l = l.k
