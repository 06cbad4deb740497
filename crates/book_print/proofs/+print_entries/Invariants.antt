use Rattle.book_print.proofs.+print_entries.Given as goal

abbrev pub decreases-print_entries : goal.decreases-print_entries
decreases-print_entries l = l.k
