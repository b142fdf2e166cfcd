use Rattle.heapsafe.proofs.heapsafe.Given as goal

abbrev pub ghosts-serve_lent-A-Loan : goal.ghosts-serve_lent-A-Loan
ghosts-serve_lent-A-Loan g a = record { name = a.input.ghost_name }

abbrev pub ghosts-serve_lent-B-Loan : goal.ghosts-serve_lent-B-Loan
ghosts-serve_lent-B-Loan g a = record { name = a.out.ghost_name }

abbrev pub ghosts-serve_lent-C-Loan : goal.ghosts-serve_lent-C-Loan
ghosts-serve_lent-C-Loan g a = record { name = a.err.ghost_name }
