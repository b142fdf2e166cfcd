use Rattle.heapsafe.proofs.running.run_file.Given as goal

abbrev pub ghosts-run_lent : goal.ghosts-run_lent
ghosts-run_lent g a = record { name = a.out.ghost_name; taken = g.O.Sink.taken a.out.now }
