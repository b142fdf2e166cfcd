use Rattle.heapsafe.proofs.running.run_code.Given as goal

abbrev pub ghosts-execute_lent : goal.ghosts-execute_lent
ghosts-execute_lent g a = record { name = a.out.ghost_name; taken = g.O.Sink.taken a.out.now }
