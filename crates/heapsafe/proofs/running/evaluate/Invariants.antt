use Rattle.heapsafe.proofs.running.evaluate.Given as goal

abbrev pub ghosts-mean_lent : goal.ghosts-mean_lent
ghosts-mean_lent g a = record { name = a.out.ghost_name; taken = g.O.Sink.taken a.out.now }
