use Rattle.flat_machine.proofs.running.whole_run.Given as goal

abbrev pub ghosts-run_lent : goal.ghosts-run_lent
ghosts-run_lent g a = record { input_loan = a.input.ghost_name; out_loan = a.out.ghost_name; left = g.I.Source.left a.input.now; taken = g.O.Sink.taken a.out.now }
