use Rattle.flat_machine.proofs.machine.Machine.run.Given as goal

-- the ledger of this call
abbrev pub ghosts-whole_run : goal.ghosts-whole_run
ghosts-whole_run g a = record { name = a.blank.name; parts = a.blank.parts }
