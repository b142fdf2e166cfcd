use Rattle.flat_machine.proofs.machine.Machine.leak.Given as goal

-- the ledger of this call
abbrev pub ghosts-leak : goal.ghosts-leak
ghosts-leak a = record { name = a.blank.name; parts = a.blank.parts }
