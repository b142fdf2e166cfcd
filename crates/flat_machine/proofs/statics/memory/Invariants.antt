use Rattle.flat_machine.proofs.statics.memory.Given as goal

-- the ledger of this call
abbrev pub ghosts-memory_with : goal.ghosts-memory_with
ghosts-memory_with a = record { name = a.blank.name; parts = a.blank.parts }
