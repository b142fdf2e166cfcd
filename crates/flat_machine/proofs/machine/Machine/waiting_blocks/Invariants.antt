use Rattle.flat_machine.proofs.machine.Machine.waiting_blocks.Given as goal

-- the ledger of this call
abbrev pub ghosts-waiting_blocks : goal.ghosts-waiting_blocks
ghosts-waiting_blocks a = record { name = a.blank.name; parts = a.blank.parts }
