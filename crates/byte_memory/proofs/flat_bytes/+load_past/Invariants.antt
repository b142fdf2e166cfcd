use Rattle.byte_memory.proofs.flat_bytes.+load_past.Given as goal

abbrev pub decreases-load_past : goal.decreases-load_past
decreases-load_past l = l.width
