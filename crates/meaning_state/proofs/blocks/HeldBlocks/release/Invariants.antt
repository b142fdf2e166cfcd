use Rattle.std.proofs.Common.{◌≡◌, drop, map}
use Rattle.hs_base.specs.Trace.{Gone}
use Rattle.meaning_state.specs.Fitting.{held_after}
use Rattle.meaning_state.proofs.blocks.HeldBlocks.release.Given as goal

abbrev pub invariant-loop-birth : goal.invariant-loop-birth
invariant-loop-birth l = held_after l.initial.self (map Gone l.births) ≡ held_after l.self (map Gone (drop l.birth-index l.births))
