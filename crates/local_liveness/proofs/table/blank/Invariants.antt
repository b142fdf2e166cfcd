use Rattle.std.specs.Int.{div_ceil}
use Rattle.local_liveness.proofs.Blanks.{Blanked}
use Rattle.local_liveness.proofs.table.blank.Given as goal

abbrev pub invariant-loop-stm : goal.invariant-loop-stm
invariant-loop-stm l = Blanked l.body (div_ceil l.registers 64) l.stm-index l.sets.items
