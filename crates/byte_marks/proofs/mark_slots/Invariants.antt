use Rattle.adjusters.specs.ObjectSlots.{object_slots}
use Rattle.byte_marks.proofs.Marking.{SoFar}
use Rattle.byte_marks.proofs.mark_slots.Given as goal

abbrev pub invariant-loop-k : goal.invariant-loop-k
invariant-loop-k l = SoFar l.initial.marks l.marks l.start l.size (object_slots l.form l.size) l.k
