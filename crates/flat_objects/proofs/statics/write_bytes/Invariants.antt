use Rattle.flat_objects.proofs.Started.{IsWrittenTo}
use Rattle.flat_objects.proofs.statics.write_bytes.Given as goal

abbrev pub invariant-loop-k : goal.invariant-loop-k
invariant-loop-k g l = IsWrittenTo l.initial.memory l.memory l.start l.bytes l.k
