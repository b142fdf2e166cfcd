use Rattle.flat_objects.specs.Memory.{SameFrame}
use Rattle.flat_machine.specs.Loading.{HasStarted}
use Rattle.flat_machine.proofs.statics.start_statics.Given as goal

abbrev pub invariant-loop-k : goal.invariant-loop-k
invariant-loop-k g l = record {
  started : HasStarted l.code l.objects l.addrs l.k;
  frame : SameFrame l.fn.objects l.objects;
}
