use Rattle.flat_objects.specs.Memory.{SameFrame}
use Rattle.flat_machine.specs.Loading.{HasPlaced}
use Rattle.flat_machine.proofs.statics.place_statics.Given as goal

abbrev pub invariant-loop-k : goal.invariant-loop-k
invariant-loop-k g l = record {
  placed : HasPlaced l.code l.objects l.addrs.items l.k;
  frame : SameFrame l.fn.objects l.objects;
}
