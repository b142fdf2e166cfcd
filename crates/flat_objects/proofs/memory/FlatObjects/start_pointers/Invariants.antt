use Rattle.std.proofs.Common.{ℕ, List}
use Rattle.hs_base.specs.Object.{Object}
use Rattle.flat_objects.specs.Memory.{SameFrame}
use Rattle.flat_objects.specs.Answering.{IsChanged}
use Rattle.flat_objects.specs.Counting.{Frees, Tracks}
use Rattle.flat_objects.specs.Starting.{TakesPointers}
use Rattle.flat_objects.proofs.Pointed.{after_first}
use Rattle.flat_objects.proofs.memory.FlatObjects.start_pointers.Given as goal

abbrev pub invariant-loop-pointer : goal.invariant-loop-pointer
invariant-loop-pointer g l = record {
  frame : SameFrame l.initial.self l.self;
  changes : (places : ℕ → ℕ) (objects : List Object) (birth : ℕ) → TakesPointers l.initial.self places objects birth l.addr l.pointers l.starts → IsChanged l.self places objects (after_first places objects birth l.addr l.pointers l.starts l.pointer-index);
  tracks : (places : ℕ → ℕ) (objects : List Object) (birth : ℕ) (frees : Frees) → TakesPointers l.initial.self places objects birth l.addr l.pointers l.starts → Tracks l.initial.self places objects frees → Tracks l.self places (after_first places objects birth l.addr l.pointers l.starts l.pointer-index) frees;
}
