use Rattle.std.proofs.Common.{◌≡◌, ℕ, List, ◌++◌, length, take}
use Rattle.hs_base.specs.declared.values.Pointer.{Pointer}
use Rattle.hs_base.specs.Object.{Object}
use Rattle.flat_objects.specs.Memory.{SameFrame}
use Rattle.flat_objects.specs.Keeping.{Keeps}
use Rattle.flat_objects.specs.Counting.{Frees, Tracks}
use Rattle.flat_machine.specs.Pinning.{MayCount}
use Rattle.flat_machine.proofs.pinning.pin_registers.Given as goal

abbrev pub invariant-loop-register : goal.invariant-loop-register
invariant-loop-register g l = record {
  split : l.fn.registers ≡ l.yielded ++ l.register-iterator;
  keeps : (places : ℕ → ℕ) (all : List Object) → Keeps l.fn.objects places all → Keeps l.objects places all;
  tracks : (places : ℕ → ℕ) (all : List Object) (frees : Frees) (pointers : List Pointer) → MayCount l.fn.objects places all frees l.calls.running.words l.fn.registers pointers → Tracks l.objects places all (record frees { pins = take (length l.yielded) pointers ++ frees.pins });
  frame : SameFrame l.fn.objects l.objects;
}
