use Rattle.std.proofs.Common.{◌≡◌, ℕ, List, ◌++◌, length, drop}
use Rattle.hs_base.specs.declared.values.Pointer.{Pointer}
use Rattle.hs_base.specs.Object.{Object}
use Rattle.flat_objects.specs.Memory.{SameFrame}
use Rattle.flat_objects.specs.Keeping.{Keeps}
use Rattle.flat_objects.specs.Counting.{Frees, Tracks}
use Rattle.flat_machine.specs.Pinning.{DoesCount}
use Rattle.flat_machine.proofs.pinning.unpin_registers.Given as goal

abbrev pub invariant-loop-register : goal.invariant-loop-register
invariant-loop-register g l = record {
  split : l.fn.registers ≡ l.yielded ++ l.register-iterator;
  keeps : (places : ℕ → ℕ) (all : List Object) → Keeps l.fn.objects places all → Keeps l.objects places all;
  tracks : (places : ℕ → ℕ) (all : List Object) (frees : Frees) (pointers others : List Pointer) → DoesCount l.fn.objects places all frees l.calls.running.words l.fn.registers pointers others → Tracks l.objects places all (record frees { pins = drop (length l.yielded) pointers ++ others });
  frame : SameFrame l.fn.objects l.objects;
}
