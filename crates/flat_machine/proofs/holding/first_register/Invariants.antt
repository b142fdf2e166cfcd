use Rattle.std.proofs.Common.{◌≡◌, ◌<◌, ◌++◌, ℕ, List, false, get_or, length}
use Rattle.hs_base.specs.Freeing.{is_pointer_to}
use Rattle.hs_base.specs.Object.{Object}
use Rattle.hs_base.specs.State.{Frame as Situation}
use Rattle.object_meaning.specs.counted.Pinning.{pointer_of_register}
use Rattle.flat_machine.specs.Kept.{call_number}
use Rattle.flat_machine.specs.Holding.{HoldsIn}
use Rattle.flat_machine.proofs.holding.first_register.Given as goal

abbrev pub invariant-loop-register : goal.invariant-loop-register
invariant-loop-register g l = record {
  split : l.fn.registers ≡ l.yielded ++ l.register-iterator;
  none : (places : ℕ → ℕ) (all : List Object) (frame : Situation) (birth : ℕ) → HoldsIn l.objects places all frame (call_number l.calls l.k) l.fn.registers birth l.start → (j : ℕ) → j < length l.yielded → is_pointer_to birth (pointer_of_register frame (get_or l.fn.registers j 0)) ≡ false;
}
