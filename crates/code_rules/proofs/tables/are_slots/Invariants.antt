use Rattle.std.proofs.Common.{◌↔◌, ◌≤◌, drop}
use Rattle.c_types.specs.Layouts.{AreSlots}
use Rattle.code_rules.proofs.tables.are_slots.Given as goal

abbrev pub invariant-loop-slot : goal.invariant-loop-slot
invariant-loop-slot l = record { rest : AreSlots 0 l.size l.slots ↔ AreSlots l.low l.size (drop l.slot-index l.slots); low : l.low ≤ l.size }
