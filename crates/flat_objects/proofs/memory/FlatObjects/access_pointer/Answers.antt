use Rattle.std.proofs.Common.{subst}
use Rattle.flat_objects.specs.Memory.{IsMemory}
use Rattle.flat_objects.proofs.Plain.{slot_allowed, slot_inside}
use Rattle.flat_objects.proofs.memory.FlatObjects.access_pointer.Goals as goal

pub returns-then-is_pointer-clause-allows : goal.returns-then-is_pointer-clause-allows
returns-then-is_pointer-clause-allows g c = λ places objects p at.
    let shape = subst (IsMemory c.self.inside.locals_from c.self.inside.heap_from) c.self.view_is c.self.invariant in
    let slot = c.is_pointer.ensures c.if-is_pointer.true in
    slot_allowed c.self.inside.locals_from c.self.inside.heap_from c.args.self.now shape places objects c.args.addr slot.0 slot.1 p at

pub returns-then-is_pointer-clause-inside : goal.returns-then-is_pointer-clause-inside
returns-then-is_pointer-clause-inside g c =
    let kept = c.requires in
    let shape = subst (IsMemory c.self.inside.locals_from c.self.inside.heap_from) c.self.view_is c.self.invariant in
    let slot = c.is_pointer.ensures c.if-is_pointer.true in
    slot_inside c.self.inside.locals_from c.self.inside.heap_from c.args.self.now shape kept.0 kept.1 c.args.addr slot.0 slot.1 kept.2 kept.3
