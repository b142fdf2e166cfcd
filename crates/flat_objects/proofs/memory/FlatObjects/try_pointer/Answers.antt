use Rattle.std.proofs.Common.{◌≡◌, ◌∙◌, List, ap, subst, refl, get_or}
use Rattle.std.specs.Prelude.{Contains}
use Rattle.adjusters.specs.ObjectSlots.{Element, object_slots}
use Rattle.flat_objects.specs.Memory.{Memory, IsMemory}
use Rattle.flat_objects.proofs.Reached.{let_pointers, reached_inside, pointer_trap}
use Rattle.flat_objects.proofs.Touching.{told, told_not}
use Rattle.flat_objects.proofs.memory.FlatObjects.try_pointer.Goals as goal

pub returns-then-not-is_slot-clause-allows : goal.returns-then-not-is_slot-clause-allows
returns-then-not-is_slot-clause-allows g c = λ places objects p at.
    let form = c.index-as_slice-found.result in
    let found = c.in_ok-found.found in
    let read : form ≡ get_or c.args.self.now.forms found.layout form = c.index-as_slice-found.is ∙ ap (λ (l : List Element). get_or l found.layout form) c.as_slice.ensures ∙ ap (λ (m : Memory). get_or m.forms found.layout form) c.self.view_is in
    pointer_trap c.args.self.now places objects p c.args.addr 4 found at (c.in_ok-found.ensures.reaches places objects p at) form read refl
    (told_not c.is_slot.result (Contains (object_slots form found.size) found.offset) c.is_slot.ensures c.if-not-is_slot.true)

pub returns-clause-allows : goal.returns-clause-allows
returns-clause-allows g c = λ places objects p at.
    let form = c.index-as_slice-found.result in
    let found = c.in_ok-found.found in
    let read : form ≡ get_or c.args.self.now.forms found.layout form = c.index-as_slice-found.is ∙ ap (λ (l : List Element). get_or l found.layout form) c.as_slice.ensures ∙ ap (λ (m : Memory). get_or m.forms found.layout form) c.self.view_is in
    let_pointers c.args.self.now places objects p c.args.addr 4 found at (c.in_ok-found.ensures.reaches places objects p at) form read refl
    (told c.is_slot.result (Contains (object_slots form found.size) found.offset) c.is_slot.ensures c.if-not-is_slot.false)

pub returns-clause-inside : goal.returns-clause-inside
returns-clause-inside g c =
    let kept = c.requires in
    let shape = subst (IsMemory c.self.inside.locals_from c.self.inside.heap_from) c.self.view_is c.self.invariant in
    reached_inside c.args.self.now kept.0 kept.1 kept.2 c.args.addr 4 c.in_ok-found.found kept.3 (c.in_ok-found.ensures.reaches kept.0 kept.1 kept.2 kept.3) c.self.inside.locals_from c.self.inside.heap_from shape
