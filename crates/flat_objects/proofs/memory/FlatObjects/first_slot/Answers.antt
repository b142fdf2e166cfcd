use Rattle.std.proofs.Common.{◌≡◌, ◌<◌, ◌+◌, ◌∙◌, inl, inr, List, get_or, length, ap, subst, arith}
use Rattle.byte_memory.specs.Bytes.{word}
use Rattle.adjusters.specs.ObjectSlots.{Element, object_slots}
use Rattle.flat_objects.specs.Memory.{Memory, IsMemory}
use Rattle.flat_objects.proofs.Owners.{own_inside}
use Rattle.flat_objects.proofs.Sought.{none_found, slot_found, slot_inside, slot_not}
use Rattle.flat_objects.proofs.memory.FlatObjects.first_slot.Goals as goal
use Rattle.flat_objects.proofs.memory.FlatObjects.first_slot.Goals.{else-target-pointer-via-then-target-pointer+else-pointer-target, else-target-pointer-via-else-target-pointer}

pub overflow_add-start : goal.overflow_add-start
overflow_add-start g c =
    let k = c.requires in
    let memory = c.args.self.now in
    let form = c.index-as_slice-layout.result in
    let shape = subst (IsMemory c.self.inside.locals_from c.self.inside.heap_from) c.self.view_is c.self.invariant in
    let read : form ≡ get_or memory.forms c.args.layout form = c.index-as_slice-layout.is ∙ ap (λ (l : List Element). get_or l c.args.layout form) c.as_slice.ensures ∙ ap (λ (m : Memory). get_or m.forms c.args.layout form) c.self.view_is in
    let less : c.loop-k.k < length (object_slots form c.args.size) = omega arith in
    let inside = slot_inside c.self.inside.locals_from c.self.inside.heap_from memory shape k.0 k.1 k.2 k.3 c.args.start c.args.size c.args.layout c.args.target c.args.target_size k.4 form read c.loop-k.k less in
    omega (arith, c.slot-slot.ensures.slot, shape.reach)

pub read-pointer-requires-clause-inside : goal.read-pointer-requires-clause-inside
read-pointer-requires-clause-inside g c =
    let k = c.requires in
    let memory = c.args.self.now in
    let form = c.index-as_slice-layout.result in
    let shape = subst (IsMemory c.self.inside.locals_from c.self.inside.heap_from) c.self.view_is c.self.invariant in
    let read : form ≡ get_or memory.forms c.args.layout form = c.index-as_slice-layout.is ∙ ap (λ (l : List Element). get_or l c.args.layout form) c.as_slice.ensures ∙ ap (λ (m : Memory). get_or m.forms c.args.layout form) c.self.view_is in
    let less : c.loop-k.k < length (object_slots form c.args.size) = omega arith in
    let inside = slot_inside c.self.inside.locals_from c.self.inside.heap_from memory shape k.0 k.1 k.2 k.3 c.args.start c.args.size c.args.layout c.args.target c.args.target_size k.4 form read c.loop-k.k less in
    let bytes = ap (λ (m : Memory). length m.bytes) c.self.view_is in
    omega (arith, c.slot-slot.ensures.slot)

pub overflow_add-target : goal.overflow_add-target
overflow_add-target g c =
    let k = c.requires in
    let shape = subst (IsMemory c.self.inside.locals_from c.self.inside.heap_from) c.self.view_is c.self.invariant in
    let inside = own_inside c.args.self.now k.0 k.1 k.4.keeps k.3 k.4.other_there c.self.inside.locals_from c.self.inside.heap_from shape in
    omega (arith, k.4.other_starts, k.4.other_size, shape.reach)

pub returns-then-pointer-target : goal.returns-then-pointer-target
returns-then-pointer-target g c = λ places objects birth other kept.
    let memory = c.args.self.now in
    let form = c.index-as_slice-layout.result in
    let shape = subst (IsMemory c.self.inside.locals_from c.self.inside.heap_from) c.self.view_is c.self.invariant in
    let read : form ≡ get_or memory.forms c.args.layout form = c.index-as_slice-layout.is ∙ ap (λ (l : List Element). get_or l c.args.layout form) c.as_slice.ensures ∙ ap (λ (m : Memory). get_or m.forms c.args.layout form) c.self.view_is in
    let less : c.loop-k.k < length (object_slots form c.args.size) = omega arith in
    let word_is : c.read-pointer.result ≡ word memory.bytes (c.args.start + c.slot-slot.result) 4 = c.read-pointer.ensures.value ∙ ap (λ (m : Memory). word m.bytes (c.args.start + c.slot-slot.result) 4) c.self.view_is in
    slot_found c.self.inside.locals_from c.self.inside.heap_from memory shape places objects birth other c.args.start c.args.size c.args.layout c.args.target c.args.target_size kept form read c.loop-k.k less
    c.slot-slot.result c.read-pointer.result c.slot-slot.ensures.slot word_is (omega arith) (omega arith) (c.loop-k.invariant places objects birth other kept)

pub loop-k-preserved : goal.loop-k-preserved
loop-k-preserved g c = λ places objects birth other kept.
    let memory = c.args.self.now in
    let form = c.index-as_slice-layout.result in
    let shape = subst (IsMemory c.self.inside.locals_from c.self.inside.heap_from) c.self.view_is c.self.invariant in
    let read : form ≡ get_or memory.forms c.args.layout form = c.index-as_slice-layout.is ∙ ap (λ (l : List Element). get_or l c.args.layout form) c.as_slice.ensures ∙ ap (λ (m : Memory). get_or m.forms c.args.layout form) c.self.view_is in
    let less : c.loop-k.k < length (object_slots form c.args.size) = omega arith in
    let word_is : c.read-pointer.result ≡ word memory.bytes (c.args.start + c.slot-slot.result) 4 = c.read-pointer.ensures.value ∙ ap (λ (m : Memory). word m.bytes (c.args.start + c.slot-slot.result) 4) c.self.view_is in
    slot_not c.self.inside.locals_from c.self.inside.heap_from memory shape places objects birth other c.args.start c.args.size c.args.layout c.args.target c.args.target_size kept form read c.loop-k.k less
    c.slot-slot.result c.read-pointer.result c.slot-slot.ensures.slot word_is
    (elim c.else-target-pointer.branch [ else-target-pointer-via-then-target-pointer+else-pointer-target w ↦ inr (omega arith) | else-target-pointer-via-else-target-pointer w ↦ inl (omega arith) ])
    (c.loop-k.invariant places objects birth other kept)

pub returns : goal.returns
returns g c = λ places objects birth other kept.
    let memory = c.args.self.now in
    let form = c.index-as_slice-layout.result in
    let shape = subst (IsMemory c.self.inside.locals_from c.self.inside.heap_from) c.self.view_is c.self.invariant in
    let read : form ≡ get_or memory.forms c.args.layout form = c.index-as_slice-layout.is ∙ ap (λ (l : List Element). get_or l c.args.layout form) c.as_slice.ensures ∙ ap (λ (m : Memory). get_or m.forms c.args.layout form) c.self.view_is in
    none_found c.self.inside.locals_from c.self.inside.heap_from memory shape places objects birth other c.args.start c.args.size c.args.layout c.args.target c.args.target_size kept form read
    c.loop-k.k (omega arith) (c.loop-k.invariant places objects birth other kept)
