use Rattle.std.proofs.Common.{◌+◌, sym, subst, arith}
use Rattle.hs_base.specs.declared.values.Pointer.TheVariants as pointer
use Rattle.hs_base.specs.Access.{with_object, with_pointer}
use Rattle.hs_base.specs.Object.{object_at}
use Rattle.flat_objects.specs.Memory.{Memory, IsMemory, SameFrame}
use Rattle.flat_objects.specs.Answering.{IsChanged}
use Rattle.flat_objects.specs.Counting.{Tracks}
use Rattle.flat_objects.proofs.Pointed.{slot_requires, slot_room, slot_set, slot_tracked, target_small}
use Rattle.flat_objects.proofs.Frames.{frame_put}
use Rattle.flat_objects.proofs.memory.FlatObjects.set_slot.Goals as goal

pub overflow_add-addr : goal.overflow_add-addr
overflow_add-addr g c =
    let k = c.requires in
    let shape = subst (IsMemory c.self.inside.locals_from c.self.inside.heap_from) c.self.view_is c.self.invariant in
    let room = slot_room c.self.inside.locals_from c.self.inside.heap_from c.args.self.now shape k.0 k.1 k.2 c.args.start c.args.slot k.3 c.args.target c.args.offset k.5 in
    omega (arith, shape.reach)

pub overflow_add-value : goal.overflow_add-value
overflow_add-value g c =
    let k = c.requires in
    let shape = subst (IsMemory c.self.inside.locals_from c.self.inside.heap_from) c.self.view_is c.self.invariant in
    let small = target_small c.self.inside.locals_from c.self.inside.heap_from c.args.self.now shape k.0 k.1 k.2 c.args.start c.args.slot k.3 c.args.target c.args.offset k.5 in
    omega arith

pub put_pointer-requires : goal.put_pointer-requires
put_pointer-requires g c =
    let k = c.requires in
    let shape = subst (IsMemory c.self.inside.locals_from c.self.inside.heap_from) c.self.view_is c.self.invariant in
    let may = slot_requires c.self.inside.locals_from c.self.inside.heap_from c.args.self.now shape k.0 k.1 k.2 c.args.start c.args.slot k.3 c.args.target c.args.offset k.5 k.4 k.6 in
    let room = slot_room c.self.inside.locals_from c.self.inside.heap_from c.args.self.now shape k.0 k.1 k.2 c.args.start c.args.slot k.3 c.args.target c.args.offset k.5 in
    record { inside = room; goes_from = may.goes_from; goes = may.goes; comes_to = may.comes_to; room = may.room }

pub returns-clause-changes : goal.returns-clause-changes
returns-clause-changes g c = λ places objects birth other has.
    let shape = subst (IsMemory c.self.inside.locals_from c.self.inside.heap_from) c.self.view_is c.self.invariant in
    let set = slot_set c.self.inside.locals_from c.self.inside.heap_from c.args.self.now shape places objects birth c.args.start c.args.slot other c.args.target c.args.offset has in
    subst (λ (m : Memory). IsChanged m places objects (with_object objects birth (with_pointer (object_at objects birth) c.args.slot (pointer.At other c.args.offset)))) (sym c.put_pointer.ensures.put) set

pub returns-clause-tracks : goal.returns-clause-tracks
returns-clause-tracks g c = λ places objects birth other frees has tracks.
    let shape = subst (IsMemory c.self.inside.locals_from c.self.inside.heap_from) c.self.view_is c.self.invariant in
    let set = slot_tracked c.self.inside.locals_from c.self.inside.heap_from c.args.self.now shape places objects birth c.args.start c.args.slot other c.args.target c.args.offset has frees tracks in
    subst (λ (m : Memory). Tracks m places (with_object objects birth (with_pointer (object_at objects birth) c.args.slot (pointer.At other c.args.offset))) frees) (sym c.put_pointer.ensures.put) set

pub returns-clause-frame : goal.returns-clause-frame
returns-clause-frame g c =
    let k = c.requires in
    let shape = subst (IsMemory c.self.inside.locals_from c.self.inside.heap_from) c.self.view_is c.self.invariant in
    let room = slot_room c.self.inside.locals_from c.self.inside.heap_from c.args.self.now shape k.0 k.1 k.2 c.args.start c.args.slot k.3 c.args.target c.args.offset k.5 in
    subst (SameFrame c.args.self.now) (sym c.put_pointer.ensures.put) (frame_put c.args.self.now (c.args.start + c.args.slot) (c.args.target + c.args.offset) room)
