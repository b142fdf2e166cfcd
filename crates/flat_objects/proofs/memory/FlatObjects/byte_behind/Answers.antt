use Rattle.std.proofs.Common.{◌≡◌, ◌∙◌, ◌+◌, List, Option, get_or, length, ap, sym, subst, arith}
use Rattle.byte_memory.specs.Bytes.{word}
use Rattle.flat_objects.specs.declared.finding.Found.{Found}
use Rattle.adjusters.specs.ObjectSlots.{Element}
use Rattle.flat_objects.specs.Memory.{Memory, IsMemory}
use Rattle.flat_objects.specs.Texts.{KeepsText}
use Rattle.flat_objects.proofs.Behind.{behind_inside, behind_is}
use Rattle.flat_objects.proofs.memory.FlatObjects.byte_behind.Goals as goal

pub overflow_add-found : goal.overflow_add-found
overflow_add-found g c =
    let memory = c.args.self.now in
    let found = c.in-Some.found in
    let k = c.requires in
    let kept = subst (λ (t : Option Found). KeepsText memory k.0 k.1 k.2 t) c.in-Some.is k.3 in
    let shape = subst (IsMemory c.self.inside.locals_from c.self.inside.heap_from) c.self.view_is c.self.invariant in
    let inside = behind_inside c.self.inside.locals_from c.self.inside.heap_from memory shape k.0 k.1 k.2 found kept c.args.i (omega (arith, c.from.ensures)) in
    omega (arith, shape.reach)

pub read-requires-clause-inside : goal.read-requires-clause-inside
read-requires-clause-inside g c =
    let memory = c.args.self.now in
    let found = c.in-Some.found in
    let k = c.requires in
    let kept = subst (λ (t : Option Found). KeepsText memory k.0 k.1 k.2 t) c.in-Some.is k.3 in
    let shape = subst (IsMemory c.self.inside.locals_from c.self.inside.heap_from) c.self.view_is c.self.invariant in
    let inside = behind_inside c.self.inside.locals_from c.self.inside.heap_from memory shape k.0 k.1 k.2 found kept c.args.i (omega (arith, c.from.ensures)) in
    let bytes : length c.self.inside.bytes ≡ length memory.bytes = ap (λ (m : Memory). length m.bytes) c.self.view_is in
    omega arith

pub returns : goal.returns
returns g c = λ places objects p text.
    let memory = c.args.self.now in
    let found = c.in-Some.found in
    let kept = subst (λ (t : Option Found). KeepsText memory places objects p t) c.in-Some.is text in
    let shape = subst (IsMemory c.self.inside.locals_from c.self.inside.heap_from) c.self.view_is c.self.invariant in
    let form = c.index-as_slice-found.result in
    let read : form ≡ get_or memory.forms found.layout form = c.index-as_slice-found.is ∙ ap (λ (l : List Element). get_or l found.layout form) c.as_slice.ensures ∙ ap (λ (m : Memory). get_or m.forms found.layout form) c.self.view_is in
    behind_is c.self.inside.locals_from c.self.inside.heap_from memory shape places objects p found kept c.args.i (omega (arith, c.from.ensures)) form c.read.result read
    (sym c.touches_slot.ensures ∙ c.if-touches_slot.false) (c.read.ensures.value ∙ ap (λ (m : Memory). word m.bytes (found.start + (found.offset + c.args.i)) 1) c.self.view_is)
