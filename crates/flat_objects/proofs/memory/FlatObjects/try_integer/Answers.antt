use Rattle.std.proofs.Common.{◌≡◌, ◌∙◌, List, ap, sym, subst, get_or}
use Rattle.adjusters.specs.ObjectSlots.{Element}
use Rattle.flat_objects.specs.Memory.{Memory, IsMemory}
use Rattle.flat_objects.proofs.Reached.{let_integers, reached_inside}
use Rattle.flat_objects.proofs.memory.FlatObjects.try_integer.Goals as goal

pub returns-clause-allows : goal.returns-clause-allows
returns-clause-allows g c = λ places objects p at.
    let form = c.index-as_slice-found.result in
    let read : form ≡ get_or c.args.self.now.forms c.in_ok-found.found.layout form = c.index-as_slice-found.is ∙ ap (λ (l : List Element). get_or l c.in_ok-found.found.layout form) c.as_slice.ensures ∙ ap (λ (m : Memory). get_or m.forms c.in_ok-found.found.layout form) c.self.view_is in
    let_integers c.args.self.now places objects p c.args.addr c.args.n c.in_ok-found.found at (c.in_ok-found.ensures.reaches places objects p at) form read (sym c.touches_slot.ensures ∙ c.if-touches_slot.false)

pub returns-clause-inside : goal.returns-clause-inside
returns-clause-inside g c =
    let kept = c.requires.kept in
    let shape = subst (IsMemory c.self.inside.locals_from c.self.inside.heap_from) c.self.view_is c.self.invariant in
    reached_inside c.args.self.now kept.0 kept.1 kept.2 c.args.addr c.args.n c.in_ok-found.found kept.3 (c.in_ok-found.ensures.reaches kept.0 kept.1 kept.2 kept.3) c.self.inside.locals_from c.self.inside.heap_from shape
