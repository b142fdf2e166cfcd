use Rattle.std.proofs.Common.{◌↔◌, ◌/◌, ◌%◌, ◌<◌, ℕ, sym, subst, IsTrue, List}
use Rattle.std.specs.List.{Contains, AllPairs}
use Rattle.adjusters.specs.ObjectSlots.{Element, object_slots}
use Rattle.adjusters.proofs.Repeats.{slots_rise, no_elements, no_size, never, slot_told}
use Rattle.adjusters.proofs.Adjuster.is_slot.Goals as goal

pub returns-then-self-eq0 : goal.returns-then-self-eq0
returns-then-self-eq0 c =
    never _ c.args.offset
    (λ there.
    no_size c.self.inside.size c.self.inside.slots.items c.args.size c.args.offset c.self.invariant c.if-self-eq0.true
    (subst (λ (x : Element). Contains (object_slots x c.args.size) c.args.offset) (sym c.self.view_is) there))

pub returns-then-offset-self : goal.returns-then-offset-self
returns-then-offset-self c =
    never _ c.args.offset
    (λ there.
    no_elements c.self.inside.size c.self.inside.slots.items c.args.size c.args.offset c.self.invariant c.if-offset-self.true
    (subst (λ (x : Element). Contains (object_slots x c.args.size) c.args.offset) (sym c.self.view_is) there))

pub is_in-requires : goal.is_in-requires
is_in-requires c =
    subst (λ (ss : List ℕ). AllPairs (λ x y. x < y) ss) (sym c.deref.ensures.value) (slots_rise 0 c.self.inside.size c.self.inside.slots.items c.self.invariant)

pub returns : goal.returns
returns c =
    let told = subst (λ (ss : List ℕ). IsTrue c.is_in.result ↔ Contains ss (c.args.offset % c.self.inside.size)) c.deref.ensures.value c.is_in.ensures in
    subst (λ (x : Element). IsTrue c.is_in.result ↔ Contains (object_slots x c.args.size) c.args.offset) c.self.view_is
    (slot_told c.self.inside.size c.self.inside.slots.items (c.args.size / c.self.inside.size) c.args.offset c.is_in.result c.self.invariant c.if-offset-self.false told)
