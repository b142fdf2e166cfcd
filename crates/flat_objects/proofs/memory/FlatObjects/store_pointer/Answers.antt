use Rattle.std.proofs.Common.{ℕ, List, sym, subst, arith}
use Rattle.hs_base.specs.declared.values.Pointer.{Pointer}
use Rattle.byte_memory.specs.Bytes.{word}
use Rattle.hs_base.specs.Object.{Object}
use Rattle.object_meaning.specs.objects.Memory.{stored_pointer}
use Rattle.flat_objects.specs.Memory.{Memory, IsMemory, SameFrame}
use Rattle.flat_objects.specs.Standing.{IsAddressOf}
use Rattle.flat_objects.specs.Keeping.{KeepsAt}
use Rattle.flat_objects.specs.Answering.{IsChanged}
use Rattle.flat_objects.specs.Counting.{Tracks}
use Rattle.flat_objects.proofs.Counted.{MayPut, put_memory}
use Rattle.flat_objects.proofs.Frames.{frame_put}
use Rattle.flat_objects.proofs.Stored.{IsStored, same_after, stored_pointer_is, stored_requires}
use Rattle.flat_objects.proofs.memory.FlatObjects.store_pointer.Goals as goal
use Rattle.flat_objects.proofs.memory.FlatObjects.store_pointer.Goals.{In_ok-access_pointer}

may_put : (g : _) (c : In_ok-access_pointer g) → MayPut c.args.self.now.counts (word c.args.self.now.bytes c.args.addr 4) c.args.target
may_put g c =
    let k = c.requires in
    let may = k.5 in
    let allowed = c.in_ok-access_pointer.ensures.allows k.0 k.1 k.3 may.at in
    let shape = subst (IsMemory c.self.inside.locals_from c.self.inside.heap_from) c.self.view_is c.self.invariant in
    stored_requires c.self.inside.locals_from c.self.inside.heap_from c.args.self.now shape k.0 k.1 k.3 c.args.addr may.at allowed.0 k.4 c.args.target allowed.1 (omega arith) may.stands k.2 may.tracks

pub put_pointer-requires-clause-goes_from : goal.put_pointer-requires-clause-goes_from
put_pointer-requires-clause-goes_from g c = (may_put g (goal.at.put_pointer-requires-clause-goes_from g c).In_ok-access_pointer).goes_from

pub put_pointer-requires-clause-goes : goal.put_pointer-requires-clause-goes
put_pointer-requires-clause-goes g c = (may_put g (goal.at.put_pointer-requires-clause-goes g c).In_ok-access_pointer).goes

pub put_pointer-requires-clause-comes_to : goal.put_pointer-requires-clause-comes_to
put_pointer-requires-clause-comes_to g c = (may_put g (goal.at.put_pointer-requires-clause-comes_to g c).In_ok-access_pointer).comes_to

pub put_pointer-requires-clause-room : goal.put_pointer-requires-clause-room
put_pointer-requires-clause-room g c = (may_put g (goal.at.put_pointer-requires-clause-room g c).In_ok-access_pointer).room

told_stored : (g : _) (c : In_ok-access_pointer g) (places : ℕ → ℕ) (objects : List Object) (p q : Pointer) → (at : KeepsAt c.args.self.now places objects p c.args.addr) → IsAddressOf places objects q c.args.target
    → IsStored c.self.inside.locals_from c.self.inside.heap_from c.args.self.now (subst (IsMemory c.self.inside.locals_from c.self.inside.heap_from) c.self.view_is c.self.invariant) places objects p c.args.addr at (put_memory c.args.self.now c.args.addr c.args.target) (stored_pointer objects p q)
told_stored g c places objects p q at stands =
    let allowed = c.in_ok-access_pointer.ensures.allows places objects p at in
    let shape = subst (IsMemory c.self.inside.locals_from c.self.inside.heap_from) c.self.view_is c.self.invariant in
    stored_pointer_is c.self.inside.locals_from c.self.inside.heap_from c.args.self.now shape places objects p c.args.addr at allowed.0 q c.args.target allowed.1 (omega arith) stands

pub returns-clause-changes : goal.returns-clause-changes
returns-clause-changes g c = λ places objects p q at stands.
    let told = told_stored g (goal.at.returns-clause-changes g c).In_ok-access_pointer places objects p q at stands in
    (told.after, told.means, subst (λ (m : Memory). IsChanged m places objects told.after) (sym c.put_pointer.ensures.put) told.change)

pub returns-clause-tracks : goal.returns-clause-tracks
returns-clause-tracks g c = λ places objects p q at stands after frees meant tracks.
    let told = told_stored g (goal.at.returns-clause-tracks g c).In_ok-access_pointer places objects p q at stands in
    subst (λ (a : List Object). Tracks c.put_pointer.new.self places a frees) (same_after told.after after told.means meant)
    (subst (λ (m : Memory). Tracks m places told.after frees) (sym c.put_pointer.ensures.put) (told.tracks frees tracks))

pub returns-clause-frame : goal.returns-clause-frame
returns-clause-frame g c =
    subst (SameFrame c.args.self.now) (sym c.put_pointer.ensures.put) (frame_put c.args.self.now c.args.addr c.args.target c.in_ok-access_pointer.ensures.inside)
