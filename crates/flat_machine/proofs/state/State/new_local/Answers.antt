use Rattle.std.proofs.Common.{◌≡◌, [], ◌∷◌, ◌++◌, Some, ap, ◌∙◌, subst, sym}
use Rattle.std.specs.Prelude.{option_map, slice_get}
use Rattle.adjusters.specs.ObjectSlots.{element_of}
use Rattle.heap_blocks.specs.Held.{address_of, fit_of}
use Rattle.hs_base.specs.Object.{Local}
use Rattle.flat_objects.specs.Memory.{Locals, Memory}
use Rattle.flat_objects.specs.Keeping.{Keeps, blocks_of}
use Rattle.flat_objects.specs.Counting.{Tracks}
use Rattle.flat_objects.specs.Adding.{with_place}
use Rattle.object_meaning.specs.objects.Making.{blank}
use Rattle.flat_machine.specs.Kept.{Kept}
use Rattle.flat_machine.specs.Locals.{IsPlaceable}
use Rattle.flat_machine.proofs.MadeLocals.{no_place}
use Rattle.flat_machine.proofs.state.State.new_local.Goals as goal

pub unreachable-requires : goal.unreachable-requires
unreachable-requires g c =
    let q = subst (λ (k : Kept). IsPlaceable k.memory c.args.size) (sym c.self.view_is) c.requires.place in
    no_place c.self.inside.objects.locals (fit_of c.self.inside.objects.locals (blocks_of c.self.inside.objects q.places q.objects Locals) c.args.size) q.place q.fits (c.in-None.ensures.place q.places q.objects q.keeps)

pub returns-clause-place : goal.returns-clause-place
returns-clause-place g c = λ places objects keeps.
    let memory = ap (λ (k : Kept). k.memory) c.self.view_is in
    let before = subst (λ (m : Memory). Keeps m places objects) (sym memory) keeps in
    subst (λ (m : Memory). Some c.in-Some.addr ≡ option_map (address_of m.locals) (fit_of m.locals (blocks_of m places objects Locals) c.args.size)) memory (c.in-Some.ensures.place places objects before)

pub returns-clause-added : goal.returns-clause-added
returns-clause-added g c = λ places objects element func index keeps births form size.
    let memory = ap (λ (k : Kept). k.memory) c.self.view_is in
    let before = subst (λ (m : Memory). Keeps m places objects) (sym memory) keeps in
    let count = ap (λ (k : Kept). k.births) c.self.view_is ∙ births in
    let there = subst (λ (m : Memory). slice_get m.forms c.args.layout ≡ Some (element_of element)) (sym memory) form in
    c.in-Some.ensures.added places objects element func index before count there size

pub returns-clause-tracks : goal.returns-clause-tracks
returns-clause-tracks g c = λ places objects element func index frees keeps births form size tracks.
    let memory = ap (λ (k : Kept). k.memory) c.self.view_is in
    let before = subst (λ (m : Memory). Keeps m places objects) (sym memory) keeps in
    let count = ap (λ (k : Kept). k.births) c.self.view_is ∙ births in
    let there = subst (λ (m : Memory). slice_get m.forms c.args.layout ≡ Some (element_of element)) (sym memory) form in
    let tracked = subst (λ (m : Memory). Tracks m places objects frees) (sym memory) tracks in
    let made = c.in-Some.ensures.tracks places objects element func index frees before count there size tracked in
    subst (λ n. Tracks c.new_local.new.self (with_place places n c.in-Some.addr) (objects ++ blank (Local func index) c.args.size element.slots ∷ []) frees) (ap (λ (k : Kept). k.births) c.self.view_is) made
