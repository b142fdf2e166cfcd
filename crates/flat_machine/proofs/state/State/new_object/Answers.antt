use Rattle.std.proofs.Common.{◌≡◌, [], ◌∷◌, ◌++◌, Some, ap, ◌∙◌, subst, sym}
use Rattle.std.specs.Prelude.{slice_get}
use Rattle.adjusters.specs.ObjectSlots.{element_of}
use Rattle.flat_objects.specs.Memory.{Memory}
use Rattle.flat_objects.specs.Keeping.{Keeps}
use Rattle.flat_objects.specs.Counting.{Tracks}
use Rattle.flat_objects.specs.Adding.{with_place}
use Rattle.object_meaning.specs.objects.Making.{heap_object}
use Rattle.flat_machine.specs.Kept.{Kept}
use Rattle.flat_machine.proofs.state.State.new_object.Goals as goal

pub returns-in-Some-clause-added : goal.returns-in-Some-clause-added
returns-in-Some-clause-added g c = λ places objects element keeps births form.
    let memory = ap (λ (k : Kept). k.memory) c.self.view_is in
    let before = subst (λ (m : Memory). Keeps m places objects) (sym memory) keeps in
    let count = ap (λ (k : Kept). k.births) c.self.view_is ∙ births in
    let there = subst (λ (m : Memory). slice_get m.forms c.args.layout ≡ Some (element_of element)) (sym memory) form in
    c.in-Some.ensures.added places objects element before count there

pub returns-in-Some-clause-tracks : goal.returns-in-Some-clause-tracks
returns-in-Some-clause-tracks g c = λ places objects element frees keeps births form tracks.
    let memory = ap (λ (k : Kept). k.memory) c.self.view_is in
    let before = subst (λ (m : Memory). Keeps m places objects) (sym memory) keeps in
    let count = ap (λ (k : Kept). k.births) c.self.view_is ∙ births in
    let there = subst (λ (m : Memory). slice_get m.forms c.args.layout ≡ Some (element_of element)) (sym memory) form in
    let tracked = subst (λ (m : Memory). Tracks m places objects frees) (sym memory) tracks in
    let made = c.in-Some.ensures.tracks places objects element frees before count there tracked in
    subst (λ n. Tracks c.new_object.new.self (with_place places n c.in-Some.addr) (objects ++ heap_object c.args.line c.args.size element ∷ []) frees) (ap (λ (k : Kept). k.births) c.self.view_is) made
