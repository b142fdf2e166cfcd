use Rattle.std.proofs.Common.{◌≡◌, ◌∷◌, ◌++◌, [], ℕ, Some, refl, sym, subst, ◌≤◌, arith}
use Rattle.std.specs.Prelude.{option_map, slice_get}
use Rattle.adjusters.specs.ObjectSlots.{element_of}
use Rattle.object_meaning.specs.objects.Making.{heap_object}
use Rattle.heap_blocks.specs.Held.{IsWithin, address_of, fit_of}
use Rattle.flat_objects.specs.Memory.{Memory, Heap}
use Rattle.flat_objects.specs.Keeping.{Keeps, blocks_of}
use Rattle.flat_objects.specs.Adding.{IsAdded, with_place}
use Rattle.flat_objects.specs.Counting.{Tracks}
use Rattle.flat_objects.proofs.Placed.{IsMade, some_more}
use Rattle.flat_objects.proofs.Made.{heap_added}
use Rattle.flat_objects.proofs.Markings.{markable, no_object, placed_marks}
use Rattle.flat_objects.proofs.Frames.{frame_heap, still_memory}
use Rattle.flat_objects.proofs.memory.FlatObjects.new_object.Goals as goal

pub invariant_of-self : goal.invariant_of-self
invariant_of-self g c =
    let memory : Memory = record { bytes = c.self.inside.bytes; statics = c.self.inside.statics; locals = c.self.inside.locals; heap = c.self.inside.heap; counts = c.self.inside.counts; scopes = c.self.inside.scopes; forms = c.self.inside.forms; marks = c.self.inside.marks } in
    still_memory c.self.inside.locals_from c.self.inside.heap_from memory (record memory { bytes = c.place-placed.new.bytes; heap = c.place-placed.new.self; marks = c.mark.new.marks }) c.self.invariant
    (frame_heap memory memory c.place-placed.new.bytes c.mark.new.marks c.place-placed.new.self refl c.place-placed.ensures.bounds c.place-placed.ensures.long) refl
    (placed_marks memory.marks c.mark.new.marks c.place-placed.result c.args.size c.mark.ensures.changes (some_more c.place-placed.result (IsWithin memory.heap c.args.size) (λ addr. 32 ≤ addr) (λ addr within. omega (arith, within.start)) c.place-placed.ensures.within))

pub mark-requires-clause-forms : goal.mark-requires-clause-forms
mark-requires-clause-forms g c = c.self.invariant.forms

pub mark-requires-clause-inside : goal.mark-requires-clause-inside
mark-requires-clause-inside g c =
    let memory : Memory = record { bytes = c.self.inside.bytes; statics = c.self.inside.statics; locals = c.self.inside.locals; heap = c.self.inside.heap; counts = c.self.inside.counts; scopes = c.self.inside.scopes; forms = c.self.inside.forms; marks = c.self.inside.marks } in
    markable c.self.inside.locals_from c.self.inside.heap_from memory c.self.invariant Heap c.args.size c.place-placed.result c.place-placed.ensures.within

pub returns-clause-none : goal.returns-clause-none
returns-clause-none g c =
    let memory : Memory = record { bytes = c.self.inside.bytes; statics = c.self.inside.statics; locals = c.self.inside.locals; heap = c.self.inside.heap; counts = c.self.inside.counts; scopes = c.self.inside.scopes; forms = c.self.inside.forms; marks = c.self.inside.marks } in
    no_object c.place-placed.result memory c.args.self.now c.place-placed.new.self c.place-placed.new.bytes c.mark.new.marks c.args.size c.self.view_is c.place-placed.ensures.none c.mark.ensures.changes

pub returns-clause-place : goal.returns-clause-place
returns-clause-place g c = λ places objects keeps.
    let memory : Memory = record { bytes = c.self.inside.bytes; statics = c.self.inside.statics; locals = c.self.inside.locals; heap = c.self.inside.heap; counts = c.self.inside.counts; scopes = c.self.inside.scopes; forms = c.self.inside.forms; marks = c.self.inside.marks } in
    let same : memory ≡ c.args.self.now = c.self.view_is in
    let before = subst (λ (m : Memory). Keeps m places objects) (sym same) keeps in
    subst (λ (m : Memory). c.place-placed.result ≡ option_map (address_of m.heap) (fit_of m.heap (blocks_of m places objects Heap) c.args.size)) same
    (c.place-placed.ensures.address (blocks_of memory places objects Heap) (before.held Heap))

pub returns-clause-added : goal.returns-clause-added
returns-clause-added g c = λ places objects element keeps birth_is got.
    let memory : Memory = record { bytes = c.self.inside.bytes; statics = c.self.inside.statics; locals = c.self.inside.locals; heap = c.self.inside.heap; counts = c.self.inside.counts; scopes = c.self.inside.scopes; forms = c.self.inside.forms; marks = c.self.inside.marks } in
    let same : memory ≡ c.args.self.now = c.self.view_is in
    let before = subst (λ (m : Memory). Keeps m places objects) (sym same) keeps in
    let held = blocks_of memory places objects Heap in
    let next : Memory = record { bytes = c.place-placed.new.bytes; statics = c.self.inside.statics; locals = c.self.inside.locals; heap = c.place-placed.new.self; counts = c.self.inside.counts; scopes = c.self.inside.scopes; forms = c.self.inside.forms; marks = c.mark.new.marks } in
    let told =
    heap_added c.self.inside.locals_from c.self.inside.heap_from memory c.self.invariant places objects before c.place-placed.new.bytes c.mark.new.marks c.place-placed.new.self element c.args.size c.args.layout c.args.line c.args.birth (fit_of memory.heap held c.args.size) c.place-placed.result
    birth_is (subst (λ (m : Memory). slice_get m.forms c.args.layout ≡ Some (element_of element)) (sym same) got) c.place-placed.ensures.placed c.mark.ensures.changes (c.mark.ensures.marked (element_of element) (subst (λ (m : Memory). slice_get m.forms c.args.layout ≡ Some (element_of element)) (sym same) got))
    (c.place-placed.ensures.address held (before.held Heap)) (c.place-placed.ensures.held held (before.held Heap)) c.place-placed.ensures.bounds in
    some_more c.place-placed.result (IsMade memory next places objects (heap_object c.args.line c.args.size element)) (IsAdded next places objects (heap_object c.args.line c.args.size element)) (λ addr made. made.added) told

pub returns-clause-tracks : goal.returns-clause-tracks
returns-clause-tracks g c = λ places objects element frees keeps birth_is got tracks.
    let memory : Memory = record { bytes = c.self.inside.bytes; statics = c.self.inside.statics; locals = c.self.inside.locals; heap = c.self.inside.heap; counts = c.self.inside.counts; scopes = c.self.inside.scopes; forms = c.self.inside.forms; marks = c.self.inside.marks } in
    let same : memory ≡ c.args.self.now = c.self.view_is in
    let before = subst (λ (m : Memory). Keeps m places objects) (sym same) keeps in
    let held = blocks_of memory places objects Heap in
    let next : Memory = record { bytes = c.place-placed.new.bytes; statics = c.self.inside.statics; locals = c.self.inside.locals; heap = c.place-placed.new.self; counts = c.self.inside.counts; scopes = c.self.inside.scopes; forms = c.self.inside.forms; marks = c.mark.new.marks } in
    let told =
    heap_added c.self.inside.locals_from c.self.inside.heap_from memory c.self.invariant places objects before c.place-placed.new.bytes c.mark.new.marks c.place-placed.new.self element c.args.size c.args.layout c.args.line c.args.birth (fit_of memory.heap held c.args.size) c.place-placed.result
    birth_is (subst (λ (m : Memory). slice_get m.forms c.args.layout ≡ Some (element_of element)) (sym same) got) c.place-placed.ensures.placed c.mark.ensures.changes (c.mark.ensures.marked (element_of element) (subst (λ (m : Memory). slice_get m.forms c.args.layout ≡ Some (element_of element)) (sym same) got))
    (c.place-placed.ensures.address held (before.held Heap)) (c.place-placed.ensures.held held (before.held Heap)) c.place-placed.ensures.bounds in
    let old = subst (λ (m : Memory). Tracks m places objects frees) (sym same) tracks in
    some_more c.place-placed.result (IsMade memory next places objects (heap_object c.args.line c.args.size element)) (λ addr. Tracks next (with_place places c.args.birth addr) (objects ++ heap_object c.args.line c.args.size element ∷ []) frees)
    (λ addr made. subst (λ (b : ℕ). Tracks next (with_place places b addr) (objects ++ heap_object c.args.line c.args.size element ∷ []) frees) (sym birth_is) (made.tracks frees old)) told

pub returns-clause-frame : goal.returns-clause-frame
returns-clause-frame g c =
    let memory : Memory = record { bytes = c.self.inside.bytes; statics = c.self.inside.statics; locals = c.self.inside.locals; heap = c.self.inside.heap; counts = c.self.inside.counts; scopes = c.self.inside.scopes; forms = c.self.inside.forms; marks = c.self.inside.marks } in
    frame_heap memory c.args.self.now c.place-placed.new.bytes c.mark.new.marks c.place-placed.new.self c.self.view_is c.place-placed.ensures.bounds c.place-placed.ensures.long
