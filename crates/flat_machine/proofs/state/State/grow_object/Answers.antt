use Rattle.std.proofs.Common.{[], ◌∷◌, ◌++◌, ◌∙◌, length, Ok, Err, Some, ap, subst, sym}
use Rattle.std.proofs.lemmas.Result.{err_from_is_err_and}
use Rattle.hs_base.specs.declared.values.Pointer.TheVariants.{At}
use Rattle.object_meaning.specs.objects.Making.{heap_object}
use Rattle.object_meaning.specs.objects.Values.{pointer_at}
use Rattle.object_meaning.specs.code.Freeing.{free}
use Rattle.flat_objects.specs.declared.words.Word.TheVariants.{Address}
use Rattle.flat_objects.specs.Adding.{with_place}
use Rattle.flat_machine.specs.Kept.{Kept, given}
use Rattle.flat_machine.specs.Standing.{Stands, frees_of}
use Rattle.flat_machine.specs.Loaded.{HasPins}
use Rattle.flat_machine.specs.Pinning.{CountsWell, StandsWell}
use Rattle.flat_machine.specs.Leading.{Alone}
use Rattle.flat_machine.proofs.Grown.{goes_in, refused_in, traps_in, leads_to, grow_none, grow_refused, grow_store, grow_traps, grow_goes, taken, taken_same, stands_taken, stands_well_taken, counts_taken}
use Rattle.flat_machine.proofs.state.State.grow_object.Goals as goal

pub may_free-requires-clause-kept : goal.may_free-requires-clause-kept
may_free-requires-clause-kept g c =
    let q = c.requires.standing in
    let to = leads_to q.0 q.1 c.args.self.now q.2.stands c.args.from c.requires.address c.requires.some in
    (q.0, q.1.state.objects, At to.0 to.1, to.3)

pub returns-in-Err-clause-alone : goal.returns-in-Err-clause-alone
returns-in-Err-clause-alone g c = λ code element places s has h counts form.
    let m = c.args.self.now in
    let to = leads_to places s m h c.args.from c.requires.address c.requires.some in
    grow_refused c.args.line c.args.instr.a c.args.size element places s m h c.args.from to.0 to.1 to.2 to.3.stands code c.in-Err.reason (c.in-Err.ensures places s.state.objects to.0 to.1 to.3) m

pub returns-in_default-new_object-clause-alone : goal.returns-in_default-new_object-clause-alone
returns-in_default-new_object-clause-alone g c = λ code element places s has h counts form.
    let m = c.args.self.now in
    let to = leads_to places s m h c.args.from c.requires.address c.requires.some in
    let may = c.in_default.ensures places s.state.objects to.0 to.1 to.3 in
    grow_none c.args.line c.args.instr.a c.args.size element places s m h c.args.from to.0 to.1 to.2 to.3.stands may code c.give_address.new.self (c.in_default-new_object.ensures.place places s.state.objects h.keeps) (c.give_address.ensures ∙ ap (λ k. given k (Some c.args.instr.a) (Address 0)) c.in_default-new_object.ensures.none)

pub grow-requires : goal.grow-requires
grow-requires g c =
    let q = c.requires.standing in
    let m = c.args.self.now in
    let to = leads_to q.0 q.1 m q.2.stands c.args.from c.requires.address c.requires.some in
    let may = c.in_default.ensures q.0 q.1.state.objects to.0 to.1 to.3 in
    let made = c.in-Some.ensures in
    let added = made.added q.0 q.1.state.objects c.requires.form.0 q.2.stands.keeps q.2.stands.births c.requires.form.1 in
    let tracked = made.tracks q.0 q.1.state.objects c.requires.form.0 (frees_of m.pins q.1) q.2.stands.keeps q.2.stands.births c.requires.form.1 q.2.stands.tracks in
    let store = grow_store c.args.line c.args.instr.a c.args.size c.requires.form.0 q.0 q.1 m q.2.stands c.args.from to.0 to.1 to.2 to.3.stands may c.new_object.new.self.memory c.in-Some.to made.frame added tracked made.place in
    let places' = with_place q.0 (length q.1.state.objects) c.in-Some.to in
    let objects = q.1.state.objects ++ heap_object c.args.line c.args.size c.requires.form.0 ∷ [] in
    (places', objects, frees_of m.pins q.1, length q.1.state.objects, to.0, store)

pub returns-in-Err-grow-clause-alone : goal.returns-in-Err-grow-clause-alone
returns-in-Err-grow-clause-alone g c = λ code element places s has h counts form.
    let m = c.args.self.now in
    let to = leads_to places s m h c.args.from c.requires.address c.requires.some in
    let may = c.in_default.ensures places s.state.objects to.0 to.1 to.3 in
    let made = c.in-Some.ensures in
    let added = made.added places s.state.objects element h.keeps h.births form in
    let tracked = made.tracks places s.state.objects element (frees_of m.pins s) h.keeps h.births form h.tracks in
    let store = grow_store c.args.line c.args.instr.a c.args.size element places s m h c.args.from to.0 to.1 to.2 to.3.stands may c.new_object.new.self.memory c.in-Some.to made.frame added tracked made.place in
    let places' = with_place places (length s.state.objects) c.in-Some.to in
    let objects = s.state.objects ++ heap_object c.args.line c.args.size element ∷ [] in
    let changes = c.in-Err-grow.ensures.changes places' objects (length s.state.objects) to.0 store.at store.stands in
    grow_traps c.args.line c.args.instr.a c.args.size element places s m h c.args.from to.0 to.1 to.2 to.3.stands may c.new_object.new.self.memory c.in-Some.to made.frame added tracked made.place code c.in-Err-grow.kind c.grow.new.self.memory c.grow.new.self changes

pub free-requires-clause-standing : goal.free-requires-clause-standing
free-requires-clause-standing g c =
    let q = c.requires.standing in
    let m = c.args.self.now in
    let to = leads_to q.0 q.1 m q.2.stands c.args.from c.requires.address c.requires.some in
    let may = c.in_default.ensures q.0 q.1.state.objects to.0 to.1 to.3 in
    let made = c.in-Some.ensures in
    let added = made.added q.0 q.1.state.objects c.requires.form.0 q.2.stands.keeps q.2.stands.births c.requires.form.1 in
    let tracked = made.tracks q.0 q.1.state.objects c.requires.form.0 (frees_of m.pins q.1) q.2.stands.keeps q.2.stands.births c.requires.form.1 q.2.stands.tracks in
    let store = grow_store c.args.line c.args.instr.a c.args.size c.requires.form.0 q.0 q.1 m q.2.stands c.args.from to.0 to.1 to.2 to.3.stands may c.new_object.new.self.memory c.in-Some.to made.frame added tracked made.place in
    let places' = with_place q.0 (length q.1.state.objects) c.in-Some.to in
    let objects = q.1.state.objects ++ heap_object c.args.line c.args.size c.requires.form.0 ∷ [] in
    let changes = c.in_default-grow.ensures.changes places' objects (length q.1.state.objects) to.0 store.at store.stands in
    let stays = c.grow.ensures.tracks places' objects (length q.1.state.objects) to.0 store.at store.stands in
    let same = taken_same m c.new_object.new.self c.grow.new.self c.put_address.new.self c.args.instr.a (Address c.in-Some.to) made.some c.grow.ensures.others c.put_address.ensures in
    let now = taken c.args.line c.args.instr.a c.args.size c.requires.form.0 q.0 q.1 m q.2.stands c.args.from to.0 to.1 to.2 to.3.stands may c.new_object.new.self.memory c.in-Some.to made.frame added tracked made.place c.grow.new.self.memory changes stays c.grow.ensures.frame in
    let well = stands_well_taken c.args.line c.args.instr.a c.args.size c.requires.form.0 q.0 q.1 m q.2.stands c.args.from to.0 to.1 to.2 to.3.stands may c.new_object.new.self.memory c.in-Some.to made.frame added tracked made.place c.grow.new.self.memory changes stays c.grow.ensures.frame q.2.counts q.2.room in
    (places', now, subst (λ (k : Kept). StandsWell places' now k) (sym same) well)

pub returns-in_err-free-clause-alone : goal.returns-in_err-free-clause-alone
returns-in_err-free-clause-alone g c = λ code element places s has h counts form.
    let m = c.args.self.now in
    let to = leads_to places s m h c.args.from c.requires.address c.requires.some in
    let may = c.in_default.ensures places s.state.objects to.0 to.1 to.3 in
    let made = c.in-Some.ensures in
    let added = made.added places s.state.objects element h.keeps h.births form in
    let tracked = made.tracks places s.state.objects element (frees_of m.pins s) h.keeps h.births form h.tracks in
    let store = grow_store c.args.line c.args.instr.a c.args.size element places s m h c.args.from to.0 to.1 to.2 to.3.stands may c.new_object.new.self.memory c.in-Some.to made.frame added tracked made.place in
    let places' = with_place places (length s.state.objects) c.in-Some.to in
    let objects = s.state.objects ++ heap_object c.args.line c.args.size element ∷ [] in
    let changes = c.in_default-grow.ensures.changes places' objects (length s.state.objects) to.0 store.at store.stands in
    let stays = c.grow.ensures.tracks places' objects (length s.state.objects) to.0 store.at store.stands in
    let same = taken_same m c.new_object.new.self c.grow.new.self c.put_address.new.self c.args.instr.a (Address c.in-Some.to) made.some c.grow.ensures.others c.put_address.ensures in
    let now = taken c.args.line c.args.instr.a c.args.size element places s m h c.args.from to.0 to.1 to.2 to.3.stands may c.new_object.new.self.memory c.in-Some.to made.frame added tracked made.place c.grow.new.self.memory changes stays c.grow.ensures.frame in
    let stands = subst (λ (k : Kept). Stands places' now k) (sym same) (stands_taken c.args.line c.args.instr.a c.args.size element places s m h c.args.from to.0 to.1 to.2 to.3.stands may c.new_object.new.self.memory c.in-Some.to made.frame added tracked made.place c.grow.new.self.memory changes stays c.grow.ensures.frame) in
    let counted = subst (λ (k : Kept). CountsWell k now) (sym same) (counts_taken c.args.line c.args.instr.a c.args.size element places s m h c.args.from to.0 to.1 to.2 to.3.stands may c.new_object.new.self.memory c.in-Some.to made.frame added tracked made.place c.grow.new.self.memory changes stays c.grow.ensures.frame counts) in
    let pins = subst (λ (k : Kept). HasPins code k.pins) (sym same) has in
    let freed = c.in_err-free.ensures.alone code places' now pins stands counted in
    let p = err_from_is_err_and c.from_residual.result c.from_residual.ensures.1 in
    rw (p.1, p.2) (grow_goes c.args.line c.args.instr.a c.args.size element places s m h c.args.from to.0 to.1 to.2 to.3.stands may c.new_object.new.self.memory c.in-Some.to made.frame added tracked made.place c.grow.new.self.memory changes stays c.grow.ensures.frame code c.free.new.self (Err c.in_err-free.field-0.0) (subst (λ (k : Kept). Alone places' now k (free code c.args.line (pointer_at now.handed 0) now.numbers now.state) c.free.new.self (Err c.in_err-free.field-0.0)) same freed))

pub returns-clause-alone : goal.returns-clause-alone
returns-clause-alone g c = λ code element places s has h counts form.
    let m = c.args.self.now in
    let to = leads_to places s m h c.args.from c.requires.address c.requires.some in
    let may = c.in_default.ensures places s.state.objects to.0 to.1 to.3 in
    let made = c.in-Some.ensures in
    let added = made.added places s.state.objects element h.keeps h.births form in
    let tracked = made.tracks places s.state.objects element (frees_of m.pins s) h.keeps h.births form h.tracks in
    let store = grow_store c.args.line c.args.instr.a c.args.size element places s m h c.args.from to.0 to.1 to.2 to.3.stands may c.new_object.new.self.memory c.in-Some.to made.frame added tracked made.place in
    let places' = with_place places (length s.state.objects) c.in-Some.to in
    let objects = s.state.objects ++ heap_object c.args.line c.args.size element ∷ [] in
    let changes = c.in_default-grow.ensures.changes places' objects (length s.state.objects) to.0 store.at store.stands in
    let stays = c.grow.ensures.tracks places' objects (length s.state.objects) to.0 store.at store.stands in
    let same = taken_same m c.new_object.new.self c.grow.new.self c.put_address.new.self c.args.instr.a (Address c.in-Some.to) made.some c.grow.ensures.others c.put_address.ensures in
    let now = taken c.args.line c.args.instr.a c.args.size element places s m h c.args.from to.0 to.1 to.2 to.3.stands may c.new_object.new.self.memory c.in-Some.to made.frame added tracked made.place c.grow.new.self.memory changes stays c.grow.ensures.frame in
    let stands = subst (λ (k : Kept). Stands places' now k) (sym same) (stands_taken c.args.line c.args.instr.a c.args.size element places s m h c.args.from to.0 to.1 to.2 to.3.stands may c.new_object.new.self.memory c.in-Some.to made.frame added tracked made.place c.grow.new.self.memory changes stays c.grow.ensures.frame) in
    let counted = subst (λ (k : Kept). CountsWell k now) (sym same) (counts_taken c.args.line c.args.instr.a c.args.size element places s m h c.args.from to.0 to.1 to.2 to.3.stands may c.new_object.new.self.memory c.in-Some.to made.frame added tracked made.place c.grow.new.self.memory changes stays c.grow.ensures.frame counts) in
    let pins = subst (λ (k : Kept). HasPins code k.pins) (sym same) has in
    let freed = c.in_ok-free.ensures.alone code places' now pins stands counted in
    grow_goes c.args.line c.args.instr.a c.args.size element places s m h c.args.from to.0 to.1 to.2 to.3.stands may c.new_object.new.self.memory c.in-Some.to made.frame added tracked made.place c.grow.new.self.memory changes stays c.grow.ensures.frame code c.free.new.self (Ok tt) (subst (λ (k : Kept). Alone places' now k (free code c.args.line (pointer_at now.handed 0) now.numbers now.state) c.free.new.self (Ok tt)) same freed)

-- Ends

pub returns-in-Err-clause-image : goal.returns-in-Err-clause-image
returns-in-Err-clause-image g c = λ code element places s has h counts form.
    let m = c.args.self.now in
    let to = leads_to places s m h c.args.from c.requires.address c.requires.some in
    refused_in c.args.line c.args.instr.a c.args.size element places s m h c.args.from to.0 to.1 to.2 to.3.stands code c.in-Err.reason (c.in-Err.ensures places s.state.objects to.0 to.1 to.3) has counts _

pub returns-in-Err-grow-clause-image : goal.returns-in-Err-grow-clause-image
returns-in-Err-grow-clause-image g c = λ code element places s has h counts form.
    let m = c.args.self.now in
    let to = leads_to places s m h c.args.from c.requires.address c.requires.some in
    let may = c.in_default.ensures places s.state.objects to.0 to.1 to.3 in
    let made = c.in-Some.ensures in
    let added = made.added places s.state.objects element h.keeps h.births form in
    let tracked = made.tracks places s.state.objects element (frees_of m.pins s) h.keeps h.births form h.tracks in
    let store = grow_store c.args.line c.args.instr.a c.args.size element places s m h c.args.from to.0 to.1 to.2 to.3.stands may c.new_object.new.self.memory c.in-Some.to made.frame added tracked made.place in
    let places' = with_place places (length s.state.objects) c.in-Some.to in
    let objects = s.state.objects ++ heap_object c.args.line c.args.size element ∷ [] in
    let changes = c.in-Err-grow.ensures.changes places' objects (length s.state.objects) to.0 store.at store.stands in
    traps_in c.args.line c.args.instr.a c.args.size element places s m h c.args.from to.0 to.1 to.2 to.3.stands may c.new_object.new.self.memory c.in-Some.to made.frame added tracked made.place code c.in-Err-grow.kind c.grow.new.self.memory c.new_object.new.self c.grow.new.self changes has counts made.some c.grow.ensures.others

pub returns-in_err-free-clause-image : goal.returns-in_err-free-clause-image
returns-in_err-free-clause-image g c = λ code element places s has h counts form.
    let m = c.args.self.now in
    let to = leads_to places s m h c.args.from c.requires.address c.requires.some in
    let may = c.in_default.ensures places s.state.objects to.0 to.1 to.3 in
    let made = c.in-Some.ensures in
    let added = made.added places s.state.objects element h.keeps h.births form in
    let tracked = made.tracks places s.state.objects element (frees_of m.pins s) h.keeps h.births form h.tracks in
    let store = grow_store c.args.line c.args.instr.a c.args.size element places s m h c.args.from to.0 to.1 to.2 to.3.stands may c.new_object.new.self.memory c.in-Some.to made.frame added tracked made.place in
    let places' = with_place places (length s.state.objects) c.in-Some.to in
    let objects = s.state.objects ++ heap_object c.args.line c.args.size element ∷ [] in
    let changes = c.in_default-grow.ensures.changes places' objects (length s.state.objects) to.0 store.at store.stands in
    let stays = c.grow.ensures.tracks places' objects (length s.state.objects) to.0 store.at store.stands in
    let same = taken_same m c.new_object.new.self c.grow.new.self c.put_address.new.self c.args.instr.a (Address c.in-Some.to) made.some c.grow.ensures.others c.put_address.ensures in
    let now = taken c.args.line c.args.instr.a c.args.size element places s m h c.args.from to.0 to.1 to.2 to.3.stands may c.new_object.new.self.memory c.in-Some.to made.frame added tracked made.place c.grow.new.self.memory changes stays c.grow.ensures.frame in
    let stands = subst (λ (k : Kept). Stands places' now k) (sym same) (stands_taken c.args.line c.args.instr.a c.args.size element places s m h c.args.from to.0 to.1 to.2 to.3.stands may c.new_object.new.self.memory c.in-Some.to made.frame added tracked made.place c.grow.new.self.memory changes stays c.grow.ensures.frame) in
    let counted = subst (λ (k : Kept). CountsWell k now) (sym same) (counts_taken c.args.line c.args.instr.a c.args.size element places s m h c.args.from to.0 to.1 to.2 to.3.stands may c.new_object.new.self.memory c.in-Some.to made.frame added tracked made.place c.grow.new.self.memory changes stays c.grow.ensures.frame counts) in
    let pins = subst (λ (k : Kept). HasPins code k.pins) (sym same) has in
    let freed = c.in_err-free.ensures.alone code places' now pins stands counted in
    let image = c.in_err-free.ensures.image code places' now pins stands counted in
    let p = err_from_is_err_and c.from_residual.result c.from_residual.ensures.1 in
    rw (p.1, p.2) (goes_in c.args.line c.args.instr.a c.args.size element places s m h c.args.from to.0 to.1 to.2 to.3.stands may c.new_object.new.self.memory c.in-Some.to made.frame added tracked made.place c.grow.new.self.memory changes stays c.grow.ensures.frame code c.free.new.self c.in_err-free.field-0.0 (subst (λ (k : Kept). Alone places' now k (free code c.args.line (pointer_at now.handed 0) now.numbers now.state) c.free.new.self (Err c.in_err-free.field-0.0)) same freed) image)
