use Rattle.std.proofs.Common.{◌∙◌, ◌∷◌, ◌++◌, length, ap, sym, subst}
use Rattle.count_table.specs.Table.{Table}
use Rattle.flat_objects.specs.Memory.{Memory}
use Rattle.flat_objects.specs.Keeping.{Keeps}
use Rattle.flat_objects.specs.Counting.{Frees, MayPin, Tracks}
use Rattle.flat_objects.proofs.Counted.{granule_inside, keeps_counting, memory_counted, more_long, more_most, pin_room_left, pinned_more, with_counts}
use Rattle.flat_objects.proofs.memory.FlatObjects.pin.Goals as goal

pub count-requires-clause-granule : goal.count-requires-clause-granule
count-requires-clause-granule g c =
    let k = c.requires in
    let memory : Memory = record { bytes = c.self.inside.bytes; statics = c.self.inside.statics; locals = c.self.inside.locals; heap = c.self.inside.heap; counts = c.self.inside.counts; scopes = c.self.inside.scopes; forms = c.self.inside.forms; marks = c.self.inside.marks } in
    let may = subst (λ (m : Memory). MayPin m k.0 k.1 k.2 k.3 c.args.addr) (sym c.self.view_is) k.4 in
    granule_inside c.self.inside.locals_from c.self.inside.heap_from memory c.self.invariant k.0 k.1 may.at.keeps k.2 may.tracks k.3 c.args.addr may.at.stands

pub count-requires-clause-room : goal.count-requires-clause-room
count-requires-clause-room g c =
    let k = c.requires in
    let memory : Memory = record { bytes = c.self.inside.bytes; statics = c.self.inside.statics; locals = c.self.inside.locals; heap = c.self.inside.heap; counts = c.self.inside.counts; scopes = c.self.inside.scopes; forms = c.self.inside.forms; marks = c.self.inside.marks } in
    let may = subst (λ (m : Memory). MayPin m k.0 k.1 k.2 k.3 c.args.addr) (sym c.self.view_is) k.4 in
    pin_room_left c.self.inside.locals_from c.self.inside.heap_from memory c.self.invariant k.0 k.1 may.at.keeps k.2 may.tracks k.3 c.args.addr may.at.stands may.room

pub invariant_of-self : goal.invariant_of-self
invariant_of-self g c =
    let memory : Memory = record { bytes = c.self.inside.bytes; statics = c.self.inside.statics; locals = c.self.inside.locals; heap = c.self.inside.heap; counts = c.self.inside.counts; scopes = c.self.inside.scopes; forms = c.self.inside.forms; marks = c.self.inside.marks } in
    memory_counted c.self.inside.locals_from c.self.inside.heap_from memory c.count.new.counts c.self.invariant
    (ap (λ (t : Table). length t.counts) c.count.ensures.count ∙ more_long c.self.inside.counts c.args.addr) (ap (λ (t : Table). t.most) c.count.ensures.count ∙ more_most c.self.inside.counts c.args.addr)

pub returns-clause-keeps : goal.returns-clause-keeps
returns-clause-keeps g c = λ places objects keeps.
    let memory : Memory = record { bytes = c.self.inside.bytes; statics = c.self.inside.statics; locals = c.self.inside.locals; heap = c.self.inside.heap; counts = c.self.inside.counts; scopes = c.self.inside.scopes; forms = c.self.inside.forms; marks = c.self.inside.marks } in
    keeps_counting memory c.count.new.counts places objects (subst (λ (m : Memory). Keeps m places objects) (sym c.self.view_is) keeps)

pub returns-clause-tracks : goal.returns-clause-tracks
returns-clause-tracks g c = λ places objects frees before behind p told pins.
    let memory : Memory = record { bytes = c.self.inside.bytes; statics = c.self.inside.statics; locals = c.self.inside.locals; heap = c.self.inside.heap; counts = c.self.inside.counts; scopes = c.self.inside.scopes; forms = c.self.inside.forms; marks = c.self.inside.marks } in
    let may = subst (λ (m : Memory). MayPin m places objects frees p c.args.addr) (sym c.self.view_is) told in
    let new : Frees = record frees { pins = before ++ p ∷ behind } in
    subst (λ (t : Table). Tracks (with_counts memory t) places objects new) (sym c.count.ensures.count)
    (pinned_more c.self.inside.locals_from c.self.inside.heap_from memory c.self.invariant places objects may.at.keeps frees may.tracks p c.args.addr may.at.stands before behind pins may.room)
