use Rattle.std.proofs.Common.{◌∙◌, ◌++◌, length, ap, sym, subst}
use Rattle.count_table.specs.Table.{Table}
use Rattle.flat_objects.specs.Memory.{Memory}
use Rattle.flat_objects.specs.Keeping.{Keeps}
use Rattle.flat_objects.specs.Counting.{Frees, MayUnpin, Tracks}
use Rattle.flat_objects.proofs.Counted.{granule_inside, keeps_counting, memory_counted, less_long, less_most, pin_counts, pinned_less, with_counts}
use Rattle.flat_objects.proofs.memory.FlatObjects.unpin.Goals as goal

pub uncount-requires-clause-granule : goal.uncount-requires-clause-granule
uncount-requires-clause-granule g c =
    let k = c.requires in
    let memory : Memory = record { bytes = c.self.inside.bytes; statics = c.self.inside.statics; locals = c.self.inside.locals; heap = c.self.inside.heap; counts = c.self.inside.counts; scopes = c.self.inside.scopes; forms = c.self.inside.forms; marks = c.self.inside.marks } in
    let may = subst (λ (m : Memory). MayUnpin m k.0 k.1 k.2 k.3 k.4 k.5 c.args.addr) (sym c.self.view_is) k.6 in
    granule_inside c.self.inside.locals_from c.self.inside.heap_from memory c.self.invariant k.0 k.1 may.at.keeps k.2 may.tracks k.5 c.args.addr may.at.stands

pub uncount-requires-clause-some : goal.uncount-requires-clause-some
uncount-requires-clause-some g c =
    let k = c.requires in
    let memory : Memory = record { bytes = c.self.inside.bytes; statics = c.self.inside.statics; locals = c.self.inside.locals; heap = c.self.inside.heap; counts = c.self.inside.counts; scopes = c.self.inside.scopes; forms = c.self.inside.forms; marks = c.self.inside.marks } in
    let may = subst (λ (m : Memory). MayUnpin m k.0 k.1 k.2 k.3 k.4 k.5 c.args.addr) (sym c.self.view_is) k.6 in
    pin_counts c.self.inside.locals_from c.self.inside.heap_from memory c.self.invariant k.0 k.1 may.at.keeps k.2 may.tracks k.5 c.args.addr may.at.stands k.3 k.4 may.held

pub invariant_of-self : goal.invariant_of-self
invariant_of-self g c =
    let memory : Memory = record { bytes = c.self.inside.bytes; statics = c.self.inside.statics; locals = c.self.inside.locals; heap = c.self.inside.heap; counts = c.self.inside.counts; scopes = c.self.inside.scopes; forms = c.self.inside.forms; marks = c.self.inside.marks } in
    memory_counted c.self.inside.locals_from c.self.inside.heap_from memory c.uncount.new.counts c.self.invariant
    (ap (λ (t : Table). length t.counts) c.uncount.ensures.count ∙ less_long c.self.inside.counts c.args.addr) (ap (λ (t : Table). t.most) c.uncount.ensures.count ∙ less_most c.self.inside.counts c.args.addr)

pub returns-clause-keeps : goal.returns-clause-keeps
returns-clause-keeps g c = λ places objects keeps.
    let memory : Memory = record { bytes = c.self.inside.bytes; statics = c.self.inside.statics; locals = c.self.inside.locals; heap = c.self.inside.heap; counts = c.self.inside.counts; scopes = c.self.inside.scopes; forms = c.self.inside.forms; marks = c.self.inside.marks } in
    keeps_counting memory c.uncount.new.counts places objects (subst (λ (m : Memory). Keeps m places objects) (sym c.self.view_is) keeps)

pub returns-clause-tracks : goal.returns-clause-tracks
returns-clause-tracks g c = λ places objects frees before behind p told.
    let memory : Memory = record { bytes = c.self.inside.bytes; statics = c.self.inside.statics; locals = c.self.inside.locals; heap = c.self.inside.heap; counts = c.self.inside.counts; scopes = c.self.inside.scopes; forms = c.self.inside.forms; marks = c.self.inside.marks } in
    let may = subst (λ (m : Memory). MayUnpin m places objects frees before behind p c.args.addr) (sym c.self.view_is) told in
    let new : Frees = record frees { pins = before ++ behind } in
    subst (λ (t : Table). Tracks (with_counts memory t) places objects new) (sym c.uncount.ensures.count)
    (pinned_less c.self.inside.locals_from c.self.inside.heap_from memory c.self.invariant places objects may.at.keeps frees may.tracks p c.args.addr may.at.stands before behind may.held)
