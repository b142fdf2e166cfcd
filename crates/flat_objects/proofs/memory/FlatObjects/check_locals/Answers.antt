use Rattle.std.proofs.Common.{◌∙◌, sym, subst, arith}
use Rattle.flat_objects.specs.Memory.{Memory}
use Rattle.flat_objects.specs.EndingSteps.{MayCheck}
use Rattle.flat_objects.proofs.EndingCounts.{are_covered, counts_beside, few_locals, first_is}
use Rattle.flat_objects.proofs.memory.FlatObjects.check_locals.Goals as goal

pub take_off_all-requires : goal.take_off_all-requires
take_off_all-requires g c =
    let k = c.requires in
    let memory : Memory = record { bytes = c.self.inside.bytes; statics = c.self.inside.statics; locals = c.self.inside.locals; heap = c.self.inside.heap; counts = c.self.inside.counts; scopes = c.self.inside.scopes; forms = c.self.inside.forms; marks = c.self.inside.marks } in
    let may = subst (λ (m : Memory). MayCheck m k.0 k.1 k.2 k.3 c.args.locals.now) (sym c.self.view_is) k.4 in
    are_covered c.self.inside.locals_from c.self.inside.heap_from memory c.self.invariant k.0 k.1 k.2 k.3 c.args.locals.now may

pub first_held-requires-clause-inside : goal.first_held-requires-clause-inside
first_held-requires-clause-inside g c =
    let k = c.requires in
    let memory : Memory = record { bytes = c.self.inside.bytes; statics = c.self.inside.statics; locals = c.self.inside.locals; heap = c.self.inside.heap; counts = c.self.inside.counts; scopes = c.self.inside.scopes; forms = c.self.inside.forms; marks = c.self.inside.marks } in
    let may = subst (λ (m : Memory). MayCheck m k.0 k.1 k.2 k.3 c.args.locals.now) (sym c.self.view_is) k.4 in
    (are_covered c.self.inside.locals_from c.self.inside.heap_from memory c.self.invariant k.0 k.1 k.2 k.3 c.args.locals.now may).inside

pub first_held-requires-clause-granules : goal.first_held-requires-clause-granules
first_held-requires-clause-granules g c = omega (arith, c.take_off_all.ensures.long, c.self.invariant.granules)

pub first_held-requires-clause-few : goal.first_held-requires-clause-few
first_held-requires-clause-few g c =
    let k = c.requires in
    let memory : Memory = record { bytes = c.self.inside.bytes; statics = c.self.inside.statics; locals = c.self.inside.locals; heap = c.self.inside.heap; counts = c.self.inside.counts; scopes = c.self.inside.scopes; forms = c.self.inside.forms; marks = c.self.inside.marks } in
    let may = subst (λ (m : Memory). MayCheck m k.0 k.1 k.2 k.3 c.args.locals.now) (sym c.self.view_is) k.4 in
    few_locals c.self.inside.locals_from c.self.inside.heap_from memory c.self.invariant k.0 k.1 k.2 k.3 c.args.locals.now may

pub returns-clause-first : goal.returns-clause-first
returns-clause-first g c = λ places objects frees births told.
    let memory : Memory = record { bytes = c.self.inside.bytes; statics = c.self.inside.statics; locals = c.self.inside.locals; heap = c.self.inside.heap; counts = c.self.inside.counts; scopes = c.self.inside.scopes; forms = c.self.inside.forms; marks = c.self.inside.marks } in
    let may = subst (λ (m : Memory). MayCheck m places objects frees births c.args.locals.now) (sym c.self.view_is) told in
    c.first_held.ensures ∙ first_is c.self.inside.locals_from c.self.inside.heap_from memory c.self.invariant places objects frees births c.args.locals.now may c.take_off_all.new.counts c.take_off_all.ensures

pub returns-clause-counts : goal.returns-clause-counts
returns-clause-counts g c = λ places objects frees births told.
    let memory : Memory = record { bytes = c.self.inside.bytes; statics = c.self.inside.statics; locals = c.self.inside.locals; heap = c.self.inside.heap; counts = c.self.inside.counts; scopes = c.self.inside.scopes; forms = c.self.inside.forms; marks = c.self.inside.marks } in
    let may = subst (λ (m : Memory). MayCheck m places objects frees births c.args.locals.now) (sym c.self.view_is) told in
    counts_beside c.self.inside.locals_from c.self.inside.heap_from memory c.self.invariant places objects frees births c.args.locals.now may c.take_off_all.new.counts c.take_off_all.ensures
