use Rattle.std.proofs.Common.{refl, sym, subst}
use Rattle.flat_objects.specs.Memory.{Memory}
use Rattle.flat_objects.specs.EndingSteps.{AreGivenBack}
use Rattle.flat_objects.proofs.EndingBlocks.{given_next, held_object}
use Rattle.flat_objects.proofs.Frames.{marks_same, still_memory}
use Rattle.flat_objects.proofs.memory.FlatObjects.give_back.Goals as goal

pub release-requires-clause-object : goal.release-requires-clause-object
release-requires-clause-object g c =
    let k = c.requires in
    let memory : Memory = record { bytes = c.self.inside.bytes; statics = c.self.inside.statics; locals = c.self.inside.locals; heap = c.self.inside.heap; counts = c.self.inside.counts; scopes = c.self.inside.scopes; forms = c.self.inside.forms; marks = c.self.inside.marks } in
    let given = subst (λ (m : Memory). AreGivenBack m k.0 k.1 k.2 k.3 k.4) (sym c.self.view_is) k.5 in
    held_object c.self.inside.locals_from c.self.inside.heap_from memory c.self.invariant k.0 k.1 k.2 k.3 k.4 c.args.local given k.6

pub invariant_of-self : goal.invariant_of-self
invariant_of-self g c =
    let memory : Memory = record { bytes = c.self.inside.bytes; statics = c.self.inside.statics; locals = c.self.inside.locals; heap = c.self.inside.heap; counts = c.self.inside.counts; scopes = c.self.inside.scopes; forms = c.self.inside.forms; marks = c.self.inside.marks } in
    still_memory c.self.inside.locals_from c.self.inside.heap_from memory (record memory { locals = c.release.new.self; bytes = c.release.new.bytes }) c.self.invariant
    (record { statics = (refl, refl); locals = c.release.ensures.bounds; heap = (refl, refl); long = c.release.ensures.long; most = refl; forms = refl }) refl (marks_same memory.marks)

pub returns-clause-given : goal.returns-clause-given
returns-clause-given g c = λ places objects births locals k told next.
    let memory : Memory = record { bytes = c.self.inside.bytes; statics = c.self.inside.statics; locals = c.self.inside.locals; heap = c.self.inside.heap; counts = c.self.inside.counts; scopes = c.self.inside.scopes; forms = c.self.inside.forms; marks = c.self.inside.marks } in
    let given = subst (λ (m : Memory). AreGivenBack m places objects births locals k) (sym c.self.view_is) told in
    given_next c.self.inside.locals_from c.self.inside.heap_from memory c.self.invariant places objects births locals k c.args.local given next c.release.new.self c.release.new.bytes c.release.ensures.bounds c.release.ensures.held c.release.ensures.headers c.release.ensures.outside
