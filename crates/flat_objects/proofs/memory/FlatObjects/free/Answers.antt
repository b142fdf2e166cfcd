use Rattle.std.proofs.Common.{◌≡◌, length, refl, sym, subst}
use Rattle.std.specs.Prelude.{map}
use Rattle.hs_base.specs.Freeing.{freed_at}
use Rattle.flat_objects.specs.Memory.{Memory, Heap}
use Rattle.flat_objects.specs.Keeping.{blocks_of}
use Rattle.flat_objects.specs.Freeing.{AnswersFree, MayFree}
use Rattle.flat_objects.proofs.Answered.{free_answers, free_long, queue_kept}
use Rattle.flat_objects.proofs.Frames.{marks_same, still_memory}
use Rattle.flat_objects.proofs.memory.FlatObjects.free.Goals as goal

pub queue-requires-clause-kept : goal.queue-requires-clause-kept
queue-requires-clause-kept g c =
    let k = c.requires in
    let memory : Memory = record { bytes = c.self.inside.bytes; statics = c.self.inside.statics; locals = c.self.inside.locals; heap = c.self.inside.heap; counts = c.self.inside.counts; scopes = c.self.inside.scopes; forms = c.self.inside.forms; marks = c.self.inside.marks } in
    let may = subst (λ (m : Memory). MayFree m k.0 k.1 k.2 k.3 k.4 c.args.addr) (sym c.self.view_is) k.5 in
    (blocks_of memory k.0 k.1 Heap, map k.0 k.2.queue, queue_kept memory k.0 k.1 k.2 may.at.keeps may.tracks)

pub invariant_of-self : goal.invariant_of-self
invariant_of-self g c =
    let memory : Memory = record { bytes = c.self.inside.bytes; statics = c.self.inside.statics; locals = c.self.inside.locals; heap = c.self.inside.heap; counts = c.self.inside.counts; scopes = c.self.inside.scopes; forms = c.self.inside.forms; marks = c.self.inside.marks } in
    let long : length c.queue.new.bytes ≡ length memory.bytes = free_long memory c.queue.new.self c.queue.new.bytes c.args.addr c.args.line c.queue.result c.queue.ensures.bytes c.queue.ensures.err in
    still_memory c.self.inside.locals_from c.self.inside.heap_from memory (record memory { bytes = c.queue.new.bytes; scopes = c.queue.new.self }) c.self.invariant
    (record { statics = (refl, refl); locals = (refl, refl); heap = (refl, refl); long = long; most = refl; forms = refl }) refl (marks_same memory.marks)

pub returns-clause-answer : goal.returns-clause-answer
returns-clause-answer g c = λ places objects frees birth offset told.
    let memory : Memory = record { bytes = c.self.inside.bytes; statics = c.self.inside.statics; locals = c.self.inside.locals; heap = c.self.inside.heap; counts = c.self.inside.counts; scopes = c.self.inside.scopes; forms = c.self.inside.forms; marks = c.self.inside.marks } in
    let may = subst (λ (m : Memory). MayFree m places objects frees birth offset c.args.addr) (sym c.self.view_is) told in
    let next : Memory = record memory { bytes = c.queue.new.bytes; scopes = c.queue.new.self } in
    subst (λ (m : Memory). AnswersFree m next places objects frees c.args.line c.queue.result (freed_at objects birth offset)) c.self.view_is
    (free_answers memory c.queue.new.self c.queue.new.bytes c.args.addr c.args.line c.self.inside.locals_from c.self.inside.heap_from c.self.invariant places objects frees birth offset may c.queue.result
    c.queue.ensures.answer c.queue.ensures.queued c.queue.ensures.bytes c.queue.ensures.depth c.queue.ensures.err)
