use Rattle.std.proofs.Common.{◌≡◌, ◌<◌, ◌≤◌, ◌+◌, ◌∙◌, ℕ, inl, inr, refl, sym, subst, arith}
use Rattle.std.specs.Prelude.{map}
use Rattle.std.proofs.lemmas.Bool.{cases_lt}
use Rattle.hs_base.specs.Freeing.{check_numbers}
use Rattle.flat_objects.specs.Memory.{Memory, Heap, SameFrame}
use Rattle.flat_objects.specs.Keeping.{blocks_of}
use Rattle.flat_objects.specs.Freeing.{AnswersCheck, MayLeave, number_of}
use Rattle.flat_objects.proofs.Answered.{SameSizes, inner_kept, inner_sizes, leave_frame, may_check, outer_answers, outer_sizes, queue_kept}
use Rattle.flat_objects.proofs.Frames.{marks_same, still_memory}
use Rattle.flat_objects.proofs.Working.{work_is}
use Rattle.flat_objects.proofs.memory.FlatObjects.leave.Goals as goal
use Rattle.flat_objects.proofs.memory.FlatObjects.leave.Goals.{After-leave}

pub leave-requires-clause-ready : goal.leave-requires-clause-ready
leave-requires-clause-ready g c = λ depth.
    let k = c.requires in
    let memory : Memory = record { bytes = c.self.inside.bytes; statics = c.self.inside.statics; locals = c.self.inside.locals; heap = c.self.inside.heap; counts = c.self.inside.counts; scopes = c.self.inside.scopes; forms = c.self.inside.forms; marks = c.self.inside.marks } in
    let may = subst (λ (m : Memory). MayLeave m k.0 k.1 k.2) (sym c.self.view_is) k.3 in
    (blocks_of memory k.0 k.1 Heap, map k.0 k.2.queue, may_check c.self.inside.locals_from c.self.inside.heap_from memory c.self.invariant k.0 k.1 k.2 may memory.heap memory.bytes memory.counts memory.scopes)

sizes : (g : _) (c : After-leave g) → SameSizes (record { bytes = c.self.inside.bytes; statics = c.self.inside.statics; locals = c.self.inside.locals; heap = c.self.inside.heap; counts = c.self.inside.counts; scopes = c.self.inside.scopes; forms = c.self.inside.forms; marks = c.self.inside.marks }) c.leave.new.heap c.leave.new.bytes c.leave.new.counts
sizes g c =
    let k = c.requires in
    let memory : Memory = record { bytes = c.self.inside.bytes; statics = c.self.inside.statics; locals = c.self.inside.locals; heap = c.self.inside.heap; counts = c.self.inside.counts; scopes = c.self.inside.scopes; forms = c.self.inside.forms; marks = c.self.inside.marks } in
    let may = subst (λ (m : Memory). MayLeave m k.0 k.1 k.2) (sym c.self.view_is) k.3 in
    elim (cases_lt 1 memory.scopes.depth) [
      | inl deep ↦ let same = c.leave.ensures.nothing deep in inner_sizes memory c.leave.new.heap c.leave.new.bytes c.leave.new.counts same.0 same.1 same.2
      | inr shallow ↦
          let held = blocks_of memory k.0 k.1 Heap in
          let queue = map k.0 k.2.queue in
          let depth : memory.scopes.depth ≡ 1 = omega (arith, may.in_scope, may.tracks.open_scopes) in
          let ready = may_check c.self.inside.locals_from c.self.inside.heap_from memory c.self.invariant k.0 k.1 k.2 may memory.heap memory.bytes memory.counts memory.scopes in
          outer_sizes memory c.leave.new.heap c.leave.new.bytes c.leave.new.counts c.leave.result held queue (c.leave.ensures.released held queue depth ready) c.leave.ensures.err (c.leave.ensures.counts held queue depth ready)
    ]

pub invariant_of-self : goal.invariant_of-self
invariant_of-self g c =
    let memory : Memory = record { bytes = c.self.inside.bytes; statics = c.self.inside.statics; locals = c.self.inside.locals; heap = c.self.inside.heap; counts = c.self.inside.counts; scopes = c.self.inside.scopes; forms = c.self.inside.forms; marks = c.self.inside.marks } in
    let same = sizes g c in
    still_memory c.self.inside.locals_from c.self.inside.heap_from memory (record memory { heap = c.leave.new.heap; bytes = c.leave.new.bytes; counts = c.leave.new.counts; scopes = c.leave.new.self }) c.self.invariant
    (leave_frame memory c.leave.new.heap c.leave.new.bytes c.leave.new.counts c.leave.new.self same) same.granules (marks_same memory.marks)

pub returns-clause-inner : goal.returns-clause-inner
returns-clause-inner g c = λ places objects frees told inner.
    let memory : Memory = record { bytes = c.self.inside.bytes; statics = c.self.inside.statics; locals = c.self.inside.locals; heap = c.self.inside.heap; counts = c.self.inside.counts; scopes = c.self.inside.scopes; forms = c.self.inside.forms; marks = c.self.inside.marks } in
    let may = subst (λ (m : Memory). MayLeave m places objects frees) (sym c.self.view_is) told in
    let deep : 1 < memory.scopes.depth = omega (arith, may.tracks.open_scopes) in
    let one = c.leave.ensures.inner deep in
    let two = c.leave.ensures.nothing deep in
    let kept = inner_kept c.self.inside.locals_from c.self.inside.heap_from memory c.self.invariant places objects frees may c.leave.new.heap c.leave.new.bytes c.leave.new.counts c.leave.new.self one.1 two.0 two.1 two.2 in
    (one.0, kept.0, kept.1)

pub returns-clause-outermost : goal.returns-clause-outermost
returns-clause-outermost g c = λ places objects frees told outer.
    let memory : Memory = record { bytes = c.self.inside.bytes; statics = c.self.inside.statics; locals = c.self.inside.locals; heap = c.self.inside.heap; counts = c.self.inside.counts; scopes = c.self.inside.scopes; forms = c.self.inside.forms; marks = c.self.inside.marks } in
    let may = subst (λ (m : Memory). MayLeave m places objects frees) (sym c.self.view_is) told in
    let held = blocks_of memory places objects Heap in
    let queue = map places frees.queue in
    let depth : memory.scopes.depth ≡ 1 = may.tracks.open_scopes ∙ outer in
    let ready = may_check c.self.inside.locals_from c.self.inside.heap_from memory c.self.invariant places objects frees may memory.heap memory.bytes memory.counts memory.scopes in
    let kept = queue_kept memory places objects frees may.keeps may.tracks in
    let next : Memory = record memory { heap = c.leave.new.heap; bytes = c.leave.new.bytes; counts = c.leave.new.counts; scopes = c.leave.new.self } in
    subst (λ (m : Memory). AnswersCheck m next places objects frees c.leave.result (check_numbers objects frees.queue (number_of objects frees))) c.self.view_is
    (outer_answers c.self.inside.locals_from c.self.inside.heap_from memory c.self.invariant places objects frees may c.leave.new.heap c.leave.new.bytes c.leave.new.counts c.leave.new.self c.leave.result (check_numbers objects frees.queue (number_of objects frees)) refl
    (c.leave.ensures.answer held queue depth ready) (c.leave.ensures.counts held queue depth ready) (c.leave.ensures.closed depth) (c.leave.ensures.released held queue depth ready) (c.leave.ensures.named held queue depth ready) c.leave.ensures.err
    (c.other_bytes_stay.ensures.left memory.scopes memory.heap memory.bytes c.leave.new.bytes held queue kept c.self.invariant.heap_end) (c.other_bytes_stay.ensures.beside memory.scopes memory.heap memory.bytes c.leave.new.bytes held queue kept c.self.invariant.heap_end))

pub returns-clause-frame : goal.returns-clause-frame
returns-clause-frame g c =
    let memory : Memory = record { bytes = c.self.inside.bytes; statics = c.self.inside.statics; locals = c.self.inside.locals; heap = c.self.inside.heap; counts = c.self.inside.counts; scopes = c.self.inside.scopes; forms = c.self.inside.forms; marks = c.self.inside.marks } in
    let next : Memory = record memory { heap = c.leave.new.heap; bytes = c.leave.new.bytes; counts = c.leave.new.counts; scopes = c.leave.new.self } in
    subst (λ (m : Memory). SameFrame m next) c.self.view_is (leave_frame memory c.leave.new.heap c.leave.new.bytes c.leave.new.counts c.leave.new.self (sizes g c))

pub returns-clause-idle : goal.returns-clause-idle
returns-clause-idle g c = λ places objects frees told inner.
    let memory : Memory = record { bytes = c.self.inside.bytes; statics = c.self.inside.statics; locals = c.self.inside.locals; heap = c.self.inside.heap; counts = c.self.inside.counts; scopes = c.self.inside.scopes; forms = c.self.inside.forms; marks = c.self.inside.marks } in
    let may = subst (λ (m : Memory). MayLeave m places objects frees) (sym c.self.view_is) told in
    let deep : 1 < memory.scopes.depth = omega (arith, may.tracks.open_scopes) in
    let one = c.leave.ensures.inner deep in
    one.2

pub returns-clause-work : goal.returns-clause-work
returns-clause-work g c = λ places objects frees told outer.
    let memory : Memory = record { bytes = c.self.inside.bytes; statics = c.self.inside.statics; locals = c.self.inside.locals; heap = c.self.inside.heap; counts = c.self.inside.counts; scopes = c.self.inside.scopes; forms = c.self.inside.forms; marks = c.self.inside.marks } in
    let may = subst (λ (m : Memory). MayLeave m places objects frees) (sym c.self.view_is) told in
    let held = blocks_of memory places objects Heap in
    let queue = map places frees.queue in
    let depth : memory.scopes.depth ≡ 1 = may.tracks.open_scopes ∙ outer in
    let ready = may_check c.self.inside.locals_from c.self.inside.heap_from memory c.self.invariant places objects frees may memory.heap memory.bytes memory.counts memory.scopes in
    subst (λ (n : ℕ). c.leave.new.steps ≤ c.args.steps.now + n) (work_is memory places objects may.keeps frees.queue may.tracks.queued) (c.leave.ensures.work held queue depth ready)
