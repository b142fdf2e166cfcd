use Rattle.std.proofs.Common.{ap, arith, refl, ◌∙◌}
use Rattle.flat_objects.specs.Memory.{Memory}
use Rattle.flat_machine.specs.Standing.{frees_of}
use Rattle.flat_machine.proofs.Halted.{refused_image}
use Rattle.flat_machine.proofs.Frees.{may_free, free_refused, free_waits}
use Rattle.flat_machine.proofs.state.State.free_in_scope.Goals as goal

pub queue-requires : goal.queue-requires
queue-requires g c =
    let q = c.requires.standing in
    let m = c.args.self.now in
    let h = q.2.stands in
    let some = may_free q.0 q.1 m h c.args.addr q.1.state.scopes m.memory c.requires.address c.requires.some (omega (arith, c.requires.open, h.tracks.open_scopes)) h.keeps h.tracks in
    (q.0, q.1.state.objects, frees_of m.pins q.1, some.0, some.1, some.3)

pub returns-in-Err-clause-alone : goal.returns-in-Err-clause-alone
returns-in-Err-clause-alone g c = λ code places s has h counts.
    let m = c.args.self.now in
    let some = may_free places s m h c.args.addr s.state.scopes m.memory c.requires.address c.requires.some (omega (arith, c.requires.open, h.tracks.open_scopes)) h.keeps h.tracks in
    let a = c.in-Err.ensures.answer places s.state.objects (frees_of m.pins s) some.0 some.1 some.3 in
    free_refused places s m h c.args.line some.0 some.1 some.2 code c.in-Err.bad a.0 a.1 c.queue.new.self

pub returns-in-Err-clause-image : goal.returns-in-Err-clause-image
returns-in-Err-clause-image g c = λ code places s has h counts.
    let m = c.args.self.now in
    let some = may_free places s m h c.args.addr s.state.scopes m.memory c.requires.address c.requires.some (omega (arith, c.requires.open, h.tracks.open_scopes)) h.keeps h.tracks in
    let a = c.in-Err.ensures.answer places s.state.objects (frees_of m.pins s) some.0 some.1 some.3 in
    let same = c.queue.ensures.others ∙ ap (λ (memory : Memory). record m { memory = memory }) a.2 in
    refused_image code places s m c.queue.new.self h has counts c.args.line some.0 some.1 some.2 c.in-Err.bad.reason a.0 same _

pub returns-clause-alone : goal.returns-clause-alone
returns-clause-alone g c = λ code places s has h counts.
    let m = c.args.self.now in
    let some = may_free places s m h c.args.addr s.state.scopes m.memory c.requires.address c.requires.some (omega (arith, c.requires.open, h.tracks.open_scopes)) h.keeps h.tracks in
    let a = c.in_default.ensures.answer places s.state.objects (frees_of m.pins s) some.0 some.1 some.3 in
    free_waits places s m h c.args.line some.0 some.1 some.2 a.0 a.1 s.state.scopes c.queue.new.self.memory a.2 c.queue.new.self c.in_default.ensures.others c.in_default.ensures.frame code c.go_on.new.self refl (omega (arith, c.requires.open, h.tracks.open_scopes)) c.go_on.ensures
