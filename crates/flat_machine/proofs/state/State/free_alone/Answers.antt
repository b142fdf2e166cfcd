use Rattle.std.proofs.Common.{◌≡◌, ◌+◌, ℕ, Err, Ok, Result, arith, refl, sym, ◌∙◌}
use Rattle.hs_base.specs.declared.values.Pointer.TheVariants.{At}
use Rattle.hs_base.specs.declared.ends.End.TheVariants as end
use Rattle.hs_base.specs.declared.ends.Reason.{Reason}
use Rattle.hs_base.specs.Freeing.{freed_at}
use Rattle.flat_machine.specs.Standing.{frees_of}
use Rattle.flat_machine.proofs.Placing.{frame_more}
use Rattle.flat_machine.proofs.Grown.{leads_to}
use Rattle.flat_machine.proofs.Halted.{refused_image}
use Rattle.flat_machine.proofs.Frees.{same_but, free_fails_in, may_free, free_refused, queued_state, mid_stands, mid_counts, mid_has, mid_room, free_goes, free_fails}
use Rattle.flat_machine.proofs.state.State.free_alone.Goals as goal

pub queue-requires : goal.queue-requires
queue-requires g c =
    let q = c.requires.standing in
    let m = c.args.self.now in
    let h = q.2.stands in
    let some = may_free q.0 q.1 m h c.args.addr (q.1.state.scopes + 1) c.open_scope.new.self.memory c.requires.address c.requires.some (omega arith) (c.open_scope.ensures.keeps q.0 q.1.state.objects h.keeps) (c.open_scope.ensures.tracks q.0 q.1.state.objects (frees_of m.pins q.1) h.tracks) in
    (q.0, q.1.state.objects, record (frees_of m.pins q.1) { scopes = q.1.state.scopes + 1 }, some.0, some.1, some.3)

-- what may be freed is not refused
both_ways : (x : Result ℕ Reason) (birth : ℕ) (why : Reason) → x ≡ Ok birth → x ≡ Err why → ⊥
both_ways x birth why one other = cc

pub may_free-requires-clause-kept : goal.may_free-requires-clause-kept
may_free-requires-clause-kept g c =
    let q = c.requires.standing in
    let to = leads_to q.0 q.1 c.args.self.now q.2.stands c.args.addr c.requires.address c.requires.some in
    (q.0, q.1.state.objects, At to.0 to.1, to.3)

pub unreachable-requires : goal.unreachable-requires
unreachable-requires g c =
    let q = c.requires.standing in
    let m = c.args.self.now in
    let h = q.2.stands in
    let some = may_free q.0 q.1 m h c.args.addr (q.1.state.scopes + 1) c.open_scope.new.self.memory c.requires.address c.requires.some (omega arith) (c.open_scope.ensures.keeps q.0 q.1.state.objects h.keeps) (c.open_scope.ensures.tracks q.0 q.1.state.objects (frees_of m.pins q.1) h.tracks) in
    let can = c.in_default.ensures q.0 q.1.state.objects some.0 some.1 (record { keeps = h.keeps; stands = some.3.at.stands }) in
    let a = c.in_default-queue.ensures.answer q.0 q.1.state.objects (record (frees_of m.pins q.1) { scopes = q.1.state.scopes + 1 }) some.0 some.1 some.3 in
    both_ways (freed_at q.1.state.objects some.0 some.1) some.0 c.in_default-queue.field-0.reason can a.0

pub returns-in-Err-clause-alone : goal.returns-in-Err-clause-alone
returns-in-Err-clause-alone g c = λ code places s has h counts.
    let m = c.args.self.now in
    let to = leads_to places s m h c.args.addr c.requires.address c.requires.some in
    free_refused places s m h c.args.line to.0 to.1 to.2 code (record { reason = c.in-Err.reason; line = c.args.line }) (c.in-Err.ensures places s.state.objects to.0 to.1 to.3) refl m

pub returns-in-Err-clause-image : goal.returns-in-Err-clause-image
returns-in-Err-clause-image g c = λ code places s has h counts.
    let m = c.args.self.now in
    let to = leads_to places s m h c.args.addr c.requires.address c.requires.some in
    refused_image code places s m m h has counts c.args.line to.0 to.1 to.2 c.in-Err.reason (c.in-Err.ensures places s.state.objects to.0 to.1 to.3) refl _

pub check-requires-clause-open : goal.check-requires-clause-open
check-requires-clause-open g c =
    let q = c.requires.standing in
    let m = c.args.self.now in
    let h = q.2.stands in
    let some = may_free q.0 q.1 m h c.args.addr (q.1.state.scopes + 1) c.open_scope.new.self.memory c.requires.address c.requires.some (omega arith) (c.open_scope.ensures.keeps q.0 q.1.state.objects h.keeps) (c.open_scope.ensures.tracks q.0 q.1.state.objects (frees_of m.pins q.1) h.tracks) in
    let a = c.in-Ok.ensures.answer q.0 q.1.state.objects (record (frees_of m.pins q.1) { scopes = q.1.state.scopes + 1 }) some.0 some.1 some.3 in
    omega (arith, a.2.tracks.open_scopes, h.tracks.open_scopes, c.requires.open)

pub check-requires-clause-standing : goal.check-requires-clause-standing
check-requires-clause-standing g c =
    let q = c.requires.standing in
    let m = c.args.self.now in
    let h = q.2.stands in
    let some = may_free q.0 q.1 m h c.args.addr (q.1.state.scopes + 1) c.open_scope.new.self.memory c.requires.address c.requires.some (omega arith) (c.open_scope.ensures.keeps q.0 q.1.state.objects h.keeps) (c.open_scope.ensures.tracks q.0 q.1.state.objects (frees_of m.pins q.1) h.tracks) in
    let same = same_but m c.open_scope.new.self c.queue.new.self c.open_scope.ensures.others c.in-Ok.ensures.others in
    let frame = frame_more m.memory c.open_scope.new.self.memory c.queue.new.self.memory c.open_scope.ensures.frame c.in-Ok.ensures.frame in
    let a = c.in-Ok.ensures.answer q.0 q.1.state.objects (record (frees_of m.pins q.1) { scopes = q.1.state.scopes + 1 }) some.0 some.1 some.3 in (
      q.0,
      queued_state q.0 q.1 m h c.args.line some.0 some.1 some.2 a.0 a.1 (q.1.state.scopes + 1) c.queue.new.self.memory a.2 c.queue.new.self same frame,
      record {
        stands = mid_stands q.0 q.1 m h c.args.line some.0 some.1 some.2 a.0 a.1 (q.1.state.scopes + 1) c.queue.new.self.memory a.2 c.queue.new.self same frame;
        counts = mid_counts q.0 q.1 m h c.args.line some.0 some.1 some.2 a.0 a.1 (q.1.state.scopes + 1) c.queue.new.self.memory a.2 c.queue.new.self same frame q.2.counts;
        room = mid_room q.0 q.1 m h c.args.line some.0 some.1 some.2 a.0 a.1 (q.1.state.scopes + 1) c.queue.new.self.memory a.2 c.queue.new.self same frame q.2.room;
      },
    )

pub returns-in-Ok-check-clause-alone : goal.returns-in-Ok-check-clause-alone
returns-in-Ok-check-clause-alone g c = λ code places s has h counts.
    let m = c.args.self.now in
    let some = may_free places s m h c.args.addr (s.state.scopes + 1) c.open_scope.new.self.memory c.requires.address c.requires.some (omega arith) (c.open_scope.ensures.keeps places s.state.objects h.keeps) (c.open_scope.ensures.tracks places s.state.objects (frees_of m.pins s) h.tracks) in
    let same = same_but m c.open_scope.new.self c.queue.new.self c.open_scope.ensures.others c.in-Ok.ensures.others in
    let frame = frame_more m.memory c.open_scope.new.self.memory c.queue.new.self.memory c.open_scope.ensures.frame c.in-Ok.ensures.frame in
    let a = c.in-Ok.ensures.answer places s.state.objects (record (frees_of m.pins s) { scopes = s.state.scopes + 1 }) some.0 some.1 some.3 in
    let none = sym h.tracks.open_scopes ∙ c.requires.open in
    let goes = c.in-Ok-check.ensures.checks code s.numbers s.state places (queued_state places s m h c.args.line some.0 some.1 some.2 a.0 a.1 (s.state.scopes + 1) c.queue.new.self.memory a.2 c.queue.new.self same frame) (mid_has places s m h c.args.line some.0 some.1 some.2 a.0 a.1 (s.state.scopes + 1) c.queue.new.self.memory a.2 c.queue.new.self same frame code has) (mid_stands places s m h c.args.line some.0 some.1 some.2 a.0 a.1 (s.state.scopes + 1) c.queue.new.self.memory a.2 c.queue.new.self same frame) (mid_counts places s m h c.args.line some.0 some.1 some.2 a.0 a.1 (s.state.scopes + 1) c.queue.new.self.memory a.2 c.queue.new.self same frame counts) in
    free_goes places s m h c.args.line some.0 some.1 some.2 a.0 a.1 (s.state.scopes + 1) c.queue.new.self.memory a.2 c.queue.new.self same frame code (omega (arith, none)) none c.check.new.self goes

pub returns-in-Err-check-clause-alone : goal.returns-in-Err-check-clause-alone
returns-in-Err-check-clause-alone g c = λ code places s has h counts.
    let m = c.args.self.now in
    let some = may_free places s m h c.args.addr (s.state.scopes + 1) c.open_scope.new.self.memory c.requires.address c.requires.some (omega arith) (c.open_scope.ensures.keeps places s.state.objects h.keeps) (c.open_scope.ensures.tracks places s.state.objects (frees_of m.pins s) h.tracks) in
    let same = same_but m c.open_scope.new.self c.queue.new.self c.open_scope.ensures.others c.in-Ok.ensures.others in
    let frame = frame_more m.memory c.open_scope.new.self.memory c.queue.new.self.memory c.open_scope.ensures.frame c.in-Ok.ensures.frame in
    let a = c.in-Ok.ensures.answer places s.state.objects (record (frees_of m.pins s) { scopes = s.state.scopes + 1 }) some.0 some.1 some.3 in
    let none = sym h.tracks.open_scopes ∙ c.requires.open in
    let fails = c.in-Err-check.ensures.checks code s.numbers s.state places (queued_state places s m h c.args.line some.0 some.1 some.2 a.0 a.1 (s.state.scopes + 1) c.queue.new.self.memory a.2 c.queue.new.self same frame) (mid_has places s m h c.args.line some.0 some.1 some.2 a.0 a.1 (s.state.scopes + 1) c.queue.new.self.memory a.2 c.queue.new.self same frame code has) (mid_stands places s m h c.args.line some.0 some.1 some.2 a.0 a.1 (s.state.scopes + 1) c.queue.new.self.memory a.2 c.queue.new.self same frame) (mid_counts places s m h c.args.line some.0 some.1 some.2 a.0 a.1 (s.state.scopes + 1) c.queue.new.self.memory a.2 c.queue.new.self same frame counts) in
    free_fails places s m h c.args.line some.0 some.1 some.2 a.0 a.1 (s.state.scopes + 1) c.queue.new.self.memory a.2 c.queue.new.self same frame code (omega (arith, none)) none c.check.new.self c.in-Err-check.bad c.in-Err-check.holder fails

pub returns-in-Err-check-clause-image : goal.returns-in-Err-check-clause-image
returns-in-Err-check-clause-image g c = λ code places s has h counts.
    let m = c.args.self.now in
    let some = may_free places s m h c.args.addr (s.state.scopes + 1) c.open_scope.new.self.memory c.requires.address c.requires.some (omega arith) (c.open_scope.ensures.keeps places s.state.objects h.keeps) (c.open_scope.ensures.tracks places s.state.objects (frees_of m.pins s) h.tracks) in
    let same = same_but m c.open_scope.new.self c.queue.new.self c.open_scope.ensures.others c.in-Ok.ensures.others in
    let frame = frame_more m.memory c.open_scope.new.self.memory c.queue.new.self.memory c.open_scope.ensures.frame c.in-Ok.ensures.frame in
    let a = c.in-Ok.ensures.answer places s.state.objects (record (frees_of m.pins s) { scopes = s.state.scopes + 1 }) some.0 some.1 some.3 in
    let none = sym h.tracks.open_scopes ∙ c.requires.open in
    let image = c.in-Err-check.ensures.image code s.numbers s.state places (queued_state places s m h c.args.line some.0 some.1 some.2 a.0 a.1 (s.state.scopes + 1) c.queue.new.self.memory a.2 c.queue.new.self same frame) (mid_has places s m h c.args.line some.0 some.1 some.2 a.0 a.1 (s.state.scopes + 1) c.queue.new.self.memory a.2 c.queue.new.self same frame code has) (mid_stands places s m h c.args.line some.0 some.1 some.2 a.0 a.1 (s.state.scopes + 1) c.queue.new.self.memory a.2 c.queue.new.self same frame) (mid_counts places s m h c.args.line some.0 some.1 some.2 a.0 a.1 (s.state.scopes + 1) c.queue.new.self.memory a.2 c.queue.new.self same frame counts) in
    free_fails_in places s m h c.args.line some.0 some.1 some.2 a.0 a.1 (s.state.scopes + 1) c.queue.new.self.memory a.2 c.queue.new.self same frame code (omega (arith, none)) none c.check.new.self (end.BadFree c.in-Err-check.bad c.in-Err-check.holder) image
