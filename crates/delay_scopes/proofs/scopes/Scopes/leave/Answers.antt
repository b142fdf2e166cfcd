use Rattle.std.proofs.Common.{◌≡◌, ap, arith}
use Rattle.delay_scopes.specs.Queue.{ScopesModel}
use Rattle.delay_scopes.specs.Check.{answer_of, checked}
use Rattle.delay_scopes.proofs.Ready.{held_answer, held_inside, held_some, ready_covered, ready_release, work_left}
use Rattle.delay_scopes.proofs.scopes.Scopes.leave.Goals as goal

pub check-requires-clause-covered : goal.check-requires-clause-covered
check-requires-clause-covered g c =
    let deep : c.self.inside.depth ≡ c.args.self.now.depth = ap (λ (s : ScopesModel). s.depth) c.self.view_is in
    let depth : c.args.self.now.depth ≡ 1 = omega (arith, c.if-self-gt-OUTERMOST.false, c.requires.open) in
    let ready = c.requires.ready depth in
    (ready.1, ready_covered c.args.self.now c.args.heap.now c.args.bytes.now c.args.counts.now c.args.forms.now ready.0 ready.1 ready.2)

pub overflow_sub-held : goal.overflow_sub-held
overflow_sub-held g c =
    let deep : c.self.inside.depth ≡ c.args.self.now.depth = ap (λ (s : ScopesModel). s.depth) c.self.view_is in
    let depth : c.args.self.now.depth ≡ 1 = omega (arith, c.if-self-gt-OUTERMOST.false, c.requires.open) in
    let ready = c.requires.ready depth in
    let found = c.in-Some.ensures.answer ready.1 (ready_covered c.args.self.now c.args.heap.now c.args.bytes.now c.args.counts.now c.args.forms.now ready.0 ready.1 ready.2) in
    let inside = held_inside c.args.self.now c.args.heap.now c.args.bytes.now c.args.counts.now c.args.forms.now ready.0 ready.1 ready.2 c.in-Some.held found in
    omega (arith, inside.start)

pub read_freed-requires-clause-inside : goal.read_freed-requires-clause-inside
read_freed-requires-clause-inside g c =
    let deep : c.self.inside.depth ≡ c.args.self.now.depth = ap (λ (s : ScopesModel). s.depth) c.self.view_is in
    let depth : c.args.self.now.depth ≡ 1 = omega (arith, c.if-self-gt-OUTERMOST.false, c.requires.open) in
    let ready = c.requires.ready depth in
    let found = c.in-Some.ensures.answer ready.1 (ready_covered c.args.self.now c.args.heap.now c.args.bytes.now c.args.counts.now c.args.forms.now ready.0 ready.1 ready.2) in
    let inside = held_inside c.args.self.now c.args.heap.now c.args.bytes.now c.args.counts.now c.args.forms.now ready.0 ready.1 ready.2 c.in-Some.held found in
    omega (arith, inside.inside)

pub returns-in-Some-clause-answer : goal.returns-in-Some-clause-answer
returns-in-Some-clause-answer g c = λ held queue depth ready.
    let found = c.in-Some.ensures.answer queue (ready_covered c.args.self.now c.args.heap.now c.args.bytes.now c.args.counts.now c.args.forms.now held queue ready) in
    held_answer c.args.bytes.now c.in-Some.held c.read_freed.result (checked c.args.forms.now c.args.bytes.now c.args.counts.now.counts queue) c.read_freed.ensures.freed found

pub returns-in-Some-clause-work : goal.returns-in-Some-clause-work
returns-in-Some-clause-work g c = λ held queue depth ready.
    let covered = ready_covered c.args.self.now c.args.heap.now c.args.bytes.now c.args.counts.now c.args.forms.now held queue ready in
    let found = c.in-Some.ensures.answer queue covered in
    let some = held_some c.args.self.now c.args.heap.now c.args.bytes.now c.args.counts.now c.args.forms.now held queue ready c.in-Some.held found in
    let left = work_left c.args.forms.now c.args.bytes.now queue in
    omega (arith, c.in-Some.ensures.work queue covered, c.read_freed.ensures.steps)

pub returns-in-Some-clause-counts : goal.returns-in-Some-clause-counts
returns-in-Some-clause-counts g c = λ held queue depth ready.
    c.in-Some.ensures.counts queue (ready_covered c.args.self.now c.args.heap.now c.args.bytes.now c.args.counts.now c.args.forms.now held queue ready)

pub returns-in-Some-clause-named : goal.returns-in-Some-clause-named
returns-in-Some-clause-named g c = λ held queue depth ready.
    let found = c.in-Some.ensures.answer queue (ready_covered c.args.self.now c.args.heap.now c.args.bytes.now c.args.counts.now c.args.forms.now held queue ready) in
    λ i. record (c.self.view_is i) { named = found i }

pub release_all-requires : goal.release_all-requires
release_all-requires g c =
    let deep : c.self.inside.depth ≡ c.args.self.now.depth = ap (λ (s : ScopesModel). s.depth) c.self.view_is in
    let depth : c.args.self.now.depth ≡ 1 = omega (arith, c.if-self-gt-OUTERMOST.false, c.requires.open) in
    let ready = c.requires.ready depth in
    (ready.0, ready.1, ready_release c.args.self.now c.args.heap.now c.args.bytes.now c.args.counts.now c.args.forms.now ready.0 ready.1 ready.2)

pub returns-clause-answer : goal.returns-clause-answer
returns-clause-answer g c = λ held queue depth ready.
    ap (answer_of c.args.bytes.now) (c.in_default.ensures.answer queue (ready_covered c.args.self.now c.args.heap.now c.args.bytes.now c.args.counts.now c.args.forms.now held queue ready))

pub returns-clause-work : goal.returns-clause-work
returns-clause-work g c = λ held queue depth ready.
    let covered = ready_covered c.args.self.now c.args.heap.now c.args.bytes.now c.args.counts.now c.args.forms.now held queue ready in
    let left = work_left c.args.forms.now c.args.bytes.now queue in
    let many = ready.kept.queued.many in
    omega (arith, c.in_default.ensures.work queue covered, c.release_all.ensures.work)

pub returns-clause-released : goal.returns-clause-released
returns-clause-released g c = λ held queue depth ready.
    c.release_all.ensures.released held queue (ready_release c.args.self.now c.args.heap.now c.args.bytes.now c.args.counts.now c.args.forms.now held queue ready)

pub returns-clause-counts : goal.returns-clause-counts
returns-clause-counts g c = λ held queue depth ready.
    c.in_default.ensures.counts queue (ready_covered c.args.self.now c.args.heap.now c.args.bytes.now c.args.counts.now c.args.forms.now held queue ready)
