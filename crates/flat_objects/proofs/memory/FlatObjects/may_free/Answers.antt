use Rattle.std.proofs.Common.{◌≡◌, ◌∙◌, length, sym, ap, subst, arith}
use Rattle.std.proofs.lemmas.Bool.{false≢true}
use Rattle.delay_scopes.specs.Queue.{header_of}
use Rattle.flat_objects.specs.Memory.{Memory, IsMemory}
use Rattle.flat_objects.proofs.HeapStarts.{start_head, try_again, try_good, try_none}
use Rattle.flat_objects.proofs.memory.FlatObjects.may_free.Goals as goal

pub returns-then-not-is_heap_start-clause-answer : goal.returns-then-not-is_heap_start-clause-answer
returns-then-not-is_heap_start-clause-answer g c = λ places objects birth offset at.
    let says = c.is_heap_start.ensures.start places objects at.keeps in
    try_none places objects birth offset c.args.addr at.stands (λ start. false≢true (sym c.if-not-is_heap_start.true ∙ says.1 start))

pub read_state-requires-clause-inside : goal.read_state-requires-clause-inside
read_state-requires-clause-inside g c =
    let places = c.requires.0 in
    let objects = c.requires.1 in
    let keeps = c.requires.3.keeps in
    let shape = subst (IsMemory c.self.inside.locals_from c.self.inside.heap_from) c.self.view_is c.self.invariant in
    let start = (c.is_heap_start.ensures.start places objects keeps).0 c.if-not-is_heap_start.false in
    let head = start_head c.args.self.now places objects keeps c.args.addr c.self.inside.locals_from c.self.inside.heap_from shape start in
    let bytes = ap (λ (m : Memory). length m.bytes) c.self.view_is in
    omega (arith, head.room, head.inside)

pub returns-then-read_state-eq-STATE_QUEUED-clause-answer : goal.returns-then-read_state-eq-STATE_QUEUED-clause-answer
returns-then-read_state-eq-STATE_QUEUED-clause-answer g c = λ places objects birth offset at.
    let shape = subst (IsMemory c.self.inside.locals_from c.self.inside.heap_from) c.self.view_is c.self.invariant in
    let start = (c.is_heap_start.ensures.start places objects at.keeps).0 c.if-not-is_heap_start.false in
    let read : c.read_state.result ≡ (header_of c.args.self.now.bytes c.args.addr).state = c.read_state.ensures.state ∙ ap (λ (m : Memory). (header_of m.bytes c.args.addr).state) c.self.view_is in
    try_again c.self.inside.locals_from c.self.inside.heap_from c.args.self.now shape places objects birth offset c.args.addr at start
    (sym read ∙ c.if-read_state-eq-STATE_QUEUED.true)

pub returns-clause-answer : goal.returns-clause-answer
returns-clause-answer g c = λ places objects birth offset at.
    let shape = subst (IsMemory c.self.inside.locals_from c.self.inside.heap_from) c.self.view_is c.self.invariant in
    let start = (c.is_heap_start.ensures.start places objects at.keeps).0 c.if-not-is_heap_start.false in
    let read : c.read_state.result ≡ (header_of c.args.self.now.bytes c.args.addr).state = c.read_state.ensures.state ∙ ap (λ (m : Memory). (header_of m.bytes c.args.addr).state) c.self.view_is in
    try_good c.self.inside.locals_from c.self.inside.heap_from c.args.self.now shape places objects birth offset c.args.addr at start
    (λ two. c.if-read_state-eq-STATE_QUEUED.false (read ∙ two))
