use Rattle.std.proofs.Common.{◌∙◌, refl, sym, arith}
use Rattle.std.proofs.lemmas.Bool.{false≢true}
use Rattle.delay_scopes.proofs.Queueing.{kept_after, last_fits, last_inside, queued_now, room_in_queue}
use Rattle.delay_scopes.proofs.Starts.{start_block}
use Rattle.delay_scopes.proofs.scopes.Scopes.queue.Goals as goal

pub returns-then-not-is_start-clause-answer : goal.returns-then-not-is_start-clause-answer
returns-then-not-is_start-clause-answer g c = λ held holds. (refl, (λ start. false≢true (sym c.if-not-is_start.true ∙ (c.is_start.ensures.start held holds).1 start)))

pub overflow_sub-block : goal.overflow_sub-block
overflow_sub-block g c =
    let start = (c.is_start.ensures.start c.requires.kept.0 c.requires.kept.2.holds).0 c.if-not-is_start.false in
    omega (arith, start.address)

pub read_state-requires-clause-inside : goal.read_state-requires-clause-inside
read_state-requires-clause-inside g c =
    let start = (c.is_start.ensures.start c.requires.kept.0 c.requires.kept.2.holds).0 c.if-not-is_start.false in
    let block = start_block c.args.heap.now c.requires.kept.0 c.args.addr c.requires.kept.2.holds start in
    omega (arith, start.address, block.within, block.room, c.requires.reach)

pub write_queued-requires-clause-inside : goal.write_queued-requires-clause-inside
write_queued-requires-clause-inside g c =
    let start = (c.is_start.ensures.start c.requires.kept.0 c.requires.kept.2.holds).0 c.if-not-is_start.false in
    let block = start_block c.args.heap.now c.requires.kept.0 c.args.addr c.requires.kept.2.holds start in
    omega (arith, start.address, block.within, block.room, c.requires.reach)

pub append-requires-clause-inside : goal.append-requires-clause-inside
append-requires-clause-inside g c = λ some.
    let start = (c.is_start.ensures.start c.requires.kept.0 c.requires.kept.2.holds).0 c.if-not-is_start.false in
    let inside = last_inside c.args.self.now c.args.heap.now c.args.bytes.now c.requires.kept.0 c.requires.kept.1 c.args.addr c.args.line c.requires.kept.2 start c.requires.reach some in
    omega (arith, c.write_queued.ensures.outside.long)

pub append-requires-clause-fits : goal.append-requires-clause-fits
append-requires-clause-fits g c = λ some.
    let start = (c.is_start.ensures.start c.requires.kept.0 c.requires.kept.2.holds).0 c.if-not-is_start.false in
    last_fits c.args.self.now c.args.heap.now c.args.bytes.now c.requires.kept.0 c.requires.kept.1 c.args.addr c.args.line c.requires.kept.2 start c.requires.reach some

pub append-requires-clause-room : goal.append-requires-clause-room
append-requires-clause-room g c =
    let start = (c.is_start.ensures.start c.requires.kept.0 c.requires.kept.2.holds).0 c.if-not-is_start.false in
    room_in_queue c.args.self.now c.args.heap.now c.args.bytes.now c.requires.kept.0 c.requires.kept.1 c.args.addr c.args.line c.requires.kept.2 start c.requires.reach c.is_start.ensures.reach
    (λ e. c.if-read_state-eq-STATE_QUEUED.false (c.read_state.ensures.state ∙ e))

pub returns-clause-answer : goal.returns-clause-answer
returns-clause-answer g c = λ held holds.
    ((c.is_start.ensures.start held holds).0 c.if-not-is_start.false, (λ e. c.if-read_state-eq-STATE_QUEUED.false (c.read_state.ensures.state ∙ e)))

pub returns-clause-queued : goal.returns-clause-queued
returns-clause-queued g c = λ held queue kept.
    let start = (c.is_start.ensures.start held kept.holds).0 c.if-not-is_start.false in
    kept_after c.args.self.now c.args.heap.now c.args.bytes.now held queue c.args.addr c.args.line kept start c.requires.reach c.is_start.ensures.reach
    (λ e. c.if-read_state-eq-STATE_QUEUED.false (c.read_state.ensures.state ∙ e))
    c.a_header_stays.ensures.changed c.headers_may_be_written.ensures c.changes_widen.ensures
    c.write_queued.new.bytes c.write_queued.ensures.header c.write_queued.ensures.outside
    c.append.new.self c.append.new.bytes c.append.ensures.appended c.append.ensures.alone c.append.ensures.link c.append.ensures.outside

pub returns-clause-bytes : goal.returns-clause-bytes
returns-clause-bytes g c =
    let held = c.requires.kept.0 in
    let kept = c.requires.kept.2 in
    let start = (c.is_start.ensures.start held kept.holds).0 c.if-not-is_start.false in
    queued_now c.args.self.now c.args.heap.now c.args.bytes.now held c.requires.kept.1 c.args.addr c.args.line kept start c.requires.reach c.is_start.ensures.reach
    (λ e. c.if-read_state-eq-STATE_QUEUED.false (c.read_state.ensures.state ∙ e))
    c.a_header_stays.ensures.changed c.headers_may_be_written.ensures c.changes_widen.ensures
    c.write_queued.new.bytes c.write_queued.ensures.header c.write_queued.ensures.outside
    c.append.new.self c.append.new.bytes c.append.ensures.appended c.append.ensures.alone c.append.ensures.link c.append.ensures.outside
