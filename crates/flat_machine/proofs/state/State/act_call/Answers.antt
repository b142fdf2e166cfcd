use Rattle.std.proofs.Common.{◌+◌, ◌^◌, ◌<◌, ◌≤◌, Some, ap, arith, length, subst, sym}
use Rattle.flat_objects.specs.Memory.{SameFrame}
use Rattle.flat_machine.specs.Kept.{Kept, taken_by}
use Rattle.flat_machine.specs.Locals.{HasMade, MayMakeLocals}
use Rattle.flat_machine.specs.Standing.{Stands, frees_of, pinned_in}
use Rattle.flat_machine.proofs.Entered.{at_call, call_counts, call_goes, call_spent, call_too_deep, called_is, cost_registers, may_make, stands_called}
use Rattle.flat_machine.proofs.Halted.{deep_image, spent_image}
use Rattle.flat_machine.proofs.Stepped.{callee_arguments}
use Rattle.flat_machine.proofs.state.State.act_call.Goals as goal

pub returns-then-not-take_step-clause-alone : goal.returns-then-not-take_step-clause-alone
returns-then-not-take_step-clause-alone g c = λ fits places s h counts.
    call_spent c.args.code.now fits c.args.line c.args.instr c.args.callee.now c.requires.here places s c.args.self.now h c.take_step.new.self (c.take_step.ensures.no c.if-not-take_step.true).1

pub returns-then-cost-from-clause-alone : goal.returns-then-cost-from-clause-alone
returns-then-cost-from-clause-alone g c = λ fits places s h counts.
    let yes = c.take_step.ensures.yes c.if-not-take_step.false in
    call_too_deep c.args.code.now fits c.args.line c.args.instr c.args.callee.now c.requires.here places s c.args.self.now h c.take_step.new.self yes.0 yes.1 c.args.cost c.requires.cost c.take_step.new.self c.stack_left.result c.stack_left.ensures (omega (arith, c.if-cost-from.true, c.from.ensures))

pub returns-then-not-take_step-clause-image : goal.returns-then-not-take_step-clause-image
returns-then-not-take_step-clause-image g c = λ fits places s has h counts.
    let no = c.take_step.ensures.no c.if-not-take_step.true in
    spent_image c.args.code.now places s c.args.self.now c.take_step.new.self h has counts _ no.1 no.0

pub returns-then-cost-from-clause-image : goal.returns-then-cost-from-clause-image
returns-then-cost-from-clause-image g c = λ fits places s has h counts.
    let yes = c.take_step.ensures.yes c.if-not-take_step.false in
    deep_image c.args.code.now places s c.args.self.now c.take_step.new.self h has counts c.args.line c.args.instr.b s.handed yes.0 yes.1

pub pin-requires : goal.pin-requires
pin-requires g c =
    let q = c.requires.standing in
    let m = c.args.self.now in
    let yes = c.take_step.ensures.yes c.if-not-take_step.false in
    (q.0, q.1.state.objects, frees_of m.pins q.1, pinned_in m.pins q.1.state.running, call_counts q.0 q.1 m c.take_step.new.self q.2.stands q.2.counts q.2.room yes.1)

pub enter-requires-clause-point : goal.enter-requires-clause-point
enter-requires-clause-point g c =
    let m = c.args.self.now in
    let yes = c.take_step.ensures.yes c.if-not-take_step.false in
    let mid = c.take_step.new.self in
    omega (arith, c.requires.point, ap (λ (k : Kept). k.calls.running.point) yes.1, ap (λ (k : Kept). k.calls.running.point) c.pin.ensures.others)

pub enter-requires-clause-room : goal.enter-requires-clause-room
enter-requires-clause-room g c =
    let m = c.args.self.now in
    let yes = c.take_step.ensures.yes c.if-not-take_step.false in
    let mid = c.take_step.new.self in
    let used = ap (λ (k : Kept). k.calls.used) yes.1 in
    let whole = ap (λ (k : Kept). k.calls.room) yes.1 in
    let room : m.calls.used + c.args.cost ≤ m.calls.room = omega (arith, c.if-cost-from.false, c.from.ensures, c.stack_left.ensures, used, whole) in
    omega (arith, room, used, whole, ap (λ (k : Kept). k.calls.used) c.pin.ensures.others, ap (λ (k : Kept). k.calls.room) c.pin.ensures.others)

pub enter-requires-clause-cost : goal.enter-requires-clause-cost
enter-requires-clause-cost g c = omega (arith, cost_registers c.args.code.now c.args.callee.now c.args.cost c.requires.cost)

pub enter-requires-clause-arguments : goal.enter-requires-clause-arguments
enter-requires-clause-arguments g c =
    let m = c.args.self.now in
    let yes = c.take_step.ensures.yes c.if-not-take_step.false in
    let mid = c.take_step.new.self in
    let arguments = callee_arguments c.args.code.now c.args.instr m c.requires.may c.args.callee.now c.requires.here in
    omega (arith, arguments, ap (λ (k : Kept). length k.handed) yes.1, ap (λ (k : Kept). length k.handed) c.pin.ensures.others)

pub make_locals-requires-clause-may : goal.make_locals-requires-clause-may
make_locals-requires-clause-may g c =
    let m = c.args.self.now in
    let yes = c.take_step.ensures.yes c.if-not-take_step.false in
    let mid = c.take_step.new.self in
    let used = ap (λ (k : Kept). k.calls.used) yes.1 in
    let whole = ap (λ (k : Kept). k.calls.room) yes.1 in
    let room : m.calls.used + c.args.cost ≤ m.calls.room = omega (arith, c.if-cost-from.false, c.from.ensures, c.stack_left.ensures, used, whole) in
    let fit = subst (λ (k : Kept). taken_by k.calls ≤ k.calls.used) yes.1 c.all_fit.ensures.taken in
    let small = subst (λ (k : Kept). k.calls.room < 2 ^ 32) yes.1 c.all_fit.ensures.small in
    let arguments = callee_arguments c.args.code.now c.args.instr m c.requires.may c.args.callee.now c.requires.here in
    let frame = subst (λ (k : Kept). SameFrame k.memory c.pin.new.self.memory) yes.1 c.pin.ensures.frame in
    let called = called_is m mid c.pin.new.self c.enter.new.self c.args.instr.b c.args.callee.now c.args.cost yes.1 c.pin.ensures.others c.enter.ensures in
    subst (MayMakeLocals c.args.code.now c.args.callee.now) (sym called) (may_make c.args.code.now c.args.instr m c.requires.may c.args.callee.now mid.steps yes.0 c.pin.new.self.memory frame c.args.cost c.requires.cost room small fit arguments)

pub make_locals-requires-clause-standing : goal.make_locals-requires-clause-standing
make_locals-requires-clause-standing g c =
    let q = c.requires.standing in
    let m = c.args.self.now in
    let yes = c.take_step.ensures.yes c.if-not-take_step.false in
    let mid = c.take_step.new.self in
    let frame = subst (λ (k : Kept). SameFrame k.memory c.pin.new.self.memory) yes.1 c.pin.ensures.frame in
    let called = called_is m mid c.pin.new.self c.enter.new.self c.args.instr.b c.args.callee.now c.args.cost yes.1 c.pin.ensures.others c.enter.ensures in
    let may = call_counts q.0 q.1 m mid q.2.stands q.2.counts q.2.room yes.1 in
    let keeps = c.pin.ensures.keeps q.0 q.1.state.objects may.keeps in
    let tracks = c.pin.ensures.tracks q.0 q.1.state.objects (frees_of m.pins q.1) (pinned_in m.pins q.1.state.running) may in
    let at = at_call c.args.code.now c.args.line c.args.instr.b c.args.callee.now c.requires.here q.0 q.1 m q.2.stands mid.steps yes.0 (Some c.args.callee.now) q.1.state.objects in
    let stands = stands_called c.args.code.now c.args.line c.args.instr.b c.args.callee.now c.requires.here q.0 q.1 m q.2.stands mid.steps yes.0 c.pin.new.self.memory frame keeps tracks c.args.cost in
    let standing = subst (λ (k : Kept). Stands q.0 at k) (sym called) stands in
    (q.0, at, standing)

pub returns-clause-alone : goal.returns-clause-alone
returns-clause-alone g c = λ fits places s h counts.
    let m = c.args.self.now in
    let yes = c.take_step.ensures.yes c.if-not-take_step.false in
    let mid = c.take_step.new.self in
    let used = ap (λ (k : Kept). k.calls.used) yes.1 in
    let whole = ap (λ (k : Kept). k.calls.room) yes.1 in
    let room : m.calls.used + c.args.cost ≤ m.calls.room = omega (arith, c.if-cost-from.false, c.from.ensures, c.stack_left.ensures, used, whole) in
    let fit = subst (λ (k : Kept). taken_by k.calls ≤ k.calls.used) yes.1 c.all_fit.ensures.taken in
    let small = subst (λ (k : Kept). k.calls.room < 2 ^ 32) yes.1 c.all_fit.ensures.small in
    let arguments = callee_arguments c.args.code.now c.args.instr m c.requires.may c.args.callee.now c.requires.here in
    let frame = subst (λ (k : Kept). SameFrame k.memory c.pin.new.self.memory) yes.1 c.pin.ensures.frame in
    let called = called_is m mid c.pin.new.self c.enter.new.self c.args.instr.b c.args.callee.now c.args.cost yes.1 c.pin.ensures.others c.enter.ensures in
    let may = call_counts places s m mid h counts c.requires.standing.2.room yes.1 in
    let keeps = c.pin.ensures.keeps places s.state.objects may.keeps in
    let tracks = c.pin.ensures.tracks places s.state.objects (frees_of m.pins s) (pinned_in m.pins s.state.running) may in
    let at = at_call c.args.code.now c.args.line c.args.instr.b c.args.callee.now c.requires.here places s m h mid.steps yes.0 (Some c.args.callee.now) s.state.objects in
    let stands = stands_called c.args.code.now c.args.line c.args.instr.b c.args.callee.now c.requires.here places s m h mid.steps yes.0 c.pin.new.self.memory frame keeps tracks c.args.cost in
    let standing = subst (λ (k : Kept). Stands places at k) (sym called) stands in
    let made = subst (λ (k : Kept). HasMade c.args.code.now c.args.callee.now places at (length c.args.callee.now.mems) k c.make_locals.new.self) called (c.make_locals.ensures places at standing) in
    call_goes c.args.code.now c.args.line c.args.instr.b c.args.callee.now c.requires.here places s m h mid.steps yes.0 c.pin.new.self.memory frame keeps tracks c.args.cost c.requires.cost room small c.make_locals.new.self made
