use Rattle.std.proofs.Common.{◌∙◌, arith}
use Rattle.std.proofs.lemmas.Result.{err_from_is_err_and}
use Rattle.object_meaning.specs.objects.Strings.{byte_behind, room_at, order_of}
use Rattle.meaning_state.proofs.Refused.{passed_on}
use Rattle.meaning_state.proofs.Texts.{order_refused, order_other_refused, order_here, byte_less, byte_greater, byte_same}
use Rattle.meaning_state.proofs.objects.Objects.order.Goals as goal

pub returns-in_err-one : goal.returns-in_err-one
returns-in_err-one c =
    let r = err_from_is_err_and c.from_residual.result c.from_residual.ensures.1 in
    let objects = c.args.self.now in
    let p = c.args.p in
    rw (r.1, r.2) (passed_on c.in_err-one.field-0.0 (byte_behind objects p c.loop-i.i) (order_of objects p c.args.q) (λ d is. c.loop-i.invariant ∙ order_refused objects p c.args.q c.loop-i.i (room_at objects p) (omega arith) d is) c.in_err-one.ensures)

pub returns-in_err-other : goal.returns-in_err-other
returns-in_err-other c =
    let r = err_from_is_err_and c.from_residual-in_err-other.result c.from_residual-in_err-other.ensures.1 in
    let objects = c.args.self.now in
    let p = c.args.p in
    rw (r.1, r.2) (passed_on c.in_err-other.field-0.0 (byte_behind objects c.args.q c.loop-i.i) (order_of objects p c.args.q) (λ d is. c.loop-i.invariant ∙ order_other_refused objects p c.args.q c.loop-i.i (room_at objects p) (omega arith) c.in_ok-one.one d c.in_ok-one.ensures is) c.in_err-other.ensures)

pub returns-then-one-other : goal.returns-then-one-other
returns-then-one-other c =
    let objects = c.args.self.now in
    let p = c.args.p in
    c.loop-i.invariant ∙ order_here objects p c.args.q c.loop-i.i (room_at objects p) (omega arith) _ _ c.in_ok-one.ensures c.in_ok-other.ensures ∙ byte_less c.in_ok-one.one c.in_ok-other.other _ c.if-one-other.true

pub returns-then-other-one : goal.returns-then-other-one
returns-then-other-one c =
    let objects = c.args.self.now in
    let p = c.args.p in
    c.loop-i.invariant ∙ order_here objects p c.args.q c.loop-i.i (room_at objects p) (omega arith) _ _ c.in_ok-one.ensures c.in_ok-other.ensures ∙ byte_greater c.in_ok-one.one c.in_ok-other.other _ c.if-other-one.true

pub loop-i-preserved : goal.loop-i-preserved
loop-i-preserved c =
    let objects = c.args.self.now in
    let p = c.args.p in
    c.loop-i.invariant ∙ order_here objects p c.args.q c.loop-i.i (room_at objects p) (omega arith) _ _ c.in_ok-one.ensures c.in_ok-other.ensures ∙ byte_same c.in_ok-one.one c.in_ok-other.other _ c.if-one-other.false c.if-other-one.false c.if-one-eq0.false
