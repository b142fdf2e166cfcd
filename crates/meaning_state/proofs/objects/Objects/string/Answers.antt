use Rattle.std.proofs.Common.{◌∙◌, arith}
use Rattle.std.proofs.lemmas.Result.{err_from_is_err_and}
use Rattle.object_meaning.specs.objects.Strings.{byte_behind, room_at, string_at}
use Rattle.meaning_state.proofs.Refused.{passed_on}
use Rattle.meaning_state.proofs.Texts.{read_none, read_refused, read_end, read_more, read_over}
use Rattle.meaning_state.proofs.objects.Objects.string.Goals as goal

pub loop-i-init : goal.loop-i-init
loop-i-init c = rw c.new-text.ensures (read_none c.args.self.now c.args.p)

pub returns-in_err-byte : goal.returns-in_err-byte
returns-in_err-byte c =
    let r = err_from_is_err_and c.from_residual.result c.from_residual.ensures.1 in
    let objects = c.args.self.now in
    let p = c.args.p in
    rw (r.1, r.2) (passed_on c.in_err-byte.field-0.0 (byte_behind objects p c.loop-i.i) (string_at objects p) (λ d is. c.loop-i.invariant ∙ read_refused objects p c.loop-i.text c.loop-i.i (room_at objects p) (omega arith) d is) c.in_err-byte.ensures)

pub returns-then-byte-eq0 : goal.returns-then-byte-eq0
returns-then-byte-eq0 c =
    let objects = c.args.self.now in
    let p = c.args.p in
    c.loop-i.invariant ∙ read_end objects p c.loop-i.text c.loop-i.i (room_at objects p) (omega arith) c.in_ok-byte.byte c.in_ok-byte.ensures c.if-byte-eq0.true

pub loop-i-preserved : goal.loop-i-preserved
loop-i-preserved c =
    let objects = c.args.self.now in
    let p = c.args.p in
    rw c.in_ok-push.ensures.ok (c.loop-i.invariant ∙ read_more objects p c.loop-i.text c.loop-i.i (room_at objects p) (omega arith) c.in_ok-byte.byte c.in_ok-byte.ensures c.if-byte-eq0.false)

pub returns : goal.returns
returns c =
    let objects = c.args.self.now in
    let p = c.args.p in
    c.loop-i.invariant ∙ read_over objects p c.loop-i.text c.loop-i.i (room_at objects p) (omega arith)
