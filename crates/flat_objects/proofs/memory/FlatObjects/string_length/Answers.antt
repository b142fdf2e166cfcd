use Rattle.std.proofs.Common.{◌∙◌, ◌<◌, arith}
use Rattle.std.proofs.lemmas.Result.{err_from_is_err_and}
use Rattle.hs_base.specs.Access.{Trapped}
use Rattle.object_meaning.specs.objects.Strings.{string_at, room_at}
use Rattle.flat_objects.proofs.Reading.{count_refused, count_end, count_more, length_told, refusal_told}
use Rattle.flat_objects.proofs.memory.FlatObjects.string_length.Goals as goal

pub returns-in_err-byte_behind : goal.returns-in_err-byte_behind
returns-in_err-byte_behind g c = λ places objects p at.
    let r = err_from_is_err_and c.from_residual.result c.from_residual.ensures.1 in
    let text = c.text-text.ensures places objects p at in
    let inside : c.loop-i.i < room_at objects p = omega (arith, c.room-i-end.ensures.room places objects c.args.self.now p text) in
    let kind = c.in_err-byte_behind.field-0.0 in
    rw (r.1, r.2) (refusal_told (string_at objects p) (Trapped kind)
    (c.loop-i.invariant places objects p text ∙ count_refused objects p c.loop-i.i (room_at objects p) inside c.loop-i.i (Trapped kind) (c.in_err-byte_behind.ensures places objects p text)))

pub returns-then-branch-eq0 : goal.returns-then-branch-eq0
returns-then-branch-eq0 g c = λ places objects p at.
    let text = c.text-text.ensures places objects p at in
    let inside : c.loop-i.i < room_at objects p = omega (arith, c.room-i-end.ensures.room places objects c.args.self.now p text) in
    length_told (string_at objects p) c.loop-i.i
    (c.loop-i.invariant places objects p text ∙ count_end objects p c.loop-i.i (room_at objects p) inside c.loop-i.i c.in_ok-byte_behind.field-0 (c.in_ok-byte_behind.ensures places objects p text) c.if-branch-eq0.true)

pub loop-i-preserved : goal.loop-i-preserved
loop-i-preserved g c = λ places objects p text.
    let inside : c.loop-i.i < room_at objects p = omega (arith, c.room-i-end.ensures.room places objects c.args.self.now p text) in
    c.loop-i.invariant places objects p text ∙ count_more objects p c.loop-i.i (room_at objects p) inside c.loop-i.i c.in_ok-byte_behind.field-0 (c.in_ok-byte_behind.ensures places objects p text) c.if-branch-eq0.false
