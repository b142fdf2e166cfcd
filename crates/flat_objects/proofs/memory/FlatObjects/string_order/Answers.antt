use Rattle.std.proofs.Common.{◌∙◌, ◌+◌, ◌-◌, ◌<◌, arith}
use Rattle.std.proofs.lemmas.Result.{err_from_is_err_and}
use Rattle.hs_base.specs.Access.{Trapped}
use Rattle.object_meaning.specs.objects.Strings.{order_from, room_at}
use Rattle.flat_objects.proofs.Reading.{order_refused, order_other_refused, order_here, byte_less, byte_greater, byte_zero, byte_same}
use Rattle.flat_objects.proofs.memory.FlatObjects.string_order.Goals as goal

pub byte_behind-requires-in-loop-i : goal.byte_behind-requires-in-loop-i
byte_behind-requires-in-loop-i g c =
    let k = c.requires.other in
    (k.0, k.1, k.2, c.text-second.ensures k.0 k.1 k.2 k.3)

pub returns-in_err-one-clause-orders : goal.returns-in_err-one-clause-orders
returns-in_err-one-clause-orders g c = λ places objects a b at other.
    let r = err_from_is_err_and c.from_residual.result c.from_residual.ensures.1 in
    let first = c.text-first.ensures places objects a at in
    let second = c.text-second.ensures places objects b (record { keeps = at.keeps; stands = other }) in
    let room = room_at objects a in
    let inside : c.loop-i.i < room = omega (arith, c.room-i-end.ensures.room places objects c.args.self.now a first) in
    let kind = c.in_err-one.field-0.0 in
    rw (r.1, r.2) (c.loop-i.invariant places objects a b first second ∙ order_refused objects a b c.loop-i.i room inside (Trapped kind) (c.in_err-one.ensures places objects a first))

pub returns-in_err-other-clause-orders : goal.returns-in_err-other-clause-orders
returns-in_err-other-clause-orders g c = λ places objects a b at other.
    let r = err_from_is_err_and c.from_residual-in_err-other.result c.from_residual-in_err-other.ensures.1 in
    let first = c.text-first.ensures places objects a at in
    let second = c.text-second.ensures places objects b (record { keeps = at.keeps; stands = other }) in
    let room = room_at objects a in
    let inside : c.loop-i.i < room = omega (arith, c.room-i-end.ensures.room places objects c.args.self.now a first) in
    let kind = c.in_err-other.field-0.0 in
    rw (r.1, r.2) (c.loop-i.invariant places objects a b first second ∙ order_other_refused objects a b c.loop-i.i room inside c.in_ok-one.one (Trapped kind) (c.in_ok-one.ensures places objects a first) (c.in_err-other.ensures places objects b second))

pub returns-then-one-other-clause-orders : goal.returns-then-one-other-clause-orders
returns-then-one-other-clause-orders g c = λ places objects a b at other.
    let first = c.text-first.ensures places objects a at in
    let second = c.text-second.ensures places objects b (record { keeps = at.keeps; stands = other }) in
    let room = room_at objects a in
    let inside : c.loop-i.i < room = omega (arith, c.room-i-end.ensures.room places objects c.args.self.now a first) in
    c.loop-i.invariant places objects a b first second
    ∙ order_here objects a b c.loop-i.i room inside c.in_ok-one.one c.in_ok-other.other (c.in_ok-one.ensures places objects a first) (c.in_ok-other.ensures places objects b second)
    ∙ byte_less c.in_ok-one.one c.in_ok-other.other (order_from objects a b (c.loop-i.i + 1) (room - (c.loop-i.i + 1))) c.if-one-other.true

pub returns-then-other-one-clause-orders : goal.returns-then-other-one-clause-orders
returns-then-other-one-clause-orders g c = λ places objects a b at other.
    let first = c.text-first.ensures places objects a at in
    let second = c.text-second.ensures places objects b (record { keeps = at.keeps; stands = other }) in
    let room = room_at objects a in
    let inside : c.loop-i.i < room = omega (arith, c.room-i-end.ensures.room places objects c.args.self.now a first) in
    c.loop-i.invariant places objects a b first second
    ∙ order_here objects a b c.loop-i.i room inside c.in_ok-one.one c.in_ok-other.other (c.in_ok-one.ensures places objects a first) (c.in_ok-other.ensures places objects b second)
    ∙ byte_greater c.in_ok-one.one c.in_ok-other.other (order_from objects a b (c.loop-i.i + 1) (room - (c.loop-i.i + 1))) c.if-other-one.true

pub returns-then-one-eq0-clause-orders : goal.returns-then-one-eq0-clause-orders
returns-then-one-eq0-clause-orders g c = λ places objects a b at other.
    let first = c.text-first.ensures places objects a at in
    let second = c.text-second.ensures places objects b (record { keeps = at.keeps; stands = other }) in
    let room = room_at objects a in
    let inside : c.loop-i.i < room = omega (arith, c.room-i-end.ensures.room places objects c.args.self.now a first) in
    c.loop-i.invariant places objects a b first second
    ∙ order_here objects a b c.loop-i.i room inside c.in_ok-one.one c.in_ok-other.other (c.in_ok-one.ensures places objects a first) (c.in_ok-other.ensures places objects b second)
    ∙ byte_zero c.in_ok-one.one c.in_ok-other.other (order_from objects a b (c.loop-i.i + 1) (room - (c.loop-i.i + 1))) c.if-one-other.false c.if-other-one.false c.if-one-eq0.true

pub loop-i-preserved : goal.loop-i-preserved
loop-i-preserved g c = λ places objects a b first second.
    let room = room_at objects a in
    let inside : c.loop-i.i < room = omega (arith, c.room-i-end.ensures.room places objects c.args.self.now a first) in
    c.loop-i.invariant places objects a b first second
    ∙ order_here objects a b c.loop-i.i room inside c.in_ok-one.one c.in_ok-other.other (c.in_ok-one.ensures places objects a first) (c.in_ok-other.ensures places objects b second)
    ∙ byte_same c.in_ok-one.one c.in_ok-other.other (order_from objects a b (c.loop-i.i + 1) (room - (c.loop-i.i + 1))) c.if-one-other.false c.if-other-one.false c.if-one-eq0.false
