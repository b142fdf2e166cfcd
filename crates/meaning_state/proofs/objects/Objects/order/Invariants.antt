use Rattle.std.proofs.Common.{◌≡◌, ◌-◌}
use Rattle.object_meaning.specs.objects.Strings.{order_of, order_from, room_at}
use Rattle.meaning_state.proofs.objects.Objects.order.Given as goal

abbrev pub invariant-loop-i : goal.invariant-loop-i
invariant-loop-i l = order_of l.self l.p l.q ≡ order_from l.self l.p l.q l.i (room_at l.self l.p - l.i)
