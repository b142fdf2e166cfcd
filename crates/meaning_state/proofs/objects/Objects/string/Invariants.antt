use Rattle.std.proofs.Common.{◌≡◌, ◌-◌}
use Rattle.object_meaning.specs.objects.Strings.{string_at, string_from, room_at}
use Rattle.meaning_state.proofs.Texts.{in_front}
use Rattle.meaning_state.proofs.objects.Objects.string.Given as goal

abbrev pub invariant-loop-i : goal.invariant-loop-i
invariant-loop-i l = string_at l.self l.p ≡ in_front l.text (string_from l.self l.p l.i (room_at l.self l.p - l.i))
