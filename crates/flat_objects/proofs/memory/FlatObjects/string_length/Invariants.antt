use Rattle.std.proofs.Common.{◌≡◌, ◌-◌, ℕ, List}
use Rattle.hs_base.specs.declared.values.Pointer.{Pointer}
use Rattle.hs_base.specs.Object.{Object}
use Rattle.object_meaning.specs.objects.Strings.{string_at, string_from, room_at}
use Rattle.flat_objects.specs.Texts.{KeepsText}
use Rattle.flat_objects.proofs.Reading.{counted}
use Rattle.flat_objects.proofs.memory.FlatObjects.string_length.Given as goal

abbrev pub invariant-loop-i : goal.invariant-loop-i
invariant-loop-i g l =
    (places : ℕ → ℕ) (objects : List Object) (p : Pointer) → KeepsText l.self places objects p l.text → counted 0 (string_at objects p) ≡ counted l.i (string_from objects p l.i (room_at objects p - l.i))
