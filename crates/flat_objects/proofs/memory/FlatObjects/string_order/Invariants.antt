use Rattle.std.proofs.Common.{◌≡◌, ◌-◌, ℕ, List}
use Rattle.hs_base.specs.declared.values.Pointer.{Pointer}
use Rattle.hs_base.specs.Object.{Object}
use Rattle.object_meaning.specs.objects.Strings.{order_of, order_from, room_at}
use Rattle.flat_objects.specs.Texts.{KeepsText}
use Rattle.flat_objects.proofs.memory.FlatObjects.string_order.Given as goal

abbrev pub invariant-loop-i : goal.invariant-loop-i
invariant-loop-i g l =
    (places : ℕ → ℕ) (objects : List Object) (a b : Pointer) → KeepsText l.self places objects a l.first → KeepsText l.self places objects b l.second → order_of objects a b ≡ order_from objects a b l.i (room_at objects a - l.i)
