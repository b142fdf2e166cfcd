use Rattle.std.proofs.Common.{◌≡◌, drop}
use Rattle.std.specs.List.{flat_map, enumerate_from}
use Rattle.object_meaning.specs.objects.Holding.{counted_inside, inside_objects, first_of}
use Rattle.meaning_state.proofs.objects.Objects.holder.Given as goal

abbrev pub invariant-loop-i : goal.invariant-loop-i
invariant-loop-i l = first_of (inside_objects l.left l.birth l.self) ≡ first_of (flat_map (counted_inside l.left l.birth) (enumerate_from l.i (drop l.i l.self)))
