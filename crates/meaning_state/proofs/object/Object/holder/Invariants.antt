use Rattle.std.proofs.Common.{◌≡◌, map, drop}
use Rattle.std.specs.Prelude.{slice_index}
use Rattle.std.specs.List.{filter, enumerate_from}
use Rattle.hs_base.specs.Freeing.{is_pointer_to}
use Rattle.object_meaning.specs.objects.Holding.{inside, inside_one, first_of}
use Rattle.meaning_state.proofs.object.Object.holder.Given as goal

abbrev pub invariant-loop-k : goal.invariant-loop-k
invariant-loop-k l = first_of (inside_one l.birth l.self) ≡ first_of (map (λ at. inside l.self.sort (slice_index l.self.slots at.0)) (filter (λ at. is_pointer_to l.birth at.1) (enumerate_from l.k (drop l.k l.self.pointers))))
