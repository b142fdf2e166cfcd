use Rattle.std.proofs.Common.{ℕ, List}
use Rattle.hs_base.specs.Object.{Object, object_at}
use Rattle.flat_objects.specs.Searching.{HasNoneBelow, IsKeptSlots}
use Rattle.flat_objects.proofs.memory.FlatObjects.first_slot.Given as goal

abbrev pub invariant-loop-k : goal.invariant-loop-k
invariant-loop-k g l =
    (places : ℕ → ℕ) (objects : List Object) (birth other : ℕ) → IsKeptSlots l.self places objects birth other l.start l.size l.layout l.target l.target_size → HasNoneBelow other (object_at objects birth) l.k
