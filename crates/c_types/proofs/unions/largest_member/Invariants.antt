use Rattle.c_types.specs.TagTable.{known}
use Rattle.c_types.proofs.UnionLemmas.{IsLargestSoFar}
use Rattle.c_types.proofs.unions.largest_member.Given as goal

abbrev pub invariant-loop-place : goal.invariant-loop-place
invariant-loop-place l = IsLargestSoFar (known l.tags.completed) l.members l.largest l.greatest l.place
