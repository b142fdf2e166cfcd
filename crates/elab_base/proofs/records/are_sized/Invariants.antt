use Rattle.std.proofs.Common.{ℕ, ◌<◌, List, get_or}
use Rattle.c_types.specs.declared.types.CType.{CType}
use Rattle.c_types.specs.Types.{plain}
use Rattle.c_types.specs.TagTable.{IsSizedIn}
use Rattle.elab_base.proofs.records.are_sized.Given as goal

-- the members so far have sizes
abbrev pub invariant-loop-member : goal.invariant-loop-member
invariant-loop-member l = (k : ℕ) (d : List ℕ × CType) → k < l.member-index → IsSizedIn l.tags (plain (get_or l.members k d).1)
