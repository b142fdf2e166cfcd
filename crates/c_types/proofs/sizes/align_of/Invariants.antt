use Rattle.std.proofs.Common.{◌≡◌, ◌≤◌}
use Rattle.c_types.specs.declared.types.CType.{size-CType}
use Rattle.c_types.specs.Types.{plain}
use Rattle.c_types.specs.TagTable.{align_in}
use Rattle.c_types.proofs.sizes.align_of.Given as goal

abbrev pub invariant-loop-part : goal.invariant-loop-part
invariant-loop-part l =
    (align_in l.tags (plain l.initial.part) ≡ align_in l.tags (plain l.part)) × (size-CType l.part ≤ size-CType l.initial.part)
