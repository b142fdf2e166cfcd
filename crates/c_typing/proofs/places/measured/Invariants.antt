use Rattle.std.proofs.Common.{◌≤◌}
use Rattle.c_types.specs.declared.types.CType.{size-CType}
use Rattle.c_types.specs.Types.{plain}
use Rattle.c_types.specs.TagTable.{size_in}
use Rattle.c_typing.proofs.Measures.{IsCounted}
use Rattle.c_typing.proofs.places.measured.Given as goal

abbrev pub invariant-loop-part : goal.invariant-loop-part
invariant-loop-part l =
    IsCounted (size_in l.tags (plain l.initial.part)) l.count (size_in l.tags (plain l.part)) × (size-CType l.part ≤ size-CType l.initial.part)
