use Rattle.std.proofs.Common.{◌≡◌, ◌≤◌, ◌↔◌, take}
use Rattle.c_types.specs.declared.types.CType.{size-CType}
use Rattle.c_types.specs.Types.{plain, plain_list}
use Rattle.c_types.proofs.types.+same.Given as goal

-- what is left of both types is the same where they are, and no deeper
abbrev pub invariant-same_type-loop-a : goal.invariant-same_type-loop-a
invariant-same_type-loop-a l =
    ((plain l.a ≡ plain l.b) ↔ (plain l.initial.a ≡ plain l.initial.b)) × (size-CType l.a ≤ size-CType l.initial.a)

abbrev pub invariant-same_types-loop-i : goal.invariant-same_types-loop-i
invariant-same_types-loop-i l = plain_list (take l.i l.a) ≡ plain_list (take l.i l.b)
