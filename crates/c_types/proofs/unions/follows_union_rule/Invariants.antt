use Rattle.std.proofs.Common.{take}
use Rattle.std.specs.List.{AllByRecursion}
use Rattle.c_types.specs.TagTable.{known}
use Rattle.c_types.proofs.RuleLemmas.{IsFrontMember}
use Rattle.c_types.proofs.unions.follows_union_rule.Given as goal

abbrev pub invariant-loop-member : goal.invariant-loop-member
invariant-loop-member l = AllByRecursion (IsFrontMember (known l.tags.completed) l.all.items) (take l.member-index l.members)
