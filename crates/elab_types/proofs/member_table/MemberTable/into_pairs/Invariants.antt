-- The pairs so far and the members that are left are all members.
use Rattle.std.proofs.Common.{◌≡◌, ◌++◌, map}
use Rattle.c_types.specs.Types.{plain}
use Rattle.c_types.specs.TagTable.{plain_pair}
use Rattle.elab_types.proofs.member_table.MemberTable.into_pairs.Given as goal

abbrev pub invariant-loop-name : goal.invariant-loop-name
invariant-loop-name l =
    map plain_pair l.pairs.items ++ map (λ e. (e.0.items, plain e.1)) l.name-iterator
    ≡ map (λ e. (e.0.items, plain e.1)) l.initial.name-iterator
