-- What is kept of the members of a struct or union, seen as their list.
use Rattle.std.specs.Prelude.{map}
use Rattle.std.specs.Coded.{Coded, coded×, coded_list, coded_ℕ}
use Rattle.c_types.specs.Types.{plain}
use Rattle.c_types.specs.Codes.{type_code}
use Rattle.elaboration.specs.Declarators.{Members}
use Rattle.elab_types.specs.declared.member_table.MemberTable.TheInside.{Inside}

-- members told apart as trees of numbers
abbrev pub members_code : Coded Members
members_code = coded_list (coded× (coded_list coded_ℕ) type_code)

abbrev pub members_of : Inside → Members
members_of s = map (λ e. (e.0.items, plain e.1)) s.types.entries
