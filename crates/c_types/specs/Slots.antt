-- How the slots of a type are listed.
use Rattle.std.specs.Prelude.{◌≤◌, ℕ, List, take}
use Rattle.std.specs.List.{AllByRecursion}
use Rattle.c_types.specs.declared.bodies.Member.{Member}
use Rattle.c_types.specs.Types.{plain}
use Rattle.c_types.specs.Layouts.{Known}
use Rattle.c_types.specs.TagTable.{TagTable, known, layout_or}

-- what is known of the first completed tags
abbrev pub first_known : TagTable → ℕ → Known
first_known table n = known (take n table.completed)

abbrev pub member_size : Known → Member → ℕ
member_size known m = (layout_or known (plain m.ty)).size

-- no member is larger
abbrev pub IsLargest : Known → List Member → Member → Type 0
IsLargest known members m = AllByRecursion (λ (other : Member). member_size known other ≤ member_size known m) members
