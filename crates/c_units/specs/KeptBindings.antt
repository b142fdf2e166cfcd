-- In the program each name of a unit is bound to what it is bound to in the unit.
use Rattle.std.specs.Prelude.{◌≡◌, ⊤, ℕ, Bool, false, if◌then◌else◌, nat_eq, map, List, [], ◌++◌, Option, Some, None}
use Rattle.std.specs.List.{list_any}
use Rattle.c_tree.specs.Tree.{Tree, Trees, Leaf, At, Node, none, ◌▹◌}
use Rattle.c_tree.specs.Scopes.{word_name}
use Rattle.c_tree.specs.StatementView.{unit_view}
use Rattle.c_tree.specs.declared.statement.Unit.{Unit as Code}
use Rattle.c_units.specs.Mentions.{is_among}
use Rattle.c_units.specs.Externals.{unit_said, own_names, suffix_of}
use Rattle.c_units.specs.Merge.{trees_of}
use Rattle.c_units.specs.Binding.{Declaration, External, Use, uses_of}

abbrev pub has_dot : List ℕ → Bool
has_dot name = list_any (nat_eq 46) name

-- no name of a text has a dot (C99 6.4.2.1)
abbrev pub IsWithoutDot : Option (List ℕ) → Type 0
IsWithoutDot None = ⊤
IsWithoutDot (Some name) = has_dot name ≡ false

unfoldable mutual
  pub HasNoDots : Tree → Type 0
  HasNoDots (Leaf word) = IsWithoutDot (word_name word)
  HasNoDots (At line) = ⊤
  HasNoDots (Node _ parts) = HaveNoDots parts

  pub HaveNoDots : Trees → Type 0
  HaveNoDots none = ⊤
  HaveNoDots (tree ▹ rest) = HasNoDots tree × HaveNoDots rest

-- a name that is bound so, as it stands in the program: that of an object or a function of the unit's own has the suffix
abbrev pub name_as : List (List ℕ) → List ℕ → Option Declaration → List ℕ → List ℕ
name_as own suffix (Some External) name = if is_among own name then name ++ suffix else name
name_as own suffix declaration name = name

abbrev pub use_as : List (List ℕ) → List ℕ → Use → Use
use_as own suffix place = record place { name = name_as own suffix place.declaration place.name }

-- the unit of this number as it stands in the program, before repeated declarations are left out
abbrev pub renamed_unit : ℕ → Trees → Trees
renamed_unit number unit = trees_of (unit_said number unit)

-- there each name is bound to the declaration that it is bound to in the unit, and no other name has a suffix
abbrev pub KeepsBindings : ℕ → Trees → Type 0
KeepsBindings number unit =
    uses_of (renamed_unit number unit) ≡ map (map (use_as (own_names unit []) (suffix_of number))) (uses_of unit)

abbrev pub UnitsKeepBindings : Type 0
UnitsKeepBindings = (number : ℕ) (unit : Code) → HaveNoDots (unit_view unit) → KeepsBindings number (unit_view unit)
