-- In the merge of several units a name is bound to a declaration in an inner scope exactly where it is in its unit.
use Rattle.std.specs.Prelude.{◌≡◌, ℕ, ◌+◌, if◌then◌else◌, map, All, List, [], ◌∷◌, ◌++◌, Option, Some, None, Ok}
use Rattle.c_tree.specs.Tree.{Trees}
use Rattle.c_tree.specs.StatementView.{unit_view}
use Rattle.c_tree.specs.declared.statement.Unit.{Unit as Code}
use Rattle.c_units.specs.Mentions.{all_noted}
use Rattle.c_units.specs.Externals.{Said, own_names, suffix_of, unit_said}
use Rattle.c_units.specs.Merge.{is_again, spellings_of, merged}
use Rattle.c_units.specs.Binding.{Declaration, Inner, Use, uses_of}
use Rattle.c_units.specs.KeptBindings.{HaveNoDots, use_as}

-- the declaration in an inner scope that a name is bound to, if it is bound to one
abbrev pub inner_of : Option Declaration → Option ℕ
inner_of (Some (Inner number)) = Some number
inner_of declaration = None

-- a name in an expression, and that declaration
abbrev pub inner_use : Use → List ℕ × Option ℕ
inner_use place = (place.name, inner_of place.declaration)

abbrev pub inner_uses : List (List Use) → List (List (List ℕ × Option ℕ))
inner_uses uses = map (map inner_use) uses

-- the names in the expressions of a unit, as they stand in the program, with what they are bound to in the unit
abbrev pub unit_uses : ℕ → Trees → List (List Use)
unit_uses number unit = map (map (use_as (own_names unit []) (suffix_of number))) (uses_of unit)

-- those of the external declarations that are left
abbrev pub left_uses : List (List ℕ) → List Said → List (List Use) → List (List Use)
left_uses spellings [] uses = []
left_uses spellings (said ∷ rest) [] = []
left_uses spellings (said ∷ rest) (here ∷ uses) =
    if is_again spellings said then left_uses spellings rest uses else here ∷ left_uses spellings rest uses

-- the same of the units from this number on, behind external declarations with these spellings
abbrev pub program_uses : ℕ → List Trees → List (List ℕ) → List (List Use)
program_uses number [] spellings = []
program_uses number (unit ∷ units) spellings =
    left_uses spellings (unit_said number unit) (unit_uses number unit)
    ++ program_uses (number + 1) units (all_noted spellings (spellings_of (unit_said number unit)))

abbrev pub MergeKeepsInner : Type 0
MergeKeepsInner =
    (first second : Code) (more : List Code) (trees : Trees) →
    let units = map unit_view (first ∷ second ∷ more) in
    All HaveNoDots units → merged units ≡ Ok trees →
    inner_uses (uses_of trees) ≡ inner_uses (program_uses 1 units [])
