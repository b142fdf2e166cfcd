-- In the merge of several units a name that is bound at file scope is bound to what it is bound to in its unit (C99 6.2.1, 6.2.2).
use Rattle.std.specs.Prelude.{◌≡◌, ◌≤◌, ⊤, ◌⊎◌, ℕ, ◌+◌, false, if◌then◌else◌, length, map, All, List, [], ◌∷◌, ◌++◌, Option, Some, None, IfSome, IsSome, Ok}
use Rattle.c_tree.specs.Forms as f
use Rattle.c_tree.specs.Tree.{Tree, Trees, Node, none, ◌▹◌}
use Rattle.c_tree.specs.Scopes.{name_of, has_typedef, first_scope}
use Rattle.c_tree.specs.Allowed.{AreExternals}
use Rattle.c_tree.specs.Reread.{IsFormed, unit_words}
use Rattle.c_tree.specs.StatementView.{unit_view}
use Rattle.c_tree.specs.declared.statement.Unit.{Unit as Code}
use Rattle.c_units.specs.Mentions.{is_among, all_noted}
use Rattle.c_units.specs.Externals.{Said, own_names, suffix_of, unit_said}
use Rattle.c_units.specs.Merge.{is_again, spellings_of, merged}
use Rattle.c_units.specs.Binding.{Declaration, Inner, External, Use}
use Rattle.c_units.specs.KeptBindings.{HaveNoDots}
use Rattle.c_units.specs.MergedBindings.{unit_uses}

abbrev pub named : Option (List ℕ) → List (List ℕ)
named None = []
named (Some name) = name ∷ []

unfoldable pub entries_declared : Trees → List (List ℕ)
entries_declared (Node f.Entry (declared ▹ rest) ▹ more) = named (name_of declared) ++ entries_declared more
entries_declared entries = []

-- the objects and functions that an external declaration declares
unfoldable pub declared_by : Tree → List (List ℕ)
declared_by (Node f.Function (line ▹ words ▹ declared ▹ rest)) = named (name_of declared)
declared_by (Node f.Declaration (line ▹ Node f.Specs words ▹ Node f.Names entries ▹ none)) =
    if has_typedef words then [] else entries_declared entries
declared_by tree = []

-- an external declaration of a merge: the number of its unit; what this unit has for itself; and the names in its expressions,
-- with what they are bound to in the unit. All names are as they stand in the program.
pub record Part : Type 0 where
  pub number : ℕ
  pub own : List (List ℕ)
  pub tree : Tree
  pub uses : List Use

abbrev pub part_trees : List Part → Trees
part_trees [] = none
part_trees (part ∷ rest) = part.tree ▹ part_trees rest

-- what is left of a unit, where earlier units have external declarations with these spellings
abbrev pub left_parts : ℕ → List (List ℕ) → List (List ℕ) → List Said → List (List Use) → List Part
left_parts number own spellings [] uses = []
left_parts number own spellings (said ∷ rest) [] = []
left_parts number own spellings (said ∷ rest) (here ∷ uses) =
    if is_again spellings said then left_parts number own spellings rest uses
    else record { number = number; own = own; tree = said.tree; uses = here } ∷ left_parts number own spellings rest uses

-- what a unit has for itself, as it stands in the program
abbrev pub own_in_program : ℕ → Trees → List (List ℕ)
own_in_program number unit = map (λ name. name ++ suffix_of number) (own_names unit [])

-- what is left of the units from this number on
abbrev pub program_parts : ℕ → List Trees → List (List ℕ) → List Part
program_parts number [] spellings = []
program_parts number (unit ∷ units) spellings =
    left_parts number (own_in_program number unit) spellings (unit_said number unit) (unit_uses number unit)
    ++ program_parts (number + 1) units (all_noted spellings (spellings_of (unit_said number unit)))

-- the first external declaration of an object or a function of this name
abbrev pub first_of : List Part → List ℕ → Option Part
first_of [] name = None
first_of (part ∷ rest) name = if is_among (declared_by part.tree) name then Some part else first_of rest name

-- two external declarations are of one unit, or neither unit has the name for itself
abbrev pub Agree : List ℕ → Part → Part → Type 0
Agree name first part =
    (first.number ≡ part.number) ⊎ ((is_among first.own name ≡ false) × (is_among part.own name ≡ false))

-- a name of a part that is so bound in its unit may have this first external declaration in the program; where the unit has no
-- declaration of an object or a function, that is what no unit has for itself
abbrev pub MayHave : Option Declaration → List ℕ → Part → Part → Type 0
MayHave (Some (Inner number)) name part first = ⊤
MayHave (Some External) name part first = Agree name first part
MayHave declaration name part first = is_among first.own name ≡ false

-- a name in an expression of a part
abbrev pub KeepsBinding : List Part → Part → Use → Type 0
KeepsBinding parts part place = IfSome (first_of parts place.name) (MayHave place.declaration place.name part)

-- a merge is these parts, each name of which keeps its binding
pub record KeepsFileBindings (parts : List Part) (trees : Trees) : Type 0 where
  pub whole : trees ≡ part_trees parts
  pub bound : All (λ part. All (KeepsBinding parts part) part.uses) parts

-- a name that its unit binds to an object or a function at file scope has an external declaration among these
abbrev pub IsDeclared : List Part → Use → Type 0
IsDeclared upto place = place.declaration ≡ Some External → IsSome (first_of upto place.name)

-- the names in these parts behind others are declared so far
abbrev pub AreDeclared : List Part → List Part → Type 0
AreDeclared before [] = ⊤
AreDeclared before (part ∷ rest) =
    All (IsDeclared (before ++ part ∷ [])) part.uses × AreDeclared (before ++ part ∷ []) rest

-- the tree of a text: it is allowed, and its names, constants and literals have the forms of tokens
pub record IsOfText (unit : Trees) : Type 0 where
  pub allowed : AreExternals unit first_scope
  pub formed : All IsFormed (unit_words unit)

-- a declaration that is left out since an earlier unit has it in the same words is not missed
abbrev pub MergeKeepsDeclared : Type 0
MergeKeepsDeclared =
    (first second : Code) (more : List Code) →
    let units = map unit_view (first ∷ second ∷ more) in
    length units ≤ 64 → All HaveNoDots units → All IsOfText units → AreDeclared [] (program_parts 1 units [])

abbrev pub MergeKeepsFile : Type 0
MergeKeepsFile =
    (first second : Code) (more : List Code) (trees : Trees) →
    let units = map unit_view (first ∷ second ∷ more) in
    length units ≤ 64 → All HaveNoDots units → merged units ≡ Ok trees →
    KeepsFileBindings (program_parts 1 units []) trees
