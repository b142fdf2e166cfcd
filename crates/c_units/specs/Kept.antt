-- How the code keeps external declarations and what units give so far.
use Rattle.std.specs.Prelude.{◌≡◌, ℕ, List, [], ◌∷◌, ◌++◌, Result, map}
use Rattle.c_tree.specs.declared.statement.Unit.{Unit as Code}
use Rattle.c_tree.specs.StatementView.{trees, decl_view, unit_view}
use Rattle.c_tree.specs.Tree.{Trees}
use Rattle.c_units.specs.declared.error.MergeError.{MergeError}
use Rattle.c_units.specs.declared.said.Said.{Said as Kept}
use Rattle.c_units.specs.declared.program.Left.{Left}
use Rattle.c_units.specs.declared.program.Program.{Program as Running}
use Rattle.c_units.specs.Externals.{Said}
use Rattle.c_units.specs.Merge.{Adds, Program, kept, spellings_of, trees_of, with_unit}
use Rattle.c_units.specs.Turns.{joined}

abbrev pub said_view : Kept → Said
said_view kept = record { tree = decl_view kept.decl; mentions = kept.mentions.items }

abbrev pub program_view : Running → Program
program_view running =
    record { trees = trees decl_view running.decls; spellings = running.spellings; taken = running.taken }

-- external declarations, in their order
abbrev pub all_said : List Kept → List Said
all_said list = map said_view list

-- what is left of a unit
abbrev pub left_view : Left → List Said
left_view left = map said_view left.said.items

-- the spelling of an external declaration is added, if it may be left out elsewhere
abbrev pub AddsSpellings : Said → List (List ℕ) → List (List ℕ) → Type 0
AddsSpellings said old new = new ≡ old ++ spellings_of (said ∷ [])

-- of one external declaration what is kept by these spellings is added to what is left of a unit, and its spelling
abbrev pub AddsKept : List (List ℕ) → Kept → Left → Left → Type 0
AddsKept spellings one old new = left_view new ≡ left_view old ++ kept spellings (said_view one ∷ [])

abbrev pub AddsSpelling : Kept → Left → Left → Type 0
AddsSpelling one old new = AddsSpellings (said_view one) old.spellings.items new.spellings.items

-- external declarations are added behind those of a program
abbrev pub said_trees : List Kept → Trees
said_trees said = trees_of (map said_view said)

abbrev pub with_trees : Trees → Program → Program
with_trees more program = record program { trees = joined program.trees more }

abbrev pub AddsTrees : List Kept → Running → Running → Type 0
AddsTrees said old new = program_view new ≡ with_trees (said_trees said) (program_view old)

-- the unit of this number is added behind the others, or its conflict is answered
abbrev pub AddsUnit : ℕ → Code → Running → Running → Result Unit MergeError → Type 0
AddsUnit number unit old new result = Adds (with_unit number (unit_view unit) (program_view old)) (program_view new) result
