-- One unit from several (C99 5.1.1.1, 6.2.2, 6.9): what each has for itself gets a suffix, and the rest is shared.
use Rattle.std.specs.Prelude.{◌≡◌, ⊤, ℕ, ◌+◌, Bool, true, false, not, ◌&&◌, if◌then◌else◌, List, [], ◌∷◌, ◌++◌, Option, Some, None, Result, Ok, Err}
use Rattle.std.specs.List.{filter}
use Rattle.c_tree.specs.Forms as f
use Rattle.c_tree.specs.Tree.{Tree, Trees, Node, none, ◌▹◌}
use Rattle.c_tree.specs.Canonical.{canonical}
use Rattle.c_tree.specs.StatementView.{unit_view}
use Rattle.c_tree.specs.declared.statement.Unit.{Unit as Code}
use Rattle.c_units.specs.declared.error.MergeError.{MergeError}
use Rattle.c_units.specs.declared.error.MergeError.TheVariants as error
use Rattle.c_units.specs.Mentions.{Mention, Taken, nothing_taken, is_among, all_noted, first_taken, with_mentions}
use Rattle.c_units.specs.Turns.{joined}
use Rattle.c_units.specs.Externals.{Said, unit_said}

-- two units say what may not be said of one name twice, at the line of the later place
pub record Conflict : Type 0 where
  pub name : List ℕ
  pub line : ℕ

-- names of a declaration none of which has an initializer
unfoldable pub are_plain : Trees → Bool
are_plain (Node f.Entry (declared ▹ Node f.MaybeInit none ▹ none) ▹ rest) = are_plain rest
are_plain none = true
are_plain names = false

-- an external declaration without a body and without an initializer
unfoldable pub is_plain : Tree → Bool
is_plain (Node f.Declaration (line ▹ specs ▹ Node f.Names names ▹ none)) = are_plain names
is_plain tree = false

-- how an external declaration is spelled, whatever its lines
abbrev pub spelling : Tree → List ℕ
spelling tree = canonical (tree ▹ none)

-- whether an earlier unit has it in the same words, so that it is left out
abbrev pub is_again : List (List ℕ) → Said → Bool
is_again spellings said = is_plain said.tree && is_among spellings (spelling said.tree)

-- what is left of a unit, where earlier units have such declarations with these spellings
abbrev pub kept : List (List ℕ) → List Said → List Said
kept spellings unit = filter (λ said. not (is_again spellings said)) unit

-- the spellings of a unit's external declarations that may be left out elsewhere: only such a one is spelled so
abbrev pub spellings_of : List Said → List (List ℕ)
spellings_of [] = []
spellings_of (said ∷ rest) =
    if is_plain said.tree then spelling said.tree ∷ spellings_of rest else spellings_of rest

abbrev pub mentions_of : List Said → List Mention
mentions_of [] = []
mentions_of (said ∷ rest) = said.mentions ++ mentions_of rest

abbrev pub trees_of : List Said → Trees
trees_of [] = none
trees_of (said ∷ rest) = said.tree ▹ trees_of rest

-- what some units give: their external declarations; how those are spelled that may be left out elsewhere; and their names
pub record Program : Type 0 where
  pub trees : Trees
  pub spellings : List (List ℕ)
  pub taken : Taken

abbrev pub no_program : Program
no_program = record { trees = none; spellings = []; taken = nothing_taken }

abbrev pub unless : {A : Type 0} → Option Mention → A → Result A Conflict
unless None answer = Ok answer
unless (Some mention) answer = Err (record { name = mention.name; line = mention.line })

-- with the unit of this number behind the others
abbrev pub with_unit : ℕ → Trees → Program → Result Program Conflict
with_unit number unit before =
    let all = unit_said number unit in
    let left = kept before.spellings all in
    unless (first_taken before.taken (mentions_of left)) (record {
      trees = joined before.trees (trees_of left);
      spellings = all_noted before.spellings (spellings_of all);
      taken = with_mentions (mentions_of left) before.taken;
    })

abbrev pub followed : {A B : Type 0} → Result A Conflict → (A → Result B Conflict) → Result B Conflict
followed (Ok answer) next = next answer
followed (Err conflict) next = Err conflict

-- with the units from this number on
abbrev pub with_units : ℕ → List Trees → Program → Result Trees Conflict
with_units number [] before = Ok before.trees
with_units number (unit ∷ units) before =
    followed (with_unit number unit before) (λ next. with_units (number + 1) units next)

-- the merge of units; one is its own
abbrev pub merged : List Trees → Result Trees Conflict
merged (unit ∷ []) = Ok unit
merged units = with_units 1 units no_program

-- the merge is answered, or its conflict; of want of memory nothing is said
abbrev pub Merges : List Trees → Result Code MergeError → Type 0
Merges units (Ok unit) = merged units ≡ Ok (unit_view unit)
Merges units (Err (error.Conflict name line)) = merged units ≡ Err (record { name = name; line = line })
Merges units (Err error.NoMemory) = ⊤

-- the same of a unit more
abbrev pub Adds : {U : Type 0} → Result Program Conflict → Program → Result U MergeError → Type 0
Adds wanted new (Ok u) = wanted ≡ Ok new
Adds wanted new (Err (error.Conflict name line)) = wanted ≡ Err (record { name = name; line = line })
Adds wanted new (Err error.NoMemory) = ⊤

-- a mention is the conflict that is answered
abbrev pub IsConflict : Mention → MergeError → Type 0
IsConflict mention (error.Conflict name line) = (name ≡ mention.name) × (line ≡ mention.line)
IsConflict mention error.NoMemory = ⊤
