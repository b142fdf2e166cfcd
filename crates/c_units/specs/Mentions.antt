-- What the units of one program say of the names that they share, and what two of them may not both say (C99 6.2.2, 6.9).
use Rattle.std.specs.Prelude.{ℕ, Bool, ◌||◌, bytes_eq, List, [], ◌∷◌, ◌++◌, Option, Some, None, if◌then◌else◌}
use Rattle.std.specs.List.{list_any}
use Rattle.c_units.specs.declared.mention.Role.{Role}
use Rattle.c_units.specs.declared.mention.Role.TheVariants.{Typedef, Defined, Declared, Used, Tagged}

-- a name as a unit has it at its file scope: what it is there, and at which line
pub record Mention : Type 0 where
  pub role : Role
  pub name : List ℕ
  pub line : ℕ

-- whether a name is among some
abbrev pub is_among : List (List ℕ) → List ℕ → Bool
is_among names name = list_any (bytes_eq name) names

-- some names and one more, unless it is among them
abbrev pub noted : List (List ℕ) → List ℕ → List (List ℕ)
noted names name = if is_among names name then names else names ++ name ∷ []

abbrev pub all_noted : List (List ℕ) → List (List ℕ) → List (List ℕ)
all_noted names [] = names
all_noted names (name ∷ rest) = all_noted (noted names name) rest

-- the names that units have as typedef names; that they define as something else; that they declare or use as something else
-- without a definition; and their tags with braces
pub record Taken : Type 0 where
  pub typedefs : List (List ℕ)
  pub defined : List (List ℕ)
  pub others : List (List ℕ)
  pub tags : List (List ℕ)

abbrev pub nothing_taken : Taken
nothing_taken = record { typedefs = []; defined = []; others = []; tags = [] }

-- whether another unit may not have a name in a role: a typedef name is nothing else elsewhere, and no typedef name of
-- another unit; one unit alone defines a name; and tags with braces are names of their own
abbrev pub is_taken : Taken → Role → List ℕ → Bool
is_taken t Typedef name = is_among t.typedefs name || is_among t.defined name || is_among t.others name
is_taken t Defined name = is_among t.typedefs name || is_among t.defined name
is_taken t Declared name = is_among t.typedefs name
is_taken t Used name = is_among t.typedefs name
is_taken t Tagged name = is_among t.tags name

-- the first of some mentions that units before do not allow
abbrev pub first_taken : Taken → List Mention → Option Mention
first_taken t [] = None
first_taken t (mention ∷ rest) = if is_taken t mention.role mention.name then Some mention else first_taken t rest

abbrev pub with_role : Role → List ℕ → Taken → Taken
with_role Typedef name t = record t { typedefs = noted t.typedefs name }
with_role Defined name t = record t { defined = noted t.defined name }
with_role Declared name t = record t { others = noted t.others name }
with_role Used name t = record t { others = noted t.others name }
with_role Tagged name t = record t { tags = noted t.tags name }

abbrev pub with_mentions : List Mention → Taken → Taken
with_mentions [] t = t
with_mentions (mention ∷ rest) t = with_mentions rest (with_role mention.role mention.name t)
