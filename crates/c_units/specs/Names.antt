-- The names of a unit that get a suffix, since the unit has them for itself (C99 6.2.1, 6.2.2).
use Rattle.std.specs.Prelude.{ℕ, Bool, true, false, if◌then◌else◌, bytes_eq, List, [], ◌∷◌, ◌++◌, Option, Some, None}
use Rattle.c_tree.specs.Words as w
use Rattle.c_tree.specs.Forms.{Form}
use Rattle.c_tree.specs.Forms as f
use Rattle.c_tree.specs.Places.{Place}
use Rattle.c_tree.specs.Tree.{Tree, Trees, Leaf, At, Node, none, ◌▹◌, count}
use Rattle.c_tree.specs.Grammar.{shape}
use Rattle.c_tree.specs.Scopes.{name_among, is_scope, places}
use Rattle.c_tree.specs.View.{name_leaf}
use Rattle.c_units.specs.declared.mention.Role.{Role}
use Rattle.c_units.specs.declared.mention.Role.TheVariants.{Defined, Used, Tagged}
use Rattle.c_units.specs.declared.names.Binding.{Binding}
use Rattle.c_units.specs.declared.names.Binding.TheVariants.{Inner, Own, Shared}
use Rattle.c_units.specs.Mentions.{Mention}

-- a declaration of a name: in an inner scope; at file scope, of an object or function that the unit has for itself; or at file
-- scope for all units
pub record Known : Type 0 where
  pub name : List ℕ
  pub binding : Binding

-- at a place of a unit: the names that the unit has for itself, with the suffix that they get; the declarations that hold, the
-- latest first; whether an inner scope is open; and what was said so far of the names that units share
pub record Names : Type 0 where
  pub own : List (List ℕ)
  pub suffix : List ℕ
  pub known : List Known
  pub inside : Bool
  pub mentions : List Mention

-- what a name is bound to: its latest declaration, or else what another unit may declare
abbrev pub binding_of : List Known → List ℕ → Binding
binding_of [] name = Shared
binding_of (known ∷ rest) name = if bytes_eq known.name name then known.binding else binding_of rest name

-- a name that is bound so, as it stands in the program
abbrev pub name_by : Binding → List ℕ → List ℕ → List ℕ
name_by Own suffix name = name ++ suffix
name_by binding suffix name = name

abbrev pub declare : Option (List ℕ) → Binding → Names → Names
declare None binding s = s
declare (Some name) binding s = record s { known = record { name = name; binding = binding } ∷ s.known }

-- a name is mentioned, if all units share it
abbrev pub mention : Binding → Role → List ℕ → ℕ → Names → Names
mention Shared role name line s =
    record s { mentions = s.mentions ++ record { role = role; name = name; line = line } ∷ [] }
mention binding role name line s = s

abbrev pub mention_any : Option (List ℕ) → Binding → Role → ℕ → Names → Names
mention_any None binding role line s = s
mention_any (Some name) binding role line s = mention binding role name line s

-- a name in an expression is mentioned
abbrev pub used : Option (List ℕ) → ℕ → Names → Names
used None line s = s
used (Some name) line s = mention (binding_of s.known name) Used name line s

-- the line of a node, by its parts
abbrev pub line_in : Trees → ℕ
line_in (At line ▹ rest) = line
line_in parts = 0

-- the name of a tag with braces, by its parts
abbrev pub tag_name : Trees → Option (List ℕ)
tag_name (line ▹ Node f.MaybeName names ▹ rest) = name_among names
tag_name parts = None

-- what is declared at a place that is in no declarator of file scope
abbrev pub binding_at : Names → Binding
binding_at s = if s.inside then Inner else Shared

-- behind a scope its declarations hold no more
abbrev pub left_scope : Names → Names → Names
left_scope before inner = record inner { known = before.known; inside = before.inside }

abbrev pub left_part : Bool → Names → Names → Names
left_part true before inner = left_scope before inner
left_part false before inner = inner

-- what a node says before its parts: a tag with braces and an enumerator are mentioned, and a parameter list is a scope
unfoldable pub entered : Form → Trees → Names → Names
entered (f.RecordBody sort) parts s = mention_any (tag_name parts) (binding_at s) Tagged (line_in parts) s
entered (f.EnumBody trailing) parts s = mention_any (tag_name parts) (binding_at s) Tagged (line_in parts) s
entered f.Enumerator parts s = mention_any (name_among parts) (binding_at s) Defined (line_in parts) s
entered f.FunctionSuffix parts s = record s { inside = true }
entered _ parts s = s

-- what is known behind a node, given what is known before it and behind its parts: names are declared at the end of their
-- declarators, parameters and enumerators
unfoldable pub left : Form → Trees → Names → Names → Names
left f.Body parts before inner = left_scope before inner
left f.Block parts before inner = left_scope before inner
left f.Delay parts before inner = left_scope before inner
left f.If parts before inner = left_scope before inner
left f.IfElse parts before inner = left_scope before inner
left f.While parts before inner = left_scope before inner
left f.Do parts before inner = left_scope before inner
left f.For parts before inner = left_scope before inner
left f.Switch parts before inner = left_scope before inner
left f.FunctionSuffix parts before inner = left_scope before inner
left f.Declared parts before inner = declare (name_among parts) (binding_at inner) inner
left f.Param parts before inner = declare (name_among parts) (binding_at inner) inner
left f.Enumerator parts before inner = declare (name_among parts) (binding_at inner) inner
left f.Name parts before inner = used (name_among parts) (line_in parts) inner
left _ parts before inner = inner

unfoldable mutual
  -- what is known behind a tree
  pub behind : Tree → Names → Names
  behind (Leaf word) s = s
  behind (At line) s = s
  behind (Node form parts) s =
      left form parts s (all_behind parts (places (shape form (count parts))) (entered form parts s))

  -- the same of parts in turn, at these places
  pub all_behind : Trees → List Place → Names → Names
  all_behind none ps s = s
  all_behind (tree ▹ rest) [] s = s
  all_behind (tree ▹ rest) (place ∷ ps) s = all_behind rest ps (left_part (is_scope place) s (behind tree s))

-- a name in an expression, as it stands in the program
unfoldable pub named : Trees → Names → Tree
named (At line ▹ Leaf (w.Name name) ▹ none) s =
    Node f.Name (At line ▹ name_leaf (name_by (binding_of s.known name) s.suffix name) ▹ none)
named parts s = Node f.Name parts

-- a node with its parts as they stand there
unfoldable pub made : Form → Trees → Names → Tree
made f.Name parts s = named parts s
made form parts s = Node form parts

unfoldable mutual
  -- a tree of a unit as it stands in the program
  pub renamed : Tree → Names → Tree
  renamed (Leaf word) s = Leaf word
  renamed (At line) s = At line
  renamed (Node form parts) s = made form (all_renamed parts (places (shape form (count parts))) (entered form parts s)) s

  -- the same of parts in turn, at these places
  pub all_renamed : Trees → List Place → Names → Trees
  all_renamed none ps s = none
  all_renamed (tree ▹ rest) [] s = tree ▹ rest
  all_renamed (tree ▹ rest) (place ∷ ps) s =
      renamed tree s ▹ all_renamed rest ps (left_part (is_scope place) s (behind tree s))
