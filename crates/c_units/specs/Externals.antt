-- The external declarations of a unit as they stand in the program (C99 6.9).
use Rattle.std.specs.Prelude.{ℕ, Bool, true, false, ◌||◌, if◌then◌else◌, bytes_eq, codes, decimal, List, [], ◌∷◌, ◌++◌, Option, Some, None}
use Rattle.c_tree.specs.declared.tree.Declarator.{Declarator}
use Rattle.c_tree.specs.View.{declarator_tree}
use Rattle.c_tree.specs.Words.{Word}
use Rattle.c_tree.specs.Words as w
use Rattle.c_tree.specs.Forms as f
use Rattle.c_tree.specs.Places as p
use Rattle.c_tree.specs.Tree.{Tree, Trees, Leaf, At, Node, none, ◌▹◌}
use Rattle.c_tree.specs.Scopes.{name_of, has_typedef, leads_to_name, params_of}
use Rattle.c_tree.specs.SpecWords.{has_static}
use Rattle.c_units.specs.declared.mention.Role.{Role}
use Rattle.c_units.specs.declared.mention.Role.TheVariants.{Typedef, Defined, Declared}
use Rattle.c_units.specs.declared.names.Binding.{Binding}
use Rattle.c_units.specs.declared.names.Binding.TheVariants.{Own, Shared}
use Rattle.c_units.specs.Mentions.{Mention, is_among, all_noted}
use Rattle.c_units.specs.Names.{Names, name_by, declare, mention, left_scope, behind, all_behind, renamed}

-- the line of a node
abbrev pub line_at : Tree → ℕ
line_at (At line) = line
line_at tree = 0

-- a name, unless it is that of the program's first function
abbrev pub but_main : Option (List ℕ) → List (List ℕ)
but_main None = []
but_main (Some name) = if bytes_eq name (codes "main") then [] else name ∷ []

-- the same of a declarator
abbrev pub noted_name : Declarator → List (List ℕ)
noted_name declarator = but_main (name_of (declarator_tree declarator))

unfoldable pub entry_names : Trees → List (List ℕ)
entry_names (Node f.Entry (declared ▹ rest) ▹ more) = but_main (name_of declared) ++ entry_names more
entry_names entries = []

-- the objects and functions that an external declaration declares with `static`
unfoldable pub static_names : Tree → List (List ℕ)
static_names (Node f.Function (line ▹ Node f.Specs words ▹ declared ▹ rest)) =
    if has_static words then but_main (name_of declared) else []
static_names (Node f.Declaration (line ▹ Node f.Specs words ▹ Node f.Names entries ▹ none)) =
    if has_static words then entry_names entries else []
static_names tree = []

-- those of a unit, which it has for itself
abbrev pub own_names : Trees → List (List ℕ) → List (List ℕ)
own_names none names = names
own_names (tree ▹ rest) names = own_names rest (all_noted names (static_names tree))

abbrev pub word_as : List ℕ → Word → Word
word_as name (w.Name old) = w.Name name
word_as name word = word

-- a declarator with another name
unfoldable mutual
  pub with_name : List ℕ → Tree → Tree
  with_name name (Leaf word) = Leaf (word_as name word)
  with_name name (At line) = At line
  with_name name (Node form parts) = if leads_to_name form then Node form (all_with_name name parts) else Node form parts

  pub all_with_name : List ℕ → Trees → Trees
  all_with_name name none = none
  all_with_name name (tree ▹ rest) = with_name name tree ▹ all_with_name name rest

-- what a name is bound to that file scope declares: a typedef name is shared, and so is what the unit does not have for itself
abbrev pub binding_as : Role → List (List ℕ) → List ℕ → Binding
binding_as Typedef own name = Shared
binding_as role own name = if is_among own name then Own else Shared

-- what is known where the name of a declarator stands, in an external declaration at this line, and behind the declarator
abbrev pub before_declarator : Option (List ℕ) → Role → ℕ → Names → Names
before_declarator None role line s = s
before_declarator (Some name) role line s = mention (binding_as role s.own name) role name line s

abbrev pub declared_as : Option (List ℕ) → Role → List (List ℕ) → Names → Names
declared_as None role own s = s
declared_as (Some name) role own s = declare (Some name) (binding_as role own name) s

abbrev pub behind_declarator : Role → ℕ → Tree → Names → Names
behind_declarator role line declarator s =
    let name = name_of declarator in declared_as name role s.own (behind declarator (before_declarator name role line s))

-- the declarator as it stands in the program
abbrev pub named_as : Option (List ℕ) → Role → Tree → Names → Tree
named_as None role declarator s = declarator
named_as (Some name) role declarator s = with_name (name_by (binding_as role s.own name) s.suffix name) declarator

abbrev pub renamed_declarator : Role → ℕ → Tree → Names → Tree
renamed_declarator role line declarator s =
    let name = name_of declarator in named_as name role (renamed declarator (before_declarator name role line s)) s

-- what a declaration without a body says of a name
abbrev pub role_of : Bool → Trees → Role
role_of true inits = Typedef
role_of false none = Declared
role_of false inits = Defined

-- what is known behind the names of a declaration at file scope, each declared before its initializer (C99 6.2.1)
unfoldable pub behind_entries : ℕ → Bool → Trees → Names → Names
behind_entries line typedef (Node f.Entry (Node f.Declared (declarator ▹ none) ▹ Node f.MaybeInit inits ▹ none) ▹ rest) s =
    behind_entries line typedef rest
    (behind (Node f.MaybeInit inits) (behind_declarator (role_of typedef inits) line declarator s))
behind_entries line typedef other s = s

-- those names as they stand in the program
unfoldable pub renamed_entries : ℕ → Bool → Trees → Names → Trees
renamed_entries line typedef (Node f.Entry (Node f.Declared (declarator ▹ none) ▹ Node f.MaybeInit inits ▹ none) ▹ rest) s =
    let name = behind_declarator (role_of typedef inits) line declarator s in
    Node f.Entry (Node f.Declared (renamed_declarator (role_of typedef inits) line declarator s ▹ none) ▹
    renamed (Node f.MaybeInit inits) name ▹ none) ▹
    renamed_entries line typedef rest (behind (Node f.MaybeInit inits) name)
renamed_entries line typedef other s = other

-- with the declarations of parameters, if there are some
abbrev pub with_params : Option Trees → Names → Names
with_params None s = s
with_params (Some params) s = all_behind params (p.Params ∷ []) s

-- where the body of a function begins, which shares a scope with the parameters; these mention nothing a second time
abbrev pub inside_params : Option Trees → Names → Names
inside_params params s =
    record (with_params params (record s { inside = true; mentions = [] })) { mentions = s.mentions }

-- what is known behind an external declaration
unfoldable pub behind_external : Tree → Names → Names
behind_external (Node f.Function (line ▹ words ▹ Node f.Declared (declarator ▹ none) ▹ body ▹ none)) s =
    let name = behind_declarator Defined (line_at line) declarator (behind words s) in
    left_scope name (behind body (inside_params (params_of declarator) name))
behind_external (Node f.Declaration (line ▹ Node f.Specs words ▹ Node f.Names names ▹ none)) s =
    behind_entries (line_at line) (has_typedef words) names (behind (Node f.Specs words) s)
behind_external tree s = s

-- an external declaration as it stands in the program
unfoldable pub renamed_external : Tree → Names → Tree
renamed_external (Node f.Function (line ▹ words ▹ Node f.Declared (declarator ▹ none) ▹ body ▹ none)) s =
    let specs = behind words s in
    let name = behind_declarator Defined (line_at line) declarator specs in
    Node f.Function (line ▹ renamed words s ▹ Node f.Declared (renamed_declarator Defined (line_at line) declarator specs ▹ none) ▹
    renamed body (inside_params (params_of declarator) name) ▹ none)
renamed_external (Node f.Declaration (line ▹ Node f.Specs words ▹ Node f.Names names ▹ none)) s =
    Node f.Declaration (line ▹ renamed (Node f.Specs words) s ▹
    Node f.Names (renamed_entries (line_at line) (has_typedef words) names (behind (Node f.Specs words) s)) ▹ none)
renamed_external tree s = tree

-- an external declaration of the program, and what it says of the names that units share
pub record Said : Type 0 where
  pub tree : Tree
  pub mentions : List Mention

-- the external declarations of a unit in turn
unfoldable pub each_said : Trees → Names → List Said
each_said none s = []
each_said (tree ▹ rest) s =
    let before = record s { mentions = [] } in
    let after = behind_external tree before in
    record { tree = renamed_external tree before; mentions = after.mentions } ∷ each_said rest after

-- the suffix of the unit of this number: a dot, which no name of a text has, and the number
abbrev pub suffix_of : ℕ → List ℕ
suffix_of number = codes "." ++ decimal number

-- names with a suffix, of which these are a unit's own, where nothing is declared yet
abbrev pub names_at_start : List (List ℕ) → List ℕ → Names
names_at_start own suffix = record { own = own; suffix = suffix; known = []; inside = false; mentions = [] }

-- before the first external declaration of a unit
abbrev pub unit_names : ℕ → Trees → Names
unit_names number unit =
    record { own = own_names unit []; suffix = suffix_of number; known = []; inside = false; mentions = [] }

-- the external declarations of the unit of this number
abbrev pub unit_said : ℕ → Trees → List Said
unit_said number unit = each_said unit (unit_names number unit)
