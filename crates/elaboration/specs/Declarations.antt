-- Declarations: local names, and file-scope names without a body (C99 6.7, 6.9.2).
use Rattle.std.specs.Prelude.{ℕ, pos, Bool, true, false, cond, nat_lt, length, is_some, List, [], ◌∷◌, ◌++◌, Option, Some, None, slice_get, slice_set, unwrap_or, Ok}
use Rattle.c_types.specs.Types.{PlainType, Pointer}
use Rattle.c_types.specs.Layouts.{no_layout}
use Rattle.c_types.specs.TagTable.{layout_in}
use Rattle.core_tree.specs.declared.program.Start.{Start}
use Rattle.core_tree.specs.declared.statements.Atom.{Atom}
use Rattle.core_tree.specs.declared.statements.Atom.TheVariants as atom
use Rattle.core_tree.specs.declared.statements.StmKind.TheVariants.{Set, Clear}
use Rattle.c_tree.specs.declared.word.Keyword.{Keyword}
use Rattle.c_tree.specs.declared.word.Keyword.TheVariants as k
use Rattle.c_tree.specs.Words as w
use Rattle.c_tree.specs.Forms as f
use Rattle.c_tree.specs.Tree.{Tree, Trees, Leaf, At, Node, none, ◌▹◌}
use Rattle.c_tree.specs.Scopes.{name_of, has_typedef}
use Rattle.c_decls.specs.declared.refusal.TypeKind.TheVariants.{Operands, Assignment, DeclaredTwice, Incomplete, LeftOut}
use Rattle.c_decls.specs.Named as n
use Rattle.c_decls.specs.Named.{PlainNamed}
use Rattle.c_decls.specs.ScopeList.{named_in, innermost, tag_name}
use Rattle.c_decls.specs.Callees.{is_built_in}
use Rattle.c_decls.specs.Refusals.{Checked, refused, then, unless}
use Rattle.c_decls.specs.Typed.{is_function, has_no_size}
use Rattle.c_decls.specs.TypeNames.{has, tag_named}
use Rattle.c_decls.specs.Expressions.{line_of}
use Rattle.elaboration.specs.Context.{Context, With, Variable, asked, emit}
use Rattle.elaboration.specs.Conversions.{Spot, Local, Memory, size_or_zero}
use Rattle.elaboration.specs.Rules.{with_static}
use Rattle.elaboration.specs.Locals.{is_twice, declared_as, with_local}
use Rattle.elaboration.specs.Declarators.{specs, layers, with_type}
use Rattle.elaboration.specs.Initializers.{Target, InRegister, InMemory, InStatic, initialize, surplus, no_start, trimmed, with_init_layers}

-- specs

-- a declaration of names: of types, with `static` or `extern`, or without these
pub data Storage : Type 0 where
  Typedef : Storage
  Outside : Storage
  Plain : Storage

abbrev pub is_outside_word : Keyword → Bool
is_outside_word k.Static = true
is_outside_word k.Extern = true
is_outside_word keyword = false

abbrev pub storage_of_words : Trees → Storage
storage_of_words words = cond (has_typedef words) Typedef (cond (has is_outside_word words) Outside Plain)

abbrev pub storage_of : Tree → Storage
storage_of (Node f.Specs (At line ▹ words)) = storage_of_words words
storage_of tree = Plain

-- `struct s;` alone declares a tag in its scope, whatever stands outside (C99 6.7.2.3)
abbrev pub specs_alone : Tree → Context → With PlainType
specs_alone (Node f.Specs (At line ▹ Node (f.RecordTag sort) (At at ▹ Leaf (w.Name name) ▹ none) ▹ none)) c =
    with_type (tag_named at sort name (asked c) (named_in (tag_name name) (innermost c.scopes))) c
specs_alone tree c = specs tree c

abbrev pub specs_before : Tree → Trees → Context → With PlainType
specs_before tree none c = specs_alone tree c
specs_before tree names c = specs tree c

-- locals

-- a register local without an initializer is zero or null, a memory local is cleared
abbrev pub zero_of : PlainType → Atom
zero_of (Pointer target) = atom.Null
zero_of type = atom.Int (pos 0)

abbrev pub cleared : ℕ → PlainType → Atom → Context → Context
cleared line type mem c = emit line (Clear mem (pos (size_or_zero c type))) c

abbrev pub fill_memory : ℕ → PlainType → Trees → Atom → Context → Checked Context
fill_memory line type (init ▹ rest) (atom.Mem mem) c =
    then (initialize init false type 0 (InMemory line mem) (cleared line type (atom.Mem mem) c)) (λ d. Ok d.0)
fill_memory line type inits mem c = Ok (cleared line type mem c)

abbrev pub fill_register : ℕ → PlainType → Trees → ℕ → Context → Checked Context
fill_register line type none register c = Ok (emit line (Set register (zero_of type)) c)
fill_register line type (init ▹ rest) register c =
    then (initialize init false type 0 (InRegister line register) c) (λ d. Ok d.0)

abbrev pub fill_at : ℕ → PlainType → Trees → Spot → Context → Checked Context
fill_at line type inits (Local register) c = fill_register line type inits register c
fill_at line type inits (Memory mem) c = fill_memory line type inits mem c
fill_at line type inits spot c = Ok c

abbrev pub fill_local : ℕ → PlainType → Trees → Context × Spot → Checked Context
fill_local line type inits d = fill_at line type inits d.1 d.0

-- a local name of a type: no `static`, `extern` or function, of a known size, not there yet; then its initializer
abbrev pub local_object : ℕ → List ℕ → PlainType → Trees → Context → Checked Context
local_object line name type inits c =
    unless (is_function type) LeftOut line
    (unless (has_no_size c.tags type) Incomplete line
    (unless (is_twice c.scopes name (n.Object type 0)) DeclaredTwice line
    (fill_local line type inits (with_local name type c))))

abbrev pub local_name : ℕ → Storage → List ℕ → PlainType → Trees → Context → Checked Context
local_name line Typedef name type inits c = declared_as line name (n.Typedef type) c
local_name line Outside name type inits c = refused LeftOut line
local_name line Plain name type inits c = local_object line name type inits c

-- file scope

-- a function's number: that of its first declaration
abbrev pub function_number_of : Context → Option PlainNamed → ℕ
function_number_of c (Some (n.Function type index)) = index
function_number_of c other = length c.functions

abbrev pub function_number : List ℕ → Context → ℕ
function_number name c = function_number_of c (named_in name c.scopes.file)

abbrev pub with_function : ℕ → List ℕ → Context → Context
with_function index name c =
    cond (nat_lt index (length c.functions)) c
    (record c { functions = c.functions ++ (record { name = name; defined = None }) ∷ [] })

-- a function is declared, and has its number from now on (C99 6.7.5.3)
abbrev pub declared_function : ℕ → List ℕ → PlainType → Context → Checked Context
declared_function line name type c =
    let index = function_number name c in
    then (declared_as line name (n.Function type index) c) (λ d. Ok (with_function index name d))

-- a function has no initializer
abbrev pub no_initializer : Trees → Context → Checked Context
no_initializer none c = Ok c
no_initializer (init ▹ rest) c = then (surplus init c) (λ d. refused Assignment (line_of init))

-- a variable's number: that of its first declaration, with which its block is counted
abbrev pub variable_number_of : Context → Option PlainNamed → ℕ
variable_number_of c (Some (n.Object type index)) = index
variable_number_of c other = length c.variables

abbrev pub with_new_variable : ℕ → List ℕ → PlainType → Context → Checked Context
with_new_variable line name type c =
    then (with_static line (size_or_zero c type) c) (λ d. Ok (record d { variables = d.variables ++ (record { name = name; layout = unwrap_or (layout_in d.tags type) no_layout; start = None }) ∷ [] }))

abbrev pub with_variable : ℕ → ℕ → List ℕ → PlainType → Context → Checked Context
with_variable line index name type c =
    cond (nat_lt index (length c.variables)) (Ok c) (with_new_variable line name type c)

-- an initializer of a variable, which has none yet
abbrev pub start_of : Option Variable → Option Start
start_of None = None
start_of (Some v) = v.start

abbrev pub start_in : Target → Start
start_in (InStatic start) = trimmed start
start_in target = no_start

abbrev pub started_variable : ℕ → Start → Option Variable → List Variable → List Variable
started_variable index start None variables = variables
started_variable index start (Some v) variables = slice_set variables index (record v { start = Some start })

abbrev pub started : ℕ → Context × Target → Context
started index d =
    record d.0 { variables = started_variable index (start_in d.1) (slice_get d.0.variables index) d.0.variables }

abbrev pub fill_variable : ℕ → ℕ → PlainType → Trees → Context → Checked Context
fill_variable line index type none c = Ok c
fill_variable line index type (init ▹ rest) c =
    unless (is_some (start_of (slice_get c.variables index))) DeclaredTwice line
    (then (initialize init false type 0 (InStatic no_start) c) (λ d. Ok (started index d)))

-- a file-scope variable: of a known size, not there as anything else, its block within the bytes of statics; then its
-- initializer (C99 6.9.2)
abbrev pub file_object : ℕ → List ℕ → PlainType → Trees → Context → Checked Context
file_object line name type inits c =
    let index = variable_number_of c (named_in name c.scopes.file) in
    unless (has_no_size c.tags type) Incomplete line
    (then (declared_as line name (n.Object type index) c) (λ d. then (with_variable line index name type d) (λ v. fill_variable line index type inits v)))

abbrev pub file_function : ℕ → List ℕ → PlainType → Trees → Context → Checked Context
file_function line name type inits c = then (declared_function line name type c) (λ d. no_initializer inits d)

-- a built-in function that is declared by hand with its own type is the function that it was
abbrev pub file_value : ℕ → List ℕ → PlainType → Trees → Context → Checked Context
file_value line name type inits c =
    cond (is_built_in type (named_in name c.scopes.file)) (no_initializer inits c)
    (cond (is_function type) (file_function line name type inits c) (file_object line name type inits c))

abbrev pub file_name : ℕ → Storage → List ℕ → PlainType → Trees → Context → Checked Context
file_name line Typedef name type inits c = declared_as line name (n.Typedef type) c
file_name line storage name type inits c = file_value line name type inits c

-- names with their initializers

abbrev pub name_in : Bool → ℕ → Storage → Option (List ℕ) → PlainType → Trees → Context → Checked Context
name_in file line storage None type inits c = Ok c
name_in true line storage (Some name) type inits c = file_name line storage name type inits c
name_in false line storage (Some name) type inits c = local_name line storage name type inits c

-- a declarator before its initializer
abbrev pub entry : Bool → ℕ → Storage → PlainType → Tree → Trees → Context → Checked Context
entry file line storage base declarator inits c =
    then (layers declarator c) (λ l. then (with_init_layers l.0.tags l.1 inits base) (λ type. name_in file line storage (name_of declarator) type inits l.0))

-- names at file scope or inside a function, in turn; a refusal about a name has the line of its declaration
unfoldable pub entries : Bool → ℕ → Storage → PlainType → Trees → Context → Checked Context
entries file line storage base none c = Ok c
entries file line storage base (Node f.Entry (Node f.Declared (declarator ▹ none) ▹ Node f.MaybeInit inits ▹ none) ▹ rest) c =
    then (entry file line storage base declarator inits c) (λ d. entries file line storage base rest d)
entries file line storage base (tree ▹ rest) c = refused Operands (line_of tree)

-- a declaration: its specs, and then its names
unfoldable pub declaration : Bool → ℕ → Tree → Tree → Context → Checked Context
declaration file line words (Node f.Names names) c =
    then (specs_before words names c) (λ base. entries file line (storage_of words) base.1 names base.0)
declaration file line words tree c = refused Operands line
