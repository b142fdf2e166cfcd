-- The rules of declarations on what the code has: its trees, types and words are seen as the definition has them.
use Rattle.std.specs.Prelude.{ℕ, Bool, true, List, [], Option, Some}
use Rattle.std.specs.Borrow.{Bor}
use Rattle.c_types.specs.Types.{PlainType, plain}
use Rattle.c_types.specs.declared.types.CType.{CType}
use Rattle.c_tree.specs.declared.tree.Specs.{Specs}
use Rattle.c_tree.specs.declared.tree.Declarator.{Declarator}
use Rattle.c_tree.specs.declared.statement.Init.{Init}
use Rattle.c_tree.specs.declared.statement.Stmt.{Stmt}
use Rattle.c_tree.specs.declared.statement.Decl.{Decl}
use Rattle.c_tree.specs.View.{declarator_tree}
use Rattle.c_tree.specs.StatementView.{trees, specs_view, entry_view, names_view, body_view, decl_view}
use Rattle.c_decls.specs.Refusals.{Checked}
use Rattle.c_decls.specs.ScopeList.{named_in, innermost, tag_name}
use Rattle.c_decls.specs.TypeNames.{tag_named}
use Rattle.c_tree.specs.declared.operator.RecordSort.{RecordSort}
use Rattle.elaboration.specs.Context.{Context, With, asked}
use Rattle.elab_base.specs.declared.found.Spot.{Spot}
use Rattle.elab_base.specs.PlainFound.{plain_spot}
use Rattle.core_tree.specs.declared.statements.Atom.{Atom}
use Rattle.elaboration.specs.Declarations as rules
use Rattle.elaboration.specs.Declarators.{with_type}
use Rattle.elaboration.specs.Externals as externals
use Rattle.elab_base.specs.Idle.{idled}
use Rattle.elab_base.specs.MaybeNames.{given}
use Rattle.elab_statements.specs.declared.words.Storage.{Storage}
use Rattle.elab_statements.specs.PlainStorage.{plain_storage}
use Rattle.elab_statements.specs.GivenLengths.{held}
use Rattle.elab_statements.specs.Alone.{is_no_tag}

-- a declarator with its initializer, and such entries in turn
abbrev pub entry : Bool → ℕ → Storage → PlainType → Declarator → Option Init → Context → Checked Context
entry file line storage base declarator init c =
    rules.entry file line (plain_storage storage) base (declarator_tree declarator) (held init) c

abbrev pub entries : Bool → ℕ → Storage → PlainType → List (Declarator × Option Init) → Context → Checked Context
entries file line storage base names c =
    rules.entries file line (plain_storage storage) base (trees entry_view names) c

-- a name of a type with its initializer: anywhere, inside a function, and at file scope
abbrev pub name_in : Bool → ℕ → Storage → List ℕ → PlainType → Option (Bor Init) → Context → Checked Context
name_in file line storage name type init c =
    rules.name_in file line (plain_storage storage) (Some name) type (held (given init)) c

abbrev pub local_name : ℕ → Storage → List ℕ → PlainType → Option (Bor Init) → Context → Checked Context
local_name line storage name type init c = rules.local_name line (plain_storage storage) name type (held (given init)) c

abbrev pub file_name : ℕ → Storage → List ℕ → PlainType → Option (Bor Init) → Context → Checked Context
file_name line storage name type init c = rules.file_name line (plain_storage storage) name type (held (given init)) c

-- a local object, and what it holds first
abbrev pub local_object : ℕ → List ℕ → CType → Option (Bor Init) → Context → Checked Context
local_object line name type init c = rules.local_object line name (plain type) (held (given init)) c

abbrev pub fill_at : ℕ → CType → Option (Bor Init) → Spot → Context → Checked Context
fill_at line type init spot c = rules.fill_at line (plain type) (held (given init)) (plain_spot spot) c

abbrev pub fill_register : ℕ → CType → Option (Bor Init) → ℕ → Context → Checked Context
fill_register line type init register c = rules.fill_register line (plain type) (held (given init)) register c

abbrev pub fill_memory : ℕ → CType → Option (Bor Init) → Atom → Context → Checked Context
fill_memory line type init mem c = rules.fill_memory line (plain type) (held (given init)) mem c

-- a variable, or a function, at file scope, and what a variable holds first
abbrev pub file_value : ℕ → List ℕ → CType → Option (Bor Init) → Context → Checked Context
file_value line name type init c = rules.file_value line name (plain type) (held (given init)) c

abbrev pub file_object : ℕ → List ℕ → CType → Option (Bor Init) → Context → Checked Context
file_object line name type init c = rules.file_object line name (plain type) (held (given init)) c

abbrev pub fill_variable : ℕ → ℕ → CType → Option (Bor Init) → Context → Checked Context
fill_variable line index type init c = rules.fill_variable line index (plain type) (held (given init)) c

-- a declaration, and the type of its specs
abbrev pub declaration : Bool → ℕ → Specs → List (Declarator × Option Init) → Context → Checked Context
declaration file line words names c = rules.declaration file line (specs_view words) (names_view names) c

abbrev pub specs_before : Specs → List (Declarator × Option Init) → Context → With PlainType
specs_before words names c = rules.specs_before (specs_view words) (trees entry_view names) c

-- what a name of a tag is in the innermost scope: the type of a tag alone, and whether it is anything but a tag
abbrev pub tag_here : ℕ → RecordSort → List ℕ → Context → With PlainType
tag_here line sort name c =
    with_type (tag_named line sort name (asked c) (named_in (tag_name name) (innermost c.scopes))) c

abbrev pub has_no_tag : List ℕ → Context → Bool
has_no_tag name c = is_no_tag (named_in (tag_name name) (innermost c.scopes))

-- an external declaration, behind which no function runs: of names, and of a function with its body
abbrev pub file_names : ℕ → Specs → List (Declarator × Option Init) → Context → Checked Context
file_names line words names c = idled (declaration true line words names (externals.begun line [] c))

abbrev pub definition : ℕ → Specs → Declarator → List Stmt → ℕ → Context → Checked Context
definition line words declarator list end c =
    idled (externals.definition line (specs_view words) (declarator_tree declarator) (body_view list end) c)

abbrev pub defined : ℕ → List ℕ → CType → List Stmt → ℕ → Context → Checked Context
defined line name type list end c = idled (externals.defined line name (plain type) (body_view list end) c)

abbrev pub body : ℕ → List ℕ → CType → List Stmt → ℕ → Context → Checked Context
body line name type list end c = idled (externals.body line name (plain type) (body_view list end) c)

-- external declarations in turn
abbrev pub walked_externals : List Decl → Context → Checked Context
walked_externals decls c = idled (externals.externals (trees decl_view decls) c)
