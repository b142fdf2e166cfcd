-- What a walk leaves of the parts of a unit: each name as it stands in the program, and what is known behind it.
use Rattle.std.specs.Prelude.{◌≡◌, ℕ, Bool, List, [], Option, Some, Result, OnOk, Box, option_map}
use Rattle.hs_base.specs.declared.items.NoMemory.{NoMemory}
use Rattle.c_tree.specs.declared.statement.ForStart.{ForStart}
use Rattle.c_tree.specs.declared.statement.Init.{Init}
use Rattle.c_tree.specs.declared.statement.Stmt.{Stmt}
use Rattle.c_tree.specs.declared.tree.Declarator.{Declarator}
use Rattle.c_tree.specs.declared.tree.Expr.{Expr}
use Rattle.c_tree.specs.declared.tree.Suffix.{Suffix}
use Rattle.c_tree.specs.declared.tree.Tag.{Tag}
use Rattle.c_tree.specs.Forms.{Form}
use Rattle.c_tree.specs.Forms as f
use Rattle.c_tree.specs.Scopes.{name_of, params_of, suffix_params}
use Rattle.c_tree.specs.StatementView.{maybe, maybe_expr, trees, entry_view, expr_view, start_view, stmt_view, body_view, suffix_view}
use Rattle.c_tree.specs.Tree.{Tree, Trees, Node, none, ◌▹◌}
use Rattle.c_tree.specs.View.{declarator_tree}
use Rattle.c_units.specs.declared.mention.Role.{Role}
use Rattle.c_units.specs.declared.mention.Role.TheVariants.{Used, Tagged}
use Rattle.c_units.specs.declared.names.Binding.{Binding}
use Rattle.c_units.specs.Externals.{Said, behind_declarator, behind_entries, behind_external, inside_params, renamed_declarator, renamed_entries, renamed_external, with_name, with_params}
use Rattle.c_units.specs.Names.{Names, behind, binding_at, binding_of, left_scope, mention, mention_any, name_by, renamed}
use Rattle.c_units.specs.Turns.{braced_name, each_renamed, renamed_maybe}

-- Trees

-- a thing is rewritten, by the tree that a view makes of it
abbrev pub Rewrites : {A : Type 0} → (A → Tree) → A → A → Names → Type 0
Rewrites view old new s = view new ≡ renamed (view old) s

-- one that may be left out
abbrev pub RewritesMaybe : {A : Type 0} → Form → (A → Tree) → Option A → Option A → Names → Type 0
RewritesMaybe form view old new s = maybe form view new ≡ renamed (maybe form view old) s

-- the things of a list
abbrev pub RewritesEach : {A : Type 0} → (A → Tree) → List A → List A → Names → Type 0
RewritesEach view old new s = trees view new ≡ each_renamed (trees view old) s

-- the tree of an expression that may be left out, and that the expression is rewritten
abbrev pub boxed_view : {A : Type 0} → Option (Box Expr A) → Option Tree
boxed_view e = option_map (λ b. expr_view b.value) e

abbrev pub RewritesBoxed : {A : Type 0} → Form → Option (Box Expr A) → Option (Box Expr A) → Names → Type 0
RewritesBoxed form old new s = maybe form expr_view (option_map (λ b. b.value) new) ≡ renamed_maybe form (boxed_view old) s

-- the same of a statement
abbrev pub boxed_stmt : {A : Type 0} → Option (Box Stmt A) → Option Tree
boxed_stmt stmt = option_map (λ b. stmt_view b.value) stmt

abbrev pub RewritesBranch : {A : Type 0} → Option (Box Stmt A) → Option (Box Stmt A) → Names → Type 0
RewritesBranch old new s = boxed_stmt new ≡ option_map (λ b. renamed (stmt_view b.value) s) old

-- the items of a body, with the line of its closing brace
abbrev pub RewritesItems : ℕ → List Stmt → List Stmt → Names → Type 0
RewritesItems end old new s = body_view new end ≡ renamed (body_view old end) s

-- what is known behind a tree that is a scope, and behind what stands in front of the last part of a `for`
abbrev pub behind_scope : Tree → Names → Names
behind_scope tree s = left_scope s (behind tree s)

abbrev pub behind_test : ForStart → Option Expr → Names → Names
behind_test start test s = behind (maybe_expr test) (behind (start_view start) s)

abbrev pub behind_step : ForStart → Option Expr → Option Expr → Names → Names
behind_step start test step s = behind (maybe_expr step) (behind_test start test s)

-- the test and the step of a `for`, behind what stands in front of them
abbrev pub RewritesTest : ForStart → Option Expr → Option Expr → Names → Type 0
RewritesTest start old new s = Rewrites maybe_expr old new (behind (start_view start) s)

abbrev pub RewritesStep : ForStart → Option Expr → Option Expr → Option Expr → Names → Type 0
RewritesStep start test old new s = Rewrites maybe_expr old new (behind_test start test s)

-- a statement behind the expression that controls it, and what is known behind both
abbrev pub RewritesControlled : Expr → Stmt → Stmt → Names → Type 0
RewritesControlled e old new s = Rewrites stmt_view old new (behind (expr_view e) s)

abbrev pub behind_controlled : Expr → Stmt → Names → Names
behind_controlled e body s = behind_scope (stmt_view body) (behind (expr_view e) s)

-- Names

-- a name as it stands in the program, and what is known behind a use of it
abbrev pub name_in_program : List ℕ → Names → List ℕ
name_in_program name s = name_by (binding_of s.known name) s.suffix name

abbrev pub used : List ℕ → ℕ → Names → Names
used name line s = mention (binding_of s.known name) Used name line s

-- what is known behind the name of a tag with braces
abbrev pub tagged : Tag → Names → Names
tagged tag s = mention_any (braced_name tag.kind) (binding_at s) Tagged tag.line s

-- the name that a thing declares, if it declares one, is the one that it has in the program
abbrev pub RewritesName : {A : Type 0} → (A → Tree) → Binding → List ℕ → A → A → Result Unit NoMemory → Type 0
RewritesName view binding suffix old new result =
    (name : List ℕ) → name_of (view old) ≡ Some name →
    OnOk result (view new ≡ with_name (name_by binding suffix name) (view old))

-- the same of a declarator
abbrev pub RewritesDeclaratorName : Binding → List ℕ → Declarator → Declarator → Result Unit NoMemory → Type 0
RewritesDeclaratorName = RewritesName declarator_tree

-- Parameters and bodies

-- the parameters of a list of suffixes
abbrev pub list_params : List Suffix → Option Trees
list_params list = suffix_params (Node f.Suffixes (trees suffix_view list) ▹ none)

-- what is known behind the parameters of a declarator, where the body of its function begins, and behind that body
abbrev pub behind_params : Tree → Names → Names
behind_params declarator s = with_params (params_of declarator) s

abbrev pub body_start : Declarator → Names → Names
body_start declarator s = inside_params (params_of (declarator_tree declarator)) s

abbrev pub behind_body : Tree → Declarator → Names → Names
behind_body body declarator s = left_scope s (behind body (body_start declarator s))

-- the body of a function is rewritten, and what is known behind it is left
abbrev pub RenamesBody : Declarator → ℕ → List Stmt → List Stmt → Names → Type 0
RenamesBody declarator end old new s = RewritesItems end old new (body_start declarator s)

abbrev pub LeavesBody : Declarator → List Stmt → ℕ → Names → Names → Type 0
LeavesBody declarator body end old new = new ≡ behind_body (body_view body end) declarator old

-- Declarations at file scope

-- a declarator, and what is known behind it
abbrev pub RewritesDeclared : Role → ℕ → Declarator → Declarator → Names → Type 0
RewritesDeclared role line old new s = declarator_tree new ≡ renamed_declarator role line (declarator_tree old) s

abbrev pub behind_declared : Role → ℕ → Declarator → Names → Names
behind_declared role line declarator s = behind_declarator role line (declarator_tree declarator) s

-- one of the names of a declaration, and all of them
abbrev pub RewritesEntry : ℕ → Bool → Declarator × Option Init → Declarator × Option Init → Names → Type 0
RewritesEntry line typedef old new s = entry_view new ▹ none ≡ renamed_entries line typedef (entry_view old ▹ none) s

abbrev pub behind_entry : ℕ → Bool → Declarator × Option Init → Names → Names
behind_entry line typedef entry s = behind_entries line typedef (entry_view entry ▹ none) s

abbrev pub RewritesEntries : ℕ → Bool → List (Declarator × Option Init) → List (Declarator × Option Init) → Names → Type 0
RewritesEntries line typedef old new s = trees entry_view new ≡ renamed_entries line typedef (trees entry_view old) s

abbrev pub behind_names : ℕ → Bool → List (Declarator × Option Init) → Names → Names
behind_names line typedef list s = behind_entries line typedef (trees entry_view list) s

-- an external declaration of the program with what it says of shared names, and what is known behind it: what earlier ones say
-- of them is theirs
abbrev pub said_of : Tree → Names → Said
said_of tree s =
    let before = record s { mentions = [] } in
    let after = behind_external tree before in
    record { tree = renamed_external tree before; mentions = after.mentions }

abbrev pub behind_said : Tree → Names → Names
behind_said tree s = record (behind_external tree (record s { mentions = [] })) { mentions = [] }
