-- Statements and external declarations of the code as trees of the grammar.
use Rattle.std.specs.Prelude.{ℕ, Bool, List, [], ◌∷◌, Option, Some, None, option_map}
use Rattle.c_tree.specs.declared.tree.Expr.{Expr}
use Rattle.c_tree.specs.declared.tree.TypeName.{TypeName}
use Rattle.c_tree.specs.declared.tree.Specs.{Specs}
use Rattle.c_tree.specs.declared.tree.Spec.{Spec}
use Rattle.c_tree.specs.declared.tree.Tag.{Tag}
use Rattle.c_tree.specs.declared.tree.Member.{Member}
use Rattle.c_tree.specs.declared.tree.Enumerator.{Enumerator}
use Rattle.c_tree.specs.declared.tree.Declarator.{Declarator}
use Rattle.c_tree.specs.declared.tree.Base.{Base}
use Rattle.c_tree.specs.declared.tree.Suffix.{Suffix}
use Rattle.c_tree.specs.declared.tree.Param.{Param}
use Rattle.c_tree.specs.declared.statement.Init.{Init}
use Rattle.c_tree.specs.declared.statement.InitKind.{InitKind, Row_of-Init, end_of-Init, more_of-Init}
use Rattle.c_tree.specs.declared.statement.InitKind.TheVariants as i
use Rattle.c_tree.specs.declared.statement.Stmt.{Stmt}
use Rattle.c_tree.specs.declared.statement.StmtKind.{StmtKind, Row_of-Stmt, end_of-Stmt, more_of-Stmt, Held-StmtKind-If-2, None', Some'}
use Rattle.c_tree.specs.declared.statement.StmtKind.TheVariants as s
use Rattle.c_tree.specs.declared.statement.ForStart.{ForStart}
use Rattle.c_tree.specs.declared.statement.ForStart.TheVariants as start
use Rattle.c_tree.specs.declared.statement.Decl.{Decl}
use Rattle.c_tree.specs.declared.statement.Decl.TheVariants as d
use Rattle.c_tree.specs.declared.statement.Unit.{Unit as Text}
use Rattle.c_tree.specs.declared.operator.RecordSort.{RecordSort}
use Rattle.c_tree.specs.Forms.{Form}
use Rattle.c_tree.specs.Forms as f
use Rattle.c_tree.specs.Tree.{Tree, Trees, Leaf, At, Node, none, ◌▹◌}
use Rattle.c_tree.specs.View.{literal_leaves, maybe_name, expr_tree, spec_tree, tag_tree, enumerator_tree, declarator_tree, base_tree, suffix_tree}

-- trees of the things of a list, in order
abbrev pub trees : {A : Type 0} → (A → Tree) → List A → Trees
trees view [] = none
trees view (x ∷ rest) = view x ▹ trees view rest

-- what may be left out
abbrev pub maybe : {A : Type 0} → Form → (A → Tree) → Option A → Tree
maybe form view None = Node form none
maybe form view (Some x) = Node form (view x ▹ none)

abbrev pub expr_view : Expr → Tree
expr_view e = expr_tree e.kind e.line

-- a value, an array's length that may be left out
abbrev pub maybe_value : Option Expr → Tree
maybe_value value = maybe f.MaybeValue expr_view value

abbrev pub maybe_length : Option Expr → Tree
maybe_length length = maybe f.MaybeLength expr_view length

-- string literals, and the arguments of a call
abbrev pub strings_view : List (List ℕ) → Tree
strings_view spellings = Node f.Strings (literal_leaves spellings)

abbrev pub arguments_view : List Expr → Tree
arguments_view arguments = Node f.Arguments (trees expr_view arguments)

-- the parts of a call behind its line
abbrev pub call_parts : Expr → List Expr → Trees
call_parts callee arguments = expr_view callee ▹ arguments_view arguments ▹ none

abbrev pub specs_view : Specs → Tree
specs_view specs = Node f.Specs (At specs.line ▹ trees spec_tree specs.words.items)

abbrev pub typename_view : TypeName → Tree
typename_view t = Node f.Typename (At t.line ▹ specs_view t.specs ▹ declarator_tree t.declarator ▹ none)

abbrev pub tag_view : Tag → Tree
tag_view tag = tag_tree tag.kind tag.line

abbrev pub member_view : Member → Tree
member_view m =
    Node f.Member (At m.line ▹ specs_view m.specs ▹
    Node f.MemberNames (trees declarator_tree m.declarators.items) ▹ none)

-- the names of a member, and the members of a struct or union
abbrev pub member_names_view : List Declarator → Tree
member_names_view declarators = Node f.MemberNames (trees declarator_tree declarators)

abbrev pub members_view : List Member → Tree
members_view members = Node f.Members (trees member_view members)

-- the enumerators of an enum
abbrev pub enumerators_view : List Enumerator → Tree
enumerators_view enumerators = Node f.Enumerators (trees enumerator_tree enumerators)

-- a struct or union with its members, and an enum with its enumerators
abbrev pub record_body_view : ℕ → RecordSort → Option (List ℕ) → List Member → Tree
record_body_view line sort name members =
    Node (f.RecordBody sort) (At line ▹ maybe_name name ▹ members_view members ▹ none)

abbrev pub enum_body_view : ℕ → Option (List ℕ) → List Enumerator → Bool → Tree
enum_body_view line name enumerators trailing =
    Node (f.EnumBody trailing) (At line ▹ maybe_name name ▹ enumerators_view enumerators ▹ none)

abbrev pub suffix_view : Suffix → Tree
suffix_view suffix = suffix_tree suffix.kind suffix.line

abbrev pub param_view : Param → Tree
param_view p = Node f.Param (At p.line ▹ specs_view p.specs ▹ declarator_tree p.declarator ▹ none)

-- the parameters of a function, and the suffix that they are
abbrev pub params_view : List Param → Tree
params_view params = Node f.Params (trees param_view params)

abbrev pub function_suffix_view : ℕ → List Param → Tree
function_suffix_view line params = Node f.FunctionSuffix (At line ▹ params_view params ▹ none)

-- the suffixes of a declarator
abbrev pub suffixes_view : List Suffix → Tree
suffixes_view suffixes = Node f.Suffixes (trees suffix_view suffixes)

-- a pointer with so many `const`
abbrev pub pointer_view : ℕ → ℕ → Declarator → Tree
pointer_view line consts target = Node (f.Pointer consts) (At line ▹ declarator_tree target ▹ none)

-- a declarator in parentheses
abbrev pub parens_view : ℕ → Declarator → Tree
parens_view line declarator = Node f.Parens (At line ▹ declarator_tree declarator ▹ none)

-- a declarator of what suffixes stand behind
abbrev pub direct_view : Base → List Suffix → Tree
direct_view base suffixes = Node f.Direct (base_tree base ▹ suffixes_view suffixes ▹ none)

-- what is declared by a declarator
abbrev pub declared_view : Declarator → Tree
declared_view declarator = Node f.Declared (declarator_tree declarator ▹ none)

unfoldable mutual
  -- an initializer at a line
  pub init_tree : InitKind → ℕ → Tree
  init_tree (i.Expr e) line = Node f.InitExpr (At line ▹ expr_view e ▹ none)
  init_tree (i.List' shape inits trailing) line =
      Node (f.InitList trailing) (At line ▹ Node f.Inits (init_trees inits) ▹ none)

  pub init_trees : {m : _} → Row_of-Init m → Trees
  init_trees end_of-Init = none
  init_trees (more_of-Init line kind rest) = init_tree kind line ▹ init_trees rest

abbrev pub init_view : Init → Tree
init_view init = init_tree init.kind init.line

abbrev pub inits_view : List Init → Tree
inits_view inits = Node f.Inits (trees init_view inits)

-- initializers in braces, behind which a comma may stand
abbrev pub init_list_view : ℕ → List Init → Bool → Tree
init_list_view line inits trailing = Node (f.InitList trailing) (At line ▹ inits_view inits ▹ none)

-- a name of a declaration with its initializer
abbrev pub entry_view : Declarator × Option Init → Tree
entry_view entry = Node f.Entry (Node f.Declared (declarator_tree entry.0 ▹ none) ▹ maybe f.MaybeInit init_view entry.1 ▹ none)

abbrev pub names_view : List (Declarator × Option Init) → Tree
names_view names = Node f.Names (trees entry_view names)

-- the parts of a declaration behind its line
abbrev pub declaration_parts : Specs → List (Declarator × Option Init) → Trees
declaration_parts specs names = specs_view specs ▹ names_view names ▹ none

-- an expression that may be left out
abbrev pub maybe_expr : Option Expr → Tree
maybe_expr e = maybe f.MaybeExpr expr_view e

abbrev pub start_view : ForStart → Tree
start_view (start.Names specs names) = Node f.ForNames (specs_view specs ▹ names_view names ▹ none)
start_view (start.Expr e) = Node f.ForStart (maybe_expr e ▹ none)

unfoldable mutual
  -- a statement at a line
  pub stmt_tree : StmtKind → ℕ → Tree
  stmt_tree s.Empty line = Node f.Empty (At line ▹ none)
  stmt_tree (s.Expr e) line = Node f.Expr (At line ▹ expr_view e ▹ none)
  stmt_tree (s.Block' shape items) line = Node f.Block (At line ▹ Node f.Items (stmt_trees items) ▹ none)
  stmt_tree (s.Delay' shape items) line = Node f.Delay (At line ▹ Node f.Items (stmt_trees items) ▹ none)
  stmt_tree (s.If' e p at kind other) line = if_tree line (expr_view e) (stmt_tree kind at) other
  stmt_tree (s.While' e p at kind) line = Node f.While (At line ▹ expr_view e ▹ stmt_tree kind at ▹ none)
  stmt_tree (s.Do' p at kind e) line = Node f.Do (At line ▹ stmt_tree kind at ▹ expr_view e ▹ none)
  stmt_tree (s.For' start test step p at kind) line =
      Node f.For (At line ▹ start_view start ▹ maybe_expr test ▹ maybe_expr step ▹ stmt_tree kind at ▹ none)
  stmt_tree (s.Switch' e p at kind) line = Node f.Switch (At line ▹ expr_view e ▹ stmt_tree kind at ▹ none)
  stmt_tree (s.Case' e p at kind) line = Node f.Case (At line ▹ expr_view e ▹ stmt_tree kind at ▹ none)
  stmt_tree (s.Default' p at kind) line = Node f.Default (At line ▹ stmt_tree kind at ▹ none)
  stmt_tree s.Break line = Node f.Break (At line ▹ none)
  stmt_tree s.Continue line = Node f.Continue (At line ▹ none)
  stmt_tree (s.Return e) line = Node f.Return (At line ▹ maybe_expr e ▹ none)
  stmt_tree (s.Local specs names) line = Node f.Local (At line ▹ specs_view specs ▹ names_view names ▹ none)

  -- an `if` with the statement behind its `else`, where there is one
  pub if_tree : ℕ → Tree → Tree → Held-StmtKind-If-2 → Tree
  if_tree line test body None' = Node f.If (At line ▹ test ▹ body ▹ none)
  if_tree line test body (Some' p at kind) = Node f.IfElse (At line ▹ test ▹ body ▹ stmt_tree kind at ▹ none)

  pub stmt_trees : {m : _} → Row_of-Stmt m → Trees
  stmt_trees end_of-Stmt = none
  stmt_trees (more_of-Stmt line kind rest) = stmt_tree kind line ▹ stmt_trees rest

-- an `if`, with the statement behind `else` where there is one
abbrev pub if_view : ℕ → Tree → Tree → Option Tree → Tree
if_view line test body None = Node f.If (At line ▹ test ▹ body ▹ none)
if_view line test body (Some other) = Node f.IfElse (At line ▹ test ▹ body ▹ other ▹ none)

abbrev pub stmt_view : Stmt → Tree
stmt_view stmt = stmt_tree stmt.kind stmt.line

abbrev pub items_view : List Stmt → Tree
items_view items = Node f.Items (trees stmt_view items)

-- the statements that have parts that may be left out: an `if` and a `for`
abbrev pub branch_view : ℕ → Expr → Stmt → Option Stmt → Tree
branch_view line test body other = if_view line (expr_view test) (stmt_view body) (option_map stmt_view other)

abbrev pub for_view : ℕ → ForStart → Option Expr → Option Expr → Stmt → Tree
for_view line start test step body =
    Node f.For (At line ▹ start_view start ▹ maybe_expr test ▹ maybe_expr step ▹ stmt_view body ▹ none)

-- a body, and the line of its closing brace
abbrev pub body_view : List Stmt → ℕ → Tree
body_view items end = Node f.Body (Node f.Items (trees stmt_view items) ▹ At end ▹ none)

-- the definition of a function
abbrev pub function_view : ℕ → Specs → Declarator → List Stmt → ℕ → Tree
function_view line specs declarator body end =
    Node f.Function (At line ▹ specs_view specs ▹ declared_view declarator ▹ body_view body end ▹ none)

abbrev pub decl_view : Decl → Tree
decl_view (d.Function line specs declarator body end) =
    Node f.Function (At line ▹ specs_view specs ▹ Node f.Declared (declarator_tree declarator ▹ none) ▹
    body_view body end ▹ none)
decl_view (d.Names line specs names) = Node f.Declaration (At line ▹ specs_view specs ▹ names_view names ▹ none)

-- the external declarations of a text
abbrev pub unit_view : Text → Trees
unit_view unit = trees decl_view unit.decls
