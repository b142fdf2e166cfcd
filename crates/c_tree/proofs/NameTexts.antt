-- The text of lists of statements and of declarations, as it is written.
use Rattle.std.proofs.Common.{◌≡◌, ℕ, Bool, true, false, List, [], ◌∷◌, ◌++◌, Option, Some, None, option_map, Box, Vec, Global, ap, sym, ◌∙◌, append-nil, length, ◌<◌, arith}
use Rattle.c_tree.specs.declared.tree.Expr.{Expr}
use Rattle.c_tree.specs.declared.tree.Specs.{Specs}
use Rattle.c_tree.specs.declared.tree.Declarator.{Declarator}
use Rattle.c_tree.specs.declared.statement.Init.{Init}
use Rattle.c_tree.specs.declared.statement.InitKind.TheVariants as iv
use Rattle.c_tree.specs.declared.statement.Stmt.{Stmt}
use Rattle.c_tree.specs.declared.statement.StmtKind.TheVariants as st
use Rattle.c_tree.specs.declared.statement.ForStart.{ForStart}
use Rattle.c_tree.specs.declared.statement.ForStart.TheVariants as fs
use Rattle.c_tree.specs.declared.statement.Decl.{Decl}
use Rattle.c_tree.specs.declared.statement.Decl.TheVariants as d
use Rattle.c_tree.specs.declared.word.Keyword.TheVariants as k
use Rattle.c_tree.specs.declared.word.Sign.TheVariants as s
use Rattle.c_tree.specs.Words.{Key, Mark}
use Rattle.c_tree.specs.Forms as f
use Rattle.c_tree.specs.Places as p
use Rattle.c_tree.specs.Tree.{Tree, Trees, At, Node, none, ◌▹◌}
use Rattle.c_tree.specs.Grammar.{shape}
use Rattle.c_tree.specs.Canonical.{word_text, tree_text, with_close}
use Rattle.c_tree.specs.View.{declarator_tree}
use Rattle.c_tree.specs.StatementView.{trees, maybe, expr_view, specs_view, init_tree, init_view, entry_view, names_view, maybe_expr, start_view, stmt_tree, stmt_view, if_view, body_view, decl_view}
use Rattle.c_tree.proofs.Texts.{write, node_written}
use Rattle.c_tree.proofs.ListTexts.{list_text, comma_text, rows_text, behind_text}
use Rattle.c_tree.specs.StatementViewEquations.{init_list_tree, if_else_tree}

-- initializers

pub inits_text : (x : Init) (xs : List Init) (out : List ℕ) →
    (out ++ tree_text (init_view x)) ++ comma_text init_view xs ≡ out ++ tree_text (Node f.Inits (trees init_view (x ∷ xs)))
unfolding shape
inits_text x xs out =
    behind_text p.Init init_view xs (out ++ tree_text (init_view x)) ∙ sym (node_written f.Inits (trees init_view (x ∷ xs)) out)

pub inits_empty : (xs : List Init) (out : List ℕ) → length xs < 1 → out ≡ out ++ tree_text (Node f.Inits (trees init_view xs))
unfolding shape
inits_empty [] out h = sym (node_written f.Inits none out)
inits_empty (x ∷ xs) out h = absurd (omega (arith, h))

pub init_list_text : (init : Init) (inits : Vec Init Global) (trailing : Bool) (out : List ℕ) → init.kind ≡ iv.List inits trailing →
    with_close trailing ((out ++ word_text (Mark s.LeftBrace)) ++ tree_text (Node f.Inits (trees init_view inits.items))) ≡
    out ++ tree_text (init_view init)
unfolding shape
init_list_text init inits true out h =
    sym (ap (λ kind. out ++ tree_text (init_tree kind init.line)) h ∙ ap (λ t. out ++ tree_text t) (init_list_tree inits true init.line)
    ∙ node_written (f.InitList true) (At init.line ▹ Node f.Inits (trees init_view inits.items) ▹ none) out)
init_list_text init inits false out h =
    sym (ap (λ kind. out ++ tree_text (init_tree kind init.line)) h ∙ ap (λ t. out ++ tree_text t) (init_list_tree inits false init.line)
    ∙ node_written (f.InitList false) (At init.line ▹ Node f.Inits (trees init_view inits.items) ▹ none) out)

-- names with their initializers

abbrev entry_of : Declarator → Option Init → Tree
entry_of declarator init = Node f.Entry (Node f.Declared (declarator_tree declarator ▹ none) ▹ maybe f.MaybeInit init_view init ▹ none)

pub plain_entry_text : (entry : Declarator × Option Init) (out : List ℕ) → entry.1 ≡ None →
    out ++ tree_text (declarator_tree entry.0) ≡ out ++ tree_text (entry_view entry)
unfolding shape
plain_entry_text entry out h =
    sym (ap (λ init. out ++ tree_text (entry_of entry.0 init)) h
    ∙ node_written f.Entry (Node f.Declared (declarator_tree entry.0 ▹ none) ▹ Node f.MaybeInit none ▹ none) out
    ∙ node_written f.MaybeInit none (out ++ tree_text (Node f.Declared (declarator_tree entry.0 ▹ none)))
    ∙ node_written f.Declared (declarator_tree entry.0 ▹ none) out)

pub init_entry_text : (entry : Declarator × Option Init) (init : Init) (out : List ℕ) → entry.1 ≡ Some init →
    ((out ++ tree_text (declarator_tree entry.0)) ++ word_text (Mark s.Equal)) ++ tree_text (init_view init) ≡
    out ++ tree_text (entry_view entry)
unfolding shape
init_entry_text entry init out h =
    sym (ap (λ x. out ++ tree_text (entry_of entry.0 x)) h
    ∙ node_written f.Entry (Node f.Declared (declarator_tree entry.0 ▹ none) ▹ Node f.MaybeInit (init_view init ▹ none) ▹ none) out
    ∙ node_written f.MaybeInit (init_view init ▹ none) (out ++ tree_text (Node f.Declared (declarator_tree entry.0 ▹ none)))
    ∙ ap (λ o. (o ++ word_text (Mark s.Equal)) ++ tree_text (init_view init)) (node_written f.Declared (declarator_tree entry.0 ▹ none) out))

pub names_text : (x : Declarator × Option Init) (xs : List (Declarator × Option Init)) (out : List ℕ) →
    (out ++ tree_text (entry_view x)) ++ comma_text entry_view xs ≡ out ++ tree_text (Node f.Names (trees entry_view (x ∷ xs)))
unfolding shape
names_text x xs out =
    behind_text p.Entry entry_view xs (out ++ tree_text (entry_view x)) ∙ sym (node_written f.Names (trees entry_view (x ∷ xs)) out)

pub names_empty : (xs : List (Declarator × Option Init)) (out : List ℕ) → length xs < 1 →
    out ≡ out ++ tree_text (Node f.Names (trees entry_view xs))
unfolding shape
names_empty [] out h = sym (node_written f.Names none out)
names_empty (x ∷ xs) out h = absurd (omega (arith, h))

-- what may be left out, and the start of a `for`

pub no_expr_text : (out : List ℕ) → out ≡ out ++ tree_text (Node f.MaybeExpr none)
unfolding shape
no_expr_text out = sym (node_written f.MaybeExpr none out)

pub some_expr_text : (e : Expr) (out : List ℕ) → out ++ tree_text (expr_view e) ≡ out ++ tree_text (Node f.MaybeExpr (expr_view e ▹ none))
unfolding shape
some_expr_text e out = sym (node_written f.MaybeExpr (expr_view e ▹ none) out)

pub for_names_text : (start : ForStart) (specs : Specs) (names : List (Declarator × Option Init)) (out : List ℕ) →
    start ≡ fs.Names specs names →
    ((out ++ tree_text (specs_view specs)) ++ tree_text (names_view names)) ++ word_text (Mark s.Semicolon) ≡
    out ++ tree_text (start_view start)
unfolding shape
for_names_text start specs names out h =
    sym (ap (λ x. out ++ tree_text (start_view x)) h ∙ node_written f.ForNames (specs_view specs ▹ names_view names ▹ none) out)

pub for_start_text : (start : ForStart) (value : Option Expr) (out : List ℕ) → start ≡ fs.Expr value →
    (out ++ tree_text (maybe_expr value)) ++ word_text (Mark s.Semicolon) ≡ out ++ tree_text (start_view start)
unfolding shape
for_start_text start value out h =
    sym (ap (λ x. out ++ tree_text (start_view x)) h ∙ node_written f.ForStart (maybe_expr value ▹ none) out)

-- statements

if_of : (stmt : Stmt) (test : Expr) (body : Box Stmt Global) (other : Option (Box Stmt Global)) (out : List ℕ) →
    stmt.kind ≡ st.If test body other →
    out ++ tree_text (stmt_view stmt) ≡
    out ++ tree_text (if_view stmt.line (expr_view test) (stmt_view body.value) (option_map (λ b. stmt_view b.value) other))
if_of stmt test body other out h =
    ap (λ kind. out ++ tree_text (stmt_tree kind stmt.line)) h ∙ ap (λ t. out ++ tree_text t) (if_else_tree test body other stmt.line)

pub plain_if_text : (stmt : Stmt) (test : Expr) (body : Box Stmt Global) (other : Option (Box Stmt Global)) (out : List ℕ) →
    stmt.kind ≡ st.If test body other → other ≡ None →
    ((((out ++ word_text (Key k.If)) ++ word_text (Mark s.LeftParen)) ++ tree_text (expr_view test)) ++ word_text (Mark s.RightParen)) ++
    tree_text (stmt_view body.value) ≡
    out ++ tree_text (stmt_view stmt)
unfolding shape
plain_if_text stmt test body other out h e =
    sym (if_of stmt test body other out h
    ∙ ap (λ x. out ++ tree_text (if_view stmt.line (expr_view test) (stmt_view body.value) (option_map (λ b. stmt_view b.value) x))) e
    ∙ node_written f.If (At stmt.line ▹ expr_view test ▹ stmt_view body.value ▹ none) out)

pub if_else_text : (stmt : Stmt) (test : Expr) (body : Box Stmt Global) (other : Option (Box Stmt Global)) (last : Box Stmt Global) (out : List ℕ) →
    stmt.kind ≡ st.If test body other → other ≡ Some last →
    ((((((out ++ word_text (Key k.If)) ++ word_text (Mark s.LeftParen)) ++ tree_text (expr_view test)) ++ word_text (Mark s.RightParen)) ++
    tree_text (stmt_view body.value)) ++ word_text (Key k.Else)) ++ tree_text (stmt_view last.value) ≡
    out ++ tree_text (stmt_view stmt)
unfolding shape
if_else_text stmt test body other last out h e =
    sym (if_of stmt test body other out h
    ∙ ap (λ x. out ++ tree_text (if_view stmt.line (expr_view test) (stmt_view body.value) (option_map (λ b. stmt_view b.value) x))) e
    ∙ node_written f.IfElse (At stmt.line ▹ expr_view test ▹ stmt_view body.value ▹ stmt_view last.value ▹ none) out)

pub items_text : (xs : List Stmt) (out : List ℕ) →
    out ++ list_text stmt_view xs ≡ out ++ tree_text (Node f.Items (trees stmt_view xs))
unfolding shape
items_text xs out = rows_text p.Item stmt_view xs out ∙ sym (node_written f.Items (trees stmt_view xs) out)

-- external declarations

pub function_text : (decl : Decl) (line : ℕ) (specs : Specs) (declarator : Declarator) (body : List Stmt) (end : ℕ) (out : List ℕ) →
    decl ≡ d.Function line specs declarator body end →
    ((((out ++ tree_text (specs_view specs)) ++ tree_text (declarator_tree declarator)) ++ word_text (Mark s.LeftBrace)) ++
    tree_text (Node f.Items (trees stmt_view body))) ++ word_text (Mark s.RightBrace) ≡
    out ++ tree_text (decl_view decl)
unfolding shape
function_text decl line specs declarator body end out h =
    sym (ap (λ x. out ++ tree_text (decl_view x)) h
    ∙ node_written f.Function (At line ▹ specs_view specs ▹ Node f.Declared (declarator_tree declarator ▹ none) ▹ body_view body end ▹ none) out
    ∙ node_written f.Body (Node f.Items (trees stmt_view body) ▹ At end ▹ none) ((out ++ tree_text (specs_view specs)) ++ tree_text (Node f.Declared (declarator_tree declarator ▹ none)))
    ∙ ap (λ o. ((o ++ word_text (Mark s.LeftBrace)) ++ tree_text (Node f.Items (trees stmt_view body))) ++ word_text (Mark s.RightBrace))
    (node_written f.Declared (declarator_tree declarator ▹ none) (out ++ tree_text (specs_view specs))))

pub declaration_text : (decl : Decl) (line : ℕ) (specs : Specs) (names : List (Declarator × Option Init)) (out : List ℕ) →
    decl ≡ d.Names line specs names →
    ((out ++ tree_text (specs_view specs)) ++ tree_text (names_view names)) ++ word_text (Mark s.Semicolon) ≡
    out ++ tree_text (decl_view decl)
unfolding shape
declaration_text decl line specs names out h =
    sym (ap (λ x. out ++ tree_text (decl_view x)) h ∙ node_written f.Declaration (At line ▹ specs_view specs ▹ names_view names ▹ none) out)

pub decls_text : (xs : List Decl) (out : List ℕ) →
    out ++ list_text decl_view xs ≡ out ++ tree_text (Node f.Unit (trees decl_view xs))
unfolding shape
decls_text xs out = rows_text p.External decl_view xs out ∙ sym (node_written f.Unit (trees decl_view xs) out)
