-- The text of each statement, as it is written: its words and parts one behind another.
use Rattle.std.proofs.Common.{◌≡◌, ℕ, List, ◌++◌, Option, Box, Vec, Global, ap, sym, ◌∙◌}
use Rattle.c_tree.specs.declared.tree.Expr.{Expr}
use Rattle.c_tree.specs.declared.tree.Specs.{Specs}
use Rattle.c_tree.specs.declared.tree.Declarator.{Declarator}
use Rattle.c_tree.specs.declared.statement.Init.{Init}
use Rattle.c_tree.specs.declared.statement.InitKind.TheVariants as iv
use Rattle.c_tree.specs.declared.statement.Stmt.{Stmt}
use Rattle.c_tree.specs.declared.statement.StmtKind.TheVariants as st
use Rattle.c_tree.specs.declared.statement.ForStart.{ForStart}
use Rattle.c_tree.specs.declared.word.Keyword.TheVariants as k
use Rattle.c_tree.specs.declared.word.Sign.TheVariants as s
use Rattle.c_tree.specs.Words.{Key, Mark}
use Rattle.c_tree.specs.Forms as f
use Rattle.c_tree.specs.Tree.{At, Node, none, ◌▹◌}
use Rattle.c_tree.specs.Grammar.{shape}
use Rattle.c_tree.specs.Canonical.{word_text, tree_text}
use Rattle.c_tree.specs.StatementView.{trees, expr_view, specs_view, init_tree, init_view, names_view, maybe_expr, start_view, stmt_tree, stmt_view}
use Rattle.c_tree.proofs.Texts.{node_written}
use Rattle.c_tree.specs.StatementViewEquations.{block_tree, delay_tree}

pub init_expr_text : (init : Init) (value : Expr) (out : List ℕ) → init.kind ≡ iv.Expr value →
    out ++ tree_text (expr_view value) ≡ out ++ tree_text (init_view init)
unfolding init_tree shape
init_expr_text init value out h =
    sym (ap (λ kind. out ++ tree_text (init_tree kind init.line)) h ∙ node_written f.InitExpr (At init.line ▹ expr_view value ▹ none) out)

pub stmt_empty_text : (stmt : Stmt) (out : List ℕ) → stmt.kind ≡ st.Empty →
    out ++ word_text (Mark s.Semicolon) ≡ out ++ tree_text (stmt_view stmt)
unfolding stmt_tree shape
stmt_empty_text stmt out h =
    sym (ap (λ kind. out ++ tree_text (stmt_tree kind stmt.line)) h ∙ node_written f.Empty (At stmt.line ▹ none) out)

pub stmt_expr_text : (stmt : Stmt) (value : Expr) (out : List ℕ) → stmt.kind ≡ st.Expr value →
    (out ++ tree_text (expr_view value)) ++ word_text (Mark s.Semicolon) ≡ out ++ tree_text (stmt_view stmt)
unfolding stmt_tree shape
stmt_expr_text stmt value out h =
    sym (ap (λ kind. out ++ tree_text (stmt_tree kind stmt.line)) h ∙ node_written f.Expr (At stmt.line ▹ expr_view value ▹ none) out)

pub stmt_block_text : (stmt : Stmt) (items : Vec Stmt Global) (out : List ℕ) → stmt.kind ≡ st.Block items →
    ((out ++ word_text (Mark s.LeftBrace)) ++ tree_text (Node f.Items (trees stmt_view items.items))) ++ word_text (Mark s.RightBrace) ≡ out ++ tree_text (stmt_view stmt)
unfolding shape
stmt_block_text stmt items out h =
    sym (ap (λ kind. out ++ tree_text (stmt_tree kind stmt.line)) h ∙ ap (λ t. out ++ tree_text t) (block_tree items stmt.line) ∙ node_written f.Block (At stmt.line ▹ Node f.Items (trees stmt_view items.items) ▹ none) out)

pub stmt_delay_text : (stmt : Stmt) (items : Vec Stmt Global) (out : List ℕ) → stmt.kind ≡ st.Delay items →
    (((out ++ word_text (Key k.DelayFrees)) ++ word_text (Mark s.LeftBrace)) ++ tree_text (Node f.Items (trees stmt_view items.items))) ++ word_text (Mark s.RightBrace) ≡ out ++ tree_text (stmt_view stmt)
unfolding shape
stmt_delay_text stmt items out h =
    sym (ap (λ kind. out ++ tree_text (stmt_tree kind stmt.line)) h ∙ ap (λ t. out ++ tree_text t) (delay_tree items stmt.line) ∙ node_written f.Delay (At stmt.line ▹ Node f.Items (trees stmt_view items.items) ▹ none) out)

pub stmt_while_text : (stmt : Stmt) (test : Expr) (body : Box Stmt Global) (out : List ℕ) → stmt.kind ≡ st.While test body →
    ((((out ++ word_text (Key k.While)) ++ word_text (Mark s.LeftParen)) ++ tree_text (expr_view test)) ++ word_text (Mark s.RightParen)) ++ tree_text (stmt_view body.value) ≡ out ++ tree_text (stmt_view stmt)
unfolding stmt_tree shape
stmt_while_text stmt test body out h =
    sym (ap (λ kind. out ++ tree_text (stmt_tree kind stmt.line)) h ∙ node_written f.While (At stmt.line ▹ expr_view test ▹ stmt_view body.value ▹ none) out)

pub stmt_do_text : (stmt : Stmt) (body : Box Stmt Global) (test : Expr) (out : List ℕ) → stmt.kind ≡ st.Do body test →
    ((((((out ++ word_text (Key k.Do)) ++ tree_text (stmt_view body.value)) ++ word_text (Key k.While)) ++ word_text (Mark s.LeftParen)) ++ tree_text (expr_view test)) ++ word_text (Mark s.RightParen)) ++ word_text (Mark s.Semicolon) ≡ out ++ tree_text (stmt_view stmt)
unfolding stmt_tree shape
stmt_do_text stmt body test out h =
    sym (ap (λ kind. out ++ tree_text (stmt_tree kind stmt.line)) h ∙ node_written f.Do (At stmt.line ▹ stmt_view body.value ▹ expr_view test ▹ none) out)

pub stmt_for_text : (stmt : Stmt) (start : ForStart) (test : Option Expr) (step : Option Expr) (body : Box Stmt Global) (out : List ℕ) → stmt.kind ≡ st.For start test step body →
    (((((((out ++ word_text (Key k.For)) ++ word_text (Mark s.LeftParen)) ++ tree_text (start_view start)) ++ tree_text (maybe_expr test)) ++ word_text (Mark s.Semicolon)) ++ tree_text (maybe_expr step)) ++ word_text (Mark s.RightParen)) ++ tree_text (stmt_view body.value) ≡ out ++ tree_text (stmt_view stmt)
unfolding stmt_tree shape
stmt_for_text stmt start test step body out h =
    sym (ap (λ kind. out ++ tree_text (stmt_tree kind stmt.line)) h ∙ node_written f.For (At stmt.line ▹ start_view start ▹ maybe_expr test ▹ maybe_expr step ▹ stmt_view body.value ▹ none) out)

pub stmt_switch_text : (stmt : Stmt) (value : Expr) (body : Box Stmt Global) (out : List ℕ) → stmt.kind ≡ st.Switch value body →
    ((((out ++ word_text (Key k.Switch)) ++ word_text (Mark s.LeftParen)) ++ tree_text (expr_view value)) ++ word_text (Mark s.RightParen)) ++ tree_text (stmt_view body.value) ≡ out ++ tree_text (stmt_view stmt)
unfolding stmt_tree shape
stmt_switch_text stmt value body out h =
    sym (ap (λ kind. out ++ tree_text (stmt_tree kind stmt.line)) h ∙ node_written f.Switch (At stmt.line ▹ expr_view value ▹ stmt_view body.value ▹ none) out)

pub stmt_case_text : (stmt : Stmt) (value : Expr) (body : Box Stmt Global) (out : List ℕ) → stmt.kind ≡ st.Case value body →
    (((out ++ word_text (Key k.Case)) ++ tree_text (expr_view value)) ++ word_text (Mark s.Colon)) ++ tree_text (stmt_view body.value) ≡ out ++ tree_text (stmt_view stmt)
unfolding stmt_tree shape
stmt_case_text stmt value body out h =
    sym (ap (λ kind. out ++ tree_text (stmt_tree kind stmt.line)) h ∙ node_written f.Case (At stmt.line ▹ expr_view value ▹ stmt_view body.value ▹ none) out)

pub stmt_default_text : (stmt : Stmt) (body : Box Stmt Global) (out : List ℕ) → stmt.kind ≡ st.Default body →
    ((out ++ word_text (Key k.Default)) ++ word_text (Mark s.Colon)) ++ tree_text (stmt_view body.value) ≡ out ++ tree_text (stmt_view stmt)
unfolding stmt_tree shape
stmt_default_text stmt body out h =
    sym (ap (λ kind. out ++ tree_text (stmt_tree kind stmt.line)) h ∙ node_written f.Default (At stmt.line ▹ stmt_view body.value ▹ none) out)

pub stmt_break_text : (stmt : Stmt) (out : List ℕ) → stmt.kind ≡ st.Break →
    (out ++ word_text (Key k.Break)) ++ word_text (Mark s.Semicolon) ≡ out ++ tree_text (stmt_view stmt)
unfolding stmt_tree shape
stmt_break_text stmt out h =
    sym (ap (λ kind. out ++ tree_text (stmt_tree kind stmt.line)) h ∙ node_written f.Break (At stmt.line ▹ none) out)

pub stmt_continue_text : (stmt : Stmt) (out : List ℕ) → stmt.kind ≡ st.Continue →
    (out ++ word_text (Key k.Continue)) ++ word_text (Mark s.Semicolon) ≡ out ++ tree_text (stmt_view stmt)
unfolding stmt_tree shape
stmt_continue_text stmt out h =
    sym (ap (λ kind. out ++ tree_text (stmt_tree kind stmt.line)) h ∙ node_written f.Continue (At stmt.line ▹ none) out)

pub stmt_return_text : (stmt : Stmt) (value : Option Expr) (out : List ℕ) → stmt.kind ≡ st.Return value →
    ((out ++ word_text (Key k.Return)) ++ tree_text (maybe_expr value)) ++ word_text (Mark s.Semicolon) ≡ out ++ tree_text (stmt_view stmt)
unfolding stmt_tree shape
stmt_return_text stmt value out h =
    sym (ap (λ kind. out ++ tree_text (stmt_tree kind stmt.line)) h ∙ node_written f.Return (At stmt.line ▹ maybe_expr value ▹ none) out)

pub stmt_local_text : (stmt : Stmt) (specs : Specs) (names : List (Declarator × Option Init)) (out : List ℕ) → stmt.kind ≡ st.Local specs names →
    ((out ++ tree_text (specs_view specs)) ++ tree_text (names_view names)) ++ word_text (Mark s.Semicolon) ≡ out ++ tree_text (stmt_view stmt)
unfolding stmt_tree shape
stmt_local_text stmt specs names out h =
    sym (ap (λ kind. out ++ tree_text (stmt_tree kind stmt.line)) h ∙ node_written f.Local (At stmt.line ▹ specs_view specs ▹ names_view names ▹ none) out)
