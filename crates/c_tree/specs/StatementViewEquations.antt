-- The same of statements and initializers, proved from `StatementView`.
use Rattle.std.proofs.Common.{◌≡◌, ℕ, Bool, List, [], ◌∷◌, Option, Some, None, option_map, Box, Vec, Global, refl, ap, ◌∙◌}
use Rattle.c_tree.specs.declared.tree.Expr.{Expr}
use Rattle.c_tree.specs.declared.statement.Init.{Init}
use Rattle.c_tree.specs.declared.statement.InitKind.{InitKind, Row_of-Init, end_of-Init, more_of-Init, items-the_row-Init, items_hidden-the_row-Init-0}
use Rattle.c_tree.specs.declared.statement.InitKind.TheBlock.{hidden-the_row-Init-0}
use Rattle.c_tree.specs.declared.statement.InitKind.TheVariants as i
use Rattle.c_tree.specs.declared.statement.Stmt.{Stmt}
use Rattle.c_tree.specs.declared.statement.StmtKind.{StmtKind, Row_of-Stmt, end_of-Stmt, more_of-Stmt, items-the_row-Stmt, items_hidden-the_row-Stmt-0}
use Rattle.c_tree.specs.declared.statement.StmtKind.TheBlock.{hidden-the_row-Stmt-0}
use Rattle.c_tree.specs.declared.statement.StmtKind.TheVariants as s
use Rattle.c_tree.specs.Forms as f
use Rattle.c_tree.specs.Tree.{Tree, Trees, Leaf, At, Node, none, ◌▹◌}
use Rattle.c_tree.specs.StatementView.{trees, expr_view, init_tree, init_trees, init_view, stmt_tree, stmt_trees, if_tree, if_view, stmt_view}

init_row : (n : _) (row : Row_of-Init n) → init_trees row ≡ trees init_view (items-the_row-Init n row)
unfolding init_trees
init_row n end_of-Init = refl
init_row n (more_of-Init line kind rest) = ap (λ ts. init_tree kind line ▹ ts) (init_row _ rest)

stmt_row : (n : _) (row : Row_of-Stmt n) → stmt_trees row ≡ trees stmt_view (items-the_row-Stmt n row)
unfolding stmt_trees
stmt_row n end_of-Stmt = refl
stmt_row n (more_of-Stmt line kind rest) = ap (λ ts. stmt_tree kind line ▹ ts) (stmt_row _ rest)

init_list : (list : Vec Init Global) → init_trees (hidden-the_row-Init-0 list) ≡ trees init_view list.items
init_list list = init_row _ (hidden-the_row-Init-0 list) ∙ ap (trees init_view) (items_hidden-the_row-Init-0 list)

stmt_list : (list : Vec Stmt Global) → stmt_trees (hidden-the_row-Stmt-0 list) ≡ trees stmt_view list.items
stmt_list list = stmt_row _ (hidden-the_row-Stmt-0 list) ∙ ap (trees stmt_view) (items_hidden-the_row-Stmt-0 list)

pub init_list_tree : (inits : Vec Init Global) (trailing : Bool) (line : ℕ) →
    init_tree (i.List inits trailing) line ≡
    Node (f.InitList trailing) (At line ▹ Node f.Inits (trees init_view inits.items) ▹ none)
unfolding init_tree
init_list_tree inits trailing line =
    ap (λ ts. Node (f.InitList trailing) (At line ▹ Node f.Inits ts ▹ none)) (init_list inits)

pub block_tree : (items : Vec Stmt Global) (line : ℕ) →
    stmt_tree (s.Block items) line ≡ Node f.Block (At line ▹ Node f.Items (trees stmt_view items.items) ▹ none)
unfolding stmt_tree
block_tree items line = ap (λ ts. Node f.Block (At line ▹ Node f.Items ts ▹ none)) (stmt_list items)

pub delay_tree : (items : Vec Stmt Global) (line : ℕ) →
    stmt_tree (s.Delay items) line ≡ Node f.Delay (At line ▹ Node f.Items (trees stmt_view items.items) ▹ none)
unfolding stmt_tree
delay_tree items line = ap (λ ts. Node f.Delay (At line ▹ Node f.Items ts ▹ none)) (stmt_list items)

pub if_else_tree : (test : Expr) (body : Box Stmt Global) (other : Option (Box Stmt Global)) (line : ℕ) →
    stmt_tree (s.If test body other) line ≡
    if_view line (expr_view test) (stmt_view body.value) (option_map (λ b. stmt_view b.value) other)
unfolding stmt_tree if_tree
if_else_tree test body None line = refl
if_else_tree test body (Some other) line = refl
