-- The trees of expressions whose parts are in hand.
use Rattle.std.specs.Prelude.{ℕ, List}
use Rattle.c_tree.specs.declared.tree.Expr.{Expr}
use Rattle.c_tree.specs.declared.tree.TypeName.{TypeName}
use Rattle.c_tree.specs.declared.operator.UnaryOp.{UnaryOp}
use Rattle.c_tree.specs.declared.operator.BinaryOp.{BinaryOp}
use Rattle.c_tree.specs.declared.operator.AssignOp.{AssignOp}
use Rattle.c_tree.specs.Forms as f
use Rattle.c_tree.specs.Tree.{Tree, At, Node, none, ◌▹◌}
use Rattle.c_tree.specs.View.{name_leaf}
use Rattle.c_tree.specs.StatementView.{trees, expr_view, typename_view}

-- `e[g]`
abbrev pub index_tree : ℕ → Expr → Expr → Tree
index_tree line e g = Node f.Index (At line ▹ expr_view e ▹ expr_view g ▹ none)

-- `e(list)`
abbrev pub call_tree : ℕ → Expr → List Expr → Tree
call_tree line e list = Node f.Call (At line ▹ expr_view e ▹ Node f.Arguments (trees expr_view list) ▹ none)

-- `e.name` and `e->name`
abbrev pub dot_tree : ℕ → Expr → List ℕ → Tree
dot_tree line e name = Node f.Dot (At line ▹ expr_view e ▹ name_leaf name ▹ none)

abbrev pub arrow_tree : ℕ → Expr → List ℕ → Tree
arrow_tree line e name = Node f.Arrow (At line ▹ expr_view e ▹ name_leaf name ▹ none)

-- an operator before `e`, and a cast of it
abbrev pub unary_tree : ℕ → UnaryOp → Expr → Tree
unary_tree line op e = Node (f.Unary op) (At line ▹ expr_view e ▹ none)

abbrev pub cast_tree : ℕ → TypeName → Expr → Tree
cast_tree line type e = Node f.Cast (At line ▹ typename_view type ▹ expr_view e ▹ none)

-- an operator between `e` and `g`, and an assignment of `g` to `e`
abbrev pub binary_tree : ℕ → BinaryOp → Expr → Expr → Tree
binary_tree line op e g = Node (f.Binary op) (At line ▹ expr_view e ▹ expr_view g ▹ none)

abbrev pub assign_tree : ℕ → AssignOp → Expr → Expr → Tree
assign_tree line op e g = Node (f.Assign op) (At line ▹ expr_view e ▹ expr_view g ▹ none)

-- `e ? g : h`
abbrev pub choice_tree : ℕ → Expr → Expr → Expr → Tree
choice_tree line e g h = Node f.Cond (At line ▹ expr_view e ▹ expr_view g ▹ expr_view h ▹ none)
