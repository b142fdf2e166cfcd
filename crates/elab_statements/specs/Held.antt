-- The tree of an expression that may be left out.
use Rattle.std.specs.Prelude.{Option, Some, None}
use Rattle.c_tree.specs.declared.tree.Expr.{Expr}
use Rattle.c_tree.specs.Tree.{Trees, none, ◌▹◌}
use Rattle.c_tree.specs.StatementView.{expr_view}

abbrev pub held : Option Expr → Trees
held None = none
held (Some e) = expr_view e ▹ none
