-- Statements of the code by their kinds, as trees of the grammar.
use Rattle.std.proofs.Common.{◌≡◌, ℕ, Option, Some, None, Box, Vec, Global, refl, ap, ◌∙◌}
use Rattle.c_tree.specs.declared.tree.Expr.{Expr}
use Rattle.c_tree.specs.declared.statement.Stmt.{Stmt}
use Rattle.c_tree.specs.declared.statement.ForStart.{ForStart}
use Rattle.c_tree.specs.declared.statement.StmtKind.{StmtKind}
use Rattle.c_tree.specs.declared.statement.StmtKind.TheVariants as s
use Rattle.c_tree.specs.Forms as f
use Rattle.c_tree.specs.Tree.{Tree, Trees, At, Node, none, ◌▹◌}
use Rattle.c_tree.specs.StatementView.{trees, expr_view, start_view, maybe_expr, stmt_tree, stmt_view}
use Rattle.c_tree.specs.StatementViewEquations.{block_tree, delay_tree, if_else_tree}
use Rattle.c_decls.specs.Refusals.{Checked}
use Rattle.elaboration.specs.Context.{Context}
use Rattle.elaboration.specs.Statements.{Around, below, statement}
use Rattle.elab_statements.specs.Held.{held}
use Rattle.elab_statements.specs.Switches.{scoped_list}

maybe_held : (e : Option Expr) → maybe_expr e ≡ Node f.MaybeExpr (held e)
maybe_held None = refl
maybe_held (Some e) = refl

module _ (kind : StmtKind) (line : ℕ) (a : Around) (c : Context) where
  abbrev of_tree : Tree → Checked Context
  of_tree tree = statement tree a c

  abbrev of_kind : StmtKind → Checked Context
  of_kind k = statement (stmt_tree k line) a c

  block_scope : (parts : Trees) → statement (Node f.Block (At line ▹ Node f.Items parts ▹ none)) a c ≡ scoped_list parts (below a) c
  unfolding statement scoped_list
  block_scope parts = refl

  pub block_is : (list : Vec Stmt Global) → kind ≡ s.Block list →
      statement (stmt_tree kind line) a c ≡ scoped_list (trees stmt_view list.items) (below a) c
  block_is list h = ap of_kind h ∙ ap of_tree (block_tree list line) ∙ block_scope (trees stmt_view list.items)

  pub delay_is : (list : Vec Stmt Global) → kind ≡ s.Delay list →
      statement (stmt_tree kind line) a c ≡ statement (Node f.Delay (At line ▹ Node f.Items (trees stmt_view list.items) ▹ none)) a c
  delay_is list h = ap of_kind h ∙ ap of_tree (delay_tree list line)

  pub if_is : (test : Expr) (body : Box Stmt Global) (other : Option (Box Stmt Global)) → kind ≡ s.If test body other → other ≡ None →
      statement (stmt_tree kind line) a c ≡ statement (Node f.If (At line ▹ expr_view test ▹ stmt_view body.value ▹ none)) a c
  if_is test body other h e =
      ap of_kind h ∙ ap (λ (o : Option (Box Stmt Global)). of_kind (s.If test body o)) e ∙ ap of_tree (if_else_tree test body None line)

  pub while_is : (test : Expr) (body : Box Stmt Global) → kind ≡ s.While test body →
      statement (stmt_tree kind line) a c ≡ statement (Node f.While (At line ▹ expr_view test ▹ stmt_view body.value ▹ none)) a c
  unfolding stmt_tree
  while_is test body h = ap of_kind h

  pub for_is : (start : ForStart) (test step : Option Expr) (body : Box Stmt Global) → kind ≡ s.For start test step body →
      statement (stmt_tree kind line) a c ≡ statement (Node f.For (At line ▹ start_view start ▹ Node f.MaybeExpr (held test) ▹ Node f.MaybeExpr (held step) ▹ stmt_view body.value ▹ none)) a c
  unfolding stmt_tree
  for_is start test step body h =
      ap of_kind h
      ∙ ap (λ (t : Tree). of_tree (Node f.For (At line ▹ start_view start ▹ t ▹ maybe_expr step ▹ stmt_view body.value ▹ none))) (maybe_held test)
      ∙ ap (λ (t : Tree). of_tree (Node f.For (At line ▹ start_view start ▹ Node f.MaybeExpr (held test) ▹ t ▹ stmt_view body.value ▹ none))) (maybe_held step)

  pub switch_is : (value : Expr) (body : Box Stmt Global) → kind ≡ s.Switch value body →
      statement (stmt_tree kind line) a c ≡ statement (Node f.Switch (At line ▹ expr_view value ▹ stmt_view body.value ▹ none)) a c
  unfolding stmt_tree
  switch_is value body h = ap of_kind h

  pub case_is : (value : Expr) (body : Box Stmt Global) → kind ≡ s.Case value body →
      statement (stmt_tree kind line) a c ≡ statement (Node f.Case (At line ▹ expr_view value ▹ stmt_view body.value ▹ none)) a c
  unfolding stmt_tree
  case_is value body h = ap of_kind h
