-- The two forms of a switch.
use Rattle.std.proofs.Common.{◌≡◌, ℕ, false, Vec, Global, ap, ◌∙◌, refl}
use Rattle.c_tree.specs.declared.statement.Stmt.{Stmt}
use Rattle.c_tree.specs.declared.statement.StmtKind.{StmtKind, None', Some'}
use Rattle.c_tree.specs.declared.statement.StmtKind.TheVariants as s
use Rattle.c_tree.specs.Forms as f
use Rattle.c_tree.specs.Tree.{Tree, At, Node, none, ◌▹◌}
use Rattle.c_tree.specs.StatementView.{trees, stmt_tree, stmt_view, if_tree}
use Rattle.c_tree.specs.StatementViewEquations.{block_tree}
use Rattle.elaboration.specs.Context.{Context}
use Rattle.elaboration.specs.Statements.{Around, statement}
use Rattle.elab_statements.specs.Switches.{switch_block, switch_other, is_block}

module _ (line : ℕ) (value : Tree) (at : ℕ) (a : Around) (c : Context) where
  pub block_switch : (kind : StmtKind) (list : Vec Stmt Global) → kind ≡ s.Block list →
      statement (Node f.Switch (At line ▹ value ▹ stmt_tree kind at ▹ none)) a c ≡ switch_block line value (trees stmt_view list.items) a c
  unfolding statement switch_block
  block_switch kind list h =
      ap (λ (k : StmtKind). statement (Node f.Switch (At line ▹ value ▹ stmt_tree k at ▹ none)) a c) h
      ∙ ap (λ (tree : Tree). statement (Node f.Switch (At line ▹ value ▹ tree ▹ none)) a c) (block_tree list at)

  pub other_switch : (kind : StmtKind) → is_block kind ≡ false →
      statement (Node f.Switch (At line ▹ value ▹ stmt_tree kind at ▹ none)) a c ≡ switch_other line value (stmt_tree kind at) a c
  unfolding statement stmt_tree if_tree switch_other
  other_switch s.Empty h = refl
  other_switch (s.Expr e) h = refl
  other_switch (s.Block' shape items) h = cc
  other_switch (s.Delay' shape items) h = refl
  other_switch (s.If' e p q kind None') h = refl
  other_switch (s.If' e p q kind (Some' p2 q2 kind2)) h = refl
  other_switch (s.While' e p q kind) h = refl
  other_switch (s.Do' p q kind e) h = refl
  other_switch (s.For' start test step p q kind) h = refl
  other_switch (s.Switch' e p q kind) h = refl
  other_switch (s.Case' e p q kind) h = refl
  other_switch (s.Default' p q kind) h = refl
  other_switch s.Break h = refl
  other_switch s.Continue h = refl
  other_switch (s.Return e) h = refl
  other_switch (s.Local specs names) h = refl
