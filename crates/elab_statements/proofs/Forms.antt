-- Initializers by their kinds.
use Rattle.std.proofs.Common.{◌≡◌, ℕ, Bool, Some, Ok, Vec, Global, length, ap, ◌∙◌}
use Rattle.c_types.specs.Types.{PlainType, Void}
use Rattle.c_tree.specs.declared.tree.Expr.{Expr}
use Rattle.c_tree.specs.declared.statement.Init.{Init}
use Rattle.c_tree.specs.declared.statement.InitKind.{InitKind}
use Rattle.c_tree.specs.declared.statement.InitKind.TheVariants as i
use Rattle.c_tree.specs.Tree.{Tree, none, ◌▹◌}
use Rattle.c_tree.specs.StatementView.{trees, expr_view, init_tree, init_view}
use Rattle.c_tree.specs.StatementViewEquations.{init_list_tree}
use Rattle.c_decls.specs.Expressions.{line_of}
use Rattle.c_decls.specs.Refusals.{then}
use Rattle.elaboration.specs.Context.{Context}
use Rattle.elaboration.specs.Reallocates.{opened}
use Rattle.elaboration.specs.Expressions.{found}
use Rattle.elaboration.specs.Initializers.{Target, surplus, all_surplus, initialize, by_expression, given_length, text, text_length}
use Rattle.elab_statements.specs.Braces.{in_braces}
use Rattle.elab_statements.proofs.InitsInTurn.{count_trees}

pub surplus_expr : (kind : InitKind) (e : Expr) (line : ℕ) (c : Context) → kind ≡ i.Expr e →
    surplus (init_tree kind line) c ≡ then (found (expr_view e) Void (opened (expr_view e) c)) (λ d. Ok d.0)
unfolding surplus init_tree
surplus_expr kind e line c h = ap (λ (k : InitKind). surplus (init_tree k line) c) h

pub surplus_list : (kind : InitKind) (list : Vec Init Global) (trailing : Bool) (line : ℕ) (c : Context) → kind ≡ i.List list trailing →
    surplus (init_tree kind line) c ≡ all_surplus (trees init_view list.items) c
unfolding surplus
surplus_list kind list trailing line c h =
    ap (λ (k : InitKind). surplus (init_tree k line) c) h
    ∙ ap (λ (tree : Tree). surplus tree c) (init_list_tree list trailing line)

module _ (in_scalar : Bool) (type : PlainType) (offset : ℕ) (target : Target) (c : Context) where
  pub init_expr : (kind : InitKind) (e : Expr) (line : ℕ) → kind ≡ i.Expr e →
      initialize (init_tree kind line) in_scalar type offset target c ≡ by_expression (expr_view e) (line_of (expr_view e)) type offset target c
  unfolding initialize init_tree
  init_expr kind e line h = ap (λ (k : InitKind). initialize (init_tree k line) in_scalar type offset target c) h

  pub init_list : (kind : InitKind) (list : Vec Init Global) (trailing : Bool) (line : ℕ) → kind ≡ i.List list trailing →
      initialize (init_tree kind line) in_scalar type offset target c ≡ in_braces line (trees init_view list.items) in_scalar type offset target c
  unfolding initialize
  init_list kind list trailing line h =
      ap (λ (k : InitKind). initialize (init_tree k line) in_scalar type offset target c) h
      ∙ ap (λ (tree : Tree). initialize tree in_scalar type offset target c) (init_list_tree list trailing line)

pub length_of_expr : (element : PlainType) (kind : InitKind) (e : Expr) (line : ℕ) → kind ≡ i.Expr e →
    given_length element (init_tree kind line ▹ none) ≡ Some (text_length element (text (expr_view e)))
unfolding init_tree
length_of_expr element kind e line h = ap (λ (k : InitKind). given_length element (init_tree k line ▹ none)) h

pub length_of_list : (element : PlainType) (kind : InitKind) (list : Vec Init Global) (trailing : Bool) (line : ℕ) → kind ≡ i.List list trailing →
    given_length element (init_tree kind line ▹ none) ≡ Some (length list.items)
length_of_list element kind list trailing line h =
    ap (λ (k : InitKind). given_length element (init_tree k line ▹ none)) h
    ∙ ap (λ (tree : Tree). given_length element (tree ▹ none)) (init_list_tree list trailing line)
    ∙ ap Some (count_trees list.items)
