-- The value of a constant expression, once it has its type.
use Rattle.std.proofs.Common.{◌≡◌, ℕ, Result, Ok, Err, refl, ap, sym, ◌∙◌}
use Rattle.c_types.specs.TagTable.{TagTable}
use Rattle.c_tree.specs.declared.tree.ExprKind.{ExprKind}
use Rattle.c_tree.specs.View.{expr_tree}
use Rattle.c_decls.specs.declared.refusal.TypeError.{TypeError}
use Rattle.c_decls.specs.declared.refusal.TypeError.TheVariants as e
use Rattle.c_decls.specs.declared.constant.Constant.{Constant}
use Rattle.c_decls.specs.declared.typed.Typed.{Typed}
use Rattle.c_decls.specs.Refusals.{Checked, Answers, Meets, refused, then}
use Rattle.c_decls.specs.ScopeList.{ScopeList}
use Rattle.c_decls.specs.Typed.{PlainTyped, plain_typed}
use Rattle.c_decls.specs.TypeNames.{Context}
use Rattle.c_decls.specs.Expressions.{line_of, typed, wanted, constant_from, constant_value}
use Rattle.c_typing.specs.Walks.{here}

-- what is asked of the type alone is asked behind the walk
behind_the_walk : (line : ℕ) (w : Checked (Context × PlainTyped)) →
    then w (λ d. constant_from line d.1.type d.1.folded) ≡ then (then w (λ d. Ok d.1)) (λ x. constant_from line x.type x.folded)
behind_the_walk line (Ok d) = refl
behind_the_walk line (Err refusal) = refl

value_of : (kind : ExprKind) (line : ℕ) (scopes : ScopeList) (tags : TagTable) →
    constant_value scopes tags (expr_tree kind line)
    ≡ then (then (wanted (expr_tree kind line) (typed (expr_tree kind line) (here scopes tags))) (λ d. Ok d.1)) (λ x. constant_from (line_of (expr_tree kind line)) x.type x.folded)
value_of kind line scopes tags =
    behind_the_walk (line_of (expr_tree kind line)) (wanted (expr_tree kind line) (typed (expr_tree kind line) (here scopes tags)))

-- the expression has a type
pub constant_is : (kind : ExprKind) (line : ℕ) (scopes : ScopeList) (tags : TagTable) (x : PlainTyped) →
    then (wanted (expr_tree kind line) (typed (expr_tree kind line) (here scopes tags))) (λ d. Ok d.1) ≡ Ok x →
    constant_value scopes tags (expr_tree kind line) ≡ constant_from (line_of (expr_tree kind line)) x.type x.folded
constant_is kind line scopes tags x is =
    value_of kind line scopes tags ∙ ap (λ a. then a (λ x. constant_from (line_of (expr_tree kind line)) x.type x.folded)) is

-- the expression is refused
pub refused_before : (kind : ExprKind) (line : ℕ) (scopes : ScopeList) (tags : TagTable) (error : TypeError) →
    Meets plain_typed (Err error) (then (wanted (expr_tree kind line) (typed (expr_tree kind line) (here scopes tags))) (λ d. Ok d.1)) →
    Meets {B = Constant} (λ (k : Constant). k) (Err error) (constant_value scopes tags (expr_tree kind line))
refused_before kind line scopes tags (e.Bad why at) is =
    value_of kind line scopes tags ∙ ap (λ a. then a (λ x. constant_from (line_of (expr_tree kind line)) x.type x.folded)) is
refused_before kind line scopes tags e.NoMemory is = tt

-- a refusal, where memory may be wanted too
pub refusal_meets : {A B : Type 0} (view : A → B) (error : TypeError) (w : Checked B) → Answers view (Err error) w → Meets view (Err error) w
refusal_meets view (e.Bad kind line) w h = h
refusal_meets view e.NoMemory w h = tt
