-- `&` before an expression.
use Rattle.std.proofs.Common.{◌≡◌, ℕ, Bool, List, Option, Some, None, Box, Global, refl, ap, ◌∙◌}
use Rattle.c_tree.specs.declared.operator.UnaryOp.{UnaryOp}
use Rattle.c_tree.specs.declared.operator.UnaryOp.TheVariants as u
use Rattle.c_tree.specs.declared.tree.Expr.{Expr}
use Rattle.c_tree.specs.declared.tree.ExprKind.{ExprKind}
use Rattle.c_tree.specs.declared.tree.ExprKind.TheVariants as e
use Rattle.c_tree.specs.Grammar.{shape}
use Rattle.c_tree.specs.Scopes.{is_scope}
use Rattle.c_tree.specs.View.{expr_tree}
use Rattle.c_tree.specs.StatementView.{expr_view}
use Rattle.elaboration.specs.Addressed.{Taken, taken, all_taken, left, plain_name, number_of, with_number, with_address}
use Rattle.elab_addressed.specs.Turns.{settled, behind_operator}

number_typedef : (number : Option ℕ) (x : Taken) → (with_number number x).typedef ≡ x.typedef
number_typedef None x = refl
number_typedef (Some n) x = refl

address_typedef : (name : Option (List ℕ)) (x : Taken) → (with_address name x).typedef ≡ x.typedef
address_typedef None x = refl
address_typedef (Some name) x = number_typedef (number_of x.names name) x

-- behind an expression the running declaration is of the same sort
keeps : (kind : ExprKind) (line : ℕ) (x : Taken) → (taken (expr_tree kind line) x).typedef ≡ x.typedef
unfolding expr_tree taken left all_taken shape is_scope
keeps (e.Name bytes) line x = refl
keeps (e.Int bytes) line x = refl
keeps (e.Char bytes) line x = refl
keeps (e.Str parts) line x = refl
keeps (e.Paren' p at kind) line x = refl
keeps (e.Index' p at kind q at2 kind2) line x = refl
keeps (e.Call' p at kind shape arguments) line x = refl
keeps (e.Dot' p at kind name) line x = refl
keeps (e.Arrow' p at kind name) line x = refl
keeps (e.PostInc' p at kind) line x = refl
keeps (e.PostDec' p at kind) line x = refl
keeps (e.PreInc' p at kind) line x = refl
keeps (e.PreDec' p at kind) line x = refl
keeps (e.Unary' u.Address p at kind) line x =
    address_typedef (plain_name (expr_tree kind at)) (taken (expr_tree kind at) x) ∙ keeps kind at x
keeps (e.Unary' op p at kind) line x = refl
keeps (e.SizeofExpr' p at kind) line x = refl
keeps (e.SizeofType' p at at2 shape words declarator) line x = refl
keeps (e.Cast' p at at2 shape words declarator q at3 kind) line x = refl
keeps (e.Binary' op p at kind q at2 kind2) line x = refl
keeps (e.Cond' p at kind q at2 kind2 r at3 kind3) line x = refl
keeps (e.Assign' op p at kind q at2 kind2) line x = refl
keeps (e.Comma' p at kind q at2 kind2) line x = refl

settle : (x y : Taken) → y.typedef ≡ x.typedef → y ≡ settled x y
settle x y h = ap (λ (b : Bool). record y { typedef = b }) h

operator_is : (op : UnaryOp) (inner : Box Expr Global) (line : ℕ) (x : Taken) →
    taken (expr_tree (e.Unary op inner) line) x ≡ settled x (behind_operator op (expr_view inner.value) (taken (expr_view inner.value) x))
unfolding expr_tree taken left all_taken shape is_scope
operator_is u.Address inner line x =
    let y : Taken = taken (expr_view inner.value) x in
    let name : Option (List ℕ) = plain_name (expr_view inner.value) in
    settle x (with_address name y) (address_typedef name y ∙ keeps inner.value.kind inner.value.line x)
operator_is op inner line x = refl

pub unary_is : (kind : ExprKind) (op : UnaryOp) (inner : Box Expr Global) (line : ℕ) (x : Taken) → kind ≡ e.Unary op inner →
    taken (expr_tree kind line) x ≡ settled x (behind_operator op (expr_view inner.value) (taken (expr_view inner.value) x))
unary_is kind op inner line x h =
    ap (λ (k : ExprKind). taken (expr_tree k line) x) h ∙ operator_is op inner line x
