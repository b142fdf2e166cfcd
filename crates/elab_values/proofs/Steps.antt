-- The steps of the walk: trees of forms, and code that is cut back to where it stood.
use Rattle.std.proofs.Common.{◌≡◌, ℕ, List, None, Ok, Box, Vec, Global, refl, sym, ap, subst, ◌∙◌}
use Rattle.c_types.specs.Types.{PlainType, Void}
use Rattle.c_tree.specs.declared.operator.UnaryOp.{UnaryOp}
use Rattle.c_tree.specs.declared.operator.UnaryOp.TheVariants as u
use Rattle.c_tree.specs.declared.operator.BinaryOp.{BinaryOp}
use Rattle.c_tree.specs.declared.operator.BinaryOp.TheVariants as b
use Rattle.c_tree.specs.declared.operator.AssignOp.{AssignOp}
use Rattle.c_tree.specs.declared.operator.AssignOp.TheVariants as a
use Rattle.c_tree.specs.declared.tree.Expr.{Expr}
use Rattle.c_tree.specs.declared.tree.ExprKind.{ExprKind}
use Rattle.c_tree.specs.declared.tree.ExprKind.TheVariants as x
use Rattle.c_tree.specs.declared.tree.TypeName.{TypeName}
use Rattle.c_tree.specs.Forms as f
use Rattle.c_tree.specs.Tree.{Tree, At, Node, none, ◌▹◌}
use Rattle.c_tree.specs.View.{expr_tree}
use Rattle.c_tree.specs.StatementView.{trees, expr_view, typename_view}
use Rattle.c_tree.specs.ViewEquations.{call_tree, cast_tree}
use Rattle.c_decls.specs.Refusals.{then}
use Rattle.c_decls.specs.Callees.{NoFunction}
use Rattle.elab_base.specs.declared.code.Mark.{Mark}
use Rattle.elab_base.specs.Marks.{mark_of, cut}
use Rattle.elab_rules.specs.Behind.{Behind, From}
use Rattle.elab_rules.specs.GrowthEquations.{Grown, none_behind, cut_back, valued_grown}
use Rattle.elab_rules.specs.FoundEquations.{found_grown, operand_grown}
use Rattle.elab_values.specs.Forms.{before_value, between_values, changed_place}
use Rattle.c_decls.specs.Expressions.{typed}
use Rattle.elaboration.specs.Context.{Context, With, asked}
use Rattle.elaboration.specs.Conversions.{Found, valued, unused}
use Rattle.elaboration.specs.Expressions.{found, value_of, callee, callee_name, comma_answer, unevaluated, cast_operand}

-- code

pub found_behind : (kind : ExprKind) (line : ℕ) (wanted : PlainType) (c d : Context) (e : Found) →
    found (expr_tree kind line) wanted c ≡ Ok (d, e) → Behind c.code.pieces d.code.pieces
found_behind kind line wanted c d e is =
    let P : With Found → Type 0 = λ w. Grown c.code.pieces w in
    let h : From c.code.pieces d = subst P is (found_grown c.code.pieces kind line wanted c (none_behind c.code.pieces)) in h

-- the code in front of a value, whose mark was taken there
pub cut_value : (kind : ExprKind) (line : ℕ) (wanted : PlainType) (m : Mark) (c d : Context) (e : Found) → m ≡ mark_of c.code →
    value_of (expr_tree kind line) wanted c ≡ Ok (d, e) → cut m d.code ≡ c.code
cut_value kind line wanted m c d e marked is =
    let P : With Found → Type 0 = λ w. Grown c.code.pieces w in
    let h : From c.code.pieces d =
    subst P is (valued_grown c.code.pieces (expr_tree kind line) (found (expr_tree kind line) wanted c)
    (found_grown c.code.pieces kind line wanted c (none_behind c.code.pieces))) in
    ap (λ n. cut n d.code) marked ∙ cut_back c.code d.code h

-- the code in front of the operand of a cast
pub cut_operand : (kind : ExprKind) (line : ℕ) (type : PlainType) (m : Mark) (c d : Context) (e : Found) → m ≡ mark_of c.code →
    cast_operand type (expr_tree kind line) (found (expr_tree kind line) type c) ≡ Ok (d, e) → cut m d.code ≡ c.code
cut_operand kind line type m c d e marked is =
    let P : With Found → Type 0 = λ w. Grown c.code.pieces w in
    let h : From c.code.pieces d =
    subst P is (operand_grown c.code.pieces type (expr_tree kind line) (found (expr_tree kind line) type c)
    (found_grown c.code.pieces kind line type c (none_behind c.code.pieces))) in
    ap (λ n. cut n d.code) marked ∙ cut_back c.code d.code h

-- forms

pub call_is : (kind : ExprKind) (function : Box Expr Global) (list : Vec Expr Global) (line : ℕ) (wanted : PlainType) (c : Context) →
    kind ≡ x.Call function list →
    found (expr_tree kind line) wanted c
    ≡ found (Node f.Call (At line ▹ expr_view function.value ▹ Node f.Arguments (trees expr_view list.items) ▹ none)) wanted c
call_is kind function list line wanted c h =
    ap (λ (k : ExprKind). found (expr_tree k line) wanted c) h ∙ ap (λ (t : Tree). found t wanted c) (call_tree function list line)

pub cast_is : (kind : ExprKind) (type : Box TypeName Global) (operand : Box Expr Global) (t : TypeName) (e : Expr) (line : ℕ) (wanted : PlainType) (c : Context) →
    kind ≡ x.Cast type operand → t ≡ type.value → e ≡ operand.value →
    found (expr_tree kind line) wanted c ≡ found (Node f.Cast (At line ▹ typename_view t ▹ expr_view e ▹ none)) Void c
unfolding found
cast_is kind type operand t e line wanted c h named same =
    ap (λ (k : ExprKind). found (expr_tree k line) wanted c) h ∙ ap (λ (t : Tree). found t wanted c) (cast_tree type operand line)
    ∙ ap (λ (u : TypeName). found (Node f.Cast (At line ▹ typename_view u ▹ expr_view operand.value ▹ none)) Void c) (sym named)
    ∙ ap (λ (g : Expr). found (Node f.Cast (At line ▹ typename_view t ▹ expr_view g ▹ none)) Void c) (sym same)

pub index_is : (kind : ExprKind) (p q : Box Expr Global) (e g : Expr) (line : ℕ) (wanted : PlainType) (c : Context) →
    kind ≡ x.Index p q → e ≡ p.value → g ≡ q.value →
    found (expr_tree kind line) wanted c ≡ found (Node f.Index (At line ▹ expr_view e ▹ expr_view g ▹ none)) Void c
unfolding found expr_tree
index_is kind p q e g line wanted c h first second =
    ap (λ (k : ExprKind). found (expr_tree k line) wanted c) h
    ∙ ap (λ (u : Expr). found (Node f.Index (At line ▹ expr_view u ▹ expr_view q.value ▹ none)) Void c) (sym first)
    ∙ ap (λ (u : Expr). found (Node f.Index (At line ▹ expr_view e ▹ expr_view u ▹ none)) Void c) (sym second)

abbrev commas : Tree → Tree → Context → With Found
commas e g c = then (unused e (found e Void c)) (λ d. then (unused g (found g Void d.0)) (λ r. Ok (comma_answer r)))

pub comma_is : (kind : ExprKind) (p q : Box Expr Global) (e g : Expr) (line : ℕ) (wanted : PlainType) (c : Context) →
    kind ≡ x.Comma p q → e ≡ p.value → g ≡ q.value →
    found (expr_tree kind line) wanted c
    ≡ then (unused (expr_view e) (found (expr_view e) Void c)) (λ d. then (unused (expr_view g) (found (expr_view g) Void d.0)) (λ r. Ok (comma_answer r)))
unfolding found expr_tree
comma_is kind p q e g line wanted c h first second =
    ap (λ (k : ExprKind). found (expr_tree k line) wanted c) h
    ∙ ap (λ (u : Expr). commas (expr_view u) (expr_view q.value) c) (sym first)
    ∙ ap (λ (u : Expr). commas (expr_view e) (expr_view u) c) (sym second)

pub cond_is : (kind : ExprKind) (p q r : Box Expr Global) (e g k : Expr) (line : ℕ) (wanted : PlainType) (c : Context) →
    kind ≡ x.Cond p q r → e ≡ p.value → g ≡ q.value → k ≡ r.value →
    found (expr_tree kind line) wanted c ≡ found (Node f.Cond (At line ▹ expr_view e ▹ expr_view g ▹ expr_view k ▹ none)) Void c
unfolding found expr_tree
cond_is kind p q r e g k line wanted c h first second third =
    ap (λ (u : ExprKind). found (expr_tree u line) wanted c) h
    ∙ ap (λ (u : Expr). found (Node f.Cond (At line ▹ expr_view u ▹ expr_view q.value ▹ expr_view r.value ▹ none)) Void c) (sym first)
    ∙ ap (λ (u : Expr). found (Node f.Cond (At line ▹ expr_view e ▹ expr_view u ▹ expr_view r.value ▹ none)) Void c) (sym second)
    ∙ ap (λ (u : Expr). found (Node f.Cond (At line ▹ expr_view e ▹ expr_view g ▹ expr_view u ▹ none)) Void c) (sym third)

pub sizeof_expr_is : (kind : ExprKind) (operand : Box Expr Global) (line : ℕ) (wanted : PlainType) (c : Context) → kind ≡ x.SizeofExpr operand →
    found (expr_tree kind line) wanted c ≡ unevaluated c (typed (expr_tree kind line) (asked c))
unfolding found expr_tree
sizeof_expr_is kind operand line wanted c h =
    let P : ExprKind → Type 0 = λ k. found (expr_tree k line) wanted c ≡ unevaluated c (typed (expr_tree k line) (asked c)) in
    subst P (sym h) refl

pub sizeof_type_is : (kind : ExprKind) (type : Box TypeName Global) (line : ℕ) (wanted : PlainType) (c : Context) → kind ≡ x.SizeofType type →
    found (expr_tree kind line) wanted c ≡ unevaluated c (typed (expr_tree kind line) (asked c))
unfolding found expr_tree
sizeof_type_is kind type line wanted c h =
    let P : ExprKind → Type 0 = λ k. found (expr_tree k line) wanted c ≡ unevaluated c (typed (expr_tree k line) (asked c)) in
    subst P (sym h) refl

pub unary_is : (op : UnaryOp) (line : ℕ) (e : Tree) (wanted : PlainType) (c : Context) → (op ≡ u.Address → ⊥) →
    found (Node (f.Unary op) (At line ▹ e ▹ none)) wanted c ≡ before_value line op e c
unfolding found
unary_is u.Address line e wanted c not = absurd (not refl)
unary_is u.Deref line e wanted c not = refl
unary_is u.Plus line e wanted c not = refl
unary_is u.Minus line e wanted c not = refl
unary_is u.Complement line e wanted c not = refl
unary_is u.Not line e wanted c not = refl

pub binary_is : (op : BinaryOp) (line : ℕ) (e g : Tree) (wanted : PlainType) (c : Context) → (op ≡ b.And → ⊥) → (op ≡ b.Or → ⊥) →
    found (Node (f.Binary op) (At line ▹ e ▹ g ▹ none)) wanted c ≡ between_values line op e g c
unfolding found
binary_is b.And line e g wanted c no_and no_or = absurd (no_and refl)
binary_is b.Or line e g wanted c no_and no_or = absurd (no_or refl)
binary_is b.BitOr line e g wanted c no_and no_or = refl
binary_is b.BitXor line e g wanted c no_and no_or = refl
binary_is b.BitAnd line e g wanted c no_and no_or = refl
binary_is b.Equal line e g wanted c no_and no_or = refl
binary_is b.NotEqual line e g wanted c no_and no_or = refl
binary_is b.Less line e g wanted c no_and no_or = refl
binary_is b.Greater line e g wanted c no_and no_or = refl
binary_is b.LessEqual line e g wanted c no_and no_or = refl
binary_is b.GreaterEqual line e g wanted c no_and no_or = refl
binary_is b.ShiftLeft line e g wanted c no_and no_or = refl
binary_is b.ShiftRight line e g wanted c no_and no_or = refl
binary_is b.Add line e g wanted c no_and no_or = refl
binary_is b.Subtract line e g wanted c no_and no_or = refl
binary_is b.Multiply line e g wanted c no_and no_or = refl
binary_is b.Divide line e g wanted c no_and no_or = refl
binary_is b.Remainder line e g wanted c no_and no_or = refl

pub change_is : (op : AssignOp) (line : ℕ) (e g : Tree) (wanted : PlainType) (c : Context) → (op ≡ a.Plain → ⊥) →
    found (Node (f.Assign op) (At line ▹ e ▹ g ▹ none)) wanted c ≡ changed_place line op e g c
unfolding found
change_is a.Plain line e g wanted c not = absurd (not refl)
change_is a.Multiply line e g wanted c not = refl
change_is a.Divide line e g wanted c not = refl
change_is a.Remainder line e g wanted c not = refl
change_is a.Add line e g wanted c not = refl
change_is a.Subtract line e g wanted c not = refl
change_is a.ShiftLeft line e g wanted c not = refl
change_is a.ShiftRight line e g wanted c not = refl
change_is a.BitAnd line e g wanted c not = refl
change_is a.BitXor line e g wanted c not = refl
change_is a.BitOr line e g wanted c not = refl

-- what is wanted does not matter to operators

unary_wanted : (op : UnaryOp) (line : ℕ) (e : Tree) (wanted : PlainType) (c : Context) →
    found (Node (f.Unary op) (At line ▹ e ▹ none)) wanted c ≡ found (Node (f.Unary op) (At line ▹ e ▹ none)) Void c
unfolding found
unary_wanted u.Address line e wanted c = refl
unary_wanted u.Deref line e wanted c = refl
unary_wanted u.Plus line e wanted c = refl
unary_wanted u.Minus line e wanted c = refl
unary_wanted u.Complement line e wanted c = refl
unary_wanted u.Not line e wanted c = refl

binary_wanted : (op : BinaryOp) (line : ℕ) (e g : Tree) (wanted : PlainType) (c : Context) →
    found (Node (f.Binary op) (At line ▹ e ▹ g ▹ none)) wanted c ≡ found (Node (f.Binary op) (At line ▹ e ▹ g ▹ none)) Void c
unfolding found
binary_wanted b.And line e g wanted c = refl
binary_wanted b.Or line e g wanted c = refl
binary_wanted b.BitOr line e g wanted c = refl
binary_wanted b.BitXor line e g wanted c = refl
binary_wanted b.BitAnd line e g wanted c = refl
binary_wanted b.Equal line e g wanted c = refl
binary_wanted b.NotEqual line e g wanted c = refl
binary_wanted b.Less line e g wanted c = refl
binary_wanted b.Greater line e g wanted c = refl
binary_wanted b.LessEqual line e g wanted c = refl
binary_wanted b.GreaterEqual line e g wanted c = refl
binary_wanted b.ShiftLeft line e g wanted c = refl
binary_wanted b.ShiftRight line e g wanted c = refl
binary_wanted b.Add line e g wanted c = refl
binary_wanted b.Subtract line e g wanted c = refl
binary_wanted b.Multiply line e g wanted c = refl
binary_wanted b.Divide line e g wanted c = refl
binary_wanted b.Remainder line e g wanted c = refl

assign_wanted : (op : AssignOp) (line : ℕ) (e g : Tree) (wanted : PlainType) (c : Context) →
    found (Node (f.Assign op) (At line ▹ e ▹ g ▹ none)) wanted c ≡ found (Node (f.Assign op) (At line ▹ e ▹ g ▹ none)) Void c
unfolding found
assign_wanted a.Plain line e g wanted c = refl
assign_wanted a.Multiply line e g wanted c = refl
assign_wanted a.Divide line e g wanted c = refl
assign_wanted a.Remainder line e g wanted c = refl
assign_wanted a.Add line e g wanted c = refl
assign_wanted a.Subtract line e g wanted c = refl
assign_wanted a.ShiftLeft line e g wanted c = refl
assign_wanted a.ShiftRight line e g wanted c = refl
assign_wanted a.BitAnd line e g wanted c = refl
assign_wanted a.BitXor line e g wanted c = refl
assign_wanted a.BitOr line e g wanted c = refl

pub unary_node : (kind : ExprKind) (op : UnaryOp) (p : Box Expr Global) (e : Expr) (line : ℕ) (wanted : PlainType) (c : Context) →
    kind ≡ x.Unary op p → e ≡ p.value →
    found (expr_tree kind line) wanted c ≡ found (Node (f.Unary op) (At line ▹ expr_view e ▹ none)) Void c
unfolding expr_tree
unary_node kind op p e line wanted c h same =
    ap (λ (k : ExprKind). found (expr_tree k line) wanted c) h
    ∙ ap (λ (u : Expr). found (Node (f.Unary op) (At line ▹ expr_view u ▹ none)) wanted c) (sym same)
    ∙ unary_wanted op line (expr_view e) wanted c

pub binary_node : (kind : ExprKind) (op : BinaryOp) (p q : Box Expr Global) (e g : Expr) (line : ℕ) (wanted : PlainType) (c : Context) →
    kind ≡ x.Binary op p q → e ≡ p.value → g ≡ q.value →
    found (expr_tree kind line) wanted c ≡ found (Node (f.Binary op) (At line ▹ expr_view e ▹ expr_view g ▹ none)) Void c
unfolding expr_tree
binary_node kind op p q e g line wanted c h first second =
    ap (λ (k : ExprKind). found (expr_tree k line) wanted c) h
    ∙ ap (λ (u : Expr). found (Node (f.Binary op) (At line ▹ expr_view u ▹ expr_view q.value ▹ none)) wanted c) (sym first)
    ∙ ap (λ (u : Expr). found (Node (f.Binary op) (At line ▹ expr_view e ▹ expr_view u ▹ none)) wanted c) (sym second)
    ∙ binary_wanted op line (expr_view e) (expr_view g) wanted c

pub assign_node : (kind : ExprKind) (op : AssignOp) (p q : Box Expr Global) (e g : Expr) (line : ℕ) (wanted : PlainType) (c : Context) →
    kind ≡ x.Assign op p q → e ≡ p.value → g ≡ q.value →
    found (expr_tree kind line) wanted c ≡ found (Node (f.Assign op) (At line ▹ expr_view e ▹ expr_view g ▹ none)) Void c
unfolding expr_tree
assign_node kind op p q e g line wanted c h first second =
    ap (λ (k : ExprKind). found (expr_tree k line) wanted c) h
    ∙ ap (λ (u : Expr). found (Node (f.Assign op) (At line ▹ expr_view u ▹ expr_view q.value ▹ none)) wanted c) (sym first)
    ∙ ap (λ (u : Expr). found (Node (f.Assign op) (At line ▹ expr_view e ▹ expr_view u ▹ none)) wanted c) (sym second)
    ∙ assign_wanted op line (expr_view e) (expr_view g) wanted c

-- what is called where it is no name
pub callee_other : (kind : ExprKind) (line : ℕ) (c : Context) (answer : With Found) → ((name : List ℕ) → kind ≡ x.Name name → ⊥) →
    callee (expr_tree kind line) c answer ≡ then (valued (expr_tree kind line) answer) (λ d. Ok (d.0, NoFunction))
unfolding expr_tree
callee_other (x.Name bytes) line c answer not = absurd (not bytes refl)
callee_other (x.Int bytes) line c answer not = refl
callee_other (x.Char bytes) line c answer not = refl
callee_other (x.Str parts) line c answer not = refl
callee_other (x.Paren' p at kind) line c answer not = refl
callee_other (x.Index' p at kind q at2 kind2) line c answer not = refl
callee_other (x.Call' p at kind shape list) line c answer not = refl
callee_other (x.Dot' p at kind name) line c answer not = refl
callee_other (x.Arrow' p at kind name) line c answer not = refl
callee_other (x.PostInc' p at kind) line c answer not = refl
callee_other (x.PostDec' p at kind) line c answer not = refl
callee_other (x.PreInc' p at kind) line c answer not = refl
callee_other (x.PreDec' p at kind) line c answer not = refl
callee_other (x.Unary' op p at kind) line c answer not = refl
callee_other (x.SizeofExpr' p at kind) line c answer not = refl
callee_other (x.SizeofType' p at at2 shape words declarator) line c answer not = refl
callee_other (x.Cast' p at at2 shape words declarator q at3 kind) line c answer not = refl
callee_other (x.Binary' op p at kind q at2 kind2) line c answer not = refl
callee_other (x.Cond' p at kind q at2 kind2 r at3 kind3) line c answer not = refl
callee_other (x.Assign' op p at kind q at2 kind2) line c answer not = refl
callee_other (x.Comma' p at kind q at2 kind2) line c answer not = refl

pub no_callee_name : (kind : ExprKind) (line : ℕ) (c : Context) → ((name : List ℕ) → kind ≡ x.Name name → ⊥) →
    callee_name (expr_tree kind line) c ≡ None
unfolding expr_tree
no_callee_name (x.Name bytes) line c not = absurd (not bytes refl)
no_callee_name (x.Int bytes) line c not = refl
no_callee_name (x.Char bytes) line c not = refl
no_callee_name (x.Str parts) line c not = refl
no_callee_name (x.Paren' p at kind) line c not = refl
no_callee_name (x.Index' p at kind q at2 kind2) line c not = refl
no_callee_name (x.Call' p at kind shape list) line c not = refl
no_callee_name (x.Dot' p at kind name) line c not = refl
no_callee_name (x.Arrow' p at kind name) line c not = refl
no_callee_name (x.PostInc' p at kind) line c not = refl
no_callee_name (x.PostDec' p at kind) line c not = refl
no_callee_name (x.PreInc' p at kind) line c not = refl
no_callee_name (x.PreDec' p at kind) line c not = refl
no_callee_name (x.Unary' op p at kind) line c not = refl
no_callee_name (x.SizeofExpr' p at kind) line c not = refl
no_callee_name (x.SizeofType' p at at2 shape words declarator) line c not = refl
no_callee_name (x.Cast' p at at2 shape words declarator q at3 kind) line c not = refl
no_callee_name (x.Binary' op p at kind q at2 kind2) line c not = refl
no_callee_name (x.Cond' p at kind q at2 kind2 r at3 kind3) line c not = refl
no_callee_name (x.Assign' op p at kind q at2 kind2) line c not = refl
no_callee_name (x.Comma' p at kind q at2 kind2) line c not = refl
