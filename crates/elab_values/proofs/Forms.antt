-- The forms of several steps, from the step that comes next.
use Rattle.std.proofs.Common.{◌≡◌, ℕ, ◌+◌, Bool, true, false, Ok, Err, Result, sym, ap, subst, ◌∙◌}
use Rattle.c_types.specs.Types.{PlainType, Void}
use Rattle.core_tree.specs.declared.statements.Atom.{Atom}
use Rattle.c_tree.specs.declared.operator.BinaryOp.{BinaryOp}
use Rattle.c_tree.specs.declared.operator.BinaryOp.TheVariants as b
use Rattle.c_tree.specs.declared.operator.AssignOp.{AssignOp}
use Rattle.c_tree.specs.declared.operator.AssignOp.TheVariants as a
use Rattle.c_tree.specs.declared.tree.ExprKind.{ExprKind}
use Rattle.c_tree.specs.Forms as f
use Rattle.c_tree.specs.Tree.{Tree, At, Node, none, ◌▹◌}
use Rattle.c_tree.specs.View.{expr_tree}
use Rattle.c_decls.specs.declared.refusal.TypeError.{TypeError}
use Rattle.c_decls.specs.declared.refusal.TypeError.TheVariants as e
use Rattle.c_decls.specs.Refusals.{Checked, Refusal, Meets, then}
use Rattle.c_decls.specs.Typed.{is_record}
use Rattle.c_decls.specs.TypeNames as names
use Rattle.c_decls.specs.Expressions.{line_of, typename}
use Rattle.std.specs.Prelude.{cond}
use Rattle.elab_base.specs.declared.code.Mark.{Mark}
use Rattle.elab_base.specs.Marks.{mark_of, cut}
use Rattle.elab_values.specs.Arguments.{taken_argument}
use Rattle.elab_values.specs.Forms.{between_values, changed_place}
use Rattle.elab_values.specs.Told.{told_with}
use Rattle.elab_values.proofs.Steps.{cut_value, cut_operand}
use Rattle.elaboration.specs.Context.{Code, Context, With, asked, told, new_label}
use Rattle.elaboration.specs.Conversions.{Found, atom_in, convert}
use Rattle.elaboration.specs.Calls.{Argument}
use Rattle.elaboration.specs.Rules.{left_operand, between, cast_to, and_then, and_ended, or_else, or_ended, choose, type_ahead, choose_first, chosen}
use Rattle.elaboration.specs.Assignments.{record_assigned, scalar_assigned, old_value, changed_by}
use Rattle.elaboration.specs.Expressions.{found, value_of, changing, cast_operand}

-- what is refused stays refused
pub refused_next : {A B V W : Type 0} (from : V → A) (to : W → B) (error : TypeError) (first : Checked A) (next : A → Checked B) →
    Meets from (Err error) first → Meets to (Err error) (then first next)
refused_next from to (e.Bad kind line) first next h = ap (λ w. then w next) h
refused_next from to e.NoMemory first next h = tt

-- an answer in other words
pub meets_by : {A V : Type 0} (view : V → A) (result : Result V TypeError) (old new : Checked A) → old ≡ new →
    Meets view result new → Meets view result old
meets_by view result old new same h = let P : Checked _ → Type 0 = λ w. Meets view result w in subst P (sym same) h

told_code : (c k : Context) (type : PlainType) (answer : Checked (names.Context × PlainType)) → told_with c answer ≡ Ok (k, type) →
    k.code ≡ c.code
told_code c k type (Ok t) h = let same : (told t.0 c, t.1) ≡ (k, type) = cc in sym (ap (λ (d : Context × PlainType). d.0.code) same)
told_code c k type (Err refusal) h = cc

module _ (line : ℕ) where
  -- an operator between two values
  pub binary_second : (op : BinaryOp) (kind : ExprKind) (at : ℕ) (g : Tree) (m : Mark) (c d k : Context) (x z : Found) →
      m ≡ mark_of c.code → value_of (expr_tree kind at) Void c ≡ Ok (d, x) → (k, z) ≡ left_operand op (cut m d.code) g (d, x) →
      between_values line op (expr_tree kind at) g c ≡ then (value_of g Void k) (λ r. between line op k.code r.0 z r.1)
  binary_second op kind at g m c d k x z marked first begun =
      let left : left_operand op c.code g (d, x) ≡ (k, z) =
      ap (λ (code : Code). left_operand op code g (d, x)) (sym (cut_value kind at Void m c d x marked first)) ∙ sym begun in
      ap (λ (w : With Found). then w (λ d. let begun = left_operand op c.code g d in then (value_of g Void begun.0) (λ r. between line op begun.0.code r.0 begun.1 r.1))) first
      ∙ ap (λ (begun : Context × Found). then (value_of g Void begun.0) (λ r. between line op begun.0.code r.0 begun.1 r.1)) left

  pub binary_third : (op : BinaryOp) (kind other : ExprKind) (at there : ℕ) (m n : Mark) (c d k r : Context) (x z y : Found) →
      m ≡ mark_of c.code → value_of (expr_tree kind at) Void c ≡ Ok (d, x) → (k, z) ≡ left_operand op (cut m d.code) (expr_tree other there) (d, x) →
      n ≡ mark_of k.code → value_of (expr_tree other there) Void k ≡ Ok (r, y) →
      between_values line op (expr_tree kind at) (expr_tree other there) c ≡ between line op (cut n r.code) r z y
  binary_third op kind other at there m n c d k r x z y marked first begun again second =
      binary_second op kind at (expr_tree other there) m c d k x z marked first begun
      ∙ ap (λ (w : With Found). then w (λ r. between line op k.code r.0 z r.1)) second
      ∙ ap (λ (code : Code). between line op code r z y) (sym (cut_value other there Void n k r y again second))

  -- `&&`
  pub and_second : (e g : Tree) (c d k : Context) (x : Found) → value_of e Void c ≡ Ok (d, x) → k ≡ and_then line e (d, x) →
      found (Node (f.Binary b.And) (At line ▹ e ▹ g ▹ none)) Void c ≡ then (value_of g Void k) (λ r. and_ended line (new_label d) g x r)
  unfolding found
  and_second e g c d k x first begun =
      ap (λ (w : With Found). then w (λ d. let begun = and_then line e d in then (value_of g Void begun) (λ r. and_ended line (new_label d.0) g d.1 r))) first
      ∙ ap (λ (k : Context). then (value_of g Void k) (λ r. and_ended line (new_label d) g x r)) (sym begun)

  -- `||`
  pub or_second : (e g : Tree) (c d k : Context) (i : Atom) (x : Found) → value_of e Void c ≡ Ok (d, x) → (k, i) ≡ or_else line e (d, x) →
      found (Node (f.Binary b.Or) (At line ▹ e ▹ g ▹ none)) Void c ≡ then (value_of g Void k) (λ r. or_ended line (new_label d + 1) g i x r)
  unfolding found
  or_second e g c d k i x first begun =
      ap (λ (w : With Found). then w (λ d. let begun = or_else line e d in then (value_of g Void begun.0) (λ r. or_ended line (new_label d.0 + 1) g begun.1 d.1 r))) first
      ∙ ap (λ (k : Context × Atom). then (value_of g Void k.0) (λ r. or_ended line (new_label d + 1) g k.1 x r)) (sym begun)

  -- `?:`
  pub choose_second : (e g h : Tree) (c d k : Context) (t : Found) → value_of e Void c ≡ Ok (d, t) → k ≡ and_then line e (d, t) →
      found (Node f.Cond (At line ▹ e ▹ g ▹ h ▹ none)) Void c
      ≡ then (value_of g Void k) (λ x. let first = choose_first line (new_label d) k.code (type_ahead line t h x) x in then (value_of h Void first.0) (λ y. chosen line (new_label d + 1) first.0.code first.1 t x.1 y))
  unfolding found
  choose_second e g h c d k t first begun =
      ap (λ (w : With Found). then w (λ d. let begun = choose line e d in then (value_of g Void begun) (λ x. let first = choose_first line (new_label d.0) begun.code (type_ahead line d.1 h x) x in then (value_of h Void first.0) (λ y. chosen line (new_label d.0 + 1) first.0.code first.1 d.1 x.1 y)))) first
      ∙ ap (λ (k : Context). then (value_of g Void k) (λ x. let first = choose_first line (new_label d) k.code (type_ahead line t h x) x in then (value_of h Void first.0) (λ y. chosen line (new_label d + 1) first.0.code first.1 t x.1 y))) (sym begun)

  pub choose_third : (e h : Tree) (kind : ExprKind) (at : ℕ) (m : Mark) (c d k r s : Context) (t x : Found) (i : Atom) →
      value_of e Void c ≡ Ok (d, t) → k ≡ and_then line e (d, t) → m ≡ mark_of k.code → value_of (expr_tree kind at) Void k ≡ Ok (r, x) →
      (s, i) ≡ choose_first line (new_label d) (cut m r.code) (type_ahead line t h (r, x)) (r, x) →
      found (Node f.Cond (At line ▹ e ▹ expr_tree kind at ▹ h ▹ none)) Void c
      ≡ then (value_of h Void s) (λ y. chosen line (new_label d + 1) s.code i t x y)
  choose_third e h kind at m c d k r s t x i first begun marked second middle =
      let chose : choose_first line (new_label d) k.code (type_ahead line t h (r, x)) (r, x) ≡ (s, i) =
      ap (λ (code : Code). choose_first line (new_label d) code (type_ahead line t h (r, x)) (r, x)) (sym (cut_value kind at Void m k r x marked second)) ∙ sym middle in
      choose_second e (expr_tree kind at) h c d k t first begun
      ∙ ap (λ (w : With Found). then w (λ x. let first = choose_first line (new_label d) k.code (type_ahead line t h x) x in then (value_of h Void first.0) (λ y. chosen line (new_label d + 1) first.0.code first.1 t x.1 y))) second
      ∙ ap (λ (first : Context × Atom). then (value_of h Void first.0) (λ y. chosen line (new_label d + 1) first.0.code first.1 t x y)) chose

  pub choose_last : (e : Tree) (kind other : ExprKind) (at there : ℕ) (m n : Mark) (c d k r s u : Context) (t x y : Found) (i : Atom) →
      value_of e Void c ≡ Ok (d, t) → k ≡ and_then line e (d, t) → m ≡ mark_of k.code → value_of (expr_tree kind at) Void k ≡ Ok (r, x) →
      (s, i) ≡ choose_first line (new_label d) (cut m r.code) (type_ahead line t (expr_tree other there) (r, x)) (r, x) →
      n ≡ mark_of s.code → value_of (expr_tree other there) Void s ≡ Ok (u, y) →
      found (Node f.Cond (At line ▹ e ▹ expr_tree kind at ▹ expr_tree other there ▹ none)) Void c
      ≡ chosen line (new_label d + 1) (cut n u.code) i t x (u, y)
  choose_last e kind other at there m n c d k r s u t x y i first begun marked second middle again third =
      choose_third e (expr_tree other there) kind at m c d k r s t x i first begun marked second middle
      ∙ ap (λ (w : With Found). then w (λ y. chosen line (new_label d + 1) s.code i t x y)) third
      ∙ ap (λ (code : Code). chosen line (new_label d + 1) code i t x (u, y)) (sym (cut_value other there Void n s u y again third))

  -- an operator with `=`
  pub change_second : (op : AssignOp) (e g : Tree) (c d k : Context) (x : Found) (old : Atom) → changing e (found e Void c) ≡ Ok (d, x) →
      (k, old) ≡ old_value line (d, x) → changed_place line op e g c ≡ then (value_of g Void k) (λ r. changed_by line op false x old r)
  change_second op e g c d k x old first read =
      ap (λ (w : With Found). then w (λ d. let old = old_value line d in then (value_of g Void old.0) (λ r. changed_by line op false d.1 old.1 r))) first
      ∙ ap (λ (v : Context × Atom). then (value_of g Void v.0) (λ r. changed_by line op false x v.1 r)) (sym read)

  -- a cast

  pub cast_second : (name e : Tree) (c k : Context) (type : PlainType) → told_with c (typename name (asked c)) ≡ Ok (k, type) →
      found (Node f.Cast (At line ▹ name ▹ e ▹ none)) Void c ≡ then (cast_operand type e (found e type k)) (λ d. cast_to line type c.code d.0 d.1)
  unfolding found
  cast_second name e c k type named = by (typename name (asked c)) named
    where
      by : (answer : Checked (names.Context × PlainType)) → told_with c answer ≡ Ok (k, type) →
          then answer (λ t. then (cast_operand t.1 e (found e t.1 (told t.0 c))) (λ d. cast_to line t.1 c.code d.0 d.1)) ≡ then (cast_operand type e (found e type k)) (λ d. cast_to line type c.code d.0 d.1)
      by (Ok t) h =
          let same : (told t.0 c, t.1) ≡ (k, type) = cc in
          ap (λ (t : Context × PlainType). then (cast_operand t.1 e (found e t.1 t.0)) (λ d. cast_to line t.1 c.code d.0 d.1)) same
      by (Err refusal) h = cc

  pub cast_last : (name : Tree) (kind : ExprKind) (at : ℕ) (m : Mark) (c k r : Context) (type : PlainType) (x : Found) →
      m ≡ mark_of c.code → told_with c (typename name (asked c)) ≡ Ok (k, type) → cast_operand type (expr_tree kind at) (found (expr_tree kind at) type k) ≡ Ok (r, x) →
      found (Node f.Cast (At line ▹ name ▹ expr_tree kind at ▹ none)) Void c ≡ cast_to line type (cut m r.code) r x
  cast_last name kind at m c k r type x marked named second =
      let kept : k.code ≡ c.code = told_code c k type (typename name (asked c)) named in
      let back : cut m r.code ≡ c.code = cut_operand kind at type m k r x (marked ∙ ap mark_of (sym kept)) second ∙ kept in
      cast_second name (expr_tree kind at) c k type named
      ∙ ap (λ (w : With Found). then w (λ d. cast_to line type c.code d.0 d.1)) second
      ∙ ap (λ (code : Code). cast_to line type code r x) (sym back)

  pub cast_refused : (name e : Tree) (c : Context) (refusal : Refusal) → told_with c (typename name (asked c)) ≡ Err refusal →
      found (Node f.Cast (At line ▹ name ▹ e ▹ none)) Void c ≡ Err refusal
  unfolding found
  cast_refused name e c refusal named = by (typename name (asked c)) named
    where
      by : (answer : Checked (names.Context × PlainType)) → told_with c answer ≡ Err refusal →
          then answer (λ t. then (cast_operand t.1 e (found e t.1 (told t.0 c))) (λ d. cast_to line t.1 c.code d.0 d.1)) ≡ Err refusal
      by (Ok t) h = cc
      by (Err other) h = let same : other ≡ refusal = cc in ap (λ (k : Refusal). let all : With Found = Err k in all) same

  -- `=`

  pub assign_second : (e g : Tree) (c d : Context) (x : Found) → found e Void c ≡ Ok (d, x) →
      found (Node (f.Assign a.Plain) (At line ▹ e ▹ g ▹ none)) Void c
      ≡ then (found g x.typed.type d) (λ r. cond (is_record x.typed.type) (record_assigned line (line_of g) x r) (scalar_assigned line d.code g x r))
  unfolding found
  assign_second e g c d x first =
      ap (λ (w : With Found). then w (λ d. then (found g d.1.typed.type d.0) (λ r. cond (is_record d.1.typed.type) (record_assigned line (line_of g) d.1 r) (scalar_assigned line d.0.code g d.1 r)))) first

  pub assign_record : (e g : Tree) (c d r : Context) (x y : Found) → found e Void c ≡ Ok (d, x) → found g x.typed.type d ≡ Ok (r, y) →
      is_record x.typed.type ≡ true → found (Node (f.Assign a.Plain) (At line ▹ e ▹ g ▹ none)) Void c ≡ record_assigned line (line_of g) x (r, y)
  assign_record e g c d r x y first second is =
      assign_second e g c d x first
      ∙ ap (λ (w : With Found). then w (λ r. cond (is_record x.typed.type) (record_assigned line (line_of g) x r) (scalar_assigned line d.code g x r))) second
      ∙ ap (λ (k : Bool). cond k (record_assigned line (line_of g) x (r, y)) (scalar_assigned line d.code g x (r, y))) is

  pub assign_scalar : (e g : Tree) (c d r : Context) (x y : Found) → found e Void c ≡ Ok (d, x) → found g x.typed.type d ≡ Ok (r, y) →
      is_record x.typed.type ≡ false → found (Node (f.Assign a.Plain) (At line ▹ e ▹ g ▹ none)) Void c ≡ scalar_assigned line d.code g x (r, y)
  assign_scalar e g c d r x y first second is =
      assign_second e g c d x first
      ∙ ap (λ (w : With Found). then w (λ r. cond (is_record x.typed.type) (record_assigned line (line_of g) x r) (scalar_assigned line d.code g x r))) second
      ∙ ap (λ (k : Bool). cond k (record_assigned line (line_of g) x (r, y)) (scalar_assigned line d.code g x (r, y))) is

  -- an argument that a parameter takes
  pub taken_last : (kind : ExprKind) (at : ℕ) (m : Mark) (c d k : Context) (type : PlainType) (x : Found) (i : Atom) →
      m ≡ mark_of c.code → value_of (expr_tree kind at) type c ≡ Ok (d, x) →
      (k, i) ≡ convert line (cut m d.code) type x.typed (atom_in x) d →
      taken_argument line type (expr_tree kind at) c ≡ Ok (k, (x.typed, i))
  taken_last kind at m c d k type x i marked first converted =
      let v : convert line c.code type x.typed (atom_in x) d ≡ (k, i) =
      ap (λ (code : Code). convert line code type x.typed (atom_in x) d) (sym (cut_value kind at type m c d x marked first)) ∙ sym converted in
      ap (λ (w : With Found). then w (λ d. let v = convert line c.code type d.1.typed (atom_in d.1) d.0 in let all : With Argument = Ok (v.0, (d.1.typed, v.1)) in all)) first
      ∙ ap (λ (v : Context × Atom). let all : With Argument = Ok (v.0, (x.typed, v.1)) in all) v
