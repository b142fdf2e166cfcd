-- The code of an expression stands behind the code before it. Proved from `found`.
use Rattle.std.proofs.Common.{ℕ, Bool, true, false, List, Option, Some, None}
use Rattle.std.specs.Prelude.{cond, ◌+◌, length, nat_lt}
use Rattle.c_types.specs.Types.{PlainType, PlainTypes, Void}
use Rattle.core_tree.specs.declared.statements.Atom.{Atom}
use Rattle.c_tree.specs.declared.operator.UnaryOp.{UnaryOp}
use Rattle.c_tree.specs.declared.operator.UnaryOp.TheVariants as u
use Rattle.c_tree.specs.declared.operator.BinaryOp.{BinaryOp}
use Rattle.c_tree.specs.declared.operator.BinaryOp.TheVariants as b
use Rattle.c_tree.specs.declared.operator.AssignOp.{AssignOp}
use Rattle.c_tree.specs.declared.operator.AssignOp.TheVariants as a
use Rattle.c_tree.specs.declared.tree.ExprKind.{ExprKind, Row_of-Expr, end_of-Expr, more_of-Expr}
use Rattle.c_tree.specs.declared.tree.ExprKind.TheVariants as e
use Rattle.c_tree.specs.Tree.{Tree, At, Node, none, ◌▹◌}
use Rattle.c_tree.specs.View.{expr_tree, expr_trees, spec_trees, declarator_tree, literal_leaves}
use Rattle.c_tree.specs.Forms as f
use Rattle.hs_base.specs.Place.{block_size}
use Rattle.c_decls.specs.declared.refusal.TypeKind.TheVariants.{StaticTooLarge}
use Rattle.c_decls.specs.Refusals.{Checked}
use Rattle.c_decls.specs.Typed.{PlainTyped, Operand, Number, operand, is_record, is_void}
use Rattle.c_decls.specs.Callees.{Callee, call, called, named, NoFunction}
use Rattle.c_decls.specs.ScopeList.{found as declaration}
use Rattle.c_decls.specs.TypeRules.{unary, address, binary}
use Rattle.c_decls.specs.PlaceRules.{cast, choice, dot, arrow, element, assigned, changed, held_place}
use Rattle.c_decls.specs.TypeNames as names
use Rattle.c_decls.specs.Expressions.{line_of, first_literal, joined, string, typed, typename}
use Rattle.elaboration.specs.Context.{Piece, Code, Context, With, asked, told, new_label}
use Rattle.elaboration.specs.Conversions.{Found, valued, valued_from, atom_in, tested, convert, code_line, unused}
use Rattle.elaboration.specs.Calls.{types_of, rest_types, first_type, argument_from}
use Rattle.elaboration.specs.Operations.{operator_of, change}
use Rattle.elaboration.specs.Rules.{with_literal, indexed, dotted, pointed, applied, apply, before_number, left_operand, between, cast_to, and_then, and_ended, or_else, or_ended, choose, choose_first, chosen, type_ahead}
use Rattle.elaboration.specs.Assignments.{record_assigned, scalar_assigned, old_value, change_place, changed_by, changed_answer, one_found, stepped}
use Rattle.elaboration.specs.Expressions.{unevaluated, changing, callee, parameters, format_argument, is_printf, callee_name, found, arguments, cast_operand}
use Rattle.elab_rules.specs.Behind.{Behind, From}
use Rattle.elab_rules.specs.GrowthEquations.{one, Grown, then_grown, rule_grown, unless_grown, cond_from, read_from, convert_from, tested_from, write_from, before_from, combine_from, change_from, set_from, compare_from, chosen_from, call_from, argument_grown, valued_from_grown, valued_grown, unused_grown}

module _ (xs : List Piece) (line : ℕ) where
  pub literal_grown : (bytes : List ℕ) (c : Context) → From xs c → Grown xs (with_literal line bytes c)
  literal_grown bytes c h =
      let b = c.static_bytes + block_size (length bytes + 1) in
      let g : From xs c = record { more = h.more; is = h.is } in
      unless_grown xs (nat_lt 67108864 b) StaticTooLarge line (record c { static_bytes = b }) _ g

  pub indexed_grown : (c : Context) (x y : Found) → From xs c → Grown xs (indexed line c x y)
  indexed_grown c x y h =
      rule_grown xs (element line c.tags x.typed y.typed) _ (λ t. combine_from xs line b.Add c.code (operand x.typed.type) (operand y.typed.type) (atom_in x) (atom_in y) c h h)

  pub dotted_grown : (name : List ℕ) (c : Context) (x : Found) → From xs c → Grown xs (dotted line name c x)
  dotted_grown name c x h = rule_grown xs (dot line name c.tags x.typed) _ (λ t. one xs c.code.pieces _ h)

  pub pointed_grown : (name : List ℕ) (c : Context) (x : Found) → From xs c → Grown xs (pointed line name c x)
  pointed_grown name c x h = rule_grown xs (arrow line name c.tags x.typed) _ (λ t. one xs c.code.pieces _ h)

  number_from : (op : UnaryOp) (t : PlainTyped) (given : Operand) (c : Context) (x : Found) → From xs c → From xs (before_number line op t given c x).0
  number_from op t (Number ty) c x h = before_from xs line op ty (atom_in x) c h
  number_from op t other c x h = h

  apply_from : (op : UnaryOp) (tree : Tree) (t : PlainTyped) (c : Context) (x : Found) → From xs c → From xs (apply line op tree t c x).0
  apply_from u.Deref tree t c x h = h
  apply_from u.Not tree t c x h =
      one xs _ _ (tested_from xs (code_line tree) x.typed.type (atom_in x) c h)
  apply_from op tree t c x h = number_from op t (operand x.typed.type) c x h

  pub applied_grown : (op : UnaryOp) (tree : Tree) (c : Context) (x : Found) → From xs c → Grown xs (applied line op tree c x)
  applied_grown op tree c x h =
      rule_grown xs (unary line op c.tags x.typed) _ (λ t. apply_from op tree t c x h)

  pub left_from : (op : BinaryOp) (before : Code) (right : Tree) (d : Context × Found) → Behind xs before.pieces → From xs d.0 → From xs (left_operand op before right d).0
  left_from op before right d b h = cond_from xs _ _ d b h

  pub between_grown : (op : BinaryOp) (before : Code) (c : Context) (x y : Found) → Behind xs before.pieces → From xs c → Grown xs (between line op before c x y)
  between_grown op before c x y b h =
      rule_grown xs (binary line op c.tags x.typed y.typed) _ (λ t. combine_from xs line op before (operand x.typed.type) (operand y.typed.type) (atom_in x) (atom_in y) c b h)

  pub cast_grown : (type : PlainType) (before : Code) (c : Context) (x : Found) → Behind xs before.pieces → From xs c → Grown xs (cast_to line type before c x)
  cast_grown type before c x b h =
      rule_grown xs (cast line type x.typed) _ (λ t. convert_from xs line before (operand type) (operand x.typed.type) (atom_in x) c b h)

  test_from : (tree : Tree) (d : Context × Found) → From xs d.0 → From xs (tested (code_line tree) d.1.typed.type (atom_in d.1) d.0).0
  test_from tree d h = tested_from xs (code_line tree) d.1.typed.type (atom_in d.1) d.0 h

  pub and_then_from : (tree : Tree) (d : Context × Found) → From xs d.0 → From xs (and_then line tree d)
  and_then_from tree d h = one xs _ _ (test_from tree d h)

  pub and_ended_grown : (label : ℕ) (tree : Tree) (x : Found) (d : Context × Found) → From xs d.0 → Grown xs (and_ended line label tree x d)
  and_ended_grown label tree x d h =
      rule_grown xs (binary line b.And d.0.tags x.typed d.1.typed) _ (λ t. one xs _ _ (one xs _ _ (one xs _ _ (one xs _ _ (one xs _ _ (test_from tree d h))))))

  pub or_else_from : (tree : Tree) (d : Context × Found) → From xs d.0 → From xs (or_else line tree d).0
  or_else_from tree d h = one xs _ _ (one xs _ _ (one xs _ _ (one xs _ _ (test_from tree d h))))

  pub or_ended_grown : (end : ℕ) (tree : Tree) (i : Atom) (x : Found) (d : Context × Found) → From xs d.0 → Grown xs (or_ended line end tree i x d)
  or_ended_grown end tree i x d h =
      let t = tested (code_line tree) d.1.typed.type (atom_in d.1) d.0 in
      rule_grown xs (binary line b.Or d.0.tags x.typed d.1.typed) _ (λ r. one xs _ _ (compare_from xs line i t.1 t.0 (test_from tree d h)))

  pub choose_first_from : (other : ℕ) (before : Code) (type : PlainType) (d : Context × Found) → Behind xs before.pieces → From xs d.0 → From xs (choose_first line other before type d).0
  choose_first_from other before type d b h =
      one xs _ _ (one xs _ _ (chosen_from xs line before type d.1.typed (d.0, atom_in d.1) b h))

  pub chosen_grown : (end : ℕ) (before : Code) (t : Atom) (test x : Found) (d : Context × Found) → Behind xs before.pieces → From xs d.0 → Grown xs (chosen line end before t test x d)
  chosen_grown end before t test x d b h =
      rule_grown xs (choice line test.typed x.typed d.1.typed) _ (λ r. let v = convert line before r.type d.1.typed (atom_in d.1) d.0 in one xs _ _ (set_from xs line t v.1 v.0 (convert_from xs line before (operand r.type) (operand d.1.typed.type) (atom_in d.1) d.0 b h)))

  pub record_grown : (right : ℕ) (target : Found) (d : Context × Found) → From xs d.0 → Grown xs (record_assigned line right target d)
  record_grown right target d h =
      rule_grown xs (assigned line right d.0.tags target.typed d.1.typed) _ (λ t. one xs d.0.code.pieces _ h)

  pub scalar_grown : (before : Code) (tree : Tree) (target : Found) (d : Context × Found) → Behind xs before.pieces → From xs d.0 → Grown xs (scalar_assigned line before tree target d)
  scalar_grown before tree target d b h =
      rule_grown xs (assigned line (line_of tree) d.0.tags target.typed d.1.typed) _ (λ t. then_grown xs (valued_from tree d.0 d.1) _ (valued_from_grown xs tree d.0 d.1 h) (λ v k. let w = convert line before t.type v.1.typed (atom_in v.1) v.0 in write_from xs line t.type target.spot w.1 w.0 (convert_from xs line before (operand t.type) (operand v.1.typed.type) (atom_in v.1) v.0 b k)))

  answer_from : (keeps : Bool) (t : PlainTyped) (old : Atom) (v : Context × Atom) → From xs v.0 → From xs (changed_answer keeps t old v).0
  answer_from true t old v h = h
  answer_from false t old v h = h

  pub changed_grown : (op : AssignOp) (keeps : Bool) (target : Found) (old : Atom) (d : Context × Found) → From xs d.0 → Grown xs (changed_by line op keeps target old d)
  changed_grown op keeps target old d h =
      rule_grown xs (changed line op d.0.tags target.typed d.1.typed) _ (λ t. let w = change line (operator_of op) (operand t.type) (operand d.1.typed.type) old (atom_in d.1) d.0 in answer_from keeps t old (change_place line (operator_of op) t target old d.1.typed (atom_in d.1) d.0) (write_from xs line t.type target.spot w.1 w.0 (change_from xs line (operator_of op) (operand t.type) (operand d.1.typed.type) old (atom_in d.1) d.0 h)))

  pub old_from : (d : Context × Found) → From xs d.0 → From xs (old_value line d).0
  old_from d h = read_from xs line d.1.typed.type d.1.spot d.0 h

  pub stepped_grown : (op : AssignOp) (keeps : Bool) (d : Context × Found) → From xs d.0 → Grown xs (stepped line op keeps d)
  stepped_grown op keeps d h =
      let old = old_value line d in changed_grown op keeps d.1 old.1 (old.0, one_found) (old_from d h)

module _ (xs : List Piece) where
  pub unevaluated_grown : (c : Context) (answer : Checked (names.Context × PlainTyped)) → From xs c → Grown xs (unevaluated c answer)
  unevaluated_grown c answer h = rule_grown xs answer _ (λ d. let g : From xs c = h in record { more = g.more; is = g.is })

  pub changing_grown : (tree : Tree) (answer : With Found) → Grown xs answer → Grown xs (changing tree answer)
  changing_grown tree answer h =
      then_grown xs answer _ h (λ d k. rule_grown xs (held_place (line_of tree) d.0.tags d.1.typed) _ (λ held. k))

  pub format_grown : (format : Option (List ℕ)) (c : Context) (answer : Checked (names.Context × PlainTyped)) (walked : With Found) → From xs c → Grown xs walked → Grown xs (format_argument format c answer walked)
  format_grown (Some bytes) c answer walked h k = rule_grown xs answer _ (λ d. h)
  format_grown None c answer walked h k = k

  pub callee_grown : (kind : ExprKind) (at : ℕ) (c : Context) (answer : With Found) → From xs c → Grown xs answer → Grown xs (callee (expr_tree kind at) c answer)
  unfolding expr_tree
  callee_grown (e.Name bytes) at c answer h k =
      rule_grown xs (called at c.tags (declaration c.scopes bytes)) _ (λ function. h)
  callee_grown kind at c answer h k =
      then_grown xs (valued (expr_tree kind at) answer) _ (valued_grown xs (expr_tree kind at) answer k) (λ d g. g)

-- the operand of a cast
pub operand_grown : (xs : List Piece) (type : PlainType) (tree : Tree) (answer : With Found) → Grown xs answer → Grown xs (cast_operand type tree answer)
operand_grown xs type tree answer h = by (is_void type)
  where
    by : (test : Bool) → Grown xs (cond test (unused tree answer) (valued tree answer))
    by true = unused_grown xs tree answer h
    by false = valued_grown xs tree answer h

-- `=` to a struct or a union, or to a scalar
assigned_grown : (xs : List Piece) (line : ℕ) (is_one : Bool) (before : Code) (tree : Tree) (target : Found) (d : Context × Found) → Behind xs before.pieces → From xs d.0 → Grown xs (cond is_one (record_assigned line (line_of tree) target d) (scalar_assigned line before tree target d))
assigned_grown xs line true before tree target d b h = record_grown xs line (line_of tree) target d h
assigned_grown xs line false before tree target d b h = scalar_grown xs line before tree target d b h

mutual
  unfolding found arguments expr_tree expr_trees

  pub found_grown : (xs : List Piece) (kind : ExprKind) (line : ℕ) (wanted : PlainType) (c : Context) → From xs c → Grown xs (found (expr_tree kind line) wanted c)
  found_grown xs (e.Name bytes) line wanted c h =
      rule_grown xs (named line (declaration c.scopes bytes)) _ (λ t. h)
  found_grown xs (e.Int bytes) line wanted c h =
      h
  found_grown xs (e.Char bytes) line wanted c h =
      h
  found_grown xs (e.Str parts) line wanted c h =
      rule_grown xs (string line (joined (literal_leaves parts))) _ (λ t. then_grown xs (with_literal line (joined (literal_leaves parts)) c) _ (literal_grown xs line (joined (literal_leaves parts)) c h) (λ d k. k))
  found_grown xs (e.Paren' p at kind) line wanted c h =
      found_grown xs kind at wanted c h
  found_grown xs (e.Index' p at kind q at2 kind2) line wanted c h =
      then_grown xs (valued (expr_tree kind at) (found (expr_tree kind at) Void c)) _ (valued_grown xs (expr_tree kind at) (found (expr_tree kind at) Void c) (found_grown xs kind at Void c h)) (λ d k. then_grown xs (valued (expr_tree kind2 at2) (found (expr_tree kind2 at2) Void d.0)) _ (valued_grown xs (expr_tree kind2 at2) (found (expr_tree kind2 at2) Void d.0) (found_grown xs kind2 at2 Void d.0 k)) (λ r g. indexed_grown xs line r.0 d.1 r.1 g))
  found_grown xs (e.Call' p at kind shape values) line wanted c h =
      then_grown xs (callee (expr_tree kind at) c (found (expr_tree kind at) Void c)) _ (callee_grown xs kind at c (found (expr_tree kind at) Void c) h (found_grown xs kind at Void c h)) (λ d k. then_grown xs (arguments line d.1 (parameters d.1) (expr_trees values) d.0) _ (arguments_grown xs line d.1 (parameters d.1) values d.0 k) (λ v g. rule_grown xs (call line (first_literal (expr_trees values)) d.1 (types_of v.1)) _ (λ t. call_from xs line (callee_name (expr_tree kind at) c) t.type wanted (first_literal (expr_trees values)) v.1 v.0 g)))
  found_grown xs (e.Dot' p at kind name) line wanted c h =
      then_grown xs (found (expr_tree kind at) Void c) _ (found_grown xs kind at Void c h) (λ d k. dotted_grown xs line name d.0 d.1 k)
  found_grown xs (e.Arrow' p at kind name) line wanted c h =
      then_grown xs (valued (expr_tree kind at) (found (expr_tree kind at) Void c)) _ (valued_grown xs (expr_tree kind at) (found (expr_tree kind at) Void c) (found_grown xs kind at Void c h)) (λ d k. pointed_grown xs line name d.0 d.1 k)
  found_grown xs (e.PostInc' p at kind) line wanted c h =
      then_grown xs (changing (expr_tree kind at) (found (expr_tree kind at) Void c)) _ (changing_grown xs (expr_tree kind at) (found (expr_tree kind at) Void c) (found_grown xs kind at Void c h)) (λ d k. stepped_grown xs line a.Add true d k)
  found_grown xs (e.PostDec' p at kind) line wanted c h =
      then_grown xs (changing (expr_tree kind at) (found (expr_tree kind at) Void c)) _ (changing_grown xs (expr_tree kind at) (found (expr_tree kind at) Void c) (found_grown xs kind at Void c h)) (λ d k. stepped_grown xs line a.Subtract true d k)
  found_grown xs (e.PreInc' p at kind) line wanted c h =
      then_grown xs (changing (expr_tree kind at) (found (expr_tree kind at) Void c)) _ (changing_grown xs (expr_tree kind at) (found (expr_tree kind at) Void c) (found_grown xs kind at Void c h)) (λ d k. stepped_grown xs line a.Add false d k)
  found_grown xs (e.PreDec' p at kind) line wanted c h =
      then_grown xs (changing (expr_tree kind at) (found (expr_tree kind at) Void c)) _ (changing_grown xs (expr_tree kind at) (found (expr_tree kind at) Void c) (found_grown xs kind at Void c h)) (λ d k. stepped_grown xs line a.Subtract false d k)
  found_grown xs (e.Unary' u.Address p at kind) line wanted c h =
      then_grown xs (found (expr_tree kind at) Void c) _ (found_grown xs kind at Void c h) (λ d k. rule_grown xs (address line d.1.typed) _ (λ t. k))
  found_grown xs (e.Unary' op p at kind) line wanted c h =
      then_grown xs (valued (expr_tree kind at) (found (expr_tree kind at) Void c)) _ (valued_grown xs (expr_tree kind at) (found (expr_tree kind at) Void c) (found_grown xs kind at Void c h)) (λ d k. applied_grown xs line op (expr_tree kind at) d.0 d.1 k)
  found_grown xs (e.SizeofExpr' p at kind) line wanted c h =
      unevaluated_grown xs c (typed (expr_tree (e.SizeofExpr' p at kind) line) (asked c)) h
  found_grown xs (e.SizeofType' p at at2 shape words declarator) line wanted c h =
      unevaluated_grown xs c (typed (expr_tree (e.SizeofType' p at at2 shape words declarator) line) (asked c)) h
  found_grown xs (e.Cast' p at at2 shape words declarator q at3 kind) line wanted c h =
      rule_grown xs (typename (Node f.Typename (At at ▹ Node f.Specs (At at2 ▹ spec_trees words) ▹ declarator_tree declarator ▹ none)) (asked c)) _ (λ t. let g : From xs (told t.0 c) = record { more = h.more; is = h.is } in then_grown xs (cast_operand t.1 (expr_tree kind at3) (found (expr_tree kind at3) t.1 (told t.0 c))) _ (operand_grown xs t.1 (expr_tree kind at3) (found (expr_tree kind at3) t.1 (told t.0 c)) (found_grown xs kind at3 t.1 (told t.0 c) g)) (λ d k. cast_grown xs line t.1 c.code d.0 d.1 h k))
  found_grown xs (e.Binary' b.And p at kind q at2 kind2) line wanted c h =
      then_grown xs (valued (expr_tree kind at) (found (expr_tree kind at) Void c)) _ (valued_grown xs (expr_tree kind at) (found (expr_tree kind at) Void c) (found_grown xs kind at Void c h)) (λ d k. let begun = and_then line (expr_tree kind at) d in then_grown xs (valued (expr_tree kind2 at2) (found (expr_tree kind2 at2) Void begun)) _ (valued_grown xs (expr_tree kind2 at2) (found (expr_tree kind2 at2) Void begun) (found_grown xs kind2 at2 Void begun (and_then_from xs line (expr_tree kind at) d k))) (λ r g. and_ended_grown xs line (new_label d.0) (expr_tree kind2 at2) d.1 r g))
  found_grown xs (e.Binary' b.Or p at kind q at2 kind2) line wanted c h =
      then_grown xs (valued (expr_tree kind at) (found (expr_tree kind at) Void c)) _ (valued_grown xs (expr_tree kind at) (found (expr_tree kind at) Void c) (found_grown xs kind at Void c h)) (λ d k. let begun = or_else line (expr_tree kind at) d in then_grown xs (valued (expr_tree kind2 at2) (found (expr_tree kind2 at2) Void begun.0)) _ (valued_grown xs (expr_tree kind2 at2) (found (expr_tree kind2 at2) Void begun.0) (found_grown xs kind2 at2 Void begun.0 (or_else_from xs line (expr_tree kind at) d k))) (λ r g. or_ended_grown xs line (new_label d.0 + 1) (expr_tree kind2 at2) begun.1 d.1 r g))
  found_grown xs (e.Binary' op p at kind q at2 kind2) line wanted c h =
      then_grown xs (valued (expr_tree kind at) (found (expr_tree kind at) Void c)) _ (valued_grown xs (expr_tree kind at) (found (expr_tree kind at) Void c) (found_grown xs kind at Void c h)) (λ d k. let begun = left_operand op c.code (expr_tree kind2 at2) d in let l = left_from xs line op c.code (expr_tree kind2 at2) d h k in then_grown xs (valued (expr_tree kind2 at2) (found (expr_tree kind2 at2) Void begun.0)) _ (valued_grown xs (expr_tree kind2 at2) (found (expr_tree kind2 at2) Void begun.0) (found_grown xs kind2 at2 Void begun.0 l)) (λ r g. between_grown xs line op begun.0.code r.0 begun.1 r.1 l g))
  found_grown xs (e.Cond' p at kind q at2 kind2 r at3 kind3) line wanted c h =
      then_grown xs (valued (expr_tree kind at) (found (expr_tree kind at) Void c)) _ (valued_grown xs (expr_tree kind at) (found (expr_tree kind at) Void c) (found_grown xs kind at Void c h)) (λ d k. let begun = choose line (expr_tree kind at) d in let t = and_then_from xs line (expr_tree kind at) d k in then_grown xs (valued (expr_tree kind2 at2) (found (expr_tree kind2 at2) Void begun)) _ (valued_grown xs (expr_tree kind2 at2) (found (expr_tree kind2 at2) Void begun) (found_grown xs kind2 at2 Void begun t)) (λ x g. let first = choose_first line (new_label d.0) begun.code (type_ahead line d.1 (expr_tree kind3 at3) x) x in let s = choose_first_from xs line (new_label d.0) begun.code (type_ahead line d.1 (expr_tree kind3 at3) x) x t g in then_grown xs (valued (expr_tree kind3 at3) (found (expr_tree kind3 at3) Void first.0)) _ (valued_grown xs (expr_tree kind3 at3) (found (expr_tree kind3 at3) Void first.0) (found_grown xs kind3 at3 Void first.0 s)) (λ y z. chosen_grown xs line (new_label d.0 + 1) first.0.code first.1 d.1 x.1 y s z)))
  found_grown xs (e.Assign' a.Plain p at kind q at2 kind2) line wanted c h =
      then_grown xs (found (expr_tree kind at) Void c) _ (found_grown xs kind at Void c h) (λ d k. then_grown xs (found (expr_tree kind2 at2) d.1.typed.type d.0) _ (found_grown xs kind2 at2 d.1.typed.type d.0 k) (λ r g. assigned_grown xs line (is_record d.1.typed.type) d.0.code (expr_tree kind2 at2) d.1 r k g))
  found_grown xs (e.Assign' op p at kind q at2 kind2) line wanted c h =
      then_grown xs (changing (expr_tree kind at) (found (expr_tree kind at) Void c)) _ (changing_grown xs (expr_tree kind at) (found (expr_tree kind at) Void c) (found_grown xs kind at Void c h)) (λ d k. let old = old_value line d in then_grown xs (valued (expr_tree kind2 at2) (found (expr_tree kind2 at2) Void old.0)) _ (valued_grown xs (expr_tree kind2 at2) (found (expr_tree kind2 at2) Void old.0) (found_grown xs kind2 at2 Void old.0 (old_from xs line d k))) (λ r g. changed_grown xs line op false d.1 old.1 r g))
  found_grown xs (e.Comma' p at kind q at2 kind2) line wanted c h =
      then_grown xs (unused (expr_tree kind at) (found (expr_tree kind at) Void c)) _ (unused_grown xs (expr_tree kind at) (found (expr_tree kind at) Void c) (found_grown xs kind at Void c h)) (λ d k. then_grown xs (unused (expr_tree kind2 at2) (found (expr_tree kind2 at2) Void d.0)) _ (unused_grown xs (expr_tree kind2 at2) (found (expr_tree kind2 at2) Void d.0) (found_grown xs kind2 at2 Void d.0 k)) (λ r g. g))

  pub arguments_grown : {m : _} (xs : List Piece) (line : ℕ) (target : Callee) (params : PlainTypes) (values : Row_of-Expr m) (c : Context) → From xs c → Grown xs (arguments line target params (expr_trees values) c)
  arguments_grown xs line target params end_of-Expr c h = h
  arguments_grown xs line target params (more_of-Expr at kind rest) c h =
      then_grown xs (format_argument (is_printf target (expr_tree kind at)) c (typed (expr_tree kind at) (asked c)) (valued (expr_tree kind at) (found (expr_tree kind at) (first_type params) c))) _ (format_grown xs (is_printf target (expr_tree kind at)) c (typed (expr_tree kind at) (asked c)) (valued (expr_tree kind at) (found (expr_tree kind at) (first_type params) c)) h (valued_grown xs (expr_tree kind at) (found (expr_tree kind at) (first_type params) c) (found_grown xs kind at (first_type params) c h))) (λ d k. let v = argument_from line params c.code d.0 d.1 in then_grown xs (arguments line NoFunction (rest_types params) (expr_trees rest) v.0) _ (arguments_grown xs line NoFunction (rest_types params) rest v.0 (argument_grown xs line params c.code d.0 d.1 h k)) (λ more g. g))
