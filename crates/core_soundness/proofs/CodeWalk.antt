-- One walk over what writes the code of expressions, and what it leaves as it was.
use Rattle.core_soundness.proofs.Words.Std.{◌≡◌, ◌≤◌, ◌+◌, refl, sym, subst, ℕ, pos, Bool, true, false, cond, List, [], ◌∷◌, ◌++◌, length, drop, Option, Some, None, unwrap_or, arith, Ok}
use Rattle.core_soundness.proofs.Words.Trees.{Tree, AssignOp, BinaryOp, UnaryOp}
use Rattle.core_soundness.proofs.Words.Types.{PlainType, PlainTypes, Int, Pointer, kind_of, IntType, line_of, promoted, common_type, PlainNamed, choice, element, assigned, result_type, PlainTyped, Operand, Number, PointerTo, operand, BuiltIn}
use Rattle.core_soundness.proofs.Words.Core.{IsShort, Atom, StmKind, Copy, Jump, Free, Enter, Leave, Set, Conv, Zero, Load, Loadp, Test, Un, Bin, Cmp, Add, Sub, Off, Diff, Pcmp, Call, Malloc, Calloc, Realloc, Lib, Printf}
use Rattle.core_soundness.proofs.Words.Elaborating.{record_assigned, set_to, scalar_assigned, old_value, change_place, changed_by, one_found, stepped, Argument, argument_from, atom_at, atoms_of, element_layout, built_in_at, lib_name, result_by, with_format, call_built_in, call_of_built_in, call_named, Context, With, emit, here, pointer_by, new_label, with_labels, integer_by, Code, asked, Found, Spot, Local, Memory, read_spot, code_line, valued_from, valued, atom_in, holds_all, convert_integer, convert_to, convert, tested, tested_value, write, size_or_zero, unused, working, Working, Calculates, Shifts, Compares, Branches, convert_both, work, on_integers, before_integer, move_pointer, between_pointers, pointer_beside, beside_integer, combine, combined, change, changed_to, member_address, set_again, compare_again, indexed, dotted, pointed, apply, applied, left_operand, between, cast_to, and_then, and_ends, and_ended, or_else, or_ends, or_ended, chosen_by, choose_first, choose_last, chosen, with_literal}
use Rattle.core_tree.specs.declared.statements.Atom.TheVariants as atom
use Rattle.core_tree.specs.declared.statements.CmpOp.TheVariants as cmp
use Rattle.core_tree.specs.declared.statements.UnOp.TheVariants as un
use Rattle.c_tree.specs.declared.operator.BinaryOp.TheVariants as b
use Rattle.c_tree.specs.declared.operator.UnaryOp.TheVariants as u
use Rattle.c_decls.specs.Expressions as types
use Rattle.c_decls.specs.Named as n
use Rattle.c_decls.specs.declared.built_in.BuiltIn.TheVariants as bi
use Rattle.core_soundness.proofs.Flows.{IsPlain}
use Rattle.core_soundness.proofs.Growth.{Reached, reached_ok, reached_after, reached_then, valued_unused, ok_same}

-- one walk over what writes the code of expressions: what each of its steps keeps, it keeps

-- the steps of what writes code, where R is said of what is known before it and behind it, and of how many registers and
-- formats it makes
pub record Writes (R : ℕ → Context → Context → Type 0) : Type 0 where
  -- nothing, and one part behind another
  pub stop : (n : ℕ) (c : Context) → R n c c
  pub join : (m n k : ℕ) (a b c : Context) → m + n ≤ k → R m a b → R n b c → R k a c
  -- a statement, and one whose result a temporary takes
  pub emits : (line : ℕ) (kind : StmKind) (c : Context) → IsPlain kind → R 0 c (emit line kind c)
  pub integer : (line : ℕ) (kind : ℕ → StmKind) (c : Context) → ((r : ℕ) → IsPlain (kind r)) → R 1 c (integer_by line kind c).0
  pub pointer : (line : ℕ) (kind : ℕ → StmKind) (c : Context) → ((r : ℕ) → IsPlain (kind r)) → R 1 c (pointer_by line kind c).0
  -- code that is forgotten again
  pub forgets : (n : ℕ) (b c : Context) → R n b c → R n b (record c { code = b.code })
  -- code that goes one of two ways
  pub forks : (m n k : ℕ) (t r s : Context) (line at : ℕ) (a : Atom) → m + n ≤ k → R m (emit line (Zero a t.code.labels) (with_labels 2 t)) r
      → R n (here t.code.labels (emit at (Jump (t.code.labels + 1)) r)) s → R k t (here (t.code.labels + 1) s)
  -- a format, calls of functions, and what is freed in a scope of its own
  pub formats : (bytes : List ℕ) (c : Context) → IsShort bytes → R 1 c (with_format bytes c)
  pub calls : (calls : List (ℕ × ℕ)) (c : Context) → R 0 c (record c { calls = calls })
  pub frees : (line : ℕ) (a : Atom) (c : Context) → R 0 c (emit line Leave (emit line (Free a) (emit line Enter c)))

-- a format that is printed is short
abbrev pub PrintsShort : Option BuiltIn → Option (List ℕ) → Type 0
PrintsShort (Some bi.Printf) format = IsShort (unwrap_or format [])
PrintsShort other format = Unit {0}

module _ (R : ℕ → Context → Context → Type 0) (steps : Writes R) where
  both : {a b c : Context} (m n k : ℕ) → m + n ≤ k → R m a b → R n b c → R k a c
  both {a} {b} {c} m n k e x y = steps.join m n k a b c e x y

  within : {a b : Context} (m k : ℕ) → m ≤ k → R m a b → R k a b
  within {a} {b} m k e x = steps.join m 0 k a b b (omega (arith, e)) x (steps.stop 0 b)

  either : {A : Type 0} (n : ℕ) (b : Context) (test : Bool) (x y : Context × A) → R n b x.0 → R n b y.0 → R n b (cond test x y).0
  either n b test x y g h = search arith fits 100

  pub read_keeps : (line : ℕ) (type : PlainType) (spot : Spot) (c : Context) → R 1 c (read_spot line type spot c).0
  unfolding read_spot
  read_keeps line (Int ty) (Local r) c = steps.integer line (λ t. Set t (atom.Reg r)) c (λ r. tt)
  read_keeps line (Pointer target) (Local r) c = steps.pointer line (λ t. Set t (atom.Reg r)) c (λ r. tt)
  read_keeps line (Int ty) (Memory a) c = steps.integer line (λ t. Load (kind_of ty) t a) c (λ r. tt)
  read_keeps line (Pointer target) (Memory a) c = steps.pointer line (λ t. Loadp t a) c (λ r. tt)
  read_keeps line type spot c = steps.stop 1 c

  pub valued_from_keeps : (tree : Tree) (c : Context) (e : Found) → Reached (R 1 c) (valued_from tree c e)
  valued_from_keeps tree c e = search (arith, reached_after, reached_ok, read_keeps) fits 100

  pub unused_keeps : (n : ℕ) (tree : Tree) (b : Context) (answer : With Found) → Reached (R n b) answer → Reached (R (n + 1) b) (unused tree answer)
  unused_keeps n tree b answer g =
      reached_then (R (n + 1) b) (R n b) g (λ d h z q. both n 1 (n + 1) (omega arith) h (valued_from_keeps tree d.0 d.1 z q))

  pub valued_keeps : (n : ℕ) (tree : Tree) (b : Context) (answer : With Found) → Reached (R n b) answer → Reached (R (n + 1) b) (valued tree answer)
  valued_keeps n tree b answer g d q = unused_keeps n tree b answer g d (valued_unused tree answer d q)

  pub convert_integer_keeps : (line : ℕ) (ty source : IntType) (a : Atom) (c : Context) → R 1 c (convert_integer line ty source a c).0
  unfolding convert_integer
  convert_integer_keeps line ty source (atom.Int n) c = steps.stop 1 c
  convert_integer_keeps line ty source (atom.Reg r) c =
      either 1 c (holds_all (kind_of ty) (kind_of source)) (c, atom.Reg r) _ (steps.stop 1 c) (steps.integer line (λ t. Conv (kind_of ty) t (atom.Reg r)) c (λ r. tt))
  convert_integer_keeps line ty source atom.Null c =
      either 1 c (holds_all (kind_of ty) (kind_of source)) (c, atom.Null) _ (steps.stop 1 c) (steps.integer line (λ t. Conv (kind_of ty) t atom.Null) c (λ r. tt))
  convert_integer_keeps line ty source (atom.Static s) c =
      either 1 c (holds_all (kind_of ty) (kind_of source)) (c, atom.Static s) _ (steps.stop 1 c) (steps.integer line (λ t. Conv (kind_of ty) t (atom.Static s)) c (λ r. tt))
  convert_integer_keeps line ty source (atom.Mem m) c =
      either 1 c (holds_all (kind_of ty) (kind_of source)) (c, atom.Mem m) _ (steps.stop 1 c) (steps.integer line (λ t. Conv (kind_of ty) t (atom.Mem m)) c (λ r. tt))

  convert_operands : (n line : ℕ) (b : Context) (wanted given : Operand) (a : Atom) (c : Context) → R n b c → R (n + 1) b (convert_to line b.code wanted given a c).0
  convert_operands n line b (Number ty) (Number source) a c g = both n 1 (n + 1) (omega arith) g (convert_integer_keeps line ty source a c)
  convert_operands n line b (PointerTo target) (Number source) a c g = within n (n + 1) (omega arith) (steps.forgets n b c g)
  convert_operands n line b wanted given a c g = within n (n + 1) (omega arith) g

  pub convert_keeps : (n line : ℕ) (b : Context) (type : PlainType) (e : PlainTyped) (a : Atom) (c : Context) → R n b c → R (n + 1) b (convert line b.code type e a c).0
  convert_keeps n line b type e a c g = convert_operands n line b (operand type) (operand e.type) a c g

  pub tested_keeps : (line : ℕ) (type : PlainType) (a : Atom) (c : Context) → R 1 c (tested line type a c).0
  unfolding tested
  tested_keeps line (Pointer target) a c = steps.integer line (λ t. Test t a) c (λ r. tt)
  tested_keeps line type a c = steps.stop 1 c

  pub tested_value_keeps : (tree : Tree) (d : Context × Found) → R 1 d.0 (tested_value tree d).0
  tested_value_keeps tree d = tested_keeps (code_line tree) d.1.typed.type (atom_in d.1) d.0

  pub write_keeps : (line : ℕ) (type : PlainType) (spot : Spot) (a : Atom) (c : Context) → R 0 c (write line type spot a c)
  unfolding write
  write_keeps line type spot a c = search arith fits 100

  -- operators

  both_keeps : (line : ℕ) (to_left s : IntType) (x : Atom) (to_right t : IntType) (y : Atom) (c : Context) → R 2 c (convert_both line to_left s x to_right t y c).0
  both_keeps line to_left s x to_right t y c =
      let d = convert_integer line to_left s x c in
      both 1 1 2 (omega arith) (convert_integer_keeps line to_left s x c) (convert_integer_keeps line to_right t y d.0)

  work_keeps : (line : ℕ) (working : Working) (s : IntType) (x : Atom) (t : IntType) (y : Atom) (c : Context) → R 3 c (work line working s x t y c).0
  work_keeps line (Calculates op) s x t y c =
      let ty = common_type s t in
      let d = convert_both line ty s x ty t y c in
      both 2 1 3 (omega arith) (both_keeps line ty s x ty t y c) (steps.integer line (λ r. Bin op (kind_of ty) r d.1 d.2) d.0 (λ r. tt))
  work_keeps line (Shifts op) s x t y c =
      let d = convert_both line (promoted s) s x (promoted t) t y c in
      both 2 1 3 (omega arith) (both_keeps line (promoted s) s x (promoted t) t y c) (steps.integer line (λ r. Bin op (kind_of (promoted s)) r d.1 d.2) d.0 (λ r. tt))
  work_keeps line (Compares op) s x t y c =
      let ty = common_type s t in
      let d = convert_both line ty s x ty t y c in
      both 2 1 3 (omega arith) (both_keeps line ty s x ty t y c) (steps.integer line (λ r. Cmp op r d.1 d.2) d.0 (λ r. tt))
  work_keeps line Branches s x t y c = steps.stop 3 c

  pub before_keeps : (line : ℕ) (op : UnaryOp) (ty : IntType) (x : Atom) (c : Context) → R 2 c (before_integer line op ty x c).0
  unfolding before_integer
  before_keeps line u.Minus ty x c =
      let d = convert_integer line (promoted ty) ty x c in
      both 1 1 2 (omega arith) (convert_integer_keeps line (promoted ty) ty x c) (steps.integer line (λ r. Un un.Neg (kind_of (promoted ty)) r d.1) d.0 (λ r. tt))
  before_keeps line u.Complement ty x c =
      let d = convert_integer line (promoted ty) ty x c in
      both 1 1 2 (omega arith) (convert_integer_keeps line (promoted ty) ty x c) (steps.integer line (λ r. Un un.Not (kind_of (promoted ty)) r d.1) d.0 (λ r. tt))
  before_keeps line op ty x c = within 1 2 (omega arith) (convert_integer_keeps line (promoted ty) ty x c)

  move_keeps : (line : ℕ) (op : BinaryOp) (target : PlainType) (p n : Atom) (c : Context) → R 1 c (move_pointer line op target p n c).0
  unfolding move_pointer
  move_keeps line b.Subtract target p n c = steps.pointer line (λ r. Sub r p n (pos (size_or_zero c target))) c (λ r. tt)
  move_keeps line op target p n c = steps.pointer line (λ r. Add r p n (pos (size_or_zero c target))) c (λ r. tt)

  between_pointers_keeps : (line : ℕ) (working : Working) (target : PlainType) (p q : Atom) (c : Context) → R 1 c (between_pointers line working target p q c).0
  between_pointers_keeps line (Compares op) target p q c = steps.integer line (λ r. Pcmp op r p q) c (λ r. tt)
  between_pointers_keeps line other target p q c = steps.integer line (λ r. Diff r p q (pos (size_or_zero c target))) c (λ r. tt)

  pointer_first : (n line : ℕ) (op : BinaryOp) (working : Working) (b : Context) (target : PlainType) (p k : Atom) (c : Context) → R n b c → R (n + 3) b (pointer_beside line op working b.code target p k c).0
  pointer_first n line op (Compares test) b target p k c g =
      both n 1 (n + 3) (omega arith) (steps.forgets n b c g) (steps.integer line (λ r. Pcmp test r p atom.Null) (record c { code = b.code }) (λ r. tt))
  pointer_first n line op other b target p k c g = both n 1 (n + 3) (omega arith) g (move_keeps line op target p k c)

  integer_first : (line : ℕ) (op : BinaryOp) (working : Working) (target : PlainType) (n p : Atom) (c : Context) → R 1 c (beside_integer line op working target n p c).0
  integer_first line op (Compares test) target n p c = steps.integer line (λ r. Pcmp test r atom.Null p) c (λ r. tt)
  integer_first line op other target n p c = move_keeps line op target p n c

  combine_keeps : (n line : ℕ) (op : BinaryOp) (b : Context) (s t : Operand) (x y : Atom) (c : Context) → R n b c → R (n + 3) b (combine line op b.code s t x y c).0
  combine_keeps n line op b (Number s) (Number t) x y c g = both n 3 (n + 3) (omega arith) g (work_keeps line (working op) s x t y c)
  combine_keeps n line op b (PointerTo target) (Number t) x y c g = pointer_first n line op (working op) b target x y c g
  combine_keeps n line op b (Number s) (PointerTo target) x y c g = both n 1 (n + 3) (omega arith) g (integer_first line op (working op) target x y c)
  combine_keeps n line op b (PointerTo target) (PointerTo other) x y c g = both n 1 (n + 3) (omega arith) g (between_pointers_keeps line (working op) target x y c)
  combine_keeps n line op b left right x y c g = within n (n + 3) (omega arith) g

  pub combined_keeps : (n line : ℕ) (op : BinaryOp) (b : Context) (x y : Found) (c : Context) → R n b c → R (n + 3) b (combined line op b.code x y c).0
  combined_keeps n line op b x y c g = combine_keeps n line op b (operand x.typed.type) (operand y.typed.type) (atom_in x) (atom_in y) c g

  pub change_keeps : (line : ℕ) (op : BinaryOp) (s t : Operand) (old y : Atom) (c : Context) → R 4 c (change line op s t old y c).0
  change_keeps line op (Number s) (Number t) old y c =
      let d = on_integers line op s old t y c in
      both 3 1 4 (omega arith) (work_keeps line (working op) s old t y c) (convert_integer_keeps line s (result_type op s t) d.1 d.0)
  change_keeps line op (PointerTo target) (Number t) old y c = within 1 4 (omega arith) (move_keeps line op target old y c)
  change_keeps line op left right old y c = steps.stop 4 c

  pub member_keeps : (line offset : ℕ) (p : Atom) (c : Context) → R 1 c (member_address line offset p c).0
  member_keeps line offset p c = steps.pointer line (λ r. Off r p (pos offset)) c (λ r. tt)

  set_again_keeps : (line : ℕ) (t a : Atom) (c : Context) → R 0 c (set_again line t a c)
  set_again_keeps line t a c = search arith fits 100

  pub compare_again_keeps : (line : ℕ) (t a : Atom) (c : Context) → R 0 c (compare_again line t a c)
  compare_again_keeps line t a c = search arith fits 100

  -- places

  pub indexed_keeps : (line : ℕ) (c : Context) (x y : Found) → Reached (R 3 c) (indexed line c x y)
  indexed_keeps line c x y =
      reached_after (R 3 c) (element line c.tags x.typed y.typed)
      (λ typed h. reached_ok (R 3 c) (combined_keeps 0 line b.Add c x y c (steps.stop 0 c)))

  pub dotted_keeps : (line : ℕ) (name : List ℕ) (c : Context) (e : Found) → Reached (R 1 c) (dotted line name c e)
  dotted_keeps line name c e = search (arith, reached_after, reached_ok, member_keeps) fits 100

  pub pointed_keeps : (line : ℕ) (name : List ℕ) (c : Context) (e : Found) → Reached (R 1 c) (pointed line name c e)
  pointed_keeps line name c e = search (arith, reached_after, reached_ok, member_keeps) fits 100

  -- operators

  apply_keeps : (line : ℕ) (op : UnaryOp) (tree : Tree) (typed : PlainTyped) (c : Context) (e : Found) → R 2 c (apply line op tree typed c e).0
  apply_keeps line u.Deref tree typed c e = steps.stop 2 c
  apply_keeps line u.Not tree typed c e =
      let d = tested_value tree (c, e) in
      both 1 1 2 (omega arith) (tested_value_keeps tree (c, e)) (steps.integer line (λ r. Cmp cmp.Eq r d.1 (atom.Int (pos 0))) d.0 (λ r. tt))
  apply_keeps line op tree typed c e = search (arith, before_keeps) fits 100

  pub applied_keeps : (line : ℕ) (op : UnaryOp) (tree : Tree) (c : Context) (e : Found) → Reached (R 2 c) (applied line op tree c e)
  applied_keeps line op tree c e = search (arith, reached_after, reached_ok, apply_keeps) fits 100

  pub left_keeps : (n : ℕ) (op : BinaryOp) (b : Context) (right : Tree) (d : Context × Found) → R n b d.0 → R n b (left_operand op b.code right d).0
  left_keeps n op b right d g = search arith

  pub between_keeps : (n line : ℕ) (op : BinaryOp) (b c : Context) (x y : Found) → R n b c → Reached (R (n + 3) b) (between line op b.code c x y)
  between_keeps n line op b c x y g = search (arith, reached_after, reached_ok, combined_keeps) fits 100

  pub cast_keeps : (n line : ℕ) (type : PlainType) (b c : Context) (e : Found) → R n b c → Reached (R (n + 1) b) (cast_to line type b.code c e)
  cast_keeps n line type b c e g = search (arith, reached_after, reached_ok, convert_keeps) fits 100

  -- one way or another

  fork_at : (m n k : ℕ) (t r s : Context) (line at label : ℕ) (a : Atom) → m + n ≤ k → label ≡ t.code.labels → R m (emit line (Zero a t.code.labels) (with_labels 2 t)) r
      → R n (here label (emit at (Jump (label + 1)) r)) s → R k t (here (label + 1) s)
  fork_at m n k t r s line at label a h e g = search arith

  same_labels : (tree : Tree) (d : Context × Found) → new_label d.0 ≡ (tested_value tree d).0.code.labels
  unfolding tested
  same_labels tree d = sym (search arith fits 100)

  and_ends_keeps : (n line : ℕ) (tree right : Tree) (d r : Context × Found) → R n (and_then line tree d) r.0 → R (n + 3) d.0 (and_ends line (new_label d.0) (tested_value right r)).0
  and_ends_keeps n line tree right d r g =
      let t = tested_value tree d in
      let v = tested_value right r in
      let label : ℕ = new_label d.0 in
      let w = integer_by line (λ k. Cmp cmp.Ne k v.1 (atom.Int (pos 0))) v.0 in
      let e = here label (emit line (Jump (label + 1)) w.0) in
      let one : R (n + 2) (and_then line tree d) w.0 =
      both n 2 (n + 2) (omega arith) g (both 1 1 2 (omega arith) (tested_value_keeps right r) (steps.integer line (λ k. Cmp cmp.Ne k v.1 (atom.Int (pos 0))) v.0 (λ k. tt))) in
      both 1 (n + 2) (n + 3) (omega arith) (tested_value_keeps tree d)
      (fork_at (n + 2) 0 (n + 2) t.0 w.0 (set_again line w.1 (atom.Int (pos 0)) e) line line label t.1 (omega arith) (same_labels tree d) one (set_again_keeps line w.1 (atom.Int (pos 0)) e))

  pub and_keeps : (n line : ℕ) (tree right : Tree) (x : Found) (d r : Context × Found) → R n (and_then line tree d) r.0 → Reached (R (n + 3) d.0) (and_ended line (new_label d.0) right x r)
  and_keeps n line tree right x d r g = search (arith, reached_after, reached_ok, and_ends_keeps) fits 100

  or_ends_keeps : (n line : ℕ) (tree right : Tree) (i : Atom) (d r : Context × Found) → R n (or_else line tree d).0 r.0 → R (n + 3) d.0 (or_ends line (new_label d.0 + 1) i (tested_value right r)).0
  or_ends_keeps n line tree right i d r g =
      let t = tested_value tree d in
      let v = tested_value right r in
      let start = emit line (Zero t.1 (new_label t.0)) (with_labels 2 t.0) in
      let e = integer_by line (λ k. Set k (atom.Int (pos 1))) start in
      let s = compare_again line i v.1 v.0 in
      let two : R (n + 1) (or_else line tree d).0 s = both n 1 (n + 1) (omega arith) g (both 1 0 1 (omega arith) (tested_value_keeps right r) (compare_again_keeps line i v.1 v.0)) in
      let made : R (n + 2) t.0 (here (new_label t.0 + 1) s) =
      steps.forks 1 (n + 1) (n + 2) t.0 e.0 s line line t.1 (omega arith) (steps.integer line (λ k. Set k (atom.Int (pos 1))) start (λ k. tt)) two in
      both 1 (n + 2) (n + 3) (omega arith) (tested_value_keeps tree d) (subst (λ (l : ℕ). R (n + 2) t.0 (here (l + 1) s)) (sym (same_labels tree d)) made)

  pub or_keeps : (n line : ℕ) (tree right : Tree) (i : Atom) (x : Found) (d r : Context × Found) → R n (or_else line tree d).0 r.0 → Reached (R (n + 3) d.0) (or_ended line (new_label d.0 + 1) right i x r)
  or_keeps n line tree right i x d r g = search (arith, reached_after, reached_ok, or_ends_keeps) fits 100

  pub chosen_by_keeps : (n line : ℕ) (b : Context) (type : PlainType) (e : PlainTyped) (d : Context × Atom) → R n b d.0 → R (n + 2) b (chosen_by line b.code type e d).0
  chosen_by_keeps n line b (Int ty) e d g =
      let v = convert line b.code (Int ty) e d.1 d.0 in
      both (n + 1) 1 (n + 2) (omega arith) (convert_keeps n line b (Int ty) e d.1 d.0 g) (steps.integer line (λ r. Set r v.1) v.0 (λ r. tt))
  chosen_by_keeps n line b (Pointer target) e d g =
      let v = convert line b.code (Pointer target) e d.1 d.0 in
      both (n + 1) 1 (n + 2) (omega arith) (convert_keeps n line b (Pointer target) e d.1 d.0 g) (steps.pointer line (λ r. Set r v.1) v.0 (λ r. tt))
  chosen_by_keeps n line b type e d g = within n (n + 2) (omega arith) g

  pub choose_last_keeps : (n line : ℕ) (b : Context) (type : PlainType) (t : Atom) (d : Context × Found) → R n b d.0 → R (n + 1) b (choose_last line b.code type t d).0
  choose_last_keeps n line b type t d g =
      let v = convert line b.code type d.1.typed (atom_in d.1) d.0 in
      both (n + 1) 0 (n + 1) (omega arith) (convert_keeps n line b type d.1.typed (atom_in d.1) d.0 g) (set_again_keeps line t v.1 v.0)

  pub choice_keeps : (m n line : ℕ) (tree : Tree) (type : PlainType) (test : Found) (d x y : Context × Found) → R m (and_then line tree d) x.0
      → R n (choose_first line (new_label d.0) (and_then line tree d).code type x).0 y.0
      → Reached (R (m + n + 4) d.0) (chosen line (new_label d.0 + 1) (choose_first line (new_label d.0) (and_then line tree d).code type x).0.code (choose_first line (new_label d.0) (and_then line tree d).code type x).1 test x.1 y)
  choice_keeps m n line tree type test d x y g h =
      let t = tested_value tree d in
      let label : ℕ = new_label d.0 in
      let begun = and_then line tree d in
      let v = chosen_by line begun.code type x.1.typed (x.0, atom_in x.1) in
      let first = choose_first line label begun.code type x in
      reached_after (R (m + n + 4) d.0) (choice line test.typed x.1.typed y.1.typed)
      (λ typed e. reached_ok (R (m + n + 4) d.0)
      (both 1 (m + n + 3) (m + n + 4) (omega arith) (tested_value_keeps tree d)
      (fork_at (m + 2) (n + 1) (m + n + 3) t.0 v.0 (choose_last line first.0.code typed.type first.1 y).0 line line label t.1 (omega arith) (same_labels tree d)
      (chosen_by_keeps m line begun type x.1.typed (x.0, atom_in x.1) g) (choose_last_keeps n line first.0 typed.type first.1 y h))))

  -- assignments

  pub record_keeps : (line right : ℕ) (target : Found) (d : Context × Found) → Reached (R 0 d.0) (record_assigned line right target d)
  record_keeps line right target d =
      reached_after (R 0 d.0) (assigned line right d.0.tags target.typed d.1.typed)
      (λ typed h. reached_ok (R 0 d.0) (steps.emits line (Copy (atom_in target) (atom_in d.1) (pos (size_or_zero d.0 typed.type))) d.0 tt))

  set_to_keeps : (n line : ℕ) (b : Context) (typed : PlainTyped) (target : Found) (d : Context × Found) → R n b d.0 → R (n + 1) b (set_to line b.code typed target d).0
  set_to_keeps n line b typed target d g =
      let v = convert line b.code typed.type d.1.typed (atom_in d.1) d.0 in
      both (n + 1) 0 (n + 1) (omega arith) (convert_keeps n line b typed.type d.1.typed (atom_in d.1) d.0 g) (write_keeps line typed.type target.spot v.1 v.0)

  pub scalar_assigned_keeps : (n line : ℕ) (tree : Tree) (target : Found) (b : Context) (d : Context × Found) → R n b d.0 → Reached (R (n + 2) b) (scalar_assigned line b.code tree target d)
  scalar_assigned_keeps n line tree target b d g =
      reached_after (R (n + 2) b) (assigned line (types.line_of tree) d.0.tags target.typed d.1.typed)
      (λ typed h. reached_then (R (n + 2) b) (R 1 d.0) (valued_from_keeps tree d.0 d.1)
      (λ v k. reached_ok (R (n + 2) b) (within (n + 1 + 1) (n + 2) (omega arith) (set_to_keeps (n + 1) line b typed target v (both n 1 (n + 1) (omega arith) g k)))))

  pub old_keeps : (line : ℕ) (d : Context × Found) → R 1 d.0 (old_value line d).0
  old_keeps line d = read_keeps line d.1.typed.type d.1.spot d.0

  change_place_keeps : (line : ℕ) (op : BinaryOp) (typed : PlainTyped) (target : Found) (old : Atom) (e : PlainTyped) (y : Atom) (c : Context) → R 4 c (change_place line op typed target old e y c).0
  change_place_keeps line op typed target old e y c =
      let v = changed_to line op typed.type old e y c in
      both 4 0 4 (omega arith) (change_keeps line op (operand typed.type) (operand e.type) old y c) (write_keeps line typed.type target.spot v.1 v.0)

  pub changed_keeps : (line : ℕ) (op : AssignOp) (keeps_old : Bool) (target : Found) (old : Atom) (d : Context × Found) → Reached (R 4 d.0) (changed_by line op keeps_old target old d)
  changed_keeps line op keeps_old target old d = search (arith, reached_after, reached_ok, change_place_keeps) fits 100

  pub stepped_keeps : (line : ℕ) (op : AssignOp) (keeps_old : Bool) (d : Context × Found) → Reached (R 5 d.0) (stepped line op keeps_old d)
  stepped_keeps line op keeps_old d z q =
      let old = old_value line d in both 1 4 5 (omega arith) (old_keeps line d) (changed_keeps line op keeps_old d.1 old.1 (old.0, one_found) z q)

  -- calls

  pub argument_keeps : (n line : ℕ) (params : PlainTypes) (b c : Context) (e : Found) → R n b c → R (n + 1) b (argument_from line params b.code c e).0
  argument_keeps n line params b c e g = search (arith, within, convert_keeps) fits 100

  result_keeps : (line : ℕ) (type : PlainType) (kind : Option ℕ → StmKind) (c : Context) → ((r : Option ℕ) → IsPlain (kind r)) → R 1 c (result_by line type kind c).0
  result_keeps line (Int ty) kind c h = steps.integer line (λ r. kind (Some r)) c (λ r. h (Some r))
  result_keeps line (Pointer target) kind c h = steps.pointer line (λ r. kind (Some r)) c (λ r. h (Some r))
  result_keeps line type kind c h = within 0 1 (omega arith) (steps.emits line (kind None) c (h None))

  built_in_keeps : (line : ℕ) (name : BuiltIn) (answer wanted : PlainType) (format : Option (List ℕ)) (arguments : List Argument) (c : Context) → PrintsShort (Some name) format → R 2 c (call_built_in line name answer wanted format arguments c).0
  unfolding call_built_in
  built_in_keeps line bi.Malloc answer wanted format arguments c h =
      within 1 2 (omega arith) (steps.pointer line (λ r. Malloc r (atom_at arguments 0) (element_layout c.tags wanted)) c (λ r. tt))
  built_in_keeps line bi.Calloc answer wanted format arguments c h =
      within 1 2 (omega arith) (steps.pointer line (λ r. Calloc r (atom_at arguments 0) (atom_at arguments 1) (element_layout c.tags wanted)) c (λ r. tt))
  built_in_keeps line bi.Realloc answer wanted format arguments c h =
      within 1 2 (omega arith) (steps.pointer line (λ r. Realloc r (atom_at arguments 0) (atom_at arguments 1) (element_layout c.tags wanted)) c (λ r. tt))
  built_in_keeps line bi.Free answer wanted format arguments c h = within 0 2 (omega arith) (steps.frees line (atom_at arguments 0) c)
  built_in_keeps line bi.Printf answer wanted format arguments c h = both 1 1 2 (omega arith) (steps.formats (unwrap_or format []) c h) (steps.integer line (λ r. Printf r (length c.running.formats) (drop 1 (atoms_of arguments))) (with_format (unwrap_or format []) c) (λ r. tt))
  built_in_keeps line name answer wanted format arguments c h =
      within 1 2 (omega arith) (result_keeps line answer (λ r. Lib (lib_name name) r (atoms_of arguments)) c (λ r. tt))

  pub call_keeps : (line : ℕ) (name : Option PlainNamed) (answer wanted : PlainType) (format : Option (List ℕ)) (arguments : List Argument) (c : Context) → PrintsShort (built_in_at name) format → R 2 c (call_named line name answer wanted format arguments c).0
  call_keeps line (Some (n.Function type index)) answer wanted format arguments c h =
      let d : Context = record c { calls = c.calls ++ (index, line) ∷ [] } in
      both 0 1 2 (omega arith) (steps.calls (c.calls ++ (index, line) ∷ []) c) (result_keeps line answer (λ r. Call index r (atoms_of arguments)) d (λ r. tt))
  call_keeps line other answer wanted format arguments c h = search (arith, built_in_keeps) fits 100

-- what writes code alone leaves the scopes and the tags as they were

abbrev pub Quiet : Context → Context → Type 0
Quiet c d = asked d ≡ asked c

-- however much is made
abbrev Still : ℕ → Context → Context → Type 0
Still n c d = Quiet c d

quiet_writes : Writes Still
quiet_writes = search arith fits 100

pub quiet_read : (line : ℕ) (type : PlainType) (spot : Spot) (c : Context) → Quiet c (read_spot line type spot c).0
quiet_read line type spot c = read_keeps Still quiet_writes line type spot c

pub quiet_convert_integer : (line : ℕ) (ty source : IntType) (a : Atom) (c : Context) → Quiet c (convert_integer line ty source a c).0
quiet_convert_integer line ty source a c = convert_integer_keeps Still quiet_writes line ty source a c

pub quiet_convert : (line : ℕ) (before : Code) (type : PlainType) (e : PlainTyped) (a : Atom) (c : Context) → Quiet c (convert line before type e a c).0
quiet_convert line before type e a c = convert_keeps Still quiet_writes 0 line (record c { code = before }) type e a c refl

pub quiet_tested_value : (tree : Tree) (d : Context × Found) → Quiet d.0 (tested_value tree d).0
quiet_tested_value tree d = tested_value_keeps Still quiet_writes tree d

pub quiet_write : (line : ℕ) (type : PlainType) (spot : Spot) (a : Atom) (c : Context) → Quiet c (write line type spot a c)
quiet_write line type spot a c = write_keeps Still quiet_writes line type spot a c

pub quiet_before : (line : ℕ) (op : UnaryOp) (ty : IntType) (x : Atom) (c : Context) → Quiet c (before_integer line op ty x c).0
quiet_before line op ty x c = before_keeps Still quiet_writes line op ty x c

pub quiet_combined : (line : ℕ) (op : BinaryOp) (before : Code) (x y : Found) (c : Context) → Quiet c (combined line op before x y c).0
quiet_combined line op before x y c = combined_keeps Still quiet_writes 0 line op (record c { code = before }) x y c refl

pub quiet_changed : (line : ℕ) (op : BinaryOp) (type : PlainType) (old : Atom) (e : PlainTyped) (y : Atom) (c : Context) → Quiet c (changed_to line op type old e y c).0
quiet_changed line op type old e y c = change_keeps Still quiet_writes line op (operand type) (operand e.type) old y c

pub quiet_argument : (line : ℕ) (params : PlainTypes) (before : Code) (c : Context) (e : Found) → Quiet c (argument_from line params before c e).0
quiet_argument line params before c e = argument_keeps Still quiet_writes 0 line params (record c { code = before }) c e refl

pub quiet_compare_again : (line : ℕ) (t a : Atom) (c : Context) → Quiet c (compare_again line t a c)
quiet_compare_again line t a c = compare_again_keeps Still quiet_writes line t a c

pub quiet_chosen_by : (line : ℕ) (before : Code) (type : PlainType) (e : PlainTyped) (d : Context × Atom) → Quiet d.0 (chosen_by line before type e d).0
quiet_chosen_by line before type e d = chosen_by_keeps Still quiet_writes 0 line (record d.0 { code = before }) type e d refl

pub quiet_choose_last : (line : ℕ) (before : Code) (type : PlainType) (t : Atom) (d : Context × Found) → Quiet d.0 (choose_last line before type t d).0
quiet_choose_last line before type t d = choose_last_keeps Still quiet_writes 0 line (record d.0 { code = before }) type t d refl

-- calls, also of formats that are long

pub quiet_result : (line : ℕ) (type : PlainType) (kind : Option ℕ → StmKind) (c : Context) → Quiet c (result_by line type kind c).0
quiet_result line type kind c = search arith fits 100

quiet_built_in : (line : ℕ) (name : BuiltIn) (answer wanted : PlainType) (format : Option (List ℕ)) (arguments : List Argument) (c : Context) → Quiet c (call_built_in line name answer wanted format arguments c).0
unfolding call_built_in
quiet_built_in line name answer wanted format arguments c = search (arith, quiet_result) fits 100

pub quiet_of_built_in : (line : ℕ) (name : Option BuiltIn) (answer wanted : PlainType) (format : Option (List ℕ)) (arguments : List Argument) (c : Context) → Quiet c (call_of_built_in line name answer wanted format arguments c).0
quiet_of_built_in line name answer wanted format arguments c = search (arith, quiet_built_in) fits 100

pub quiet_literal : (line : ℕ) (bytes : List ℕ) (c : Context) (d : Context × ℕ) → with_literal line bytes c ≡ Ok d → Quiet c d.0
quiet_literal line bytes c d = grind (arith, true, false, ok_same)
