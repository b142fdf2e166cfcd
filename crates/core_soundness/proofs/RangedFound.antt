-- Expressions keep the numbers of statements in range.
use Rattle.core_soundness.proofs.Words.Std.{◌≡◌, ◌<◌, ◌+◌, ◌&&◌, ◌^◌, not, ℕ, pos, zero, suc, Bool, true, false, length, drop, List, [], ◌∷◌, Option, Some, None, unwrap_or, Ok, refl, sym, subst, arith, option_map, ℤ, ints, slice_index_or}
use Rattle.core_soundness.proofs.Words.Trees.{number_value, Tree, Trees, Leaf, At, Node, none, ◌▹◌, AssignOp, BinaryOp, UnaryOp}
use Rattle.core_soundness.proofs.Words.Types.{TagTable, CompletedTag, known, PlainType, PlainTypes, Void, Int, Pointer, constant_of, named, built_in_named, built_in_value, Callee, NoFunction, called, line_of, typed, int_constant, char_constant, joined, typename, PlainNamed, element, element_types, choice, assigned, changed, changed_types, moves, size, Checked, then, found as declaration, unary, binary, moving, address, PlainTyped, Operand, Number, PointerTo, operand, place, value, constant, is_null_constant, is_record, BuiltIn, Constant, Operands}
use Rattle.core_soundness.proofs.Words.Core.{I8, IsNumber, Atom, StmKind, Set, Cmp, Zero, Jump, Copy, Malloc, Calloc, Realloc, Free, Lib, Printf, Enter, Leave}
use Rattle.core_soundness.proofs.Words.Elaborating.{record_assigned, scalar_assigned, old_value, changed_answer, changed_by, one_found, stepped, Argument, atoms_of, atom_at, argument_from, lib_name, result_by, with_format, call_built_in, call_of_built_in, call_named, element_layout, first_type, rest_types, Code, Context, emit, here, new_label, with_labels, integer_by, asked, told, Walked, Found, Spot, Value, found_as, atom_in, valued_from, convert, tested_value, code_line, write, size_or_zero, valued_as, valued, unused, name_answer, literal_answer, unevaluated, changing, comma_answer, callee, callee_name, parameters, format_argument, is_printf, call_answer, found, arguments, cast_operand, working, Branches, operator_of, changed_to, opened, closed, set_again, compare_again, constant_found, object_found, built_in_found, name_found, is_inner, with_literal, indexed, dotted, pointed, negated, apply, applied, tells_equal, is_pointer_ahead, ahead, left_operand, between, cast_to, and_then, and_ends, and_ended, or_else, or_ended, chosen_by, choose_first, chosen, choose, type_ahead}
use Rattle.core_soundness.proofs.Words.Facts.{AtomIn, AtomsIn, PiecesIn, Solid, Whole, NamedWhole, AllWhole, AreMade, Written, AllWritten}
use Rattle.c_types.specs.TagTableEquations.{Extends}
use Rattle.c_types.specs.Types as ct
use Rattle.core_tree.specs.declared.statements.Atom.TheVariants as atom
use Rattle.core_tree.specs.declared.statements.CmpOp.TheVariants as cmp
use Rattle.c_tree.specs.Forms as f
use Rattle.c_tree.specs.Words as w
use Rattle.c_tree.specs.declared.operator.AssignOp.TheVariants as a
use Rattle.c_tree.specs.declared.operator.BinaryOp.TheVariants as b
use Rattle.c_tree.specs.declared.operator.UnaryOp.TheVariants as u
use Rattle.c_decls.specs.TypeNames as names
use Rattle.c_decls.specs.declared.built_in.BuiltIn.TheVariants as built
use Rattle.core_soundness.proofs.Agreeing.{came, left_typed, changing_first}
use Rattle.core_soundness.proofs.CodeWalk.{quiet_read, quiet_tested_value, read_keeps}
use Rattle.core_soundness.proofs.Growth.{good, ok_same, never, Led, led_ok, led_after, led_unless, Grows, grows_refl, valued_unused, cast_unused, behind_test}
use Rattle.core_soundness.proofs.Ranged as base
use Rattle.core_soundness.proofs.Ranged.{In, Has, in_emit, in_here, in_integer, in_pointer, zero_number, one_number, small_number, size_number, offset_number, wanted_element, SpotIn, spot_atom, read_in, valued_from_in, convert_in, tested_in, write_in, before_in, Steps, combined_in, Pointed, pointed_of, moving_step, IsBetween, binary_steps, changed_in, member_in, K, Widens, same_kept, same_widens, wrapped_number, widens_refl, widens_trans, fit_of, told_widens, told_whole, found_gone, value_gone, converted_widens, unused_gone, Gone}
use Rattle.core_soundness.proofs.Sorting.{moved_is}
use Rattle.core_soundness.proofs.TagSorts.{typename_leads, kinds_refl, Leads, Kinds}
use Rattle.core_soundness.proofs.TypedWhole.{assigned_whole, led_cond, called_whole, typed_good, typename_good, CW, Fit}
use Rattle.core_soundness.proofs.Walks.{grows_tested, grows_write, Made, grows_writes}
use Rattle.core_soundness.proofs.WholeTypes.{whole_stays, nothing, all_stay, extends_refl, made_sized}
use Rattle.core_soundness.proofs.Choices.{either_way, some_same}
use Rattle.core_soundness.proofs.Scopes.{name_fits}

-- expressions keep the numbers of statements in range

-- an expression whose code and place are in range
abbrev pub E : Context × Found → Type 0
E z = In z.0 × SpotIn z.1.spot

-- names and constants

built_number : (name : BuiltIn) (c : Constant) → constant_of name ≡ Some c → IsNumber c.value
built_number name c e = search (arith, some_same, ints) fits 100

value_in : (line : ℕ) (name : BuiltIn) (o : Option Constant) (e : PlainTyped) → constant_of name ≡ o → built_in_value line name o ≡ Ok e → SpotIn (built_in_found e e.is_null).spot
value_in line name o e q h = search (arith, ok_same, never, built_number) fits 100

built_in_in : (line : ℕ) (o : Option BuiltIn) (e : PlainTyped) → built_in_named line o ≡ Ok e → SpotIn (built_in_found e e.is_null).spot
built_in_in line o e h = search (arith, never, value_in) fits 100

object_in : (typed : PlainTyped) (inner : Bool) (i : ℕ) → SpotIn (object_found typed inner i).spot
object_in typed inner i = search arith fits 100

name_in : (c : Context) (line : ℕ) (inner : Bool) (v : PlainNamed) (e : PlainTyped) → NamedWhole (K c) v → named line (Some v) ≡ Ok e → SpotIn (name_found e inner (Some v)).spot
name_in c line inner v e w h = search (arith, object_in, built_in_in, ok_same, never) fits 100

pub named_in_range : (line : ℕ) (name : List ℕ) (c : Context) (z : Context × Found) → Solid c → In c → name_answer line name (declaration c.scopes name) c ≡ Ok z → E z
named_in_range line name c z h g q = by (declaration c.scopes name) refl q
  where
    by : (o : Option PlainNamed) → declaration c.scopes name ≡ o → name_answer line name o c ≡ Ok z → E z
    by None e k = never (E z) _ z k
    by (Some v) e k =
        let t = came (named line (Some v)) k in
        subst E (ok_same (c, name_found t.value (is_inner c name) (Some v)) z t.last) (g, name_in c line (is_inner c name) v t.value (name_fits (NamedWhole (K c)) c.scopes name v h.names e) t.is)

pub constant_in : (c : Context) (k : Constant) (z : Context × Found) → In c → IsNumber k.value → good (c, constant_found (constant k)) ≡ Ok z → E z
constant_in c k z g h q = subst E (ok_same (c, constant_found (constant k)) z q) (g, h)

pub held_number : (v : ℕ) → v < 2 ^ 64 → IsNumber (pos v)
held_number v h = (omega (arith, ints, h), omega (arith, ints, h))

-- literals

abbrev In0 : {A : Type 0} → Context × A → Type 0
In0 {A} z = In z.0

pub literal_in : (line : ℕ) (bytes : List ℕ) (c : Context) → In c → Led (In0 {A = ℕ}) (with_literal line bytes c)
literal_in line bytes c g = search (arith, led_after, led_ok, led_unless)

pub string_in : (line : ℕ) (bytes : List ℕ) (c : Context) → In c → Led E (literal_answer line bytes c)
string_in line bytes c g = search (arith, led_after, led_ok, literal_in)

-- places

element_steps : (line : ℕ) (c : Context) (s t : Operand) (z : PlainTyped) → Solid c → Pointed c s → Pointed c t → element_types line c.tags s t ≡ Ok z → Steps (working b.Add) s t c
unfolding working
element_steps line c (PointerTo target) (Number ty) z h p q e = moving_step line c target (place target) z h p e
element_steps line c s t z h p q e = search (arith, moving_step, never) fits 100

pub indexed_in : (line : ℕ) (c : Context) (x y : Found) → Solid c → In c → SpotIn x.spot → SpotIn y.spot → Whole (K c) x.typed.type → Whole (K c) y.typed.type → Led E (indexed line c x y)
indexed_in line c x y h g p q v w =
    led_after E (element line c.tags x.typed y.typed) (λ t k. led_ok E
    (combined_in line b.Add c.code x y c g g p q (element_steps line c (operand x.typed.type) (operand y.typed.type) t h (pointed_of c x.typed.type v) (pointed_of c y.typed.type w) k)))

pub dotted_in : (line : ℕ) (name : List ℕ) (c : Context) (e : Found) → Solid c → In c → SpotIn e.spot → Led E (dotted line name c e)
dotted_in line name c e h g s = search (arith, led_after, led_ok, member_in, spot_atom, offset_number)

pub pointed_in : (line : ℕ) (name : List ℕ) (c : Context) (e : Found) → Solid c → In c → SpotIn e.spot → Led E (pointed line name c e)
pointed_in line name c e h g s = search (arith, led_after, led_ok, member_in, spot_atom, offset_number)

-- operators before a value

pub tested_value_in : (tree : Tree) (d : Context × Found) → E d → Has (tested_value tree d)
tested_value_in tree d h = tested_in (code_line tree) d.1.typed.type (atom_in d.1) d.0 h.0 (spot_atom d.1.spot h.1)

negated_in : (line : ℕ) (tree : Tree) (t : PlainTyped) (c : Context) (e : Found) → In c → SpotIn e.spot → E (negated line tree t c e)
negated_in line tree t c e g s =
    let d = tested_value tree (c, e) in
    let r = tested_value_in tree (c, e) (g, s) in
    in_integer line (λ r. Cmp cmp.Eq r d.1 (atom.Int (pos 0))) d.0 r.0 (λ i. ((r.1, (zero_number, tt)), tt))

apply_in : (line : ℕ) (op : UnaryOp) (tree : Tree) (t : PlainTyped) (c : Context) (e : Found) → In c → SpotIn e.spot → E (apply line op tree t c e)
apply_in line u.Deref tree t c e g s = (g, spot_atom e.spot s)
apply_in line u.Not tree t c e g s = negated_in line tree t c e g s
apply_in line op tree t c e g s = search (arith, before_in, spot_atom) fits 100

pub applied_in : (line : ℕ) (op : UnaryOp) (tree : Tree) (c : Context) (e : Found) → In c → SpotIn e.spot → Led E (applied line op tree c e)
applied_in line op tree c e g s = led_after E (unary line op c.tags e.typed) (λ t k. led_ok E (apply_in line op tree t c e g s))

-- operators between values

pub left_in : (op : BinaryOp) (before : Code) (right : Tree) (d : Context × Found) → PiecesIn before.pieces → E d → E (left_operand op before right d)
left_in op before right d p h = either_way E (tells_equal op && is_null_constant d.1.typed && is_pointer_ahead (ahead right d.0)) ((p, tt)) h

pub between_in : (line : ℕ) (op : BinaryOp) (before : Code) (c : Context) (x y : Found) → IsBetween op → PiecesIn before.pieces → Solid c → In c → SpotIn x.spot → SpotIn y.spot → Whole (K c) x.typed.type → Whole (K c) y.typed.type → Led E (between line op before c x y)
between_in line op before c x y i f h g p q v w =
    led_after E (binary line op c.tags x.typed y.typed)
    (λ t k. led_ok E (combined_in line op before x y c f g p q (binary_steps op line c x.typed y.typed t i h v w k)))

pub cast_in : (line : ℕ) (type : PlainType) (before : Code) (c : Context) (e : Found) → PiecesIn before.pieces → In c → SpotIn e.spot → Led E (cast_to line type before c e)
cast_in line type before c e f g s = search (arith, led_after, led_ok, convert_in, spot_atom)

set_again_in : (line : ℕ) (t x : Atom) (c : Context) → In c → AtomIn x → In (set_again line t x c)
set_again_in line t x c g h = search (arith, in_emit) fits 100

compare_again_in : (line : ℕ) (t x : Atom) (c : Context) → In c → AtomIn x → In (compare_again line t x c)
compare_again_in line t x c g h = search (arith, in_emit, zero_number) fits 100

pub and_then_in : (line : ℕ) (tree : Tree) (d : Context × Found) → E d → In (and_then line tree d)
and_then_in line tree d h = search (arith, tested_value_in, in_emit)

and_ends_in : (line label : ℕ) (t : Context × Atom) → Has t → Has (and_ends line label t)
and_ends_in line label t h =
    let d = integer_by line (λ r. Cmp cmp.Ne r t.1 (atom.Int (pos 0))) t.0 in
    let r = in_integer line (λ r. Cmp cmp.Ne r t.1 (atom.Int (pos 0))) t.0 h.0 (λ i. ((h.1, (zero_number, tt)), tt)) in
    let j = emit line (Jump (label + 1)) d.0 in
    let e = here label j in
    let ge = in_here label j (in_emit line (Jump (label + 1)) d.0 r.0 (tt, tt)) in
    (in_here (label + 1) (set_again line d.1 (atom.Int (pos 0)) e) (set_again_in line d.1 (atom.Int (pos 0)) e ge zero_number), r.1)

pub and_ended_in : (line label : ℕ) (tree : Tree) (x : Found) (d : Context × Found) → E d → Led E (and_ended line label tree x d)
and_ended_in line label tree x d h = search (arith, led_after, led_ok, and_ends_in, tested_value_in)

pub or_else_in : (line : ℕ) (tree : Tree) (d : Context × Found) → E d → Has (or_else line tree d)
or_else_in line tree d h =
    let t = tested_value tree d in
    let r = tested_value_in tree d h in
    let next = new_label t.0 in
    let z = emit line (Zero t.1 next) (with_labels 2 t.0) in
    let gz = in_emit line (Zero t.1 next) (with_labels 2 t.0) r.0 ((r.1, tt), tt) in
    let e = integer_by line (λ r. Set r (atom.Int (pos 1))) z in
    let ge = in_integer line (λ r. Set r (atom.Int (pos 1))) z gz (λ i. ((one_number, tt), tt)) in
    (in_here next (emit line (Jump (next + 1)) e.0) (in_emit line (Jump (next + 1)) e.0 ge.0 (tt, tt)), ge.1)

pub or_ended_in : (line end : ℕ) (tree : Tree) (i : Atom) (x : Found) (d : Context × Found) → AtomIn i → E d → Led E (or_ended line end tree i x d)
or_ended_in line end tree i x d p h = search (arith, tested_value_in, led_after, led_ok, in_here, compare_again_in)

chosen_by_in : (line : ℕ) (before : Code) (type : PlainType) (e : PlainTyped) (d : Context × Atom) → PiecesIn before.pieces → Has d → Has (chosen_by line before type e d)
chosen_by_in line before (Int ty) e d f h =
    let v = convert line before (Int ty) e d.1 d.0 in
    let r = convert_in line before (Int ty) e d.1 d.0 f h.0 h.1 in
    in_integer line (λ r. Set r v.1) v.0 r.0 (λ i. ((r.1, tt), tt))
chosen_by_in line before (Pointer target) e d f h =
    let v = convert line before (Pointer target) e d.1 d.0 in
    let r = convert_in line before (Pointer target) e d.1 d.0 f h.0 h.1 in
    in_pointer line (λ r. Set r v.1) v.0 r.0 (λ i. ((r.1, tt), tt))
chosen_by_in line before type e d f h = (h.0, tt)

pub first_in : (line other : ℕ) (before : Code) (type : PlainType) (d : Context × Found) → PiecesIn before.pieces → E d → Has (choose_first line other before type d)
first_in line other before type d f h =
    let v = chosen_by line before type d.1.typed (d.0, atom_in d.1) in
    let r = chosen_by_in line before type d.1.typed (d.0, atom_in d.1) f (h.0, spot_atom d.1.spot h.1) in
    (in_here other (emit line (Jump (other + 1)) v.0) (in_emit line (Jump (other + 1)) v.0 r.0 (tt, tt)), r.1)

pub chosen_in : (line end : ℕ) (before : Code) (t : Atom) (test x : Found) (d : Context × Found) → PiecesIn before.pieces → AtomIn t → E d → Led E (chosen line end before t test x d)
chosen_in line end before t test x d f p h =
    led_after E (choice line test.typed x.typed d.1.typed)
    (λ y k. let v = convert line before y.type d.1.typed (atom_in d.1) d.0 in
    let r = convert_in line before y.type d.1.typed (atom_in d.1) d.0 f h.0 (spot_atom d.1.spot h.1) in
    led_ok E
    (in_here end (set_again line t v.1 v.0) (set_again_in line t v.1 v.0 r.0 r.1), search arith fits 100))

-- assignments

pub record_in : (line right : ℕ) (target : Found) (d : Context × Found) → Solid d.0 → Whole (K d.0) target.typed.type → SpotIn target.spot → E d → Led E (record_assigned line right target d)
record_in line right target d s w p h =
    led_after E (assigned line right d.0.tags target.typed d.1.typed) (λ t k. led_ok E (
      in_emit line (Copy (atom_in target) (atom_in d.1) (pos (size_or_zero d.0 t.type))) d.0 h.0
          ((spot_atom target.spot p, (spot_atom d.1.spot h.1, tt)), size_number d.0 t.type s (assigned_whole d.0.tags.completed s.made line right d.0.tags target.typed d.1.typed w t k)),
      tt,
    ))

pub scalar_in : (line : ℕ) (before : Code) (tree : Tree) (target : Found) (d : Context × Found) → PiecesIn before.pieces → SpotIn target.spot → E d → Led E (scalar_assigned line before tree target d)
scalar_in line before tree target d f p h =
    led_after E (assigned line (line_of tree) d.0.tags target.typed d.1.typed)
    (λ t k. led_after E (valued_from tree d.0 d.1)
    (λ v q. let r = valued_from_in tree d.0 d.1 v h.0 h.1 q in
    let x = convert line before t.type v.1.typed (atom_in v.1) v.0 in
    let s = convert_in line before t.type v.1.typed (atom_in v.1) v.0 f r.0 (spot_atom v.1.spot r.1) in
    led_ok E (write_in line t.type target.spot x.1 x.0 s.0 p s.1, s.1)))

changed_steps : (line : ℕ) (op : AssignOp) (c : Context) (type : PlainType) (s t : Operand) (z : PlainTyped) → operand type ≡ s → Solid c → Pointed c s → changed_types line op c.tags type s t ≡ Ok z → Steps Branches (operand z.type) t c
changed_steps line op c type (Number ty) (Number source) z o h p e = subst (λ (x : PlainTyped). Steps Branches (operand x.type) (Number source) c) (ok_same _ z e) (subst (λ (x : Operand). Steps Branches x (Number source) c) (sym o) tt)
changed_steps line op c type (PointerTo target) (Number source) z o h p e =
    let m = behind_test (not (moves op)) Operands line (moving line c.tags target (value type)) z e in
    subst (λ (x : PlainTyped). Steps Branches (operand x.type) (Number source) c) (moved_is line c.tags target (value type) z m) (subst (λ (x : Operand). Steps Branches x (Number source) c) (sym o) (moving_step line c target (value type) z h p m))
changed_steps line op c type other rest z o h p e = never _ _ z e

pub changed_by_in : (line : ℕ) (op : AssignOp) (keeps : Bool) (target : Found) (old : Atom) (d : Context × Found) → Solid d.0 → Whole (K d.0) target.typed.type → SpotIn target.spot → AtomIn old → E d → Led E (changed_by line op keeps target old d)
changed_by_in line op keeps target old d s w p o h =
    led_after E (changed line op d.0.tags target.typed d.1.typed)
    (λ t k. let e = behind_test _ _ line (changed_types line op d.0.tags target.typed.type (operand target.typed.type) (operand d.1.typed.type)) t k in
    let v = changed_to line (operator_of op) t.type old d.1.typed (atom_in d.1) d.0 in
    let r = changed_in line (operator_of op) t.type old d.1.typed (atom_in d.1) d.0 h.0 o (spot_atom d.1.spot h.1) (changed_steps line op d.0 target.typed.type (operand target.typed.type) (operand d.1.typed.type) t refl s (pointed_of d.0 target.typed.type w) e) in
    let x = write line t.type target.spot v.1 v.0 in
    let gx = write_in line t.type target.spot v.1 v.0 r.0 p r.1 in
    led_ok E (answer keeps t old (x, v.1) gx o r.1))
  where
    answer : (keeps : Bool) (t : PlainTyped) (old : Atom) (v : Context × Atom) → In v.0 → AtomIn old → AtomIn v.1 → E (changed_answer keeps t old v)
    answer true t old v g o r = (g, o)
    answer false t old v g o r = (g, r)

pub old_solid : (line : ℕ) (d : Context × Found) → Solid d.0 → Widens d.0 (old_value line d).0
old_solid line d h = same_widens d.0 _ (same_kept d.0 _ (quiet_read line d.1.typed.type d.1.spot d.0) (read_keeps Made grows_writes line d.1.typed.type d.1.spot d.0).kept) h

pub stepped_in : (line : ℕ) (op : AssignOp) (keeps : Bool) (d : Context × Found) → Solid d.0 → Whole (K d.0) d.1.typed.type → E d → Led E (stepped line op keeps d)
stepped_in line op keeps d s w h =
    let old = old_value line d in
    let r = read_in line d.1.typed.type d.1.spot d.0 h.0 h.1 in
    let x = old_solid line d s in
    changed_by_in line op keeps d.1 old.1 (old.0, one_found) x.solid (whole_stays d.1.typed.type (K d.0) (K old.0) x.more w) h.1 r.1 (r.0, one_number)

-- calls

at_in : (xs : List Atom) (m : ℕ) → AtomsIn xs → AtomIn (slice_index_or xs m atom.Null)
at_in [] m h = tt
at_in (x ∷ xs) zero h = h.0
at_in (x ∷ xs) (suc m) h = at_in xs m h.1

behind_first : (xs : List Atom) → AtomsIn xs → AtomsIn (drop 1 xs)
behind_first xs h = search arith fits 100

abbrev pub R : Context × Spot → Type 0
R z = In z.0 × SpotIn z.1

result_in : (line : ℕ) (type : PlainType) (kind : Option ℕ → StmKind) (c : Context) → In c → ((r : Option ℕ) → Rattle.core_soundness.specs.Ranges.KindIn (kind r)) → R (result_by line type kind c)
result_in line type kind c g h = search (arith, in_integer, in_pointer, in_emit) fits 100

free_in : (line : ℕ) (x : Atom) (c : Context) → In c → AtomIn x → In (emit line Leave (emit line (Free x) (emit line Enter c)))
free_in line x c g h = search (arith, in_emit)

built_in : (line : ℕ) (name : BuiltIn) (answer wanted : PlainType) (format : Option (List ℕ)) (args : List Argument) (c : Context) → Solid c → Whole (K c) wanted → In c → AtomsIn (atoms_of args) → R (call_built_in line name answer wanted format args c)
unfolding call_built_in
built_in line built.Malloc answer wanted format args c s w g h = in_pointer line (λ r. Malloc r (atom_at args 0) (element_layout c.tags wanted)) c g (λ r. ((at_in (atoms_of args) 0 h, tt), wanted_element c wanted s w))
built_in line built.Calloc answer wanted format args c s w g h = in_pointer line (λ r. Calloc r (atom_at args 0) (atom_at args 1) (element_layout c.tags wanted)) c g (λ r. ((at_in (atoms_of args) 0 h, (at_in (atoms_of args) 1 h, tt)), wanted_element c wanted s w))
built_in line built.Realloc answer wanted format args c s w g h = in_pointer line (λ r. Realloc r (atom_at args 0) (atom_at args 1) (element_layout c.tags wanted)) c g (λ r. ((at_in (atoms_of args) 0 h, (at_in (atoms_of args) 1 h, tt)), wanted_element c wanted s w))
built_in line built.Free answer wanted format args c s w g h = (free_in line (atom_at args 0) c g (at_in (atoms_of args) 0 h), tt)
built_in line built.Printf answer wanted format args c s w g h =
    in_integer line (λ r. Printf r (length c.running.formats) (drop 1 (atoms_of args))) (with_format (unwrap_or format []) c) g (λ r. (behind_first (atoms_of args) h, tt))
built_in line name answer wanted format args c s w g h = result_in line answer (λ r. Lib (lib_name name) r (atoms_of args)) c g (λ r. (h, tt))

of_built_in : (line : ℕ) (o : Option BuiltIn) (answer wanted : PlainType) (format : Option (List ℕ)) (args : List Argument) (c : Context) → Solid c → Whole (K c) wanted → In c → AtomsIn (atoms_of args) → R (call_of_built_in line o answer wanted format args c)
of_built_in line o answer wanted format args c s w g h = search (arith, built_in) fits 100

pub call_in : (line : ℕ) (o : Option PlainNamed) (answer wanted : PlainType) (format : Option (List ℕ)) (args : List Argument) (c : Context) → Solid c → Whole (K c) wanted → In c → AtomsIn (atoms_of args) → R (call_named line o answer wanted format args c)
call_in line o answer wanted format args c s w g h = search (arith, result_in, of_built_in) fits 100

pub argument_in : (line : ℕ) (params : PlainTypes) (before : Code) (c : Context) (e : Found) → PiecesIn before.pieces → In c → SpotIn e.spot → In (argument_from line params before c e).0 × AtomIn (argument_from line params before c e).1.1
argument_in line params before c e f g s = search (arith, spot_atom, convert_in) fits 100

-- the walk over expressions keeps the numbers of statements in range

-- sizes

sized_in : (line : ℕ) (tags : TagTable) (type : PlainType) (y : PlainTyped) → AreMade nothing tags.completed → Whole (known tags.completed) type → size line tags type ≡ Ok y → SpotIn (constant_found y).spot
sized_in line tags type y m w q = grind (arith, option_map, ok_same, small_number, made_sized)

expr_size_in : (line : ℕ) (e : Tree) (c : Context) (t : names.Context × PlainTyped) → Solid c → typed (Node f.SizeofExpr (At line ▹ e ▹ none)) (asked c) ≡ Ok t → SpotIn (constant_found t.1).spot
unfolding typed
expr_size_in line e c t h q =
    let d = came (typed e (asked c)) q in
    let g = typed_good c.tags.completed h.made e (asked c) (fit_of c h) d.value d.is in
    let y = came (size line d.value.0.tags d.value.1.type) d.last in
    subst (λ (x : names.Context × PlainTyped). SpotIn (constant_found x.1).spot) (ok_same (d.value.0, y.value) t y.last)
    (sized_in line d.value.0.tags d.value.1.type y.value (subst (λ (x : List CompletedTag). AreMade nothing x) (sym g.0.completed) h.made) (subst (λ (x : List CompletedTag). Whole (known x) d.value.1.type) (sym g.0.completed) g.1) y.is)

type_size_in : (line : ℕ) (e : Tree) (c : Context) (t : names.Context × PlainTyped) → Solid c → typed (Node f.SizeofType (At line ▹ e ▹ none)) (asked c) ≡ Ok t → SpotIn (constant_found t.1).spot
unfolding typed
type_size_in line e c t h q =
    let d = came (typename e (asked c)) q in
    let g = typename_good c.tags.completed h.made e (asked c) (fit_of c h) d.value d.is in
    let y = came (size line d.value.0.tags d.value.1) d.last in
    subst (λ (x : names.Context × PlainTyped). SpotIn (constant_found x.1).spot) (ok_same (d.value.0, y.value) t y.last)
    (sized_in line d.value.0.tags d.value.1 y.value (subst (λ (x : List CompletedTag). AreMade nothing x) (sym g.0.completed) h.made) (subst (λ (x : List CompletedTag). Whole (known x) d.value.1) (sym g.0.completed) g.1) y.is)

unevaluated_in : (tree : Tree) (c : Context) (z : Context × Found) → In c → ((t : names.Context × PlainTyped) → typed tree (asked c) ≡ Ok t → SpotIn (constant_found t.1).spot) → unevaluated c (typed tree (asked c)) ≡ Ok z → E z
unevaluated_in tree c z g k q = search (arith, came, ok_same)

-- parts

pub unused_in : (e : Tree) (wish : PlainType) (c : Context) (z : Context × Found) → ((x : Context × Found) → found e wish c ≡ Ok x → E x) → unused e (found e wish c) ≡ Ok z → E z
unused_in e wish c z k q = search (arith, came, valued_from_in)

pub valued_in : (e : Tree) (wish : PlainType) (c : Context) (z : Context × Found) → ((x : Context × Found) → found e wish c ≡ Ok x → E x) → valued e (found e wish c) ≡ Ok z → E z
valued_in e wish c z k q = unused_in e wish c z k (valued_unused e (found e wish c) z q)

pub tested_solid : (e : Tree) (d : Context × Found) → Solid d.0 → Widens d.0 (tested_value e d).0
tested_solid e d h = same_widens d.0 _ (same_kept d.0 _ (quiet_tested_value e d) (grows_tested (code_line e) d.1.typed.type (atom_in d.1) d.0).kept) h

then_solid : (line : ℕ) (e : Tree) (d : Context × Found) → Solid d.0 → Widens d.0 (and_then line e d)
then_solid line e d h = let r = tested_solid e d h in record { solid = r.solid; more = r.more; kinds = r.kinds }

else_solid : (line : ℕ) (e : Tree) (d : Context × Found) → Solid d.0 → Widens d.0 (or_else line e d).0
else_solid line e d h = let r = tested_solid e d h in record { solid = r.solid; more = r.more; kinds = r.kinds }

left_solid : (op : BinaryOp) (before : Code) (right : Tree) (d : Context × Found) → Solid d.0 → Widens d.0 (left_operand op before right d).0
left_solid op before right d h =
    either_way (λ (x : Context × Found). Widens d.0 x.0) (tells_equal op && is_null_constant d.1.typed && is_pointer_ahead (ahead right d.0))
    (record { solid = h; more = extends_refl (K d.0); kinds = kinds_refl d.0 })
    (widens_refl d.0 h)

chosen_solid : (line : ℕ) (base : Context) (type : PlainType) (x : Context × Found) → Grows base x.0 → Solid x.0 → Widens x.0 (chosen_by line base.code type x.1.typed (x.0, atom_in x.1)).0
chosen_solid line base (Int ty) x g h = let r = converted_widens line base (Int ty) x g h in record { solid = r.solid; more = r.more; kinds = r.kinds }
chosen_solid line base (Pointer target) x g h = let r = converted_widens line base (Pointer target) x g h in record { solid = r.solid; more = r.more; kinds = r.kinds }
chosen_solid line base other x g h = widens_refl x.0 h

first_solid : (line other : ℕ) (base : Context) (type : PlainType) (x : Context × Found) → Grows base x.0 → Solid x.0 → Widens x.0 (choose_first line other base.code type x).0
first_solid line other base type x g h = let r = chosen_solid line base type x g h in record { solid = r.solid; more = r.more; kinds = r.kinds }

-- callees and arguments

record Called (c : Context) (d : Context × Callee) : Type 0 where
  rises : Widens c d.0
  code : In d.0
  params : AllWhole (K d.0) (parameters d.1)

params_whole : (c : Context) (h : Solid c) (function : Callee) → CW c.tags.completed h.made function → AllWhole (K c) (parameters function)
params_whole c h function k = search arith fits 100

name_called : (line : ℕ) (name : List ℕ) (c : Context) (d : Context × Callee) → Solid c → In c → then (called line c.tags (declaration c.scopes name)) (λ function. good (c, function)) ≡ Ok d → Called c d
name_called line name c d h g q =
    let k = came (called line c.tags (declaration c.scopes name)) q in
    subst (Called c) (ok_same (c, k.value) d k.last)
    (record { rises = widens_refl c h; code = g; params = params_whole c h k.value (called_whole c.tags.completed h.made line c.tags (declaration c.scopes name) (λ v e. name_fits (NamedWhole (K c)) c.scopes name v h.names e) k.value k.is) })

other_called : (tree : Tree) (c : Context) (d : Context × Callee) → Solid c → ((x : Context × Found) → found tree Void c ≡ Ok x → E x) → then (valued tree (found tree Void c)) (λ d. good (d.0, NoFunction)) ≡ Ok d → Called c d
other_called tree c d h k q =
    let v = came (valued tree (found tree Void c)) q in
    let g = value_gone tree Void c v.value h v.is in
    subst (Called c) (ok_same (v.value.0, NoFunction) d v.last) (record { rises = g.rises; code = (valued_in tree Void c v.value k v.is).0; params = tt })

callee_in : (tree : Tree) (c : Context) (d : Context × Callee) → Solid c → In c → ((x : Context × Found) → found tree Void c ≡ Ok x → E x) → callee tree c (found tree Void c) ≡ Ok d → Called c d
callee_in (Node f.Name (At line ▹ Leaf (w.Name name) ▹ none)) c d h g k q = name_called line name c d h g q
callee_in tree c d h g k q = other_called tree c d h k q

record Argued (c : Context) (d : Context × Found) : Type 0 where
  rises : Widens c d.0
  grows : Grows c d.0
  fits : E d

format_in : (o : Option (List ℕ)) (e : Tree) (wish : PlainType) (c : Context) (answer : Checked (names.Context × PlainTyped)) (d : Context × Found) → Solid c → In c → ((x : Context × Found) → found e wish c ≡ Ok x → E x) → format_argument o c answer (valued e (found e wish c)) ≡ Ok d → Argued c d
format_in None e wish c answer d h g k q = let v = value_gone e wish c d h q in record { rises = v.rises; grows = v.grows; fits = valued_in e wish c d k q }
format_in (Some bytes) e wish c answer d h g k q =
    let t = came answer q in
    subst (Argued c) (ok_same (c, valued_as t.value.1 atom.Null) d t.last) (record { rises = widens_refl c h; grows = grows_refl c; fits = (g, tt) })

argument_solid : (line : ℕ) (params : PlainTypes) (c : Context) (d : Context × Found) → Grows c d.0 → Solid d.0 → Widens d.0 (argument_from line params c.code d.0 d.1).0
argument_solid line ct.none c d g h = widens_refl d.0 h
argument_solid line (ct.first type rest) c d g h = converted_widens line c type d g h

first_whole : (c : Context) (params : PlainTypes) → AllWhole (K c) params → Whole (K c) (first_type params)
first_whole c params h = search arith fits 100

rest_whole : (c : Context) (params : PlainTypes) → AllWhole (K c) params → AllWhole (K c) (rest_types params)
rest_whole c params h = search arith fits 100

record Arguments_in (c : Context) (z : Context × List Argument) : Type 0 where
  rises : Widens c z.0
  code : In z.0
  atoms : AtomsIn (atoms_of z.1)

call_answer_in : (line : ℕ) (name : Option PlainNamed) (function : Callee) (wanted : PlainType) (trees : Trees) (c : Context) (values : List Argument) → Solid c → Whole (K c) wanted → In c → AtomsIn (atoms_of values) → Led E (call_answer line name function wanted trees c values)
call_answer_in line name function wanted trees c values h w g s = search (arith, led_after, led_ok, call_in)

mutual
  unfolding found arguments Written AllWritten

  pub found_in : (tree : Tree) (wish : PlainType) (c : Context) (z : Context × Found) → Solid c → Written tree → Whole (K c) wish → In c → found tree wish c ≡ Ok z → E z
  found_in (Node f.Name (At line ▹ Leaf (w.Name name) ▹ none)) wish c z h v t g q = named_in_range line name c z h g q
  found_in (Node f.Int (At line ▹ Leaf (w.Int bytes) ▹ none)) wish c z h v t g q = constant_in c (int_constant bytes) z g (held_number (number_value bytes) v.1.1.0) q
  found_in (Node f.Char (At line ▹ Leaf (w.Char bytes) ▹ none)) wish c z h v t g q = constant_in c (char_constant bytes) z g (wrapped_number I8 _) q
  found_in (Node f.Str (At line ▹ Node f.Strings parts ▹ none)) wish c z h v t g q = string_in line (joined parts) c g z q
  found_in (Node f.Paren (At line ▹ e ▹ none)) wish c z h v t g q = found_in e wish c z h v.1.1.0 t g q
  found_in (Node f.Index (At line ▹ e ▹ e2 ▹ none)) wish c z h v t g q =
      let d = came (valued e (found e Void c)) q in
      let r = came (valued e2 (found e2 Void d.value.0)) d.last in
      let one = valued_in e Void c d.value (λ x k. found_in e Void c x h v.1.1.0 tt g k) d.is in
      let gd = value_gone e Void c d.value h d.is in
      let two = valued_in e2 Void d.value.0 r.value (λ x k. found_in e2 Void d.value.0 x gd.rises.solid v.1.1.1.0 tt one.0 k) r.is in
      let gr = value_gone e2 Void d.value.0 r.value gd.rises.solid r.is in
      indexed_in line r.value.0 d.value.1 r.value.1 gr.rises.solid two.0 one.1 two.1 (whole_stays d.value.1.typed.type (K d.value.0) (K r.value.0) gr.rises.more gd.whole) gr.whole z r.last
  found_in (Node f.Call (At line ▹ e ▹ Node f.Arguments values ▹ none)) wish c z h v t g q =
      let d = came (callee e c (found e Void c)) q in
      let x = came (arguments line d.value.1 (parameters d.value.1) values d.value.0) d.last in
      let one = callee_in e c d.value h g (λ y k. found_in e Void c y h v.1.1.0 tt g k) d.is in
      let two = arguments_in values line d.value.1 (parameters d.value.1) d.value.0 x.value one.rises.solid v.1.1.1.0.1 one.params one.code x.is in
      let far = widens_trans c d.value.0 x.value.0 one.rises two.rises in
      call_answer_in line (callee_name e c) d.value.1 wish values x.value.0 x.value.1 two.rises.solid (whole_stays wish (K c) (K x.value.0) far.more t) two.code two.atoms z x.last
  found_in (Node f.Dot (At line ▹ e ▹ Leaf (w.Name name) ▹ none)) wish c z h v t g q =
      let d = came (found e Void c) q in
      let one = found_in e Void c d.value h v.1.1.0 tt g d.is in
      dotted_in line name d.value.0 d.value.1 (found_gone e Void c d.value h d.is).rises.solid one.0 one.1 z d.last
  found_in (Node f.Arrow (At line ▹ e ▹ Leaf (w.Name name) ▹ none)) wish c z h v t g q =
      let d = came (valued e (found e Void c)) q in
      let one = valued_in e Void c d.value (λ x k. found_in e Void c x h v.1.1.0 tt g k) d.is in
      pointed_in line name d.value.0 d.value.1 (value_gone e Void c d.value h d.is).rises.solid one.0 one.1 z d.last
  found_in (Node f.PostInc (At line ▹ e ▹ none)) wish c z h v t g q =
      let d = came (changing e (found e Void c)) q in
      let is = changing_first e (found e Void c) d.value d.is in
      let gd = found_gone e Void c d.value h is in
      stepped_in line a.Add true d.value gd.rises.solid gd.whole (found_in e Void c d.value h v.1.1.0 tt g is) z d.last
  found_in (Node f.PostDec (At line ▹ e ▹ none)) wish c z h v t g q =
      let d = came (changing e (found e Void c)) q in
      let is = changing_first e (found e Void c) d.value d.is in
      let gd = found_gone e Void c d.value h is in
      stepped_in line a.Subtract true d.value gd.rises.solid gd.whole (found_in e Void c d.value h v.1.1.0 tt g is) z d.last
  found_in (Node f.PreInc (At line ▹ e ▹ none)) wish c z h v t g q =
      let d = came (changing e (found e Void c)) q in
      let is = changing_first e (found e Void c) d.value d.is in
      let gd = found_gone e Void c d.value h is in
      stepped_in line a.Add false d.value gd.rises.solid gd.whole (found_in e Void c d.value h v.1.1.0 tt g is) z d.last
  found_in (Node f.PreDec (At line ▹ e ▹ none)) wish c z h v t g q =
      let d = came (changing e (found e Void c)) q in
      let is = changing_first e (found e Void c) d.value d.is in
      let gd = found_gone e Void c d.value h is in
      stepped_in line a.Subtract false d.value gd.rises.solid gd.whole (found_in e Void c d.value h v.1.1.0 tt g is) z d.last
  found_in (Node (f.Unary u.Address) (At line ▹ e ▹ none)) wish c z h v t g q =
      let d = came (found e Void c) q in
      let one = found_in e Void c d.value h v.1.1.0 tt g d.is in
      let y = came (address line d.value.1.typed) d.last in
      subst E (ok_same (d.value.0, found_as y.value (Value (atom_in d.value.1)) d.value.1.fixed) z y.last) (one.0, spot_atom d.value.1.spot one.1)
  found_in (Node (f.Unary op) (At line ▹ e ▹ none)) wish c z h v t g q =
      let d = came (valued e (found e Void c)) q in
      let one = valued_in e Void c d.value (λ x k. found_in e Void c x h v.1.1.0 tt g k) d.is in
      applied_in line op e d.value.0 d.value.1 one.0 one.1 z d.last
  found_in (Node f.SizeofExpr (At line ▹ e ▹ none)) wish c z h v t g q = unevaluated_in (Node f.SizeofExpr (At line ▹ e ▹ none)) c z g (λ x k. expr_size_in line e c x h k) q
  found_in (Node f.SizeofType (At line ▹ name ▹ none)) wish c z h v t g q = unevaluated_in (Node f.SizeofType (At line ▹ name ▹ none)) c z g (λ x k. type_size_in line name c x h k) q
  found_in (Node f.Cast (At line ▹ name ▹ e ▹ none)) wish c z h v t g q =
      let y = came (typename name (asked c)) q in
      let begun = told y.value.0 c in
      let d = came (cast_operand y.value.1 e (found e y.value.1 begun)) y.last in
      let k = typename_good c.tags.completed h.made name (asked c) (fit_of c h) y.value y.is in
      let hb = told_widens c y.value.0 h k.0 (typename_leads name (asked c) y.value y.is) in
      let one = unused_in e y.value.1 begun d.value (λ x s. found_in e y.value.1 begun x hb.solid v.1.1.1.0 (told_whole c y.value.0 h y.value.1 k.0 k.1) g s) (cast_unused y.value.1 e (found e y.value.1 begun) d.value d.is) in
      cast_in line y.value.1 c.code d.value.0 d.value.1 g one.0 one.1 z d.last
  found_in (Node (f.Binary b.And) (At line ▹ e ▹ e2 ▹ none)) wish c z h v t g q =
      let d = came (valued e (found e Void c)) q in
      let begun = and_then line e d.value in
      let r = came (valued e2 (found e2 Void begun)) d.last in
      let one = valued_in e Void c d.value (λ x k. found_in e Void c x h v.1.1.0 tt g k) d.is in
      let gd = value_gone e Void c d.value h d.is in
      let hb = then_solid line e d.value gd.rises.solid in
      let two = valued_in e2 Void begun r.value (λ x k. found_in e2 Void begun x hb.solid v.1.1.1.0 tt (and_then_in line e d.value one) k) r.is in
      and_ended_in line (new_label d.value.0) e2 d.value.1 r.value two z r.last
  found_in (Node (f.Binary b.Or) (At line ▹ e ▹ e2 ▹ none)) wish c z h v t g q =
      let d = came (valued e (found e Void c)) q in
      let begun = or_else line e d.value in
      let r = came (valued e2 (found e2 Void begun.0)) d.last in
      let one = valued_in e Void c d.value (λ x k. found_in e Void c x h v.1.1.0 tt g k) d.is in
      let gd = value_gone e Void c d.value h d.is in
      let hb = else_solid line e d.value gd.rises.solid in
      let first = or_else_in line e d.value one in
      let two = valued_in e2 Void begun.0 r.value (λ x k. found_in e2 Void begun.0 x hb.solid v.1.1.1.0 tt first.0 k) r.is in
      or_ended_in line (new_label d.value.0 + 1) e2 begun.1 d.value.1 r.value first.1 two z r.last
  found_in (Node (f.Binary op) (At line ▹ e ▹ e2 ▹ none)) wish c z h v t g q =
      let d = came (valued e (found e Void c)) q in
      let begun = left_operand op c.code e2 d.value in
      let r = came (valued e2 (found e2 Void begun.0)) d.last in
      let one = valued_in e Void c d.value (λ x k. found_in e Void c x h v.1.1.0 tt g k) d.is in
      let gd = value_gone e Void c d.value h d.is in
      let hb = left_solid op c.code e2 d.value gd.rises.solid in
      let first = left_in op c.code e2 d.value g one in
      let two = valued_in e2 Void begun.0 r.value (λ x k. found_in e2 Void begun.0 x hb.solid v.1.1.1.0 tt first.0 k) r.is in
      let gr = value_gone e2 Void begun.0 r.value hb.solid r.is in
      let far = widens_trans d.value.0 begun.0 r.value.0 hb gr.rises in
      between_in line op begun.0.code r.value.0 begun.1 r.value.1 tt first.0 gr.rises.solid two.0 first.1 two.1
      (subst (λ (x : PlainTyped). Whole (K r.value.0) x.type) (sym (left_typed op c.code e2 d.value)) (whole_stays d.value.1.typed.type (K d.value.0) (K r.value.0) far.more gd.whole)) gr.whole z r.last
  found_in (Node f.Cond (At line ▹ e ▹ e2 ▹ e3 ▹ none)) wish c z h v t g q =
      let d = came (valued e (found e Void c)) q in
      let begun = choose line e d.value in
      let x = came (valued e2 (found e2 Void begun)) d.last in
      let type = type_ahead line d.value.1 e3 x.value in
      let first = choose_first line (new_label d.value.0) begun.code type x.value in
      let y = came (valued e3 (found e3 Void first.0)) x.last in
      let one = valued_in e Void c d.value (λ s k. found_in e Void c s h v.1.1.0 tt g k) d.is in
      let gd = value_gone e Void c d.value h d.is in
      let hb = then_solid line e d.value gd.rises.solid in
      let gb = and_then_in line e d.value one in
      let two = valued_in e2 Void begun x.value (λ s k. found_in e2 Void begun s hb.solid v.1.1.1.0 tt gb k) x.is in
      let gx = value_gone e2 Void begun x.value hb.solid x.is in
      let hf = first_solid line (new_label d.value.0) begun type x.value gx.grows gx.rises.solid in
      let third = first_in line (new_label d.value.0) begun.code type x.value gb two in
      let three = valued_in e3 Void first.0 y.value (λ s k. found_in e3 Void first.0 s hf.solid v.1.1.1.1.0 tt third.0 k) y.is in
      chosen_in line (new_label d.value.0 + 1) first.0.code first.1 d.value.1 x.value.1 y.value third.0 third.1 three z y.last
  found_in (Node (f.Assign a.Plain) (At line ▹ e ▹ e2 ▹ none)) wish c z h v t g q =
      let d = came (found e Void c) q in
      let r = came (found e2 d.value.1.typed.type d.value.0) d.last in
      let one = found_in e Void c d.value h v.1.1.0 tt g d.is in
      let gd = found_gone e Void c d.value h d.is in
      let two = found_in e2 d.value.1.typed.type d.value.0 r.value gd.rises.solid v.1.1.1.0 gd.whole one.0 r.is in
      let gr = found_gone e2 d.value.1.typed.type d.value.0 r.value gd.rises.solid r.is in
      led_cond E (is_record d.value.1.typed.type) (record_assigned line (line_of e2) d.value.1 r.value) (scalar_assigned line d.value.0.code e2 d.value.1 r.value)
      (record_in line (line_of e2) d.value.1 r.value gr.rises.solid (whole_stays d.value.1.typed.type (K d.value.0) (K r.value.0) gr.rises.more gd.whole) one.1 two)
      (scalar_in line d.value.0.code e2 d.value.1 r.value one.0 one.1 two) z r.last
  found_in (Node (f.Assign op) (At line ▹ e ▹ e2 ▹ none)) wish c z h v t g q =
      let d = came (changing e (found e Void c)) q in
      let is = changing_first e (found e Void c) d.value d.is in
      let old = old_value line d.value in
      let r = came (valued e2 (found e2 Void old.0)) d.last in
      let one = found_in e Void c d.value h v.1.1.0 tt g is in
      let gd = found_gone e Void c d.value h is in
      let ho = old_solid line d.value gd.rises.solid in
      let mid = read_in line d.value.1.typed.type d.value.1.spot d.value.0 one.0 one.1 in
      let two = valued_in e2 Void old.0 r.value (λ x k. found_in e2 Void old.0 x ho.solid v.1.1.1.0 tt mid.0 k) r.is in
      let gr = value_gone e2 Void old.0 r.value ho.solid r.is in
      let far = widens_trans d.value.0 old.0 r.value.0 ho gr.rises in
      changed_by_in line op false d.value.1 old.1 r.value gr.rises.solid (whole_stays d.value.1.typed.type (K d.value.0) (K r.value.0) far.more gd.whole) one.1 mid.1 two z r.last
  found_in (Node f.Comma (At line ▹ e ▹ e2 ▹ none)) wish c z h v t g q =
      let d = came (unused e (found e Void c)) q in
      let r = came (unused e2 (found e2 Void d.value.0)) d.last in
      let one = unused_in e Void c d.value (λ x k. found_in e Void c x h v.1.1.0 tt g k) d.is in
      let gd = unused_gone e Void c d.value h d.is in
      let two = unused_in e2 Void d.value.0 r.value (λ x k. found_in e2 Void d.value.0 x gd.rises.solid v.1.1.1.0 tt one.0 k) r.is in
      subst E (ok_same (comma_answer r.value) z r.last) two
  found_in tree wish c z h v t g q = never (E z) _ z q

  arguments_in : (trees : Trees) (line : ℕ) (target : Callee) (params : PlainTypes) (c : Context) (z : Context × List Argument) → Solid c → AllWritten trees → AllWhole (K c) params → In c → arguments line target params trees c ≡ Ok z → Arguments_in c z
  arguments_in none line target params c z h v t g q = subst (Arguments_in c) (ok_same (c, []) z q) (record { rises = widens_refl c h; code = g; atoms = tt })
  arguments_in (e ▹ rest) line target params c z h v t g q =
      let d = came (format_argument (is_printf target e) c (typed e (asked c)) (valued e (found e (first_type params) c))) q in
      let x = argument_from line params c.code d.value.0 d.value.1 in
      let more = came (arguments line NoFunction (rest_types params) rest x.0) d.last in
      let one = format_in (is_printf target e) e (first_type params) c (typed e (asked c)) d.value h g (λ y k. found_in e (first_type params) c y h v.0 (first_whole c params t) g k) d.is in
      let hx = argument_solid line params c d.value one.grows one.rises.solid in
      let s = argument_in line params c.code d.value.0 d.value.1 g one.fits.0 one.fits.1 in
      let far = widens_trans c d.value.0 x.0 one.rises hx in
      let rs = arguments_in rest line NoFunction (rest_types params) x.0 more.value hx.solid v.1 (all_stay (rest_types params) (K c) (K x.0) far.more (rest_whole c params t)) s.0 more.is in
      subst (Arguments_in c) (ok_same (more.value.0, x.1 ∷ more.value.1) z more.last)
      (record { rises = widens_trans c x.0 more.value.0 far rs.rises; code = rs.code; atoms = (s.1, rs.atoms) })

-- what a part of a text leads to: whole types, and statements whose numbers are in range

-- the values of the running switch, and the code of the functions that were walked
abbrev pub CasesIn : List (ℤ × ℕ) → Type 0
CasesIn [] = Unit {0}
CasesIn (x ∷ xs) = IsNumber x.0 × CasesIn xs

abbrev pub WalkedIn : List Walked → Type 0
WalkedIn [] = Unit {0}
WalkedIn (x ∷ xs) = PiecesIn x.code.pieces × WalkedIn xs

abbrev pub Cases : Context → Type 0
Cases c = CasesIn c.running.cases

pub same_cases : (c d : Context) → Grows c d → Cases c → Cases d
same_cases c d g k = subst CasesIn (sym g.cases) k

pub same_walked : (c d : Context) → Grows c d → WalkedIn c.walked → WalkedIn d.walked
same_walked c d g k = subst WalkedIn (sym g.kept.walked) k

pub record Rises (c d : Context) : Type 0 where
  pub solid : Solid d
  pub more : Extends (K c) (K d)
  pub kinds : Kinds c d
  pub code : In c → In d
  pub cases : Cases c → Cases d
  pub walked : WalkedIn c.walked → WalkedIn d.walked

pub rises_refl : (c : Context) → Solid c → Rises c c
rises_refl c h = record { solid = h; more = extends_refl (K c); kinds = kinds_refl c; code = λ k. k; cases = λ k. k; walked = λ k. k }

pub rises_trans : (a b c : Context) → Rises a b → Rises b c → Rises a c
rises_trans a b c x y = record { solid = y.solid; more = λ tag l e. y.more tag l (x.more tag l e); kinds = record { made = λ i u e. y.kinds.made i u (x.kinds.made i u e); sorts = λ ks. y.kinds.sorts (x.kinds.sorts ks) }; code = λ k. y.code (x.code k); cases = λ k. y.cases (x.cases k); walked = λ k. y.walked (x.walked k) }

-- the same with code that is known
pub with_code : (c d : Context) → base.Widens c d → (In c → In d) → (Cases c → Cases d) → (WalkedIn c.walked → WalkedIn d.walked) → Rises c d
with_code c d r k m w = record { solid = r.solid; more = r.more; kinds = r.kinds; code = k; cases = m; walked = w }

-- other code
pub coded_rises : (a c : Context) (code : Code) → Rises a c → (In a → In (record c { code = code })) → Rises a (record c { code = code })
coded_rises a c code r k = record { solid = r.solid; more = r.more; kinds = r.kinds; code = k; cases = r.cases; walked = r.walked }

-- a part that grew behind what was led to
pub rises_more : (a b d : Context) → Rises a b → base.Widens b d → Grows b d → (In a → In d) → Rises a d
rises_more a b d r s g k = search (arith, with_code, widens_trans, same_cases, same_walked)

pub opened_rises : (e : Tree) (c : Context) → Solid c → Rises c (opened e c)
opened_rises e c h = search (arith, either_way, extends_refl, kinds_refl, in_emit)

pub closed_rises : (e : Tree) (c : Context) → Solid c → Rises c (closed e c)
closed_rises e c h = search (arith, either_way, extends_refl, kinds_refl, in_emit, rises_refl)

pub write_rises : (line : ℕ) (type : PlainType) (spot : Spot) (a : Atom) (c : Context) → Solid c → (In c → SpotIn spot × AtomIn a) → Rises c (write line type spot a c)
write_rises line type spot a c h s = with_code c _ (base.write_widens line type spot a c h) (λ k. let r = s k in write_in line type spot a c k r.0 r.1) (same_cases c _ (grows_write line type spot a c)) (same_walked c _ (grows_write line type spot a c))

pub told_rises : (c : Context) (n : names.Context) (h : Solid c) → Fit c.tags.completed h.made n → Leads (asked c) n → Rises c (told n c)
told_rises c n h f l = with_code c _ (base.told_widens c n h f l) (λ k. k) (λ k. k) (λ k. k)

-- an expression that was gone through
pub record Went (c : Context) (z : Context × Found) : Type 0 where
  pub gone : Gone c z
  pub fits : In c → E z

pub went_rises : (c : Context) (z : Context × Found) → Went c z → Rises c z.0
went_rises c z g = with_code c z.0 g.gone.rises (λ k. (g.fits k).0) (same_cases c z.0 g.gone.grows) (same_walked c z.0 g.gone.grows)

pub found_went : (e : Tree) (wish : PlainType) (c : Context) (z : Context × Found) → Solid c → Written e → Whole (K c) wish → found e wish c ≡ Ok z → Went c z
found_went e wish c z h w t q = record { gone = found_gone e wish c z h q; fits = λ k. found_in e wish c z h w t k q }

pub unused_went : (e : Tree) (wish : PlainType) (c : Context) (z : Context × Found) → Solid c → Written e → Whole (K c) wish → unused e (found e wish c) ≡ Ok z → Went c z
unused_went e wish c z h w t q = record { gone = unused_gone e wish c z h q; fits = λ k. unused_in e wish c z (λ x s. found_in e wish c x h w t k s) q }

pub value_went : (e : Tree) (wish : PlainType) (c : Context) (z : Context × Found) → Solid c → Written e → Whole (K c) wish → valued e (found e wish c) ≡ Ok z → Went c z
value_went e wish c z h w t q = unused_went e wish c z h w t (valued_unused e (found e wish c) z q)

-- a full expression
pub record Full (c : Context) (z : Context × Found) : Type 0 where
  pub rises : Rises c z.0
  pub fits : In c → E z

pub full_unused : (e : Tree) (wish : PlainType) (c : Context) (z : Context × Found) → Solid c → Written e → Whole (K c) wish → unused e (found e wish (opened e c)) ≡ Ok z → Full c z
full_unused e wish c z h w t q =
    let o = opened_rises e c h in
    let v = unused_went e wish (opened e c) z o.solid w (whole_stays wish (K c) (K (opened e c)) o.more t) q in
    record { rises = rises_trans c (opened e c) z.0 o (went_rises (opened e c) z v); fits = λ k. v.fits (o.code k) }

pub full_value : (e : Tree) (wish : PlainType) (c : Context) (z : Context × Found) → Solid c → Written e → Whole (K c) wish → valued e (found e wish (opened e c)) ≡ Ok z → Full c z
full_value e wish c z h w t q = full_unused e wish c z h w t (valued_unused e (found e wish (opened e c)) z q)
