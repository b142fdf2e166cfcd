-- The sorts of what assignments write and calls take, and what is asked of names.
use Rattle.core_soundness.proofs.Words.Std.{◌≡◌, ◌≤◌, ◌&&◌, ℕ, pos, Bool, true, false, not, cond, None, Ok, refl, sym, ap, ◌∙◌, subst, suc, nat_eq, ◌==◌, ◌++◌, drop, length, List, [], ◌∷◌, slice_get, unwrap_or, Option, Some, arith, eqb-true, ◌⊎◌, inl, inr, option_map, ⊎_elim, flat_map-cons, and_parts, flat_map, option_or}
use Rattle.core_soundness.proofs.Words.Trees.{Form, Tree, Trees, Leaf, At, Node, none, ◌▹◌, AssignOp}
use Rattle.core_soundness.proofs.Words.Types.{TagTable, PlainType, PlainTypes, Void, built_ins, Callee, Takes, Prints, NoFunction, built_in_callee, function_callee, no_function, built_in_called, callee_at, called, call, prints, is_format, suit, suits_type, line_of, first_literal, PlainNamed, Tag, unconverted, assigned, all_convert, length_of, Checked, then, unless, named_in, ScopeList, Table, found_from, found as declaration, PlainTyped, Neither, operand, value, is_scalar, is_record, same, has_no_size, read, has_no_value, wanted_value, BuiltIn, NotLvalue, Incomplete, Operands, Assignment, ArgumentCount, Format}
use Rattle.core_soundness.proofs.Words.Core.{width, pieces_of, Piece, Pointer, Sort, Integer, lib_takes, lib_gives, piece_takes, Atom, StmKind, Copy, Call, Malloc, Calloc, Realloc, Free, Lib, Printf, Enter, Leave}
use Rattle.core_soundness.proofs.Words.Elaborating.{plain_name, record_assigned, set_to, scalar_assigned, old_value, change_place, changed_answer, changed_by, one_found, stepped, Argument, types_of, atoms_of, atom_at, rest_types, argument_from, lib_name, result_by, pointer_result, with_format, printing, call_built_in, call_of_built_in, call_named, element_layout, Context, emit, With, Found, Empty, Unknown, found_as, atom_in, code_line, convert, write, valued_from, size_or_zero, Spot, Local, valued, unused, call_answer, parameters as params_of, changed_to, operator_of}
use Rattle.core_soundness.proofs.Words.Facts.{is_register, NoRegister, TakesAddress, Spoken, AllSpoken, World, world, Holds, Held, StandsAs, Stands, HoldAll, Receives, IsPrinted, Fits, param_sorts, result_sort, local_sort, InnerFits, FileFits, NamesFit, TableFits, TablesFit}
use Rattle.c_types.specs.Types as types
use Rattle.c_types.specs.declared.types.IntType.TheVariants as i
use Rattle.c_print.specs.declared.piece.Piece.TheVariants as p
use Rattle.c_decls.specs.Named as n
use Rattle.c_decls.specs.PlaceRules as places
use Rattle.c_decls.specs.declared.built_in.BuiltIn.TheVariants as b
use Rattle.core_soundness.proofs.Agreeing.{came, valued_from_rule}
use Rattle.core_soundness.proofs.Growth.{good, ok_same, never, valued_unused, behind_test}
use Rattle.core_soundness.proofs.Landing.{in_memory, number_scalar, pointer_scalar}
use Rattle.core_soundness.proofs.Scopes.{more_refl, get_last, get_left, More, MoreAll, MoreTags, IsNewTag}
use Rattle.core_soundness.proofs.Sorting.{Goes, goes_trans, goes_emit, Lands, Comes, held_grew, stands_as_grew, stands_grew, Converting, converted, write_goes, old_brings, valued_from_comes, passed, kept_test, unbarred, moved_is, changed_brings, Grew, grew_trans, holds_grew, all_grew, pieces_grew, goes_refl, Gives, gives_integer, gives_pointer, Apart, Sits, lands_sits, unused_comes}
use Rattle.core_soundness.proofs.Choices.{some_same, not_false}

-- the sorts of what assignments write (C99 6.5.2.4, 6.5.3.1, 6.5.16)

-- what converts
pub converting_of : (type : PlainType) (e : PlainTyped) → unconverted type e ≡ None → Converting (operand type) (operand e.type)
converting_of type e h = grind arith

flag_first : (x y : Bool) → not (x && y) ≡ false → x ≡ true
flag_first x y e = search arith fits 100

stands_flag : (w : World) (e : Found) (k : Bool) → e.typed.is_place ≡ k → Stands w e → StandsAs w k e.typed.type e.spot
stands_flag w e k q h = subst (λ (x : Bool). StandsAs w x e.typed.type e.spot) q h

-- structs and unions

pub same_record : (s t : PlainType) → is_record s ≡ true → same s t ≡ true → is_scalar t ≡ false
unfolding same
same_record s t r e = search arith fits 100

cond_false : {A : Type 0} (k : Bool) (x y : Checked A) (v : A) → k ≡ false → cond k x y ≡ Ok v → y ≡ Ok v
cond_false k x y v e h = search arith fits 100

pub record_lands : (line right : ℕ) (target : Found) (d z : Context × Found) → 1 ≤ line → is_record target.typed.type ≡ true → Stands (world d.0) target → Stands (world d.0) d.1 → record_assigned line right target d ≡ Ok z → Lands d.0 z
unfolding same
record_lands line right target d z l r h k q =
    let t = came (assigned line right d.0.tags target.typed d.1.typed) q in
    let r3 : Checked PlainTyped = good (value target.typed.type) in
    let r2 : Checked PlainTyped = unless (not (same target.typed.type d.1.typed.type)) Assignment line r3 in
    let r1 : Checked PlainTyped = unless (has_no_size d.0.tags target.typed.type) Incomplete line r2 in
    let r0 : Checked PlainTyped = unless (not target.typed.is_place) NotLvalue line r1 in
    let all : unless (has_no_value d.1.typed) Operands line r0 ≡ Ok t.value = search arith fits 100 in
    let a = behind_test (has_no_value d.1.typed) Operands line r0 t.value all in
    let flag : target.typed.is_place ≡ true = not_false target.typed.is_place (kept_test (not target.typed.is_place) NotLvalue line r1 t.value a) in
    let a1 = behind_test (not target.typed.is_place) NotLvalue line r1 t.value a in
    let a2 = behind_test (has_no_size d.0.tags target.typed.type) Incomplete line r2 t.value a1 in
    let alike : same target.typed.type d.1.typed.type ≡ true = not_false (same target.typed.type d.1.typed.type) (kept_test (not (same target.typed.type d.1.typed.type)) Assignment line r3 t.value a2) in
    let flag2 : d.1.typed.is_place ≡ true = grind (arith, true, not, false) in
    let made : value target.typed.type ≡ t.value = passed (not (same target.typed.type d.1.typed.type)) Assignment line (value target.typed.type) t.value a2 in
    let o : (operand target.typed.type ≡ Neither) × (is_scalar target.typed.type ≡ false) = search arith fits 100 in
    let one : Holds (world d.0) Pointer (atom_in target) = in_memory (world d.0) target.typed.type target.spot target refl o.1 (stands_flag (world d.0) target true flag h) in
    let two : Holds (world d.0) Pointer (atom_in d.1) = in_memory (world d.0) d.1.typed.type d.1.spot d.1 refl (same_record target.typed.type d.1.typed.type r alike) (stands_flag (world d.0) d.1 true flag2 k) in
    subst (Lands d.0) (ap (λ (x : PlainTyped). (emit line (Copy (atom_in target) (atom_in d.1) (pos (size_or_zero d.0 x.type))) d.0, found_as x Empty Unknown)) made ∙ ok_same _ z t.last)
    (record { goes = goes_emit line (Copy (atom_in target) (atom_in d.1) (pos (size_or_zero d.0 target.typed.type))) d.0 l (one, two); stands = o.0; apart = tt })

-- scalars

record Written (target e typed : PlainTyped) : Type 0 where
  flag : target.is_place ≡ true
  converts : Converting (operand target.type) (operand e.type)
  made : value target.type ≡ typed

written_scalar : (line : ℕ) (target e typed : PlainTyped) → places.scalar_assigned line target e ≡ Ok typed → Written target e typed
written_scalar line target e typed h = search (arith, behind_test, not, unbarred, flag_first, kept_test, converting_of, ok_same)

-- b is in front of the right side
pub scalar_lands : (line : ℕ) (b : Context) (tree : Tree) (target : Found) (d z : Context × Found) → 1 ≤ line → 1 ≤ code_line tree → is_record target.typed.type ≡ false → Stands (world b) target → Goes b d.0 → Stands (world d.0) d.1 → scalar_assigned line b.code tree target d ≡ Ok z → Comes b z
scalar_lands line b tree target d z l l2 r h g k q =
    let t = came (assigned line (line_of tree) d.0.tags target.typed d.1.typed) q in
    let v = came (valued_from tree d.0 d.1) t.last in
    let a : then (wanted_value (line_of tree) d.0.tags d.1.typed) (places.scalar_assigned line target.typed) ≡ Ok t.value = cond_false (is_record target.typed.type) _ _ t.value r t.is in
    let e = came (wanted_value (line_of tree) d.0.tags d.1.typed) a in
    let read_is = behind_test (has_no_value d.1.typed) Operands (line_of tree) (read (line_of tree) d.0.tags d.1.typed) e.value e.is in
    let rule = valued_from_rule tree d.0 d.1 v.value v.is in
    let same_typed : e.value ≡ v.value.1.typed = ok_same e.value v.value.1.typed (sym read_is ∙ rule.typed) in
    let w = written_scalar line target.typed v.value.1.typed t.value (subst (λ (x : PlainTyped). places.scalar_assigned line target.typed x ≡ Ok t.value) same_typed e.last) in
    let c = valued_from_comes tree d.0 d.1 v.value l2 k v.is in
    let gv : Goes b v.value.0 = goes_trans b d.0 v.value.0 g c.goes in
    let type : PlainType = target.typed.type in
    let x = convert line b.code type v.value.1.typed (atom_in v.value.1) v.value.0 in
    let cx = converted line b type v.value.1.typed (atom_in v.value.1) v.value.0 l gv c.value.held in
    let held : Held (world x.0) type x.1 = cx.held w.converts in
    let place : StandsAs (world x.0) true type target.spot = stands_as_grew (world b) (world x.0) true type target.spot cx.goes.grew (stands_flag (world b) target true w.flag h) in
    let gw : Goes x.0 (write line type target.spot x.1 x.0) = write_goes line type target.spot x.1 x.0 l place held in
    let last : good (set_to line b.code t.value target v.value) ≡ Ok z = v.last in
    subst (Comes b) (ap (λ (y : PlainTyped). set_to line b.code y target v.value) w.made ∙ ok_same _ z last)
    (record { goes = goes_trans b x.0 _ cx.goes gw; value = record { spot = refl; value = refl; held = held_grew (world x.0) _ type x.1 gw.grew held } })

-- places that are read and written

pub record Changed (target typed : PlainTyped) : Type 0 where
  pub flag : target.is_place ≡ true
  pub scalar : is_scalar target.type ≡ true
  pub made : value target.type ≡ typed

-- the rule of what is changed
pub changing_rule : (line : ℕ) (op : AssignOp) (keeps_old : Bool) (target : Found) (old : Atom) (d z : Context × Found) → changed_by line op keeps_old target old d ≡ Ok z
    → (typed : PlainTyped) × Changed target.typed typed × (good (changed_answer keeps_old typed old (change_place line (operator_of op) typed target old d.1.typed (atom_in d.1) d.0)) ≡ Ok z)
changing_rule line op keeps_old target old d z h = grind (arith, came, behind_test, flag_first, kept_test, true, number_scalar, ok_same, pointer_scalar, moved_is)

pub changed_comes : (line : ℕ) (op : AssignOp) (keeps_old : Bool) (target : Found) (old : Atom) (d z : Context × Found) → 1 ≤ line → Stands (world d.0) target → Held (world d.0) target.typed.type old → Held (world d.0) d.1.typed.type (atom_in d.1) → changed_by line op keeps_old target old d ≡ Ok z → Comes d.0 z
changed_comes line op keeps_old target old d z l h ho k q =
    let r = changing_rule line op keeps_old target old d z q in
    let type : PlainType = target.typed.type in
    let v = changed_to line (operator_of op) type old d.1.typed (atom_in d.1) d.0 in
    let b = changed_brings line (operator_of op) type old d.1.typed (atom_in d.1) d.0 l ho k in
    let place : StandsAs (world v.0) true type target.spot = stands_as_grew (world d.0) (world v.0) true type target.spot b.goes.grew (stands_flag (world d.0) target true r.1.flag h) in
    let gw : Goes v.0 (write line type target.spot v.1 v.0) = write_goes line type target.spot v.1 v.0 l place b.held in
    let goes : Goes d.0 (write line type target.spot v.1 v.0) = goes_trans d.0 v.0 _ b.goes gw in
    subst (Comes d.0) (ap (λ (y : PlainTyped). changed_answer keeps_old y old (change_place line (operator_of op) y target old d.1.typed (atom_in d.1) d.0)) r.1.made ∙ ok_same _ z r.2)
    (by keeps_old goes (held_grew (world d.0) _ type old goes.grew ho) (held_grew (world v.0) _ type v.1 gw.grew b.held))
  where
    by : (keeps : Bool) → let type : PlainType = target.typed.type in let v = changed_to line (operator_of op) type old d.1.typed (atom_in d.1) d.0 in let c = write line type target.spot v.1 v.0 in
        Goes d.0 c → Held (world c) type old → Held (world c) type v.1 → Comes d.0 (changed_answer keeps (value type) old (c, v.1))
    by true g x y = record { goes = g; value = record { spot = refl; value = refl; held = x } }
    by false g x y = record { goes = g; value = record { spot = refl; value = refl; held = y } }

pub stepped_comes : (line : ℕ) (op : AssignOp) (keeps_old : Bool) (d z : Context × Found) → 1 ≤ line → Stands (world d.0) d.1 → stepped line op keeps_old d ≡ Ok z → Comes d.0 z
stepped_comes line op keeps_old d z l h q =
    let old = old_value line d in
    let r = changing_rule line op keeps_old d.1 old.1 (old.0, one_found) z q in
    let o = old_brings line d.1.typed d.1.spot d.0 l r.1.scalar (stands_flag (world d.0) d.1 true r.1.flag h) in
    let c = changed_comes line op keeps_old d.1 old.1 (old.0, one_found) z l (stands_grew (world d.0) (world old.0) d.1 o.goes.grew h) o.held refl q in
    record { goes = goes_trans d.0 old.0 z.0 o.goes c.goes; value = c.value }

-- the sorts of what calls take and give (C99 6.5.2.2, 7.19 to 7.21)

-- arguments

-- an argument in hand: a value of its type, or what converts to its parameter
abbrev pub ArgumentHeld : World → PlainTypes → Argument → Type 0
ArgumentHeld w types.none v = Held w v.0.type v.1
ArgumentHeld w (types.first type rest) v = Converting (operand type) (operand v.0.type) → Held w type v.1

abbrev pub ArgumentsHeld : World → PlainTypes → List Argument → Type 0
ArgumentsHeld w params [] = Unit {0}
ArgumentsHeld w params (v ∷ vs) = ArgumentHeld w params v × ArgumentsHeld w (rest_types params) vs

pub arguments_grew : (u v : World) (params : PlainTypes) (xs : List Argument) → Grew u v → ArgumentsHeld u params xs → ArgumentsHeld v params xs
arguments_grew u v params [] g h = tt
arguments_grew u v params (x ∷ xs) g h = (search (arith, held_grew) fits 100, arguments_grew u v (rest_types params) xs g h.1)

-- the first argument of `printf` is a format, and no operand
abbrev pub AllHeld : World → Callee → PlainTypes → List Argument → Type 0
AllHeld w Prints params [] = Unit {0}
AllHeld w Prints params (v ∷ vs) = ArgumentsHeld w (rest_types params) vs
AllHeld w (Takes answer takes) params vs = ArgumentsHeld w params vs
AllHeld w NoFunction params vs = ArgumentsHeld w params vs

pub record Argued (c : Context) (params : PlainTypes) (d : Context × Argument) : Type 0 where
  pub goes : Goes c d.0
  pub held : ArgumentHeld (world d.0) params d.1

-- b is in front of the argument
pub argument_goes : (line : ℕ) (params : PlainTypes) (b c : Context) (e : Found) → 1 ≤ line → Goes b c → Held (world c) e.typed.type (atom_in e) → Argued b params (argument_from line params b.code c e)
argument_goes line types.none b c e l g h = record { goes = g; held = h }
argument_goes line (types.first type rest) b c e l g h = let k = converted line b type e.typed (atom_in e) c l g h in record { goes = k.goes; held = k.held }

pub params_held : (w : World) (line : ℕ) (params : PlainTypes) (vs : List Argument) (r : Checked PlainTyped) (e : PlainTyped) → length (types_of vs) ≡ length_of params → all_convert line params (types_of vs) r ≡ Ok e → ArgumentsHeld w params vs → HoldAll w (param_sorts params) (atoms_of vs) × (r ≡ Ok e)
params_held w line types.none [] r e same h k = (tt, h)
params_held w line types.none (v ∷ vs) r e same h k = absurd (some_none (length (types_of vs)) same)
  where
    some_none : (k : ℕ) → length (v.0 ∷ types_of vs) ≡ 0 → ⊥
    some_none k e = omega arith
params_held w line (types.first type rest) [] r e same h k = absurd (none_some (length_of rest) same)
  where
    none_some : (k : ℕ) → 0 ≡ suc k → ⊥
    none_some k e = omega arith
params_held w line (types.first type rest) (v ∷ vs) r e same h k =
    let u = unbarred (unconverted type v.0) line (all_convert line rest (types_of vs) r) e h in
    let more = params_held w line rest vs r e (omega (arith, same)) u.1 k.1 in
    ((search arith fits 100, more.0), more.1)

-- results

pub record Answered (c : Context) (e : PlainTyped) (d : Context × Spot) : Type 0 where
  pub goes : Goes c d.0
  pub stands : StandsAs (world d.0) e.is_place e.type d.1
  pub apart : Apart d.1

result_stands : (line : ℕ) (answer : PlainType) (kind : Option ℕ → StmKind) (c : Context) → 1 ≤ line → ((v : World) (r : Option ℕ) → Grew (world c) v → Receives v (result_sort answer) r → Fits v (kind r)) → Answered c (value answer) (result_by line answer kind c)
result_stands line (types.Int ty) kind c l h = let g = gives_integer line (λ r. kind (Some r)) c l (λ v r gv there. h v (Some r) gv there) in record { goes = g.goes; stands = g.holds; apart = tt }
result_stands line (types.Pointer target) kind c l h = let g = gives_pointer line (λ r. kind (Some r)) c l (λ v r gv there. h v (Some r) gv there) in record { goes = g.goes; stands = g.holds; apart = tt }
result_stands line types.Void kind c l h = record { goes = goes_emit line (kind None) c l (h (world c) None (grew_here c) tt); stands = refl; apart = tt }
  where
    grew_here : (c : Context) → Grew (world c) (world c)
    grew_here c = (goes_refl c).grew
result_stands line other kind c l h = record { goes = goes_emit line (kind None) c l (h (world c) None (goes_refl c).grew tt); stands = refl; apart = tt }

-- a function that is declared
pub function_answered : (line : ℕ) (name : List ℕ) (answer : PlainType) (params : PlainTypes) (index : ℕ) (vs : List Argument) (c : Context) → 1 ≤ line → named_in name c.scopes.file ≡ Some (n.Function (types.Function answer params) index) → HoldAll (world c) (param_sorts params) (atoms_of vs)
    → Answered c (value answer) (result_by line answer (λ r. Call index r (atoms_of vs)) (record c { calls = c.calls ++ (index, line) ∷ [] }))
function_answered line name answer params index vs c l there h =
    let called_in : Context = record c { calls = c.calls ++ (index, line) ∷ [] } in
    let grew : Grew (world c) (world called_in) = record { locals = λ j r e. e; mems = omega arith; integers = omega arith; pointers = omega arith; variables = omega arith; literals = omega arith; formats = λ j f e. e; calls = λ j x e. get_left c.calls ((index, line) ∷ []) j x e; file = λ key t i e. e } in
    let first : Goes c called_in = record { grew = grew; more = more_refl c.scopes; kept = record { line = refl; answer = refl; addressed = refl; declared = refl; params = refl; walked = refl }; fits = λ answer k. pieces_grew answer (world c) (world called_in) c.code.pieces grew k } in
    let r = result_stands line answer (λ r. Call index r (atoms_of vs)) called_in l (λ v r g k. record {
      name = name;
      answer = answer;
      params = params;
      there = g.file name (types.Function answer params) index there;
      called = (length c.calls, line, g.calls (length c.calls) (index, line) (get_last c.calls (index, line)));
      takes = all_grew (world called_in) v (param_sorts params) (atoms_of vs) g (all_grew (world c) (world called_in) (param_sorts params) (atoms_of vs) grew h);
      gives = k;
    }) in
    record { goes = goes_trans c called_in _ first r.goes; stands = r.stands; apart = r.apart }

-- built-in functions

pointer_answered : (type : PlainType) (c : Context) (d : Context × Atom) → Gives c Pointer d → Answered c (value (types.Pointer type)) (pointer_result d)
pointer_answered type c d g = record { goes = g.goes; stands = g.holds; apart = tt }

first_at : (w : World) (s : Sort) (sorts : List Sort) (vs : List Argument) → HoldAll w (s ∷ sorts) (atoms_of vs) → Holds w s (atom_at vs 0)
first_at w s sorts vs h = search arith fits 100

second_at : (w : World) (s t : Sort) (sorts : List Sort) (vs : List Argument) → HoldAll w (s ∷ t ∷ sorts) (atoms_of vs) → Holds w t (atom_at vs 1)
second_at w s t sorts vs h = search arith fits 100

lib_answered : (line : ℕ) (name : BuiltIn) (answer : PlainType) (vs : List Argument) (c : Context) → 1 ≤ line → result_sort answer ≡ lib_gives (lib_name name) → HoldAll (world c) (lib_takes (lib_name name)) (atoms_of vs)
    → Answered c (value answer) (result_by line answer (λ r. Lib (lib_name name) r (atoms_of vs)) c)
lib_answered line name answer vs c l e h =
    result_stands line answer (λ r. Lib (lib_name name) r (atoms_of vs)) c l (λ v r g k. (subst (λ (s : Option Sort). Receives v s r) e k, all_grew (world c) v (lib_takes (lib_name name)) (atoms_of vs) g h))

held_as : (v : World) (vs : List Argument) (x answer : PlainType) (s params : PlainTypes) → Takes x s ≡ Takes answer params → HoldAll v (param_sorts params) (atoms_of vs) → HoldAll v (param_sorts s) (atoms_of vs)
held_as v vs x answer s params e h = subst (λ (t : PlainTypes). HoldAll v (param_sorts t) (atoms_of vs)) (sym (cc)) h

answered_by : (line : ℕ) (name : BuiltIn) (x answer wanted : PlainType) (s params : PlainTypes) (format : Option (List ℕ)) (vs : List Argument) (c : Context) → Takes x s ≡ Takes answer params → Answered c (value x) (call_built_in line name x wanted format vs c) → Answered c (value answer) (call_built_in line name answer wanted format vs c)
answered_by line name x answer wanted s params format vs c e k = subst (λ (t : PlainType). Answered c (value t) (call_built_in line name t wanted format vs c)) (cc) k

pub built_in_answered : (name : BuiltIn) (line : ℕ) (answer wanted : PlainType) (params : PlainTypes) (format : Option (List ℕ)) (vs : List Argument) (c : Context) → 1 ≤ line → built_in_callee name ≡ Takes answer params → HoldAll (world c) (param_sorts params) (atoms_of vs) → Answered c (value answer) (call_built_in line name answer wanted format vs c)
unfolding call_built_in lib_name
built_in_answered b.Malloc line answer wanted params format vs c l e h =
    let k = held_as (world c) vs (types.Pointer Void) answer (types.first (types.Int i.UInt) types.none) params e h in
    answered_by line b.Malloc (types.Pointer Void) answer wanted (types.first (types.Int i.UInt) types.none) params format vs c e
    (pointer_answered Void c _ (gives_pointer line (λ r. Malloc r (atom_at vs 0) (element_layout c.tags wanted)) c l (λ v r g there. (there, holds_grew (world c) v Integer (atom_at vs 0) g (first_at (world c) Integer [] vs k)))))
built_in_answered b.Calloc line answer wanted params format vs c l e h =
    let s : PlainTypes = types.first (types.Int i.UInt) (types.first (types.Int i.UInt) types.none) in
    let k = held_as (world c) vs (types.Pointer Void) answer s params e h in
    answered_by line b.Calloc (types.Pointer Void) answer wanted s params format vs c e
    (pointer_answered Void c _ (gives_pointer line (λ r. Calloc r (atom_at vs 0) (atom_at vs 1) (element_layout c.tags wanted)) c l
    (λ v r g there. (there, holds_grew (world c) v Integer (atom_at vs 0) g (first_at (world c) Integer (Integer ∷ []) vs k), holds_grew (world c) v Integer (atom_at vs 1) g (second_at (world c) Integer Integer [] vs k)))))
built_in_answered b.Realloc line answer wanted params format vs c l e h =
    let s : PlainTypes = types.first (types.Pointer Void) (types.first (types.Int i.UInt) types.none) in
    let k = held_as (world c) vs (types.Pointer Void) answer s params e h in
    answered_by line b.Realloc (types.Pointer Void) answer wanted s params format vs c e
    (pointer_answered Void c _ (gives_pointer line (λ r. Realloc r (atom_at vs 0) (atom_at vs 1) (element_layout c.tags wanted)) c l
    (λ v r g there. (there, holds_grew (world c) v Pointer (atom_at vs 0) g (first_at (world c) Pointer (Integer ∷ []) vs k), holds_grew (world c) v Integer (atom_at vs 1) g (second_at (world c) Pointer Integer [] vs k)))))
built_in_answered b.Free line answer wanted params format vs c l e h =
    let s : PlainTypes = types.first (types.Pointer Void) types.none in
    let k = held_as (world c) vs Void answer s params e h in
    let one = emit line Enter c in
    let two = emit line (Free (atom_at vs 0)) one in
    let three = emit line Leave two in
    let g1 : Goes c one = goes_emit line Enter c l tt in
    let g2 : Goes one two = goes_emit line (Free (atom_at vs 0)) one l (first_at (world c) Pointer [] vs k) in
    let g3 : Goes two three = goes_emit line Leave two l tt in
    answered_by line b.Free Void answer wanted s params format vs c e (record { goes = goes_trans c one three g1 (goes_trans one two three g2 g3); stands = refl; apart = tt })
built_in_answered b.Exit line answer wanted params format vs c l e h = answered_by line b.Exit types.Void answer wanted (types.first (types.Int i.Int) types.none) params format vs c e (lib_answered line b.Exit types.Void vs c l refl (held_as (world c) vs types.Void answer (types.first (types.Int i.Int) types.none) params e h))
built_in_answered b.Abort line answer wanted params format vs c l e h = answered_by line b.Abort types.Void answer wanted types.none params format vs c e (lib_answered line b.Abort types.Void vs c l refl (held_as (world c) vs types.Void answer types.none params e h))
built_in_answered b.Memcpy line answer wanted params format vs c l e h = answered_by line b.Memcpy (types.Pointer Void) answer wanted (types.first (types.Pointer Void) (types.first (types.Pointer Void) (types.first (types.Int i.UInt) types.none))) params format vs c e (lib_answered line b.Memcpy (types.Pointer Void) vs c l refl (held_as (world c) vs (types.Pointer Void) answer (types.first (types.Pointer Void) (types.first (types.Pointer Void) (types.first (types.Int i.UInt) types.none))) params e h))
built_in_answered b.Memmove line answer wanted params format vs c l e h = answered_by line b.Memmove (types.Pointer Void) answer wanted (types.first (types.Pointer Void) (types.first (types.Pointer Void) (types.first (types.Int i.UInt) types.none))) params format vs c e (lib_answered line b.Memmove (types.Pointer Void) vs c l refl (held_as (world c) vs (types.Pointer Void) answer (types.first (types.Pointer Void) (types.first (types.Pointer Void) (types.first (types.Int i.UInt) types.none))) params e h))
built_in_answered b.Memset line answer wanted params format vs c l e h = answered_by line b.Memset (types.Pointer Void) answer wanted (types.first (types.Pointer Void) (types.first (types.Int i.Int) (types.first (types.Int i.UInt) types.none))) params format vs c e (lib_answered line b.Memset (types.Pointer Void) vs c l refl (held_as (world c) vs (types.Pointer Void) answer (types.first (types.Pointer Void) (types.first (types.Int i.Int) (types.first (types.Int i.UInt) types.none))) params e h))
built_in_answered b.Strlen line answer wanted params format vs c l e h = answered_by line b.Strlen (types.Int i.UInt) answer wanted (types.first (types.Pointer (types.Int i.Char)) types.none) params format vs c e (lib_answered line b.Strlen (types.Int i.UInt) vs c l refl (held_as (world c) vs (types.Int i.UInt) answer (types.first (types.Pointer (types.Int i.Char)) types.none) params e h))
built_in_answered b.Strcmp line answer wanted params format vs c l e h = answered_by line b.Strcmp (types.Int i.Int) answer wanted (types.first (types.Pointer (types.Int i.Char)) (types.first (types.Pointer (types.Int i.Char)) types.none)) params format vs c e (lib_answered line b.Strcmp (types.Int i.Int) vs c l refl (held_as (world c) vs (types.Int i.Int) answer (types.first (types.Pointer (types.Int i.Char)) (types.first (types.Pointer (types.Int i.Char)) types.none)) params e h))
built_in_answered b.Getchar line answer wanted params format vs c l e h = answered_by line b.Getchar (types.Int i.Int) answer wanted types.none params format vs c e (lib_answered line b.Getchar (types.Int i.Int) vs c l refl (held_as (world c) vs (types.Int i.Int) answer types.none params e h))
built_in_answered b.Putchar line answer wanted params format vs c l e h = answered_by line b.Putchar (types.Int i.Int) answer wanted (types.first (types.Int i.Int) types.none) params format vs c e (lib_answered line b.Putchar (types.Int i.Int) vs c l refl (held_as (world c) vs (types.Int i.Int) answer (types.first (types.Int i.Int) types.none) params e h))
built_in_answered b.Puts line answer wanted params format vs c l e h = answered_by line b.Puts (types.Int i.Int) answer wanted (types.first (types.Pointer (types.Int i.Char)) types.none) params format vs c e (lib_answered line b.Puts (types.Int i.Int) vs c l refl (held_as (world c) vs (types.Int i.Int) answer (types.first (types.Pointer (types.Int i.Char)) types.none) params e h))
built_in_answered other line answer wanted params format vs c l e h = cc

-- `printf`

all_suited : (w : World) (pieces : List Piece) (vs : List Argument) → suit pieces (types_of vs) ≡ true → ArgumentsHeld w types.none vs → HoldAll w (flat_map piece_takes pieces) (atoms_of vs)
all_suited w [] [] e h = tt
all_suited w [] (v ∷ vs) e h = cc
all_suited w (p.Plain bytes ∷ pieces) vs e h = subst (λ (s : List Sort). HoldAll w s (atoms_of vs)) (sym (flat_map-cons piece_takes (p.Plain bytes) pieces)) (all_suited w pieces vs e h)
all_suited w (p.Item flush zeros width' conv kind ∷ pieces) [] e h = cc
all_suited w (p.Item flush zeros width' conv kind ∷ pieces) (v ∷ vs) e h =
    subst (λ (s : List Sort). HoldAll w s (atoms_of (v ∷ vs))) (sym (flat_map-cons piece_takes (p.Item flush zeros width' conv kind) pieces))
    (search (arith, nat_eq) fits 100, all_suited w pieces vs (and_parts (suits_type conv (width kind) v.0.type) _ e).1 h.1)

more_formats : (c : Context) (bytes : List ℕ) → Goes c (with_format bytes c)
more_formats c bytes = search (arith, get_left, more_refl, pieces_grew)

printf_answered : (line : ℕ) (bytes : List ℕ) (args : List Atom) (c : Context) → 1 ≤ line → IsPrinted (world c) args (Some bytes) → Answered c (value (types.Int i.Int)) (printing line bytes args c)
printf_answered line bytes args c l h =
    let d = with_format bytes c in
    let k : ℕ = length c.running.formats in
    let g = gives_integer line (λ r. Printf r k args) d l
    (λ v r gv there. (there, subst (IsPrinted v args) (sym (gv.formats k bytes (get_last c.running.formats bytes))) (h.0, all_grew (world c) v _ args (grew_trans (world c) (world d) v (more_formats c bytes).grew gv) h.1))) in
    record { goes = goes_trans c d _ (more_formats c bytes) g.goes; stands = g.holds; apart = tt }

-- what the name of a call stands for, and what is called
abbrev pub CallOf : World → Option PlainNamed → Callee → Type 0
CallOf v (Some (n.Function type index)) function = (function ≡ function_callee type) × ((name : List ℕ) × (named_in name v.file ≡ Some (n.Function type index)))
CallOf v (Some (n.BuiltIn index)) function = (function ≡ callee_at (slice_get built_ins index)) ⊎ (function ≡ NoFunction)
CallOf v other function = function ≡ NoFunction

no_function_is : (line : ℕ) (tags : TagTable) (answer : Checked PlainTyped) (function : Callee) → no_function line tags answer ≡ Ok function → function ≡ NoFunction
no_function_is line tags answer function h = search (arith, came, ok_same)

built_in_of : (line : ℕ) (tags : TagTable) (o : Option BuiltIn) (k : Callee) (function : Callee) → built_in_called line tags o k ≡ Ok function → (function ≡ k) ⊎ (function ≡ NoFunction)
built_in_of line tags o k function h = search (arith, no_function_is, ok_same) fits 100

pub call_of : (line : ℕ) (v : World) (tags : TagTable) (name : List ℕ) (o : Option PlainNamed) (function : Callee) → ((type : PlainType) (index : ℕ) → o ≡ Some (n.Function type index) → named_in name v.file ≡ Some (n.Function type index)) → called line tags o ≡ Ok function → CallOf v o function
call_of line v tags name (Some (n.Function type index)) function k h = (sym (ok_same _ function h), (name, k type index refl))
call_of line v tags name o function k h = search (arith, built_in_of, no_function_is) fits 100

same_length : (a b : ℕ) → not (a == b) ≡ false → a ≡ b
same_length a b e = eqb-true a b (not_false (a == b) e)

never_called : {G : Type 0} (line : ℕ) (format : Option (List ℕ)) (types : List PlainTyped) (function : Callee) (e : PlainTyped) → function ≡ NoFunction → call line format function types ≡ Ok e → G
never_called {G} line format types function e q h = never G _ e (subst (λ (x : Callee). call line format x types ≡ Ok e) q h)

takes_called : (v : World) (line : ℕ) (format : Option (List ℕ)) (answer : PlainType) (params : PlainTypes) (vs : List Argument) (e : PlainTyped) → call line format (Takes answer params) (types_of vs) ≡ Ok e → ArgumentsHeld v params vs → HoldAll v (param_sorts params) (atoms_of vs) × (value answer ≡ e)
takes_called v line format answer params vs e h k =
    let all = behind_test (not (length (types_of vs) == length_of params)) ArgumentCount line (all_convert line params (types_of vs) (good (value answer))) e h in
    let r = params_held v line params vs (good (value answer)) e (same_length (length (types_of vs)) (length_of params) (kept_test (not (length (types_of vs) == length_of params)) ArgumentCount line (all_convert line params (types_of vs) (good (value answer))) e h)) all k in
    (r.0, ok_same _ e r.1)

answered_as : (c : Context) (x y : PlainTyped) (d : Context × Spot) → x ≡ y → Answered c x d → Answered c y d
answered_as c x y d e h = subst (λ (t : PlainTyped). Answered c t d) e h

function_called : (line : ℕ) (name : List ℕ) (type wanted : PlainType) (index : ℕ) (params : PlainTypes) (format : Option (List ℕ)) (vs : List Argument) (c : Context) (e : PlainTyped) → 1 ≤ line → named_in name c.scopes.file ≡ Some (n.Function type index) → AllHeld (world c) (function_callee type) params vs → params_of (function_callee type) ≡ params
    → call line format (function_callee type) (types_of vs) ≡ Ok e → Answered c e (call_named line (Some (n.Function type index)) e.type wanted format vs c)
function_called line name (types.Function answer takes) wanted index params format vs c e l there h q k =
    let held : ArgumentsHeld (world c) takes vs = subst (λ (t : PlainTypes). ArgumentsHeld (world c) t vs) (sym q) h in
    let r = takes_called (world c) line format answer takes vs e k held in
    subst (λ (t : PlainTyped). Answered c t (call_named line (Some (n.Function (types.Function answer takes) index)) t.type wanted format vs c)) r.1
    (function_answered line name answer takes index vs c l there r.0)
function_called line name other wanted index params format vs c e l there h q k = never _ _ e k

printf_called : (line : ℕ) (format : Option (List ℕ)) (vs : List Argument) (c : Context) (e : PlainTyped) → 1 ≤ line → AllHeld (world c) Prints types.none vs → prints line format (types_of vs) ≡ Ok e → Answered c e (printing line (unwrap_or format []) (drop 1 (atoms_of vs)) c)
printf_called line None vs c e l h k = never _ _ e k
printf_called line (Some bytes) [] c e l h k = never _ _ e k
printf_called line (Some bytes) (v ∷ vs) c e l h k =
    let test : Bool = is_format bytes && suit (pieces_of bytes) (types_of vs) in
    let both : is_format bytes && suit (pieces_of bytes) (types_of vs) ≡ true = not_false test (kept_test (not test) Format line (good (value (types.Int i.Int))) e k) in
    answered_as c (value (types.Int i.Int)) e _ (passed (not test) Format line (value (types.Int i.Int)) e k)
    (printf_answered line bytes (atoms_of vs) c l ((and_parts _ _ both).0, all_suited (world c) (pieces_of bytes) vs (and_parts (is_format bytes) _ both).1 h))

prints_called : (name : BuiltIn) (line : ℕ) (wanted : PlainType) (format : Option (List ℕ)) (vs : List Argument) (c : Context) (e : PlainTyped) → 1 ≤ line → built_in_callee name ≡ Prints → AllHeld (world c) Prints types.none vs → prints line format (types_of vs) ≡ Ok e → Answered c e (call_built_in line name e.type wanted format vs c)
unfolding call_built_in
prints_called b.Printf line wanted format vs c e l q h k = printf_called line format vs c e l h k
prints_called other line wanted format vs c e l q h k = cc

built_in_called_by : (line : ℕ) (name : BuiltIn) (wanted : PlainType) (format : Option (List ℕ)) (vs : List Argument) (c : Context) (e : PlainTyped) (function : Callee) → 1 ≤ line → built_in_callee name ≡ function → AllHeld (world c) function (params_of function) vs → call line format function (types_of vs) ≡ Ok e
    → Answered c e (call_built_in line name e.type wanted format vs c)
built_in_called_by line name wanted format vs c e (Takes answer params) l q h k =
    let r = takes_called (world c) line format answer params vs e k h in
    subst (λ (t : PlainTyped). Answered c t (call_built_in line name t.type wanted format vs c)) r.1 (built_in_answered name line answer wanted params format vs c l q r.0)
built_in_called_by line name wanted format vs c e Prints l q h k = prints_called name line wanted format vs c e l q h k
built_in_called_by line name wanted format vs c e NoFunction l q h k = never _ _ e k

at_built_in : (line : ℕ) (o : Option BuiltIn) (wanted : PlainType) (format : Option (List ℕ)) (vs : List Argument) (c : Context) (e : PlainTyped) → 1 ≤ line → AllHeld (world c) (callee_at o) (params_of (callee_at o)) vs → call line format (callee_at o) (types_of vs) ≡ Ok e
    → Answered c e (call_of_built_in line o e.type wanted format vs c)
at_built_in line None wanted format vs c e l h k = never _ _ e k
at_built_in line (Some name) wanted format vs c e l h k = built_in_called_by line name wanted format vs c e (built_in_callee name) l refl h k

named_called : (line : ℕ) (o : Option PlainNamed) (function : Callee) (wanted : PlainType) (format : Option (List ℕ)) (vs : List Argument) (c : Context) (e : PlainTyped) → 1 ≤ line → CallOf (world c) o function → AllHeld (world c) function (params_of function) vs → call line format function (types_of vs) ≡ Ok e
    → Answered c e (call_named line o e.type wanted format vs c)
named_called line (Some (n.Function type index)) function wanted format vs c e l q h k =
    function_called line q.1.0 type wanted index (params_of (function_callee type)) format vs c e l q.1.1
    (subst (λ (x : Callee). AllHeld (world c) x (params_of x) vs) q.0 h) refl (subst (λ (x : Callee). call line format x (types_of vs) ≡ Ok e) q.0 k)
named_called line (Some (n.BuiltIn index)) function wanted format vs c e l (inl q) h k =
    at_built_in line (slice_get built_ins index) wanted format vs c e l (subst (λ (x : Callee). AllHeld (world c) x (params_of x) vs) q h) (subst (λ (x : Callee). call line format x (types_of vs) ≡ Ok e) q k)
named_called line (Some (n.BuiltIn index)) function wanted format vs c e l (inr q) h k = never_called line format (types_of vs) function e q k
named_called line other function wanted format vs c e l q h k = never_called line format (types_of vs) function e q k

pub call_lands : (line : ℕ) (o : Option PlainNamed) (function : Callee) (wanted : PlainType) (trees : Trees) (c : Context) (vs : List Argument) (z : Context × Found) → 1 ≤ line → CallOf (world c) o function → AllHeld (world c) function (params_of function) vs
    → call_answer line o function wanted trees c vs ≡ Ok z → Lands c z
call_lands line o function wanted trees c vs z l q h k =
    let e = came (call line (first_literal trees) function (types_of vs)) k in
    let a = named_called line o function wanted (first_literal trees) vs c e.value l q h e.is in
    subst (Lands c) (ok_same ((call_named line o e.value.type wanted (first_literal trees) vs c).0, found_as e.value (call_named line o e.value.type wanted (first_literal trees) vs c).1 Unknown) z e.last)
    (record { goes = a.goes; stands = a.stands; apart = a.apart })

-- what is asked of names and expressions is kept while a text is walked

-- names

pub sort_kept : (a b : World) (k : ℕ) (sort : Sort) → Grew a b → local_sort a k ≡ Some sort → local_sort b k ≡ Some sort
sort_kept a b k sort g h = grind (arith, option_map)

pub inner_kept : (a b : World) (v : PlainNamed) → Grew a b → InnerFits a v → InnerFits b v
inner_kept a b v g h = search (arith, sort_kept) fits 100

table_more : (P Q : PlainNamed → Type 0) (one other : Table) → ((v : PlainNamed) → P v → Q v) → ((type : PlainType) → Q (Tag type)) → MoreTags one other → TableFits P one → TableFits Q other
table_more P Q one other up tags m h name v e = search (arith, some_same)

tables_more : (P Q : PlainNamed → Type 0) (one other : List Table) → ((v : PlainNamed) → P v → Q v) → ((type : PlainType) → Q (Tag type)) → MoreAll one other → TablesFit P one → TablesFit Q other
tables_more P Q (s ∷ ss) (t ∷ ts) up tags m h = (table_more P Q s t up tags m.0 h.0, tables_more P Q ss ts up tags m.1 h.1)
tables_more P Q one other up tags m h = search arith fits 100

pub names_more : (a b : World) (s t : ScopeList) → Grew a b → More s t → NamesFit a s → NamesFit b t
names_more a b s t g m h = record {
  file = table_more (FileFits a) (FileFits b) s.file t.file (λ v x. search arith fits 100) (λ type. tt) m.file h.file;
  inner = tables_more (InnerFits a) (InnerFits b) s.inner t.inner (λ v x. inner_kept a b v g x) (λ type. tt) m.inner h.inner;
}

-- registers

register_from : (f g : Table) (ss ts : List Table) (name : List ℕ) → MoreTags f g → MoreAll ss ts → is_register (found_from f name ss) ≡ false → is_register (found_from g name ts) ≡ false
register_from f g (s ∷ ss) (t ∷ ts) name m k h =
    ⊎_elim
    (λ (q : named_in name t ≡ named_in name s). same (named_in name s) (named_in name t) q (λ j. register_from f g ss ts name m k.1 j) h)
    (λ (q : IsNewTag name s t). ap (λ (o : Option PlainNamed). is_register (option_or o (found_from g name ts))) q.4)
    (k.0 name)
  where
    same : (x y : Option PlainNamed) → y ≡ x → (is_register (found_from f name ss) ≡ false → is_register (found_from g name ts) ≡ false) → is_register (option_or x (found_from f name ss)) ≡ false → is_register (option_or y (found_from g name ts)) ≡ false
    same (Some v) y e again q = ap (λ (o : Option PlainNamed). is_register (option_or o (found_from g name ts))) e ∙ q
    same None y e again q = ap (λ (o : Option PlainNamed). is_register (option_or o (found_from g name ts))) e ∙ again q
register_from f g ss ts name m k h = search arith fits 100

no_register_more : (s t : ScopeList) (o : Option (List ℕ)) → More s t → NoRegister s o → NoRegister t o
no_register_more s t o m h = search (arith, register_from) fits 100

address_more : (s t : ScopeList) (form : Form) (parts : Trees) → More s t → TakesAddress s form parts → TakesAddress t form parts
unfolding TakesAddress
address_more s t form parts m h = search (arith, no_register_more) fits 100

mutual
  unfolding Spoken AllSpoken

  pub spoken_more : (s t : ScopeList) (tree : Tree) → More s t → Spoken s tree → Spoken t tree
  spoken_more s t (Leaf word) m h = tt
  spoken_more s t (At line) m h = h
  spoken_more s t (Node form parts) m h = (address_more s t form parts m h.0, all_spoken_more s t parts m h.1)

  pub all_spoken_more : (s t : ScopeList) (trees : Trees) → More s t → AllSpoken s trees → AllSpoken t trees
  all_spoken_more s t none m h = tt
  all_spoken_more s t (tree ▹ rest) m h = (spoken_more s t tree m h.0, all_spoken_more s t rest m h.1)

-- what is asked of an expression in a context
pub record Ready (c : Context) (tree : Tree) : Type 0 where
  pub spoken : Spoken c.scopes tree
  pub names : NamesFit (world c) c.scopes

pub ready_on : (c d : Context) (tree : Tree) → Goes c d → NamesFit (world c) c.scopes → Spoken c.scopes tree → Ready d tree
ready_on c d tree g h s = record { spoken = spoken_more c.scopes d.scopes tree g.more s; names = names_more (world c) (world d) c.scopes d.scopes g.grew g.more h }

-- the name of a register, in parentheses or without them
abbrev pub NamesRegister : ScopeList → Option (List ℕ) → Type 0
NamesRegister s None = ⊥
NamesRegister s (Some name) = is_register (declaration s name) ≡ true

abbrev pub LocalNamed : Context → Tree → Spot → Type 0
LocalNamed c tree spot = (r : ℕ) → spot ≡ Local r → NamesRegister c.scopes (plain_name tree)

-- what is known of an expression that was elaborated
pub record Rests (c : Context) (tree : Tree) (z : Context × Found) : Type 0 where
  pub sits : Sits c z
  pub local : LocalNamed c tree z.1.spot
  pub line : 1 ≤ code_line tree

pub rests : (c : Context) (tree : Tree) (z : Context × Found) (line : ℕ) → code_line tree ≡ line → 1 ≤ line → Lands c z → Rests c tree z
rests c tree z line e l h = record { sits = lands_sits c z h; local = (λ k e. search arith fits 100); line = subst (λ (k : ℕ). 1 ≤ k) (sym e) l }

-- the name of a local

-- operands

pub record Operated (c : Context) (tree : Tree) (z : Context × Found) : Type 0 where
  pub comes : Comes c z
  pub line : 1 ≤ code_line tree

pub unused_operated : (tree : Tree) (c : Context) (answer : With Found) (z : Context × Found) → ((d : Context × Found) → answer ≡ Ok d → Rests c tree d) → unused tree answer ≡ Ok z → Operated c tree z
unused_operated tree c answer z h q =
    let d = came answer q in
    let l = (h d.value d.is).line in
    record { comes = unused_comes tree c answer z l (λ x k. (h x k).sits) q; line = l }

pub valued_operated : (tree : Tree) (c : Context) (answer : With Found) (z : Context × Found) → ((d : Context × Found) → answer ≡ Ok d → Rests c tree d) → valued tree answer ≡ Ok z → Operated c tree z
valued_operated tree c answer z h q = unused_operated tree c answer z h (valued_unused tree answer z q)
