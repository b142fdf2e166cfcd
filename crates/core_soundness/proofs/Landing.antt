-- Where expressions are, and of which sort: names, places, operators and choices.
use Rattle.core_soundness.proofs.Words.Std.{◌≡◌, ◌⊎◌, ◌≤◌, ◌+◌, ◌&&◌, ℕ, pos, Bool, true, false, cond, is_some, List, [], ◌∷◌, ◌++◌, length, slice_get, Option, Some, None, Ok, refl, sym, ap, ◌∙◌, subst, inl, inr, ⊎_elim, arith, length-append, ◌||◌, option_or, and_parts}
use Rattle.c_types.specs.Types as types
use Rattle.c_types.specs.declared.types.IntType.TheVariants as i
use Rattle.core_tree.specs.declared.statements.Atom.TheVariants as atom
use Rattle.core_tree.specs.declared.statements.CmpOp.TheVariants as cmp
use Rattle.c_tree.specs.declared.operator.BinaryOp.TheVariants as bin
use Rattle.c_tree.specs.declared.operator.UnaryOp.TheVariants as u
use Rattle.c_decls.specs.Named as n
use Rattle.c_decls.specs.PlaceRules as places
use Rattle.core_soundness.proofs.Agreeing.{came}
use Rattle.core_soundness.proofs.Growth.{good, ok_same, never, behind_test}
use Rattle.core_soundness.proofs.Scopes.{more_refl}
use Rattle.core_soundness.proofs.Sorting.{holds_grew, pieces_grew, Goes, goes_refl, goes_forgotten, Gives, gives_on, gives_integer, Sits, Lands, Comes, comes_lands, HasValue, Converting, converted, tested_value_gives, passed, kept_test, moved_is, beside_is, Makes, before_gives, member_gives, move_gives, IsPointed, IsBetween, LeftOf, binary_makes, goes_trans, goes_emit, goes_here, goes_labels, gives_pointer, Apart, held_as_grew}
use Rattle.core_soundness.proofs.Words.Trees.{Tree, BinaryOp, UnaryOp}
use Rattle.core_soundness.proofs.Words.Types.{TagTable, PlainType, IntType, built_ins, named, built_in_named, built_in_value, string, PlainNamed, cast, element, element_types, dot, arrow, arrow_of, choice, choice_types, chosen_pointer, refused, Table, named_in, found_from, found as declaration, unary, unary_of, unary_type, binary, logical, PlainTyped, Operand, Number, PointerTo, Neither, operand, place, value, constant, is_scalar, is_null_constant, is_void, same, BuiltIn, Constant, TypeTooLarge, StaticTooLarge, Operands}
use Rattle.core_soundness.proofs.Words.Core.{block_size, Integer, Pointer, Sort, Atom, Cmp, Set, Zero, Jump}
use Rattle.core_soundness.proofs.Words.Elaborating.{Context, literal_object, local_register, Code, emit, here, with_labels, new_label, integer_by, Found, Spot, Local, Memory, Value, Fixed, Unknown, Nowhere, found_as, atom_in, code_line, convert, forget, tested_value, name_answer, literal_answer, address_answer, working, combine, combined, fixed_sum, moved_by, offset_of, constant_found, object_found, built_in_found, name_found, is_inner, with_static, with_literal, literal_found, at_address, with_value, indexed, dotted, target_of, pointed, negated, before_number, apply, applied, tells_equal, is_pointer_ahead, is_pointer_operand, ahead, left_operand, between, cast_fixed, cast_to, set_again, compare_again, and_then, and_ends, and_ended, or_else, or_ends, or_ended, choice_spot, choice_found, chosen_by, choose_first, choose_last, chosen}
use Rattle.core_soundness.proofs.Words.Facts.{World, world, Holds, HeldAs, Held, StandsAs, Stands, IsObject, is_variable, is_literal, is_local, InnerFits, FileFits, NamesFit, local_sort, type_sort, TablesFit}
use Rattle.core_soundness.proofs.Choices.{not_false}

-- where names, literals, places and operators are, and of which sort (C99 6.5)

-- names

-- what is found under a name: inside a function, or at file scope
abbrev pub FoundName : World → Table → List Table → List ℕ → PlainNamed → Type 0
FoundName w file inner name v =
    ((is_some (found_from [] name inner) ≡ true) × InnerFits w v) ⊎ ((is_some (found_from [] name inner) ≡ false) × (named_in name file ≡ Some v))

pub found_name : (w : World) (file : Table) (inner : List Table) (name : List ℕ) (v : PlainNamed) → TablesFit (InnerFits w) inner → found_from file name inner ≡ Some v → FoundName w file inner name v
found_name w file [] name v h e = inr (refl, e)
found_name w file (table ∷ outer) name v h e = by (named_in name table) refl (λ k. found_name w file outer name v h.1 k) e
  where
    by : (o : Option PlainNamed) → named_in name table ≡ o → (found_from file name outer ≡ Some v → FoundName w file outer name v) → option_or o (found_from file name outer) ≡ Some v
        → ((is_some (option_or o (found_from [] name outer)) ≡ true) × InnerFits w v) ⊎ ((is_some (option_or o (found_from [] name outer)) ≡ false) × (named_in name file ≡ Some v))
    by (Some x) q again k = inl (refl, h.0 name v (q ∙ k))
    by None q again k = again k

scalar_held : (w : World) (type : PlainType) (k : ℕ) → is_scalar type ≡ true → local_sort w k ≡ Some (type_sort type) → Held w type (atom.Reg (local_register k))
scalar_held w (types.Int ty) k s h = is_local k refl h
scalar_held w (types.Pointer target) k s h = is_local k refl h
scalar_held w other k s h = tt

built_in_stands : (w : World) (line : ℕ) (name : BuiltIn) (o : Option Constant) (e : PlainTyped) → built_in_value line name o ≡ Ok e → Stands w (built_in_found e e.is_null)
built_in_stands w line name o e h = search (arith, ok_same, never) fits 100

built_in_at : (w : World) (line : ℕ) (o : Option BuiltIn) (e : PlainTyped) → built_in_named line o ≡ Ok e → Stands w (built_in_found e e.is_null)
built_in_at w line o e h = search (arith, never, built_in_stands) fits 100

name_stands : (w : World) (file : Table) (inner : Bool) (line : ℕ) (v : PlainNamed) (e : PlainTyped) → ((inner ≡ true) × InnerFits w v) ⊎ ((inner ≡ false) × FileFits w v) → named line (Some v) ≡ Ok e → Stands w (name_found e inner (Some v))
name_stands w file inner line (n.Register type k) e (inl f) h = search (arith, ok_same, scalar_held)
name_stands w file inner line (n.Register type k) e (inr f) h = absurd f.1
name_stands w file inner line (n.Object type k) e (inl f) h = search (arith, ok_same)
name_stands w file inner line (n.Object type k) e (inr f) h =
    subst (λ (x : PlainTyped). Stands w (name_found x inner (Some (n.Object type k)))) (ok_same (place type) e h) (subst (λ (x : Bool). Stands w (object_found (place type) x k)) (sym f.0) (refl, is_variable k refl f.1))
name_stands w file inner line (n.BuiltIn index) e f h = built_in_at w line (slice_get built_ins index) e h
name_stands w file inner line (n.Constant type k) e f h = subst (λ (x : PlainTyped). Stands w (constant_found x)) (ok_same _ e h) refl
name_stands w file inner line other e f h = never _ _ e h

pub name_lands : (line : ℕ) (name : List ℕ) (c : Context) (z : Context × Found) → NamesFit (world c) c.scopes → name_answer line name (declaration c.scopes name) c ≡ Ok z → Sits c z
name_lands line name c z f h = by (declaration c.scopes name) refl h
  where
    by : (o : Option PlainNamed) → declaration c.scopes name ≡ o → name_answer line name o c ≡ Ok z → Sits c z
    by None q k = never (Sits c z) _ z k
    by (Some v) q k =
        let e = came (named line (Some v)) k in
        let there = found_name (world c) c.scopes.file c.scopes.inner name v f.inner q in
        subst (Sits c) (ok_same (c, name_found e.value (is_inner c name) (Some v)) z e.last)
        (record {
          goes = goes_refl c;
          stands = name_stands (world c) c.scopes.file (is_inner c name) line v e.value
              (⊎_elim (λ (x : (is_inner c name ≡ true) × InnerFits (world c) v). inl x) (λ (x : (is_inner c name ≡ false) × (named_in name c.scopes.file ≡ Some v)). inr (x.0, f.file name v x.1)) there) e.is;
        })

-- a constant of an integer type
pub constant_lands : (c : Context) (e : Constant) (z : Context × Found) → good (c, constant_found (constant e)) ≡ Ok z → Lands c z
constant_lands c e z h = subst (Lands c) (ok_same (c, constant_found (constant e)) z h) (record { goes = goes_refl c; stands = refl; apart = tt })

-- literals

pub record Literal (c : Context) (d : Context × ℕ) : Type 0 where
  pub goes : Goes c d.0
  pub there : IsObject (world d.0) d.1

pub literal_there : (line : ℕ) (bytes : List ℕ) (c : Context) (d : Context × ℕ) → with_literal line bytes c ≡ Ok d → Literal c d
literal_there line bytes c d h =
    let s = came (with_static line (length bytes + 1) c) h in
    let k = c.static_bytes + block_size (length bytes + 1) in
    let e : record c { static_bytes = k } ≡ s.value = passed _ StaticTooLarge line (record c { static_bytes = k }) s.value s.is in
    let last : good (record s.value { literals = s.value.literals ++ bytes ∷ [] }, literal_object (length c.literals)) ≡ Ok d = s.last in
    let same : (record c { static_bytes = k; literals = c.literals ++ bytes ∷ [] }, literal_object (length c.literals)) ≡ d =
    ap (λ (x : Context). (record x { literals = x.literals ++ bytes ∷ [] }, literal_object (length c.literals))) e ∙ ok_same _ d last in
    subst (Literal c) same (record { goes = (search (arith, length-append, more_refl, pieces_grew)); there = is_literal (length c.literals) refl (omega (arith, length-append c.literals (bytes ∷ []))) })

pub string_lands : (line : ℕ) (bytes : List ℕ) (c : Context) (z : Context × Found) → literal_answer line bytes c ≡ Ok z → Lands c z
string_lands line bytes c z h =
    let e = came (string line bytes) h in
    let d = came (with_literal line bytes c) e.last in
    let l = literal_there line bytes c d.value d.is in
    let type : place (types.Array (types.Int i.Char) (length bytes + 1)) ≡ e.value = passed _ TypeTooLarge line _ e.value e.is in
    let flag : e.value.is_place ≡ true = sym (ap (λ (x : PlainTyped). x.is_place) type) in
    subst (Lands c) (ok_same (literal_found e.value d.value) z d.last)
    (record { goes = l.goes; stands = subst (λ (x : Bool). StandsAs (world d.value.0) x e.value.type (Memory (atom.Static d.value.1))) (sym flag) (refl, l.there); apart = tt })

-- places

-- a place that is no scalar is in memory
pub in_memory : (w : World) (type : PlainType) (spot : Spot) (e : Found) → e.spot ≡ spot → is_scalar type ≡ false → StandsAs w true type spot → Holds w Pointer (atom_in e)
in_memory w type spot e q s h = search arith fits 100

IsPlaced : PlainTyped → Type 0
IsPlaced typed = (type : PlainType) × (place type ≡ typed)

at_place : (c : Context) (typed : PlainTyped) (fixed : Fixed) (d : Context × Atom) (z : Context × Found) → IsPlaced typed → Gives c Pointer d → good (at_address typed fixed d) ≡ Ok z → Lands c z
unfolding IsPlaced
at_place c typed fixed d z p g h = subst (Lands c) (ap (λ (t : PlainTyped). at_address t fixed d) p.1 ∙ ok_same _ z h) (record { goes = g.goes; stands = g.holds; apart = tt })

element_moves : (line : ℕ) (c : Context) (s t : Operand) (typed : PlainTyped) (p q : Atom) → 1 ≤ line → element_types line c.tags s t ≡ Ok typed → HeldAs (world c) s p → HeldAs (world c) t q → IsPlaced typed × Gives c Pointer (combine line bin.Add c.code s t p q c)
unfolding IsPlaced working
element_moves line c (PointerTo target) (Number ty) typed p q l e h k = ((target, moved_is line c.tags target (place target) typed e), (move_gives line bin.Add target p q c l h k))
element_moves line c (Number ty) (PointerTo target) typed p q l e h k = ((target, moved_is line c.tags target (place target) typed e), (move_gives line bin.Add target q p c l k h))
element_moves line c others other typed p q l e h k = never _ _ typed e

pub indexed_lands : (line : ℕ) (c : Context) (x y : Found) (z : Context × Found) → 1 ≤ line → HasValue (world c) x → HasValue (world c) y → indexed line c x y ≡ Ok z → Lands c z
indexed_lands line c x y z l h k q =
    let t = came (element line c.tags x.typed y.typed) q in
    let m = element_moves line c (operand x.typed.type) (operand y.typed.type) t.value (atom_in x) (atom_in y) l t.is h.held k.held in
    at_place c t.value (fixed_sum c bin.Add x y) (combined line bin.Add c.code x y c) z m.0 m.1 t.last

member_of_placed : (line : ℕ) (name : List ℕ) (tags : TagTable) (type : PlainType) (typed : PlainTyped) → places.member_of line name tags type ≡ Ok typed → IsPlaced typed × (is_scalar type ≡ false)
unfolding IsPlaced
member_of_placed line name tags type typed e = search (arith, ok_same, never) fits 100

pub dotted_lands : (line : ℕ) (name : List ℕ) (c : Context) (e : Found) (z : Context × Found) → 1 ≤ line → Stands (world c) e → dotted line name c e ≡ Ok z → Lands c z
dotted_lands line name c e z l h q =
    let t = came (dot line name c.tags e.typed) q in
    let flag : e.typed.is_place ≡ true = not_false _ (kept_test _ _ line _ t.value t.is) in
    let m = member_of_placed line name c.tags e.typed.type t.value (behind_test _ _ line _ t.value t.is) in
    let there : Holds (world c) Pointer (atom_in e) = in_memory (world c) e.typed.type e.spot e refl m.1 (subst (λ (x : Bool). StandsAs (world c) x e.typed.type e.spot) flag h) in
    at_place c t.value (moved_by c (pos (offset_of c.tags name e.typed.type)) e.fixed) _ z m.0 (member_gives line (offset_of c.tags name e.typed.type) (atom_in e) c l there) t.last

arrow_placed : (line : ℕ) (name : List ℕ) (w : World) (tags : TagTable) (o : Operand) (typed : PlainTyped) (a : Atom) → arrow_of line name tags o ≡ Ok typed → HeldAs w o a → IsPlaced typed × Holds w Pointer a
arrow_placed line name w tags (PointerTo target) typed a e h = ((member_of_placed line name tags target typed e).0, h)
arrow_placed line name w tags other typed a e h = never _ _ typed e

pub pointed_lands : (line : ℕ) (name : List ℕ) (c : Context) (e : Found) (z : Context × Found) → 1 ≤ line → HasValue (world c) e → pointed line name c e ≡ Ok z → Lands c z
pointed_lands line name c e z l h q =
    let t = came (arrow line name c.tags e.typed) q in
    let m = arrow_placed line name (world c) c.tags (operand e.typed.type) t.value (atom_in e) t.is h.held in
    at_place c t.value (moved_by c (pos (offset_of c.tags name (target_of (operand e.typed.type)))) e.fixed) _ z m.0 (member_gives line (offset_of c.tags name (target_of (operand e.typed.type))) (atom_in e) c l m.1) t.last

-- an address is taken of what is no register
abbrev pub InMemory : Found → Type 0
InMemory e = (r : ℕ) → e.spot ≡ Local r → ⊥

pub address_lands : (line : ℕ) (c : Context) (e : Found) (z : Context × Found) → InMemory e → Stands (world c) e → address_answer line c e ≡ Ok z → Lands c z
address_lands line c e z m h q = grind (arith, came, ok_same, goes_refl, true, false)

-- operators

-- a value that was made
pub made_comes : (c : Context) (typed : PlainTyped) (fixed : Fixed) (d : Context × Atom) (z : Context × Found) → Makes c typed d → good (with_value typed fixed d) ≡ Ok z → Comes c z
made_comes c typed fixed d z m h = subst (Comes c) (ok_same (with_value typed fixed d) z h) (record { goes = m.goes; value = record { spot = refl; value = m.value; held = m.held } })

pub integer_made : (c : Context) (ty : IntType) (typed : PlainTyped) (d : Context × Atom) → typed.is_place ≡ false → typed.type ≡ types.Int ty → Gives c Integer d → Makes c typed d
integer_made c ty typed d p e g = record { value = p; goes = g.goes; held = subst (λ (t : PlainType). Held (world d.0) t d.1) (sym e) g.holds }

pub tested_not : (line : ℕ) (tree : Tree) (typed : PlainTyped) (c : Context) (e : Found) (z : Context × Found) → 1 ≤ line → 1 ≤ code_line tree → HasValue (world c) e → is_scalar e.typed.type ≡ true → typed.is_place ≡ false → typed.type ≡ types.Int i.Int → good (negated line tree typed c e) ≡ Ok z → Lands c z
tested_not line tree typed c e z l l2 h s p q k =
    let d = tested_value tree (c, e) in
    let t = tested_value_gives tree (c, e) l2 s h in
    let g = gives_on c d.0 Integer _ t.goes (gives_integer line (λ r. Cmp cmp.Eq r d.1 (atom.Int (pos 0))) d.0 l (λ v r gv there. (there, holds_grew (world d.0) v Integer d.1 gv t.holds, refl))) in
    let m = made_comes c typed Unknown _ z (integer_made c i.Int typed _ p q g) k in
    comes_lands c z m

pub number_scalar : (type : PlainType) (ty : IntType) → operand type ≡ Number ty → is_scalar type ≡ true
number_scalar type ty e = search arith fits 100

pub pointer_scalar : (type target : PlainType) → operand type ≡ PointerTo target → is_scalar type ≡ true
pointer_scalar type target e = search arith fits 100

-- `+`, `-` and `~`
calculated_lands : (line : ℕ) (op : UnaryOp) (typed : PlainTyped) (o : Operand) (c : Context) (e : Found) (z : Context × Found) (s : IntType) → 1 ≤ line → HeldAs (world c) o (atom_in e) → (ty : IntType) → o ≡ Number s → typed.is_place ≡ false → typed.type ≡ types.Int ty
    → good (before_number line op typed o c e) ≡ Ok z → Lands c z
calculated_lands line op typed (Number t) c e z s l h ty q p r k = search (arith, made_comes, integer_made, before_gives, comes_lands)
calculated_lands line op typed other c e z s l h ty q p r k = cc

IsNumberType : PlainTyped → Type 0
IsNumberType typed = (ty : IntType) × (typed.is_place ≡ false) × (typed.type ≡ types.Int ty)

-- the operand of `+`, `-` or `~` is a number
abbrev IsPlain : UnaryOp → Type 0
IsPlain u.Deref = ⊥
IsPlain u.Not = ⊥
IsPlain op = Unit {0}

plain_number : (line : ℕ) (op : UnaryOp) (e typed : PlainTyped) (o : Operand) → IsPlain op → unary_of line op e o ≡ Ok typed → ((s : IntType) × (o ≡ Number s)) × IsNumberType typed
unfolding IsNumberType
plain_number line u.Deref e typed o p h = absurd p
plain_number line u.Not e typed o p h = absurd p
plain_number line op e typed (Number ty) p h = ((ty, refl), subst (λ (x : PlainTyped). (t : IntType) × (x.is_place ≡ false) × (x.type ≡ types.Int t)) (ok_same _ typed h) (unary_type op ty, refl, refl))
plain_number line op e typed other p h = never _ _ typed h

plain_lands : (line : ℕ) (op : UnaryOp) (typed : PlainTyped) (c : Context) (e : Found) (z : Context × Found) → IsPlain op → 1 ≤ line → HasValue (world c) e → unary line op c.tags e.typed ≡ Ok typed → good (before_number line op typed (operand e.typed.type) c e) ≡ Ok z → Lands c z
unfolding IsNumberType
plain_lands line op typed c e z p l h t k = let r = plain_number line op e.typed typed (operand e.typed.type) p t in (calculated_lands line op typed (operand e.typed.type) c e z r.0.0 l h.held r.1.0 r.0.1 r.1.1 r.1.2 k)

apply_lands : (line : ℕ) (op : UnaryOp) (tree : Tree) (typed : PlainTyped) (c : Context) (e : Found) (z : Context × Found) → 1 ≤ line → 1 ≤ code_line tree → HasValue (world c) e → unary line op c.tags e.typed ≡ Ok typed → good (apply line op tree typed c e) ≡ Ok z → Lands c z
apply_lands line u.Deref tree typed c e z l l2 h t k = search (arith, ok_same, goes_refl, never) fits 100
apply_lands line u.Not tree typed c e z l l2 h t k =
    let r : (typed.is_place ≡ false) × (typed.type ≡ types.Int i.Int) × (((s : IntType) × ((operand e.typed.type) ≡ Number s)) ⊎ ((target : PlainType) × ((operand e.typed.type) ≡ PointerTo target))) = search (arith, ok_same, never) fits 100 in
    tested_not line tree typed c e z l l2 h (⊎_elim (λ (x : (s : IntType) × (operand e.typed.type ≡ Number s)). number_scalar e.typed.type x.0 x.1) (λ (x : (target : PlainType) × (operand e.typed.type ≡ PointerTo target)). pointer_scalar e.typed.type x.0 x.1) r.2) r.0 r.1 k
apply_lands line op tree typed c e z l l2 h t k = plain_lands line op typed c e z tt l h t k

pub applied_lands : (line : ℕ) (op : UnaryOp) (tree : Tree) (c : Context) (e : Found) (z : Context × Found) → 1 ≤ line → 1 ≤ code_line tree → HasValue (world c) e → applied line op tree c e ≡ Ok z → Lands c z
applied_lands line op tree c e z l l2 h q =
    let t = came (unary line op c.tags e.typed) q in
    apply_lands line op tree t.value c e z l l2 h t.is t.last

-- two operands

-- what comes next, where it is known ahead
pub is_pointed : (type : PlainType) → is_pointer_operand (operand type) ≡ true → IsPointed (operand type)
is_pointed type e = search arith fits 100

-- a left operand in front of its right one, whose type is known ahead
pub record LeftGoes (b : Context) (op : BinaryOp) (right : Tree) (d begun : Context × Found) : Type 0 where
  pub goes : Goes b begun.0
  pub typed : begun.1.typed ≡ d.1.typed
  pub left : (y : PlainTyped) → ahead right d.0 ≡ Some y → LeftOf begun.0 op (operand d.1.typed.type) (operand y.type) (atom_in begun.1)

pub left_goes : (op : BinaryOp) (b : Context) (right : Tree) (d : Context × Found) → Goes b d.0 → HasValue (world d.0) d.1 → LeftGoes b op right d (left_operand op b.code right d)
left_goes op b right d g h = by (tells_equal op && is_null_constant d.1.typed && is_pointer_ahead (ahead right d.0)) refl
  where
    by : (k : Bool) → (tells_equal op && is_null_constant d.1.typed && is_pointer_ahead (ahead right d.0)) ≡ k → LeftGoes b op right d (cond k (forget b.code d.0, found_as d.1.typed (Value atom.Null) Nowhere) d)
    by true e = record {
      goes = goes_forgotten b d.0 g;
      typed = refl;
      left = λ y q. inr ((and_parts (tells_equal op) (is_null_constant d.1.typed) (and_parts (tells_equal op && is_null_constant d.1.typed) (is_pointer_ahead (ahead right d.0)) e).0).0, is_pointed y.type (ap is_pointer_ahead (sym q) ∙ (and_parts (tells_equal op && is_null_constant d.1.typed) (is_pointer_ahead (ahead right d.0)) e).1), refl);
    }
    by false e = record { goes = g; typed = refl; left = λ y q. inl h.held }

pub between_lands : (line : ℕ) (op : BinaryOp) (b c : Context) (x y : Found) (z : Context × Found) → IsBetween op → 1 ≤ line → Goes b c → LeftOf b op (operand x.typed.type) (operand y.typed.type) (atom_in x) → HasValue (world c) y → between line op b.code c x y ≡ Ok z → Comes b z
between_lands line op b c x y z i l g h k q =
    let t = came (binary line op c.tags x.typed y.typed) q in
    made_comes b t.value (fixed_sum c op x y) (combined line op b.code x y c) z (binary_makes line l b c g op c.tags x.typed y.typed t.value (atom_in x) (atom_in y) i t.is h k.held) t.last

-- casts

pub cast_lands : (line : ℕ) (type : PlainType) (b c : Context) (e : Found) (z : Context × Found) → 1 ≤ line → Goes b c → HasValue (world c) e → cast_to line type b.code c e ≡ Ok z → Comes b z
cast_lands line type b c e z l g h q =
    let t = came (cast line type e.typed) q in
    let r : (t.value.is_place ≡ false) × (operand t.value.type ≡ operand type) × Converting (operand type) (operand e.typed.type) = search (arith, ok_same, beside_is, never) fits 100 in
    let d = convert line b.code type e.typed (atom_in e) c in
    let k = converted line b type e.typed (atom_in e) c l g h.held in
    made_comes b t.value (cast_fixed e.typed e.fixed) d z (record { value = r.0; goes = k.goes; held = subst (λ (o : Operand). HeldAs (world d.0) o d.1) (sym r.1) (k.held r.2) }) t.last

-- the sorts of what `&&`, `||` and `?:` give, and of what assignments write (C99 6.5.13 to 6.5.16)

-- a register in hand is written again

pub set_again_goes : (line : ℕ) (sort : Sort) (t a : Atom) (c : Context) → 1 ≤ line → Holds (world c) sort t → Holds (world c) sort a → Goes c (set_again line t a c)
set_again_goes line sort (atom.Reg r) a c l h k = goes_emit line (Set r a) c l (sort, h, k)
set_again_goes line sort other a c l h k = goes_refl c

compare_again_goes : (line : ℕ) (t a : Atom) (c : Context) → 1 ≤ line → Holds (world c) Integer t → Holds (world c) Integer a → Goes c (compare_again line t a c)
compare_again_goes line (atom.Reg r) a c l h k = goes_emit line (Cmp cmp.Ne r a (atom.Int (pos 0))) c l (h, k, refl)
compare_again_goes line other a c l h k = goes_refl c

-- `&&` and `||`

-- both sides of a logical operator are scalars
pub record Logical (x y typed : PlainTyped) : Type 0 where
  pub left : is_scalar x.type ≡ true
  pub right : is_scalar y.type ≡ true
  pub flag : typed.is_place ≡ false
  pub type : typed.type ≡ types.Int i.Int

pub logical_typed : (line : ℕ) (folded : _) (x y typed : PlainTyped) → logical line folded x y ≡ Ok typed → Logical x y typed
logical_typed line folded x y typed e = search (arith, kept_test, passed)

pub and_then_goes : (line : ℕ) (tree : Tree) (d : Context × Found) → 1 ≤ line → 1 ≤ code_line tree → is_scalar d.1.typed.type ≡ true → HasValue (world d.0) d.1 → Goes d.0 (and_then line tree d)
and_then_goes line tree d l l2 s h =
    let t = tested_value tree d in
    let g = tested_value_gives tree d l2 s h in
    goes_trans d.0 t.0 _ g.goes (goes_trans t.0 (with_labels 2 t.0) _ (goes_labels 2 t.0) (goes_emit line (Zero t.1 (new_label t.0)) (with_labels 2 t.0) l g.holds))

and_ends_gives : (line label : ℕ) (t : Context × Atom) → 1 ≤ line → Holds (world t.0) Integer t.1 → Gives t.0 Integer (and_ends line label t)
and_ends_gives line label t l h =
    let d = integer_by line (λ r. Cmp cmp.Ne r t.1 (atom.Int (pos 0))) t.0 in
    let g = gives_integer line (λ r. Cmp cmp.Ne r t.1 (atom.Int (pos 0))) t.0 l (λ v r gv there. (there, holds_grew (world t.0) v Integer t.1 gv h, refl)) in
    let j = emit line (Jump (label + 1)) d.0 in
    let e = here label j in
    let s = set_again line d.1 (atom.Int (pos 0)) e in
    let gj : Goes d.0 e = goes_trans d.0 j e (goes_emit line (Jump (label + 1)) d.0 l tt) (goes_here label j) in
    let gs : Goes e s = set_again_goes line Integer d.1 (atom.Int (pos 0)) e l g.holds refl in
    record { goes = goes_trans t.0 d.0 _ g.goes (goes_trans d.0 e _ gj (goes_trans e s _ gs (goes_here (label + 1) s))); holds = holds_grew (world d.0) _ Integer d.1 (goes_trans e s _ gs (goes_here (label + 1) s)).grew g.holds }

pub and_comes : (line label : ℕ) (tree : Tree) (x : Found) (b : Context) (d z : Context × Found) → 1 ≤ line → 1 ≤ code_line tree → Goes b d.0 → HasValue (world d.0) d.1 → and_ended line label tree x d ≡ Ok z → Comes b z
and_comes line label tree x b d z l l2 g h q =
    let t = came (binary line bin.And d.0.tags x.typed d.1.typed) q in
    let r = logical_typed line _ x.typed d.1.typed t.value t.is in
    let v = tested_value_gives tree d l2 r.right h in
    let e = and_ends_gives line label (tested_value tree d) l v.holds in
    made_comes b t.value Unknown _ z (integer_made b i.Int t.value _ r.flag r.type (gives_on b d.0 Integer _ g (gives_on d.0 (tested_value tree d).0 Integer _ v.goes e))) t.last

pub or_else_gives : (line : ℕ) (tree : Tree) (d : Context × Found) → 1 ≤ line → 1 ≤ code_line tree → is_scalar d.1.typed.type ≡ true → HasValue (world d.0) d.1 → Gives d.0 Integer (or_else line tree d)
or_else_gives line tree d l l2 s h =
    let t = tested_value tree d in
    let g = tested_value_gives tree d l2 s h in
    let next = new_label t.0 in
    let c1 = emit line (Zero t.1 next) (with_labels 2 t.0) in
    let g1 : Goes t.0 c1 = goes_trans t.0 (with_labels 2 t.0) _ (goes_labels 2 t.0) (goes_emit line (Zero t.1 next) (with_labels 2 t.0) l g.holds) in
    let e = integer_by line (λ r. Set r (atom.Int (pos 1))) c1 in
    let ge = gives_integer line (λ r. Set r (atom.Int (pos 1))) c1 l (λ v r gv there. (Integer, there, refl)) in
    let j = emit line (Jump (next + 1)) e.0 in
    let gj : Goes e.0 (here next j) = goes_trans e.0 j _ (goes_emit line (Jump (next + 1)) e.0 l tt) (goes_here next j) in
    record { goes = goes_trans d.0 t.0 _ g.goes (goes_trans t.0 c1 _ g1 (goes_trans c1 e.0 _ ge.goes gj)); holds = ge.holds }

or_ends_gives : (line end : ℕ) (i : Atom) (t : Context × Atom) → 1 ≤ line → Holds (world t.0) Integer i → Holds (world t.0) Integer t.1 → Gives t.0 Integer (or_ends line end i t)
or_ends_gives line end i t l h k =
    let s = compare_again line i t.1 t.0 in
    let g : Goes t.0 (here end s) = goes_trans t.0 s _ (compare_again_goes line i t.1 t.0 l h k) (goes_here end s) in
    record { goes = g; holds = holds_grew (world t.0) _ Integer i g.grew h }

pub or_comes : (line end : ℕ) (tree : Tree) (i : Atom) (x : Found) (b : Context) (d z : Context × Found) → 1 ≤ line → 1 ≤ code_line tree → Goes b d.0 → Holds (world b) Integer i → HasValue (world d.0) d.1 → or_ended line end tree i x d ≡ Ok z → Comes b z
or_comes line end tree i x b d z l l2 g hi h q =
    let t = came (binary line bin.Or d.0.tags x.typed d.1.typed) q in
    let r = logical_typed line _ x.typed d.1.typed t.value t.is in
    let v = tested_value_gives tree d l2 r.right h in
    let tv = tested_value tree d in
    let gt : Goes b tv.0 = goes_trans b d.0 tv.0 g v.goes in
    let e = or_ends_gives line end i tv l (holds_grew (world b) (world tv.0) Integer i gt.grew hi) v.holds in
    made_comes b t.value Unknown _ z (integer_made b _ t.value _ r.flag r.type (gives_on b tv.0 Integer _ gt e)) t.last

-- `?:`

-- the type of a choice, to which both sides convert
pub record Choice (test x y typed : PlainTyped) : Type 0 where
  pub tested : is_scalar test.type ≡ true
  pub flag : typed.is_place ≡ false
  pub first : Converting (operand typed.type) (operand x.type)
  pub last : Converting (operand typed.type) (operand y.type)
  pub void : operand typed.type ≡ Neither → is_void typed.type ≡ true

record Sides (s t : Operand) (typed : PlainTyped) : Type 0 where
  flag : typed.is_place ≡ false
  first : Converting (operand typed.type) s
  last : Converting (operand typed.type) t
  void : operand typed.type ≡ Neither → is_void typed.type ≡ true

side_pointer : (type target : PlainType) (s t : Operand) (typed : PlainTyped) → operand type ≡ PointerTo target → Converting (PointerTo target) s → Converting (PointerTo target) t → value type ≡ typed → Sides s t typed
side_pointer type target s t typed o h k e = search arith

pointer_chosen : (line : ℕ) (x y typed : PlainTyped) (s t : PlainType) → operand x.type ≡ PointerTo s → operand y.type ≡ PointerTo t → chosen_pointer line x y s t ≡ Ok typed → Sides (PointerTo s) (PointerTo t) typed
pointer_chosen line x y typed s t o m e = one (same s t || y.is_null) e
  where
    four : (k : Bool) → cond k (good (value y.type)) (refused Operands line) ≡ Ok typed → Sides (PointerTo s) (PointerTo t) typed
    four true q = side_pointer y.type t (PointerTo s) (PointerTo t) typed m tt tt (ok_same _ typed q)
    four false q = never _ _ typed q

    three : (k : Bool) → cond k (good (value x.type)) (cond (is_void t) (good (value y.type)) (refused Operands line)) ≡ Ok typed → Sides (PointerTo s) (PointerTo t) typed
    three true q = side_pointer x.type s (PointerTo s) (PointerTo t) typed o tt tt (ok_same _ typed q)
    three false q = four (is_void t) q

    two : (k : Bool) → cond k (good (value y.type)) (cond (is_void s) (good (value x.type)) (cond (is_void t) (good (value y.type)) (refused Operands line))) ≡ Ok typed → Sides (PointerTo s) (PointerTo t) typed
    two true q = side_pointer y.type t (PointerTo s) (PointerTo t) typed m tt tt (ok_same _ typed q)
    two false q = three (is_void s) q

    one : (k : Bool) → cond k (good (value x.type)) (cond x.is_null (good (value y.type)) (cond (is_void s) (good (value x.type)) (cond (is_void t) (good (value y.type)) (refused Operands line)))) ≡ Ok typed → Sides (PointerTo s) (PointerTo t) typed
    one true q = side_pointer x.type s (PointerTo s) (PointerTo t) typed o tt tt (ok_same _ typed q)
    one false q = two x.is_null q

void_chosen : (line : ℕ) (x y typed : PlainTyped) (s t : Operand) → cond (is_void x.type && is_void y.type) (good (value x.type)) (refused Operands line) ≡ Ok typed → Sides s t typed
void_chosen line x y typed s t e = grind (arith, true, ok_same, false)

sides : (line : ℕ) (test : _) (x y typed : PlainTyped) (s t : Operand) → operand x.type ≡ s → operand y.type ≡ t → choice_types line test x y s t ≡ Ok typed → Sides s t typed
sides line test x y typed (Number s) (Number t) o m e = subst (Sides (Number s) (Number t)) (ok_same _ typed e) (record { flag = refl; first = tt; last = tt; void = λ q. cc })
sides line test x y typed (PointerTo s) (PointerTo t) o m e = pointer_chosen line x y typed s t o m e
sides line test x y typed (PointerTo s) (Number t) o m e = side_pointer x.type s (PointerTo s) (Number t) typed o tt tt (ok_same _ typed (beside_is line y _ typed e))
sides line test x y typed (Number s) (PointerTo t) o m e = side_pointer y.type t (Number s) (PointerTo t) typed m tt tt (ok_same _ typed (beside_is line x _ typed e))
sides line test x y typed (Number s) Neither o m e = void_chosen line x y typed (Number s) Neither e
sides line test x y typed (PointerTo s) Neither o m e = void_chosen line x y typed (PointerTo s) Neither e
sides line test x y typed Neither (Number t) o m e = void_chosen line x y typed Neither (Number t) e
sides line test x y typed Neither (PointerTo t) o m e = void_chosen line x y typed Neither (PointerTo t) e
sides line test x y typed Neither Neither o m e = void_chosen line x y typed Neither Neither e

pub choice_sides : (line : ℕ) (test x y typed : PlainTyped) → choice line test x y ≡ Ok typed → Choice test x y typed
choice_sides line test x y typed e =
    let s = sides line test.folded x y typed (operand x.type) (operand y.type) refl refl (behind_test _ _ line _ typed e) in
    record { tested = not_false _ (kept_test _ _ line _ typed e); flag = s.flag; first = s.first; last = s.last; void = s.void }

-- the temporary of a choice; where the type is void there is none
pub record Chosen (b : Context) (type : PlainType) (d : Context × Atom) : Type 0 where
  pub goes : Goes b d.0
  pub held : HeldAs (world d.0) (operand type) d.1

chosen_by_goes : (line : ℕ) (b : Context) (type : PlainType) (e : PlainTyped) (d : Context × Atom) → 1 ≤ line → Goes b d.0 → Held (world d.0) e.type d.1 → Converting (operand type) (operand e.type) → Chosen b type (chosen_by line b.code type e d)
chosen_by_goes line b (types.Int ty) e d l g h k =
    let v = convert line b.code (types.Int ty) e d.1 d.0 in
    let r = converted line b (types.Int ty) e d.1 d.0 l g h in
    let s = gives_integer line (λ t. Set t v.1) v.0 l (λ w t gw there. (Integer, there, holds_grew (world v.0) w Integer v.1 gw (r.held k))) in
    record { goes = goes_trans b v.0 _ r.goes s.goes; held = s.holds }
chosen_by_goes line b (types.Pointer target) e d l g h k =
    let v = convert line b.code (types.Pointer target) e d.1 d.0 in
    let r = converted line b (types.Pointer target) e d.1 d.0 l g h in
    let s = gives_pointer line (λ t. Set t v.1) v.0 l (λ w t gw there. (Pointer, there, holds_grew (world v.0) w Pointer v.1 gw (r.held k))) in
    record { goes = goes_trans b v.0 _ r.goes s.goes; held = s.holds }
chosen_by_goes line b other e d l g h k = record { goes = g; held = tt }

pub first_goes : (line other : ℕ) (b : Context) (type : PlainType) (d : Context × Found) → 1 ≤ line → Goes b d.0 → HasValue (world d.0) d.1 → Converting (operand type) (operand d.1.typed.type) → Chosen b type (choose_first line other b.code type d)
first_goes line other b type d l g h k =
    let v = chosen_by line b.code type d.1.typed (d.0, atom_in d.1) in
    let r = chosen_by_goes line b type d.1.typed (d.0, atom_in d.1) l g h.held k in
    let j = emit line (Jump (other + 1)) v.0 in
    record { goes = goes_trans b v.0 _ r.goes (goes_trans v.0 j _ (goes_emit line (Jump (other + 1)) v.0 l tt) (goes_here other j)); held = r.held }

-- a register of a type that is written again; where the type is void there is none
set_typed : (line : ℕ) (o : Operand) (t a : Atom) (c : Context) → 1 ≤ line → (o ≡ Neither → t ≡ atom.Null) → HeldAs (world c) o t → HeldAs (world c) o a → Goes c (set_again line t a c)
set_typed line (Number ty) t a c l n h k = set_again_goes line Integer t a c l h k
set_typed line (PointerTo target) t a c l n h k = set_again_goes line Pointer t a c l h k
set_typed line Neither t a c l n h k = subst (λ (x : Atom). Goes c (set_again line x a c)) (sym (n refl)) (goes_refl c)

pub first_null : (line other : ℕ) (before : Code) (type : PlainType) (d : Context × Found) → operand type ≡ Neither → (choose_first line other before type d).1 ≡ atom.Null
first_null line other before type d e = search arith fits 100

choice_stands : (w : World) (typed : PlainTyped) (a : Atom) → typed.is_place ≡ false → HeldAs w (operand typed.type) a → Stands w (choice_found typed a)
choice_stands w typed a p h = grind (arith, false)

choice_apart : (type : PlainType) (a : Atom) → Apart (choice_spot type a)
choice_apart type a = search arith fits 100

-- behind the last side: b is behind the first one, whose temporary is t
pub chosen_lands : (line end : ℕ) (b : Context) (t : Atom) (test x : Found) (typed : PlainTyped) (d z : Context × Found) → 1 ≤ line → choice line test.typed x.typed d.1.typed ≡ Ok typed → (operand typed.type ≡ Neither → t ≡ atom.Null) → HeldAs (world b) (operand typed.type) t
    → Goes b d.0 → HasValue (world d.0) d.1 → chosen line end b.code t test x d ≡ Ok z → Lands b z
chosen_lands line end b t test x typed d z l is n ht g h q =
    let k = came (choice line test.typed x.typed d.1.typed) q in
    let same : typed ≡ k.value = ok_same typed k.value (sym is ∙ k.is) in
    let s = choice_sides line test.typed x.typed d.1.typed typed is in
    let v = convert line b.code typed.type d.1.typed (atom_in d.1) d.0 in
    let r = converted line b typed.type d.1.typed (atom_in d.1) d.0 l g h.held in
    let w = set_again line t v.1 v.0 in
    let gs : Goes v.0 w = set_typed line (operand typed.type) t v.1 v.0 l n (held_as_grew (world b) (world v.0) (operand typed.type) t r.goes.grew ht) (r.held s.last) in
    let goes : Goes b (here end w) = goes_trans b v.0 _ r.goes (goes_trans v.0 w _ gs (goes_here end w)) in
    subst (Lands b) (ap (λ (y : PlainTyped). (here end (choose_last line b.code y.type t d).0, choice_found y (choose_last line b.code y.type t d).1)) same ∙ ok_same _ z k.last)
    (record { goes = goes; stands = choice_stands (world (here end w)) typed t s.flag (held_as_grew (world b) (world (here end w)) (operand typed.type) t goes.grew ht); apart = choice_apart typed.type t })
