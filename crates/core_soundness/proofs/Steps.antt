-- Initializers and names go in step with the walk over addresses.
use Rattle.core_soundness.proofs.Words.Std.{◌≡◌, ◌+◌, ℕ, pos, Bool, true, false, not, cond, length, min, List, [], ◌∷◌, Option, Some, None, Ok, refl, subst, ◌||◌, zero, suc, is_some, unwrap_or, bytes_eq, sym, ap, ◌∙◌, arith, bytes_eq-Decides, and_parts}
use Rattle.core_soundness.proofs.Words.Trees.{shape, rows, some, commas, behind_commas, some_commas, Place, is_scope, places, name_of, name_among, leads_to_name, Tree, Trees, At, Node, none, ◌▹◌, count, Leaf}
use Rattle.core_soundness.proofs.Words.Types.{PlainType, Array, line_of, PlainNamed, refused, then, ScopeList, Table, named_in, found_from, found as declaration, innermost, first_or, with_name, with_name_in, after_declaration, is_scalar, Assignment, DeclaredTwice}
use Rattle.core_soundness.proofs.Words.Core.{Atom, Off, Copy, Clear, Set}
use Rattle.core_soundness.proofs.Words.Elaborating.{Taken, taken, left_part, all_taken, Context, emit, local_register, Found, Spot, Local, Memory, atom_in, valued, convert, write, size_or_zero, zero_of, cleared, fill_memory, fill_register, fill_at, fill_local, specs, found, Target, InRegister, InMemory, InStatic, static_scalar, member_place, store_at, fill_scalar, fill_record, is_same_place, whole, fill_text, is_character, text, by_text, by_expression, parts_of, takes_braces, is_scalar_type, all_surplus, initialize, initialize_parts, not_whole, next_is_memory, local_in, with_local, is_same_again, is_file, is_twice_in, is_twice, declared_as, with_register, with_memory, counted, with_named, memory_param, register_param, function_param, prototype_param, is_prototype, with_param, opened, with_literal}
use Rattle.core_soundness.proofs.Words.Facts.{Spoken, AllSpoken, is_register, Written}
use Rattle.core_tree.specs.declared.statements.Atom.TheVariants as atom
use Rattle.c_tree.specs.Forms as f
use Rattle.c_tree.specs.Places as p
use Rattle.c_decls.specs.Named as n
use Rattle.c_decls.specs.ScopeList as scopes
use Rattle.elaboration.specs.Addressed as walk
use Rattle.elaboration.specs.Addressed.{with_local as taken_local, left}
use Rattle.core_soundness.proofs.Agreeing.{came}
use Rattle.core_soundness.proofs.Formed.{Shaped, Formed, AllFormed, NoNodes, behind_stars}
use Rattle.core_soundness.proofs.Growth.{good, ok_same, never, Grows, grows_refl, grows_pointer, Reached, reached_ok, reached_refused, reached_after, reached_unless, reached_barred, grown_literal, behind_string}
use Rattle.core_soundness.proofs.Keeping.{text_calm, unary_calm, found_calm, keeps_refl, keeps_trans, grows_keeps, emit_keeps, opened_keeps, closed_keeps, full_keeps, calm_spoken, valued_calm, AreNumbered, keeps_stepped, stepped_trans}
use Rattle.core_soundness.proofs.Scopes.{named_push, HasScope}
use Rattle.core_soundness.proofs.Sorting.{passed, kept_test}
use Rattle.core_soundness.proofs.Taking.{Inside, Keeps, Follows, Still, AllStill, Calm, some_commas_held, calm_node, among, drops, Fewer, Stepped, each, SameNames}
use Rattle.core_soundness.proofs.Walks.{found_grows, grown_valued, grows_convert, grows_write}
use Rattle.core_soundness.proofs.Choices.{either_way, not_false}

-- initializers declare nothing, and go in step (C99 6.7.8)

-- a tree that declares nothing was gone through
abbrev pub Went : Tree → Context → Context → Type 0
Went tree b d = Calm tree × Keeps b d

-- leaves

place_keeps : (line mem offset : ℕ) (c : Context) → Keeps c (member_place line mem offset c).0
place_keeps line mem offset c = grows_keeps c _ (grows_pointer line (λ p. Off p (atom.Mem mem) (pos offset)) c (λ p. tt))

write_keeps : (line : ℕ) (type : PlainType) (spot : Spot) (a : Atom) (c : Context) → Keeps c (write line type spot a c)
write_keeps line type spot a c = grows_keeps c _ (grows_write line type spot a c)

converted_keeps : (at : ℕ) (e : Tree) (type : PlainType) (b : Context) (d : Context × Found) → valued e (found e type (opened e b)) ≡ Ok d → Keeps b (convert at (opened e b).code type d.1.typed (atom_in d.1) d.0).0
converted_keeps at e type b d q =
    let begun = opened e b in
    let grown : Grows begun d.0 = grown_valued e begun (found e type begun) (found_grows e type begun begun (grows_refl begun)) d q in
    keeps_trans b begun _ (opened_keeps e b) (grows_keeps begun _ (grows_convert at begun type d.1.typed (atom_in d.1) d.0 grown))

fill_scalar_went : (e : Tree) (line : ℕ) (type : PlainType) (offset : ℕ) (b : Context) (d : Context × Found) (t : Target) → Calm e → valued e (found e type (opened e b)) ≡ Ok d
    → Reached (Went e b) (fill_scalar e line type offset (opened e b).code d t)
fill_scalar_went e line type offset b d (InRegister at register) x q =
    let v = convert at (opened e b).code type d.1.typed (atom_in d.1) d.0 in
    let wrote = write at type (Local register) v.1 v.0 in
    reached_ok (Went e b)
    (x, keeps_trans b v.0 _ (converted_keeps at e type b d q) (keeps_trans v.0 wrote _ (write_keeps at type (Local register) v.1 v.0) (closed_keeps e wrote)))
fill_scalar_went e line type offset b d (InMemory at mem) x q =
    let v = convert at (opened e b).code type d.1.typed (atom_in d.1) d.0 in
    let place = member_place at mem offset v.0 in
    let wrote = store_at at type v.1 place in
    reached_ok (Went e b) (
      x,
      keeps_trans b v.0 _ (converted_keeps at e type b d q)
          (keeps_trans v.0 place.0 _ (place_keeps at mem offset v.0) (keeps_trans place.0 wrote _ (write_keeps at type (Memory place.1) v.1 place.0) (closed_keeps e wrote))),
    )
fill_scalar_went e line type offset b d (InStatic start) x q =
    reached_after (Went e b) (static_scalar line type offset start d.1) (λ filled h. reached_ok (Went e b) (x, full_keeps e type b d q))

fill_record_went : (e : Tree) (line : ℕ) (type : PlainType) (offset : ℕ) (b : Context) (d : Context × Found) (t : Target) → Went e b d.0 → Reached (Went e b) (fill_record e line type offset d t)
fill_record_went e line type offset b d t x =
    search (arith, reached_ok, keeps_trans, place_keeps, emit_keeps, closed_keeps, reached_refused) fits 100

whole_went : (e : Tree) (line : ℕ) (type : PlainType) (offset : ℕ) (t : Target) (b : Context) → Formed e → Reached (Went e b) (whole e line type offset t b)
whole_went e line type offset t b g =
    let begun = opened e b in
    reached_after (Went e b) (found e type begun)
    (λ d h. reached_unless (Went e b) (not (is_same_place type d.1.typed)) (not_whole d.1.typed) line
    (fill_record_went e line type offset b d t (found_calm e type begun d g h, keeps_trans b begun d.0 (opened_keeps e b) (grows_keeps begun d.0 (found_grows e type begun begun (grows_refl begun) d h)))))

text_is_calm : (e : Tree) (bytes : List ℕ) → Formed e → text e ≡ Some bytes → Calm e
unfolding Formed AllFormed Shaped
text_is_calm (Node f.Str (At line ▹ Node f.Strings parts ▹ none)) bytes g h = text_calm line parts g.1.1.0.0
text_is_calm e bytes g h = cc

fill_text_went : (e : Tree) (line : ℕ) (bytes : List ℕ) (size offset : ℕ) (t : Target) (b : Context) → Calm e → Reached (Went e b) (fill_text e line bytes size offset t b)
fill_text_went e line bytes size offset (InMemory at mem) b x =
    let begun = opened e b in
    reached_after (Went e b) (with_literal line bytes begun)
    (λ d h. let place = member_place at mem offset d.0 in
    let k : ℕ = min (length bytes + 1) size in
    reached_ok (Went e b) (
      x,
      keeps_trans b begun _ (opened_keeps e b)
          (keeps_trans begun d.0 _ (grows_keeps begun d.0 (grown_literal line bytes begun begun (grows_refl begun) d h))
          (keeps_trans d.0 place.0 _ (place_keeps at mem offset d.0) (emit_keeps at (Copy place.1 (atom.Static d.1) (pos k)) place.0))),
    ))
fill_text_went e line bytes size offset (InStatic start) b x = reached_ok (Went e b) (x, keeps_refl b)
fill_text_went e line bytes size offset (InRegister at register) b x = reached_refused (Went e b)

by_text_went : (e : Tree) (line : ℕ) (element : PlainType) (size offset : ℕ) (found_text : Option (List ℕ)) (t : Target) (b : Context) → text e ≡ found_text → Formed e
    → Reached (Went e b) (by_text e line element size offset found_text t b)
by_text_went e line element size offset None t b is g = whole_went e line (Array element size) offset t b g
by_text_went e line element size offset (Some bytes) t b is g =
    either_way (Reached (Went e b)) (is_character element)
    (λ z q. fill_text_went e line bytes size offset t b (text_is_calm e bytes g is) z (behind_string line bytes (fill_text e line bytes size offset t b) z q))
    (whole_went e line (Array element size) offset t b g)

by_expression_went : (e : Tree) (line : ℕ) (type : PlainType) (offset : ℕ) (t : Target) (b : Context) → Formed e → Reached (Went e b) (by_expression e line type offset t b)
by_expression_went e line (Array element size) offset t b g = by_text_went e line element size offset (text e) t b refl g
by_expression_went e line type offset t b g = search (arith, whole_went, reached_after, reached_barred, fill_scalar_went, valued_calm) fits 100

init_calm : (line : ℕ) (e : Tree) → Calm e → Calm (Node f.InitExpr (At line ▹ e ▹ none))
unfolding shape
init_calm line e x = unary_calm f.InitExpr line e refl refl tt x

list_calm : (trailing : Bool) (line : ℕ) (inits : Trees) → AllStill inits → Calm (Node (f.InitList trailing) (At line ▹ Node f.Inits inits ▹ none))
unfolding Still AllStill shape
list_calm trailing line inits x = calm_node (f.InitList trailing) (At line ▹ Node f.Inits inits ▹ none) refl refl tt (tt, ((refl, some_commas_held p.Init inits, x), tt))

mutual
  unfolding initialize initialize_parts Formed AllFormed AllStill

  pub initialize_went : (tree : Tree) (in_scalar : Bool) (type : PlainType) (offset : ℕ) (t : Target) (b : Context) → Formed tree → Reached (Went tree b) (initialize tree in_scalar type offset t b)
  initialize_went (Node f.InitExpr (At line ▹ e ▹ none)) in_scalar type offset t b g d q =
      let x = by_expression_went e (line_of e) type offset t b g.1.1.0 d q in (init_calm line e x.0, x.1)
  initialize_went (Node (f.InitList trailing) (At line ▹ Node f.Inits inits ▹ none)) in_scalar type offset t b g d q =
      elim (takes_braces type in_scalar) as (λ k. cond k (initialize_parts line inits (is_scalar_type type) (parts_of b (count inits) type offset) t b) (then (all_surplus inits b) (λ y. refused Assignment line)) ≡ good d → Went (Node (f.InitList trailing) (At line ▹ Node f.Inits inits ▹ none)) b d.0) [
        | true ↦ λ r. let x = parts_went inits line (is_scalar_type type) (parts_of b (count inits) type offset) t b g.1.1.0.1 d r in (list_calm trailing line inits x.0, x.1)
        | false ↦ reached_after (Went (Node (f.InitList trailing) (At line ▹ Node f.Inits inits ▹ none)) b) (all_surplus inits b) (λ y h. reached_refused (Went (Node (f.InitList trailing) (At line ▹ Node f.Inits inits ▹ none)) b)) d
      ] q
  initialize_went tree in_scalar type offset t b g d q = never (Went tree b d.0) _ d q

  parts_went : (inits : Trees) (line : ℕ) (in_scalar : Bool) (parts : List (PlainType × ℕ)) (t : Target) (b : Context) → AllFormed inits → Reached (λ d. AllStill inits × Keeps b d) (initialize_parts line inits in_scalar parts t b)
  parts_went (init ▹ rest) line in_scalar (part ∷ parts) t b g =
      reached_after (λ d. AllStill (init ▹ rest) × Keeps b d) (initialize init in_scalar part.0 part.1 t b)
      (λ d h z e. let one = initialize_went init in_scalar part.0 part.1 t b g.0 d h in
      let more = parts_went rest line in_scalar parts d.1 d.0 g.1 z e in
      ((one.0.still, more.0), keeps_trans b d.0 z.0 one.1 more.1))
  parts_went inits line in_scalar parts t b g = search (arith, reached_ok, keeps_refl, reached_after, reached_refused) fits 100

-- the initializer of a local, where it is one of these

abbrev pub IsSpot : Spot → Type 0
IsSpot (Local register) = Unit {0}
IsSpot (Memory (atom.Mem mem)) = Unit {0}
IsSpot spot = ⊥

pub local_spot : (name : List ℕ) (type : PlainType) (c : Context) → IsSpot (with_local name type c).1
local_spot name type c = grind (arith, true, false)

maybe_calm : (init : Tree) → Calm init → Calm (Node f.MaybeInit (init ▹ none))
unfolding Still AllStill shape
maybe_calm init x = calm_node f.MaybeInit (init ▹ none) refl refl tt (x.still, tt)

none_calm : Calm (Node f.MaybeInit none)
unfolding Still AllStill shape
none_calm = calm_node f.MaybeInit none refl refl tt tt

memory_went : (line : ℕ) (type : PlainType) (inits : Trees) (mem : ℕ) (c z : Context) → Formed (Node f.MaybeInit inits) → fill_memory line type inits (atom.Mem mem) c ≡ Ok z → Went (Node f.MaybeInit inits) c z
unfolding Formed AllFormed Shaped
memory_went line type none mem c z g q = (none_calm, subst (Keeps c) (ok_same (cleared line type (atom.Mem mem) c) z q) (emit_keeps line (Clear (atom.Mem mem) (pos (size_or_zero c type))) c))
memory_went line type (init ▹ none) mem c z g q =
    let x = cleared line type (atom.Mem mem) c in
    let d = came (initialize init false type 0 (InMemory line mem) x) q in
    let one = initialize_went init false type 0 (InMemory line mem) x g.1.0 d.value d.is in
    (maybe_calm init one.0, subst (Keeps c) (ok_same d.value.0 z d.last) (keeps_trans c x d.value.0 (emit_keeps line (Clear (atom.Mem mem) (pos (size_or_zero c type))) c) one.1))
memory_went line type (init ▹ more ▹ rest) mem c z g q = absurd g.0

register_went : (line : ℕ) (type : PlainType) (inits : Trees) (register : ℕ) (c z : Context) → Formed (Node f.MaybeInit inits) → fill_register line type inits register c ≡ Ok z → Went (Node f.MaybeInit inits) c z
unfolding Formed AllFormed Shaped
register_went line type none register c z g q = (none_calm, subst (Keeps c) (ok_same (emit line (Set register (zero_of type)) c) z q) (emit_keeps line (Set register (zero_of type)) c))
register_went line type (init ▹ none) register c z g q =
    let d = came (initialize init false type 0 (InRegister line register) c) q in
    let one = initialize_went init false type 0 (InRegister line register) c g.1.0 d.value d.is in
    (maybe_calm init one.0, subst (Keeps c) (ok_same d.value.0 z d.last) one.1)
register_went line type (init ▹ more ▹ rest) register c z g q = absurd g.0

pub fill_went : (line : ℕ) (type : PlainType) (inits : Trees) (spot : Spot) (c z : Context) → Formed (Node f.MaybeInit inits) → IsSpot spot → fill_at line type inits spot c ≡ Ok z → Went (Node f.MaybeInit inits) c z
fill_went line type inits (Local register) c z g s q = register_went line type inits register c z g q
fill_went line type inits (Memory (atom.Mem mem)) c z g s q = memory_went line type inits mem c z g q
fill_went line type inits other c z g s q = absurd s

pub local_went : (line : ℕ) (name : List ℕ) (type : PlainType) (inits : Trees) (c z : Context) → Formed (Node f.MaybeInit inits) → fill_local line type inits (with_local name type c) ≡ Ok z → Went (Node f.MaybeInit inits) (with_local name type c).0 z
local_went line name type inits c z g q = fill_went line type inits (with_local name type c).1 (with_local name type c).0 z g (local_spot name type c) q

pub inits_spoken : (line : ℕ) (name : List ℕ) (type : PlainType) (inits : Trees) (t : Taken) (c z : Context) → Follows t (with_local name type c).0 → Inside (taken (Node f.MaybeInit inits) t).addressed (with_local name type c).0.running.addressed
    → Written (Node f.MaybeInit inits) → Formed (Node f.MaybeInit inits) → fill_local line type inits (with_local name type c) ≡ Ok z → AllSpoken (with_local name type c).0.scopes inits
unfolding Spoken
inits_spoken line name type inits t c z h i w g q =
    let x = local_went line name type inits c z g q in
    (calm_spoken (Node f.MaybeInit inits) t (with_local name type c).0 h i w x.0).1

-- names that are declared go in step (C99 6.2.1, 6.7)

-- a name of a scope that has it not yet

unequal : (x y : List ℕ) → bytes_eq x y ≡ false → bytes_eq y x ≡ false
unequal x y e = grind (arith, bytes_eq, false, true, bytes_eq-Decides)

-- what is declaration under the name, and under another
module _ (name : List ℕ) (v : PlainNamed) where
  here_found : (file : Table) (inner : List Table) → named_in name (first_or file inner) ≡ None → (x : List ℕ) → bytes_eq x name ≡ true → declaration (with_name_in file inner name v) x ≡ Some v
  here_found file inner e x q = search (arith, bytes_eq-Decides, named_push, bytes_eq) fits 100

  else_found : (file : Table) (inner : List Table) (x : List ℕ) → bytes_eq x name ≡ false → declaration (with_name_in file inner name v) x ≡ found_from file x inner
  else_found file inner x q = search (arith, named_push) fits 100

-- what the walk knows with a name more
abbrev pub with_one : List ℕ → Option ℕ → Taken → Taken
with_one name number t = record t { names = record { name = name; number = number } ∷ t.names }

pub named_numbered : (s : ScopeList) (name : List ℕ) (v : PlainNamed) (number : Option ℕ) (t : Taken) (numbers : List ℕ) → named_in name (innermost s) ≡ None
    → (is_register (Some v) ≡ true → (k : ℕ) × (number ≡ Some k) × (among k numbers ≡ false)) → AreNumbered s t numbers → AreNumbered (with_name s name v) (with_one name number t) numbers
named_numbered s name v number t numbers e g h x r = search (arith, bytes_eq, here_found, bytes_eq-Decides, else_found, unequal) fits 100

-- scopes around the innermost

drops_same : (k : ℕ) (file : Table) → drops k (record { file = file; inner = [] }) ≡ record { file = file; inner = [] }
drops_same zero file = refl
drops_same (suc k) file = drops_same k file

named_depth : (file : Table) (inner : List Table) (name : List ℕ) (v : PlainNamed) → length (with_name_in file inner name v).inner ≡ length inner
named_depth file inner name v = search arith fits 100

-- a name that stands for no register is declared

again_plain : (w v : PlainNamed) → is_register (Some v) ≡ false → is_same_again w v ≡ true → is_register (Some w) ≡ false
again_plain w v e q = search arith fits 100

-- it was there before, at file scope
again_numbered : (file : Table) (inner : List Table) (name : List ℕ) (v w : PlainNamed) (t : Taken) (numbers : List ℕ) → is_register (Some v) ≡ false → named_in name (first_or file inner) ≡ Some w → is_twice_in (is_file inner) v (Some w) ≡ false
    → AreNumbered (record { file = file; inner = inner }) t numbers → AreNumbered (record { file = file; inner = inner }) (with_one name None t) numbers
again_numbered file inner name v w t numbers p e q h x r =
    search (arith, bytes_eq, bytes_eq-Decides, again_plain, and_parts, not_false, unequal) fits 100

pub plain_stepped : (line : ℕ) (name : List ℕ) (v : PlainNamed) (t : Taken) (c z : Context) → is_register (Some v) ≡ false → Follows t c → declared_as line name v c ≡ Ok z → Stepped t c (with_one name None t) z
plain_stepped line name v t c z p h q =
    let test : is_twice c.scopes name v ≡ false = kept_test (is_twice c.scopes name v) DeclaredTwice line (good (record c { scopes = after_declaration c.scopes name v })) z q in
    subst (Stepped t c (with_one name None t)) (passed (is_twice c.scopes name v) DeclaredTwice line (record c { scopes = after_declaration c.scopes name v }) z q)
    (by (named_in name (innermost c.scopes)) refl test)
  where
    by : (o : Option PlainNamed) → named_in name (innermost c.scopes) ≡ o → is_twice_in (is_file c.scopes.inner) v o ≡ false → Stepped t c (with_one name None t) (record c { scopes = after_declaration c.scopes name v })
    by None e w = subst (λ (o : Option PlainNamed). Stepped t c (with_one name None t) (record c { scopes = cond (is_some o) c.scopes (with_name c.scopes name v) })) (sym e)
        (record {
          follows = (h.0, named_numbered c.scopes name v None t c.running.addressed e (λ r. let clash : true ≡ false = sym r ∙ p in cc) h.1);
          addressed = refl;
          depth = named_depth c.scopes.file c.scopes.inner name v;
          outside = λ k. grind (arith, drops_same, bytes_eq, named_push, true, false);
        })
    by (Some x) e w = subst (λ (o : Option PlainNamed). Stepped t c (with_one name None t) (record c { scopes = cond (is_some o) c.scopes (with_name c.scopes name v) })) (sym e)
        (record {
          follows = (h.0, again_numbered c.scopes.file c.scopes.inner name v x t c.running.addressed p e w h.1);
          addressed = refl;
          depth = refl;
          outside = λ k y r. r;
        })

-- a parameter or local more

-- a name, where there is one, is not there yet
abbrev pub IsNew : Option (List ℕ) → Context → Type 0
IsNew None c = Unit {0}
IsNew (Some name) c = named_in name (innermost c.scopes) ≡ None

not_register : (type : PlainType) (c : Context) (b : Bool) → not (is_scalar type) || b ≡ false → b ≡ false
not_register type c b e = grind (arith, not, false, true)

one_local : (name : Option (List ℕ)) (v : PlainNamed) (t : Taken) (c d : Context) → d.scopes ≡ c.scopes → d.running.declared ≡ c.running.declared → d.running.addressed ≡ c.running.addressed → IsNew name c → HasScope c.scopes.inner
    → (is_register (Some v) ≡ true → among c.running.declared c.running.addressed ≡ false) → Follows t c → Stepped t c (walk.with_local name t) (counted (with_named name v d))
one_local None v t c d same e1 e2 fresh deep g h = record {
  follows = (ap (λ (k : ℕ). k + 1) (h.0 ∙ sym e1), λ x r. let a = h.1 x (subst (λ (s : ScopeList). is_register (declaration s x) ≡ true) same r) in (a.0, a.1, ap (λ (l : List ℕ). among a.0 l) e2 ∙ a.2));
  addressed = e2;
  depth = ap (λ (y : ScopeList). length y.inner) same;
  outside = λ k. subst (λ (y : ScopeList). Fewer (drops k (scopes.left c.scopes)) (drops k (scopes.left y))) (sym same) (λ x r. r);
}
one_local (Some name) v t c d same e1 e2 fresh deep g h =
    let numbered : AreNumbered (with_name c.scopes name v) (with_one name (Some t.declared) t) c.running.addressed = named_numbered c.scopes name v (Some t.declared) t c.running.addressed fresh (λ r. (t.declared, refl, ap (λ (k : ℕ). among k c.running.addressed) h.0 ∙ g r)) h.1 in
    grind (arith, named_numbered, among, named_depth, drops)

pub local_stepped : (name : List ℕ) (type : PlainType) (t : Taken) (c : Context) → HasScope c.scopes.inner → named_in name (innermost c.scopes) ≡ None → Follows t c → Stepped t c (walk.with_local (Some name) t) (with_local name type c).0
local_stepped name type t c deep fresh h = by (next_is_memory type c) refl
  where
    by : (b : Bool) → next_is_memory type c ≡ b → Stepped t c (walk.with_local (Some name) t) (counted (local_in b name type c).0)
    by true e = one_local (Some name) (n.Object type (length c.running.mems)) t c (with_memory name type c) refl refl refl fresh deep (λ r. cc) h
    by false e = one_local (Some name) (n.Register type (length c.running.locals)) t c (with_register (Some name) type c) refl refl refl fresh deep (λ r. not_register type c (among c.running.declared c.running.addressed) e) h

pub param_stepped : (name : Option (List ℕ)) (type : PlainType) (t : Taken) (c : Context) → HasScope c.scopes.inner → IsNew name c → Follows t c → Stepped t c (walk.with_local name t) (with_param name type c)
param_stepped name type t c deep fresh h = by (is_prototype c.scopes)
  where
    own : (b : Bool) → next_is_memory type c ≡ b → Stepped t c (walk.with_local name t) (counted (cond b (memory_param name type c) (register_param name type c)))
    own true e =
        let mem : ℕ = length c.running.mems in
        let d : Context = with_memory (unwrap_or name []) type (with_register name type c) in
        let x : Context = with_named name (n.Object type mem) d in
        let w : Context = write c.running.line type (Memory (atom.Mem mem)) (atom.Reg (local_register (length c.running.locals))) x in
        let k : Keeps x w = grows_keeps x w (grows_write c.running.line type (Memory (atom.Mem mem)) (atom.Reg (local_register (length c.running.locals))) x) in
        let one = one_local name (n.Object type mem) t c d refl refl refl fresh deep (λ r. cc) h in
        stepped_trans t (walk.with_local name t) (walk.with_local name t) c (counted x) (counted w) one
        (keeps_stepped (walk.with_local name t) (walk.with_local name t) (counted x) (counted w) (refl, refl) (record { more = k.more; declared = ap (λ (j : ℕ). j + 1) k.declared; addressed = k.addressed }) one.follows)
    own false e = one_local name (n.Register type (length c.running.locals)) t c (with_register name type c) refl refl refl fresh deep (λ r. not_register type c (among c.running.declared c.running.addressed) e) h

    by : (b : Bool) → Stepped t c (walk.with_local name t) (counted (cond b (prototype_param name type c) (function_param name type c)))
    by true = one_local name (n.Object type 0) t c c refl refl refl fresh deep (λ r. cc) h
    by false = own (next_is_memory type c) refl

-- what the walk over addresses knows behind the nodes of declarations

-- parts in turn

pub rows_each : (place : Place) → is_scope place ≡ false → (parts : Trees) (t : Taken) → all_taken parts (places (rows place (count parts))) t ≡ each parts t
unfolding all_taken each
rows_each place e none t = refl
rows_each place e (tree ▹ rest) t =
    ap (λ (b : Bool). all_taken rest (places (rows place (count rest))) (left_part b t (taken tree t))) e ∙ rows_each place e rest (taken tree t)

pub some_each : (place : Place) → is_scope place ≡ false → (parts : Trees) (t : Taken) → all_taken parts (places (some place (count parts))) t ≡ each parts t
unfolding all_taken each
some_each place e none t = refl
some_each place e (tree ▹ rest) t = rows_each place e (tree ▹ rest) t

behind_each : (place : Place) → is_scope place ≡ false → (parts : Trees) (t : Taken) → all_taken parts (places (behind_commas place (count parts))) t ≡ each parts t
unfolding all_taken each
behind_each place e none t = refl
behind_each place e (tree ▹ rest) t =
    ap (λ (b : Bool). all_taken rest (places (behind_commas place (count rest))) (left_part b t (taken tree t))) e ∙ behind_each place e rest (taken tree t)

pub commas_each : (place : Place) → is_scope place ≡ false → (parts : Trees) (t : Taken) → all_taken parts (places (commas place (count parts))) t ≡ each parts t
unfolding all_taken each
commas_each place e none t = refl
commas_each place e (tree ▹ rest) t = behind_each place e (tree ▹ rest) t

pub some_commas_each : (place : Place) → is_scope place ≡ false → (parts : Trees) (t : Taken) → all_taken parts (places (some_commas place (count parts))) t ≡ each parts t
unfolding all_taken each
some_commas_each place e none t = refl
some_commas_each place e (tree ▹ rest) t = behind_each place e (tree ▹ rest) t

pub no_nodes_each : (parts : Trees) (t : Taken) → NoNodes parts → each parts t ≡ t
unfolding each taken
no_nodes_each none t h = refl
no_nodes_each (Leaf word ▹ rest) t h = no_nodes_each rest t h
no_nodes_each (At line ▹ rest) t h = no_nodes_each rest t h
no_nodes_each (Node _ parts ▹ rest) t h = absurd h

same_of : (u v : Taken) → v ≡ u → SameNames u v
same_of u v e = (ap (λ (x : Taken). x.names) e, ap (λ (x : Taken). x.declared) e)

-- nodes of parts in turn

module _ (parts : Trees) (t : Taken) where
  pub params_taken_each : SameNames (each parts t) (taken (Node f.Params parts) t)
  unfolding taken left shape is_scope
  params_taken_each = same_of (each parts t) (all_taken parts (places (commas p.Param (count parts))) t) (commas_each p.Param refl parts t)

  pub members_taken : SameNames (each parts t) (taken (Node f.Members parts) t)
  unfolding taken left shape is_scope
  members_taken = same_of (each parts t) (all_taken parts (places (some p.Member (count parts))) t) (some_each p.Member refl parts t)

  pub member_names_taken : SameNames (each parts t) (taken (Node f.MemberNames parts) t)
  unfolding taken left shape is_scope
  member_names_taken = same_of (each parts t) (all_taken parts (places (some_commas p.Declarator (count parts))) t) (some_commas_each p.Declarator refl parts t)

  pub enumerators_taken : SameNames (each parts t) (taken (Node f.Enumerators parts) t)
  unfolding taken left shape is_scope
  enumerators_taken = same_of (each parts t) (all_taken parts (places (some_commas p.Enumerator (count parts))) t) (some_commas_each p.Enumerator refl parts t)

  pub specs_taken : (line : ℕ) → SameNames (each parts t) (taken (Node f.Specs (At line ▹ parts)) t)
  unfolding taken all_taken left shape is_scope
  specs_taken line = same_of (each parts t) (all_taken parts (places (rows p.SpecWord (count parts))) t) (rows_each p.SpecWord refl parts t)

-- nodes of a fixed number of parts

module _ (t : Taken) where
  pub pointer_taken : (consts line : ℕ) (declarator : Tree) → SameNames (taken declarator t) (taken (Node (f.Pointer consts) (At line ▹ declarator ▹ none)) t)
  unfolding taken all_taken left shape is_scope
  pointer_taken consts line declarator = search (arith, same_of, behind_stars)

  pub direct_taken : (base : Tree) (suffixes : Trees) → SameNames (each suffixes (taken base t)) (taken (Node f.Direct (base ▹ Node f.Suffixes suffixes ▹ none)) t)
  unfolding taken all_taken left shape is_scope
  direct_taken base suffixes = same_of (each suffixes (taken base t)) (all_taken suffixes (places (rows p.Suffix (count suffixes))) (taken base t)) (rows_each p.Suffix refl suffixes (taken base t))

-- specs are no name
pub specs_unnamed : (words : Tree) (c : Context) (z : Context × PlainType) → specs words c ≡ Ok z → name_of words ≡ None
unfolding specs name_of leads_to_name
specs_unnamed words c z q = search (arith, never) fits 100

pub param_taken : (line : ℕ) (words declarator : Tree) (t : Taken) → name_of words ≡ None → SameNames (taken_local (name_of declarator) (taken declarator (taken words t))) (taken (Node f.Param (At line ▹ words ▹ declarator ▹ none)) t)
unfolding taken all_taken left shape is_scope name_among
param_taken line words declarator t e = search (arith, same_of)
