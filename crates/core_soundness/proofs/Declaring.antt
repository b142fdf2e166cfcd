-- What declarations do to what is known.
use Rattle.core_soundness.proofs.Words.Std.{◌≡◌, ℕ, suc, Bool, true, false, cond, is_some, List, [], ◌∷◌, length, unwrap_or, Option, Some, None, ◌≤◌, refl, arith, slice_get, sym, ◌∙◌, subst, ◌+◌, pos, not, min, ◌++◌, Ok, ap, ltb-false, ltb-true, slice_set, true≢false, sum_by-append, sum_by-cons, nat_lt}
use Rattle.core_soundness.proofs.Words.Trees.{name_of, Tree, Trees, At, Node, none, ◌▹◌, count, Leaf}
use Rattle.core_soundness.proofs.Words.Types.{TagTable, PlainType, Int, Array, line_of, PlainNamed, unconverted, Checked, refused, then, unless, ScopeList, Table, named_in, innermost, with_name, tag_name, after_declaration, tag_named, is_function, has_no_size, DeclaredTwice, Assignment, Incomplete, LeftOut, is_built_in}
use Rattle.core_soundness.proofs.Words.Core.{block_size, Start, Atom, Off, Copy, Enter, Set, Clear}
use Rattle.core_soundness.proofs.Words.Elaborating.{Context, Running, asked, told, local_register, emit, anew, Declared, Walked, Variable, Memory, Found, Local, code_line, atom_in, valued, convert, write, size_or_zero, Spot, function_number, function_number_of, with_function, declared_function, Storage, Typedef, Outside, Plain, storage_of, specs_alone, specs_before, zero_of, cleared, fill_memory, fill_register, fill_at, local_object, local_name, no_initializer, variable_number_of, with_variable, start_of, fill_variable, file_object, file_function, file_value, file_name, name_in, entry, entries, declaration, constant, with_type, specs, layers, param, suffix_layer, found, Target, InRegister, InMemory, InStatic, static_scalar, member_place, store_at, fill_scalar, scalar, copy_to, fill_record, whole, fill_text, is_character, text, by_text, by_expression, parts_of, takes_braces, is_scalar_type, all_surplus, initialize, initialize_parts, surplus, no_start, with_init_layers, is_twice, declared_as, next_is_memory, with_register, with_memory, counted, with_named, memory_param, register_param, function_param, prototype_param, is_prototype, with_param, local_in, with_local, is_twice_in, reallocates, opened, closed, with_literal}
use Rattle.c_types.specs.declared.types.IntType.TheVariants as i
use Rattle.core_tree.specs.declared.statements.Atom.TheVariants as atom
use Rattle.c_tree.specs.Forms as f
use Rattle.c_tree.specs.Words as w
use Rattle.c_decls.specs.Named as n
use Rattle.c_decls.specs.ScopeList as scopes
use Rattle.c_decls.specs.TypeNames as names
use Rattle.core_soundness.proofs.Growth.{grows_told, grows_refl, Reached, reached_ok, reached_after, Led, led_ok, led_unless, ObjectsStay, inner_objects, declared_objects, Passes, passes_trans, grows_passes, passes_beside, stays_beside, Grows, Settled, settled_refl, settled_trans, grows_settled, IsNoObject, with_name_objects, grows_trans, grows_emit, grows_pointer, grows_code, led_refused, led_after, led_barred, grown_literal, Stays, stays_trans, grows_stays, grows_closed, opened_stays, behind_string, ok_same, never, variable_bytes}
use Rattle.core_soundness.proofs.Scopes.{Safe, More, frees, with_name_safe, left_safe, FileKeeps, IsNoFunction, tied_refl, tied_file, keeps_refl, with_name_keeps, with_name_depth, Any, any_names, more_depth, Tied, get_left, get_push, get_below, tied_function, here, no_scope}
use Rattle.core_soundness.proofs.TagSorts.{After, tag_after}
use Rattle.core_soundness.proofs.Walks.{Steps, constant_keeps, specs_keep, layers_keep, grows_write, param_keeps, suffix_keeps, tagging, found_grows, grown_valued, grows_convert}
use Rattle.core_soundness.proofs.Choices.{either_way}

-- what specs, declarators and the names of locals do to what is known

pub passes_refl : (c : Context) → Safe c.scopes → Passes c c
passes_refl c s = grows_passes c c s (grows_refl c)

pub scopes_changed : (c : Context) (s : ScopeList) → Safe s → FileKeeps c.scopes.file s.file → length s.inner ≡ length c.scopes.inner → (1 ≤ length c.scopes.inner → ObjectsStay c.scopes.file s.file) → Passes c (record c { scopes = s })
scopes_changed c s h keep deep objects = search (arith, passes_beside, stays_beside, tied_file)

pub running_changed : (c : Context) (run : Running) → run.cases ≡ c.running.cases → run.otherwise ≡ c.running.otherwise → Safe c.scopes → Passes c (record c { running = run })
running_changed c run e e2 h = passes_beside c _ refl e e2 (stays_beside c _ h refl refl refl refl refl (λ k. k) refl (tied_refl c.functions c.scopes.file c.walked) (λ h name type i e. e))

pub tags_changed : (c : Context) (tags : TagTable) → Safe c.scopes → Passes c (record c { tags = tags })
tags_changed c tags h = passes_beside c _ refl refl refl (stays_beside c _ h refl refl refl refl refl (λ k. k) refl (tied_refl c.functions c.scopes.file c.walked) (λ h name type i e. e))

pub told_passes : (told_of : names.Context) (c : Context) → More c.scopes told_of.scopes → Safe c.scopes → Passes c (told told_of c)
told_passes told_of c m s = grows_passes c (told told_of c) s (grows_told told_of c m)

-- names

pub after_depth : (s : ScopeList) (name : List ℕ) (named : PlainNamed) → length (after_declaration s name named).inner ≡ length s.inner
after_depth s name named = either_way (λ (x : ScopeList). length x.inner ≡ length s.inner) (is_some (named_in name (innermost s))) refl (with_name_depth s name named)

after_passes : (name : List ℕ) (named : PlainNamed) (c : Context) → frees (Some named) ≡ false → IsNoFunction named → Safe c.scopes → Passes c (record c { scopes = after_declaration c.scopes name named })
after_passes name named c e no_function s = search (arith, scopes_changed, either_way, with_name_safe, keeps_refl, with_name_keeps, after_depth, declared_objects, inner_objects)

pub declared_passes : (line : ℕ) (name : List ℕ) (named : PlainNamed) (b c : Context) → frees (Some named) ≡ false → IsNoFunction named → Passes b c → Led (Passes b) (declared_as line name named c)
declared_passes line name named b c e no_function p = search (arith, led_unless, led_ok, passes_trans, after_passes)

named_passes : (name : Option (List ℕ)) (named : PlainNamed) (c : Context) → frees (Some named) ≡ false → IsNoFunction named → Safe c.scopes → Passes c (with_named name named c)
named_passes None named c e no_function s = passes_refl c s
named_passes (Some name) named c e no_function s = scopes_changed c _ (with_name_safe c.scopes name named e s) (with_name_keeps c.scopes name named no_function) (with_name_depth c.scopes name named) (λ h. inner_objects c.scopes name named h)

register_passes : (name : Option (List ℕ)) (type : PlainType) (c : Context) → Safe c.scopes → Passes c (with_register name type c)
register_passes name type c s = running_changed c _ refl refl s

memory_passes : (name : List ℕ) (type : PlainType) (c : Context) → Safe c.scopes → Passes c (with_memory name type c)
memory_passes name type c s = running_changed c _ refl refl s

counted_passes : (b c : Context) → Passes b c → Passes b (counted c)
counted_passes b c p = passes_trans b c _ p (running_changed c _ refl refl p.stays.safe)

memory_param_passes : (name : Option (List ℕ)) (type : PlainType) (c : Context) → Safe c.scopes → Passes c (memory_param name type c)
memory_param_passes name type c s =
    let mem : ℕ = length c.running.mems in
    let x = with_register name type c in
    let y = with_memory (unwrap_or name []) type x in
    let z = with_named name (n.Object type mem) y in
    let xp : Passes c x = register_passes name type c s in
    let yp : Passes c y = passes_trans c x y xp (memory_passes (unwrap_or name []) type x s) in
    let zp : Passes c z = passes_trans c y z yp (named_passes name (n.Object type mem) y refl tt s) in
    passes_trans c z _ zp (grows_passes z _ zp.stays.safe (grows_write c.running.line type (Memory (atom.Mem mem)) (atom.Reg (local_register (length c.running.locals))) z))

register_param_passes : (name : Option (List ℕ)) (type : PlainType) (c : Context) → Safe c.scopes → Passes c (register_param name type c)
register_param_passes name type c s =
    let x = with_register name type c in
    passes_trans c x _ (register_passes name type c s) (named_passes name (n.Register type (length c.running.locals)) x refl tt s)

local_in_passes : (t : Bool) (name : List ℕ) (type : PlainType) (c : Context) → Safe c.scopes → Passes c (local_in t name type c).0
local_in_passes true name type c s =
    let x = with_memory name type c in
    passes_trans c x _ (memory_passes name type c s) (named_passes (Some name) (n.Object type (length c.running.mems)) x refl tt s)
local_in_passes false name type c s =
    let x = with_register (Some name) type c in
    passes_trans c x _ (register_passes (Some name) type c s) (named_passes (Some name) (n.Register type (length c.running.locals)) x refl tt s)

-- constants, specs and declarators

pub with_type_passes : (answer : Checked (names.Context × PlainType)) (b c : Context) → Reached (After (asked c)) answer → Passes b c → Reached (Passes b) (with_type answer c)
with_type_passes answer b c g p = search (arith, reached_after, reached_ok, passes_trans, told_passes)

pub tail_depth : (inner : List Table) (k : ℕ) → length inner ≡ suc k → length (scopes.tail inner) ≡ k
tail_depth inner k e = search arith fits 100

abbrev Kept : Bool → ℕ → Context → Context → Type 0
Kept deep n c d = Safe c.scopes → Passes c d

passes_step : Steps Any Kept
passes_step = record {
  stop = λ deep n c s. passes_refl c s;
  join = λ deep m n k a b c h x y s. let p = x s in passes_trans a b c p (y p.stays.safe);
  tells = λ deep t c m s. told_passes t c m s;
  retags = λ deep tags c s. tags_changed c tags s;
  enumerates = λ deep name value c s. after_passes name (n.Constant i.Int value) c refl tt s;
  names = λ deep name c s. named_passes (Some (tag_name name)) (n.Tag (Int i.Int)) c refl tt s;
  takes = λ name type c h s. counted_passes c _ (either_way (Passes c) (is_prototype c.scopes) (named_passes name (n.Object type 0) c refl tt s) (either_way (Passes c) (next_is_memory type c) (memory_param_passes name type c s) (register_param_passes name type c s)));
  lists = λ deep n parts c x q h s. search (arith, left_safe, tail_depth);
  unlists = λ deep c s. passes_beside c _ refl refl refl (stays_beside c _ s refl refl refl refl refl (λ h x. refl) refl (tied_refl c.functions c.scopes.file c.walked) (λ h name type i e. e));
}

pub constant_passes : (e : Tree) (b c : Context) → Passes b c → Reached (Passes b) (constant e c)
constant_passes e b c p z q = passes_trans b c z.0 p (constant_keeps (Kept false 0) (tagging Any Kept passes_step false) e c z q p.stays.safe)

pub specs_passes : (tree : Tree) (b c : Context) → Passes b c → Reached (Passes b) (specs tree c)
specs_passes tree b c p z q = passes_trans b c z.0 p (specs_keep Any Kept passes_step false tree c (any_names tree) z q p.stays.safe)

pub layers_pass : (tree : Tree) (b c : Context) → Passes b c → Reached (Passes b) (layers tree c)
layers_pass tree b c p z q = passes_trans b c z.0 p (layers_keep Any Kept passes_step false tree c (any_names tree) z q p.stays.safe)

-- specs and declarators make no objects at file scope, and leave what was made there

-- what was made at file scope stays, and as many scopes are open
pub record Levels (c d : Context) : Type 0 where
  pub settled : Settled c d
  pub depth : length d.scopes.inner ≡ length c.scopes.inner

pub levels_refl : (c : Context) → Levels c c
levels_refl c = record { settled = settled_refl c; depth = refl }

pub levels_trans : (a b c : Context) → Levels a b → Levels b c → Levels a c
levels_trans a b c x y = record { settled = settled_trans a b c x.settled y.settled; depth = y.depth ∙ x.depth }

pub grows_levels : (c d : Context) → Grows c d → Levels c d
grows_levels c d g = record { settled = grows_settled c d g; depth = more_depth c.scopes d.scopes g.names }

pub beside_levels : (c d : Context) → d.variables ≡ c.variables → d.literals ≡ c.literals → ObjectsStay c.scopes.file d.scopes.file → length d.scopes.inner ≡ length c.scopes.inner → Levels c d
beside_levels c d e1 e2 objects deep = record { settled = record { variables = e1; literals = λ i u q. subst (λ (ls : List (List ℕ)). slice_get ls i ≡ Some u) (sym e2) q; objects = objects }; depth = deep }

pub told_levels : (told_of : names.Context) (c : Context) → More c.scopes told_of.scopes → Levels c (told told_of c)
told_levels told_of c m = grows_levels c (told told_of c) (grows_told told_of c m)

-- names

pub declared_levels : (line : ℕ) (name : List ℕ) (named : PlainNamed) (b c : Context) → IsNoObject named → Levels b c → Led (Levels b) (declared_as line name named c)
declared_levels line name named b c h p = search (arith, led_unless, led_ok, levels_trans, beside_levels, declared_objects, with_name_objects, after_depth)

named_levels : (name : Option (List ℕ)) (named : PlainNamed) (c : Context) → 1 ≤ length c.scopes.inner → Levels c (with_named name named c)
named_levels name named c deep = search (arith, levels_refl, beside_levels, inner_objects, with_name_depth) fits 100

with_param_levels : (name : Option (List ℕ)) (type : PlainType) (c : Context) → 1 ≤ length c.scopes.inner → Levels c (with_param name type c)
with_param_levels name type c deep = let r = by (is_prototype c.scopes) in record { settled = record { variables = r.settled.variables; literals = r.settled.literals; objects = r.settled.objects }; depth = r.depth }
  where
    memory : Levels c (memory_param name type c)
    memory =
        let mem : ℕ = length c.running.mems in
        let y = with_memory (unwrap_or name []) type (with_register name type c) in
        let z = with_named name (n.Object type mem) y in
        let q = named_levels name (n.Object type mem) y deep in
        levels_trans c z _ (record { settled = record { variables = q.settled.variables; literals = q.settled.literals; objects = q.settled.objects }; depth = q.depth }) (grows_levels z _ (grows_write c.running.line type (Memory (atom.Mem mem)) (atom.Reg (local_register (length c.running.locals))) z))

    register : Levels c (register_param name type c)
    register = let q = named_levels name (n.Register type (length c.running.locals)) (with_register name type c) deep in record { settled = record { variables = q.settled.variables; literals = q.settled.literals; objects = q.settled.objects }; depth = q.depth }

    own : (t : Bool) → Levels c (cond t (memory_param name type c) (register_param name type c))
    own true = memory
    own false = register

    by : (t : Bool) → Levels c (cond t (prototype_param name type c) (function_param name type c))
    by true = named_levels name (n.Object type 0) c deep
    by false = own (next_is_memory type c)

-- constants, specs and declarators

-- a parameter list stands in a scope
abbrev least : Bool → ℕ
least true = 1
least false = 0

abbrev KeptObjects : Bool → ℕ → Context → Context → Type 0
KeptObjects deep n c d = least deep ≤ length c.scopes.inner → Levels c d

levels_step : Steps Any KeptObjects
levels_step = record {
  stop = λ deep n c h. levels_refl c;
  join = λ deep m n k a b c e x y h. let p = x h in levels_trans a b c p (y (omega (arith, p.depth, h)));
  tells = λ deep t c m h. told_levels t c m;
  retags = λ deep tags c h. beside_levels c _ refl refl (λ name type i e. e) refl;
  enumerates = λ deep name value c h. beside_levels c _ refl refl (declared_objects c.scopes name _ (with_name_objects c.scopes name (n.Constant i.Int value) tt)) (after_depth c.scopes name _);
  names = λ deep name c h. beside_levels c _ refl refl (with_name_objects c.scopes (tag_name name) (n.Tag (Int i.Int)) tt) (with_name_depth c.scopes (tag_name name) _);
  takes = λ name type c named h. with_param_levels name type c h;
  lists = λ deep n parts c x q p h. record { settled = record { variables = (p (omega arith)).settled.variables; literals = (p (omega arith)).settled.literals; objects = (p (omega arith)).settled.objects }; depth = tail_depth x.0.scopes.inner (length c.scopes.inner) (p (omega arith)).depth };
  unlists = λ deep c h. beside_levels c _ refl refl (λ name type i e. e) refl;
}

pub param_levels : (line : ℕ) (name : Option (List ℕ)) (type : PlainType) (b c : Context) → 1 ≤ length c.scopes.inner → Levels b c → Reached (Levels b) (param line name type c)
param_levels line name type b c deep p z q = levels_trans b c z.0 p (param_keeps Any KeptObjects levels_step line name type c (search arith fits 100) z q deep)

pub specs_level : (tree : Tree) (b c : Context) → Levels b c → Reached (Levels b) (specs tree c)
specs_level tree b c p z q = levels_trans b c z.0 p (specs_keep Any KeptObjects levels_step false tree c (any_names tree) z q (omega arith))

pub layers_level : (tree : Tree) (b c : Context) → Levels b c → Reached (Levels b) (layers tree c)
layers_level tree b c p z q = levels_trans b c z.0 p (layers_keep Any KeptObjects levels_step false tree c (any_names tree) z q (omega arith))

pub suffix_levels : (tree : Tree) (b c : Context) → Levels b c → Reached (Levels b) (suffix_layer tree c)
suffix_levels tree b c p z q = levels_trans b c z.0 p (suffix_keeps Any KeptObjects levels_step false tree c (any_names tree) z q (omega arith))

-- what initializers do to what is known

-- a local, whose initializers are code
abbrev pub IsLocal : Target → Type 0
IsLocal (InRegister line register) = Unit {0}
IsLocal (InMemory line mem) = Unit {0}
IsLocal (InStatic start) = ⊥

pub record Fills (t : Target) (b : Context) (x : Context × Target) : Type 0 where
  pub stays : Stays b x.0
  pub passes : IsLocal t → Passes b x.0
  pub same : IsLocal t → IsLocal x.1

fills_trans : (t u v : Target) (b c d : Context) → Fills t b (c, u) → Fills u c (d, v) → Fills t b (d, v)
fills_trans t u v b c d x y = record {
  stays = stays_trans b c d x.stays y.stays;
  passes = λ h. passes_trans b c d (x.passes h) (y.passes (x.same h));
  same = λ h. y.same (x.same h);
}

-- what grows from one context to another
local_fills : (t : Target) (b c : Context) → Safe b.scopes → Grows b c → Fills t b (c, t)
local_fills t b c s g = record { stays = grows_stays b c s g; passes = λ h. grows_passes b c s g; same = λ h. h }

static_fills : (start filled : Start) (b c : Context) → Stays b c → Fills (InStatic start) b (c, InStatic filled)
static_fills start filled b c s = record { stays = s; passes = λ h. absurd h; same = λ h. absurd h }

grows_place : (line mem offset : ℕ) (c : Context) → Grows c (member_place line mem offset c).0
grows_place line mem offset c = grows_pointer line (λ p. Off p (atom.Mem mem) (pos offset)) c (λ p. tt)

-- leaves

fill_scalar_fills : (e : Tree) (line : ℕ) (type : PlainType) (offset : ℕ) (b : Context) (d : Context × Found) (t : Target) → Safe b.scopes → Grows (opened e b) d.0
    → Led (Fills t b) (fill_scalar e line type offset (opened e b).code d t)
fill_scalar_fills e line type offset b d (InRegister at register) s g =
    let begun = opened e b in
    let v = convert at begun.code type d.1.typed (atom_in d.1) d.0 in
    led_ok (Fills (InRegister at register) b)
    (local_fills (InRegister at register) b (closed e (write at type (Local register) v.1 v.0)) s
    (grows_closed e b (write at type (Local register) v.1 v.0) s
    (grows_trans begun v.0 _ (grows_convert at begun type d.1.typed (atom_in d.1) d.0 g) (grows_write at type (Local register) v.1 v.0))))
fill_scalar_fills e line type offset b d (InMemory at mem) s g =
    let begun = opened e b in
    let v = convert at begun.code type d.1.typed (atom_in d.1) d.0 in
    let place = member_place at mem offset v.0 in
    led_ok (Fills (InMemory at mem) b)
    (local_fills (InMemory at mem) b (closed e (store_at at type v.1 place)) s
    (grows_closed e b (store_at at type v.1 place) s
    (grows_trans begun v.0 _ (grows_convert at begun type d.1.typed (atom_in d.1) d.0 g)
    (grows_trans v.0 place.0 _ (grows_place at mem offset v.0) (grows_write at type (Memory place.1) v.1 place.0)))))
fill_scalar_fills e line type offset b d (InStatic start) s g =
    led_after (Fills (InStatic start) b) (static_scalar line type offset start d.1)
    (λ filled h. led_ok (Fills (InStatic start) b) (static_fills start filled b d.0 (opened_stays e b d.0 s g)))

scalar_fills : (e : Tree) (line : ℕ) (type : PlainType) (offset : ℕ) (t : Target) (b : Context) → Safe b.scopes → Led (Fills t b) (scalar e line type offset t b)
scalar_fills e line type offset t b s =
    let begun = opened e b in
    led_after (Fills t b) (valued e (found e type begun))
    (λ d h. led_barred (Fills t b) (unconverted type d.1.typed) line
    (fill_scalar_fills e line type offset b d t s (grown_valued e begun (found e type begun) (found_grows e type begun begun (grows_refl begun)) d h)))

fill_record_fills : (e : Tree) (line : ℕ) (type : PlainType) (offset : ℕ) (b : Context) (d : Context × Found) (t : Target) → Safe b.scopes → Grows (opened e b) d.0
    → Led (Fills t b) (fill_record e line type offset d t)
fill_record_fills e line type offset b d (InMemory at mem) s g =
    let place = member_place at mem offset d.0 in
    led_ok (Fills (InMemory at mem) b)
    (local_fills (InMemory at mem) b (closed e (copy_to at type (atom_in d.1) place)) s
    (grows_closed e b (copy_to at type (atom_in d.1) place) s
    (grows_trans (opened e b) d.0 _ g (grows_trans d.0 place.0 _ (grows_place at mem offset d.0) (grows_emit at (Copy place.1 (atom_in d.1) (pos (size_or_zero place.0 type))) place.0 tt)))))
fill_record_fills e line type offset b d t s g = led_refused (Fills t b)

whole_fills : (e : Tree) (line : ℕ) (type : PlainType) (offset : ℕ) (t : Target) (b : Context) → Safe b.scopes → Led (Fills t b) (whole e line type offset t b)
whole_fills e line type offset t b s = search (arith, led_after, led_unless, not, fill_record_fills, found_grows, grows_refl)

-- a string literal opens no scope
not_opened : (e : Tree) (b c : Context) (r : Bool) → reallocates b.scopes e ≡ r → r ≡ false → Grows (opened e b) c → Grows b c
not_opened e b c r same closed_one g =
    grows_trans b (anew b) c (grows_code b _ refl refl) (subst (λ t. Grows (cond t (emit (code_line e) Enter (anew b)) (anew b)) c) (same ∙ closed_one) g)

text_opens_none : (e : Tree) (s : ScopeList) (bytes : List ℕ) → text e ≡ Some bytes → reallocates s e ≡ false
unfolding reallocates
text_opens_none e s bytes h = search arith fits 100

fill_text_fills : (e : Tree) (line : ℕ) (bytes : List ℕ) (size offset : ℕ) (t : Target) (b : Context) → text e ≡ Some bytes → Safe b.scopes → Led (Fills t b) (fill_text e line bytes size offset t b)
fill_text_fills e line bytes size offset (InMemory at mem) b is s =
    let begun = opened e b in
    led_after (Fills (InMemory at mem) b) (with_literal line bytes begun)
    (λ d h. let place = member_place at mem offset d.0 in
    let k : ℕ = min (length bytes + 1) size in
    led_ok (Fills (InMemory at mem) b)
    (local_fills (InMemory at mem) b (emit at (Copy place.1 (atom.Static d.1) (pos k)) place.0) s
    (not_opened e b _ (reallocates b.scopes e) refl (text_opens_none e b.scopes bytes is)
    (grows_trans begun d.0 _ (grown_literal line bytes begun begun (grows_refl begun) d h)
    (grows_trans d.0 place.0 _ (grows_place at mem offset d.0) (grows_emit at (Copy place.1 (atom.Static d.1) (pos k)) place.0 tt))))))
fill_text_fills e line bytes size offset t b is s = search (arith, led_ok, static_fills, passes_refl, led_refused) fits 100

by_text_fills : (e : Tree) (line : ℕ) (element : PlainType) (size offset : ℕ) (found_text : Option (List ℕ)) (t : Target) (b : Context) → text e ≡ found_text → Safe b.scopes
    → Led (Fills t b) (by_text e line element size offset found_text t b)
by_text_fills e line element size offset None t b is s = whole_fills e line (Array element size) offset t b s
by_text_fills e line element size offset (Some bytes) t b is s =
    either_way (Led (Fills t b)) (is_character element)
    (λ z q. fill_text_fills e line bytes size offset t b is s z (behind_string line bytes (fill_text e line bytes size offset t b) z q))
    (whole_fills e line (Array element size) offset t b s)

by_expression_fills : (e : Tree) (line : ℕ) (type : PlainType) (offset : ℕ) (t : Target) (b : Context) → Safe b.scopes → Led (Fills t b) (by_expression e line type offset t b)
by_expression_fills e line (Array element size) offset t b s = by_text_fills e line element size offset (text e) t b refl s
by_expression_fills e line type offset t b s = search (arith, whole_fills, scalar_fills) fits 100

mutual
  unfolding initialize initialize_parts

  pub initialize_fills : (tree : Tree) (in_scalar : Bool) (type : PlainType) (offset : ℕ) (t : Target) (b : Context) → Safe b.scopes → Led (Fills t b) (initialize tree in_scalar type offset t b)
  initialize_fills (Node f.InitExpr (At line ▹ e ▹ none)) in_scalar type offset t b s = by_expression_fills e (line_of e) type offset t b s
  initialize_fills (Node (f.InitList trailing) (At line ▹ Node f.Inits inits ▹ none)) in_scalar type offset t b s =
      elim (takes_braces type in_scalar) as (λ k. Led (Fills t b) (cond k (initialize_parts line inits (is_scalar_type type) (parts_of b (count inits) type offset) t b) (then (all_surplus inits b) (λ d. refused Assignment line)))) [
        | true ↦ parts_fill inits line (is_scalar_type type) (parts_of b (count inits) type offset) t b s
        | false ↦ led_after (Fills t b) (all_surplus inits b) (λ d h. led_refused (Fills t b))
      ]
  initialize_fills tree in_scalar type offset t b s = led_refused (Fills t b)

  parts_fill : (inits : Trees) (line : ℕ) (in_scalar : Bool) (parts : List (PlainType × ℕ)) (t : Target) (b : Context) → Safe b.scopes → Led (Fills t b) (initialize_parts line inits in_scalar parts t b)
  parts_fill none line in_scalar parts t b s = led_ok (Fills t b) (record { stays = (passes_refl b s).stays; passes = λ h. passes_refl b s; same = λ h. h })
  parts_fill (init ▹ rest) line in_scalar [] t b s = led_after (Fills t b) (all_surplus (init ▹ rest) b) (λ d h. led_refused (Fills t b))
  parts_fill (init ▹ rest) line in_scalar (part ∷ parts) t b s =
      led_after (Fills t b) (initialize init in_scalar part.0 part.1 t b)
      (λ d h z e. let one : Fills t b d = initialize_fills init in_scalar part.0 part.1 t b s d h in
      fills_trans t d.1 z.1 b d.0 z.0 one (parts_fill rest line in_scalar parts d.1 d.0 one.stays.safe z e))

-- a function that is declared at file scope has a number from then on

pub record Introduced (name : List ℕ) (index : ℕ) (c d : Context) : Type 0 where
  pub passes : Passes c d
  pub type : PlainType
  pub there : named_in name d.scopes.file ≡ Some (n.Function type index)

refused_first : (R : Context → Type 0) (line : ℕ) (x : Checked Context) (next : Context → Checked Context) → Led R (then (unless true DeclaredTwice line x) next)
refused_first R line x next d h = never (R d) _ d h

-- a function that stands twice in the list would have a number of its own
again_tied : (fs : List Declared) (file : Table) (ws : List Walked) (name : List ℕ) (type : PlainType) (j : ℕ) → named_in name file ≡ Some (n.Function type j) → length fs ≤ j
    → Tied fs file ws (fs ++ (record { name = name; defined = None }) ∷ []) file ws
again_tied fs file ws name type j e far = search (arith, get_left, get_below, get_push)

module _ (line : ℕ) (name : List ℕ) (type : PlainType) (c : Context) (file : Table) (s : Safe (record { file = file; inner = [] })) where
  abbrev flat : Context
  flat = record c { scopes = record { file = file; inner = [] } }

  abbrev number : Option PlainNamed → ℕ
  number o = function_number_of flat o

  abbrev scopes_for : Option PlainNamed → Context
  scopes_for o = record flat { scopes = cond (is_some o) flat.scopes (with_name flat.scopes name (n.Function type (number o))) }

  abbrev Goal : Option PlainNamed → Type 0
  Goal o = Led (Introduced name (number o) flat) (then (unless (is_twice_in true (n.Function type (number o)) o) DeclaredTwice line (Ok (scopes_for o))) (λ d. Ok (with_function (number o) name d)))

  again : (t : PlainType) (j : ℕ) → named_in name file ≡ Some (n.Function t j) → (k : Bool) → nat_lt j (length c.functions) ≡ k
      → Introduced name j flat (cond k flat (record flat { functions = c.functions ++ (record { name = name; defined = None }) ∷ [] }))
  again t j e true q = record { passes = passes_refl flat s; type = t; there = e }
  again t j e false q = search (arith, passes_beside, stays_beside, again_tied, ltb-false)

  first_one : named_in name file ≡ None → (k : Bool) → nat_lt (length c.functions) (length c.functions) ≡ k
      → Introduced name (length c.functions) flat (cond k (scopes_for None) (record (scopes_for None) { functions = c.functions ++ (record { name = name; defined = None }) ∷ [] }))
  first_one e true q = absurd (omega (arith, ltb-true (length c.functions) (length c.functions) q))
  first_one e false q = record {
    passes = passes_beside flat (record (scopes_for None) { functions = c.functions ++ (record { name = name; defined = None }) ∷ [] }) refl refl refl
        (stays_beside flat (record (scopes_for None) { functions = c.functions ++ (record { name = name; defined = None }) ∷ [] }) (with_name_safe flat.scopes name (n.Function type (length c.functions)) refl s) refl refl refl refl refl (λ k. k) refl
        (tied_function c.functions file c.walked name type e) (λ h. absurd (omega (arith, h))));
    type = type;
    there = here c.functions file c.walked name type e;
  }

  introduced_by : (o : Option PlainNamed) → named_in name file ≡ o → Goal o
  introduced_by None e =
      led_after (Introduced name (number None) flat) (unless false DeclaredTwice line (Ok (scopes_for None)))
      (λ d h. subst (λ (x : Context). Led (Introduced name (number None) flat) (Ok (with_function (number None) name x))) (ok_same (scopes_for None) d h)
      (led_ok (Introduced name (number None) flat) (first_one e (nat_lt (length c.functions) (length c.functions)) refl)))
  introduced_by (Some (n.Function t j)) e =
      led_after (Introduced name j flat) (unless (is_twice_in true (n.Function type j) (Some (n.Function t j))) DeclaredTwice line (Ok (scopes_for (Some (n.Function t j)))))
      (λ d h. subst (λ (x : Context). Led (Introduced name j flat) (Ok (with_function j name x))) (search (arith, never, ok_same) fits 100)
      (led_ok (Introduced name j flat) (again t j e (nat_lt j (length c.functions)) refl)))
  introduced_by (Some other) e = refused_first (Introduced name (number (Some other)) flat) line (Ok (scopes_for (Some other))) (λ d. Ok (with_function (number (Some other)) name d))

  introduced_flat : Led (Introduced name (function_number name flat) flat) (declared_function line name type flat)
  introduced_flat = introduced_by (named_in name file) refl

pub introduced : (line : ℕ) (name : List ℕ) (type : PlainType) (c : Context) → Safe c.scopes → length c.scopes.inner ≡ 0 → Led (Introduced name (function_number name c) c) (declared_function line name type c)
introduced line name type c s e =
    let s0 : Safe (record { file = c.scopes.file; inner = [] }) = record { file = s.file; inner = tt } in
    let at : record c { scopes = record { file = c.scopes.file; inner = [] } } ≡ c = ap (λ (i : List Table). record c { scopes = record { file = c.scopes.file; inner = i } }) (no_scope c.scopes.inner e) in
    subst (λ (x : Context). Led (Introduced name (function_number name x) x) (declared_function line name type x)) at (introduced_flat line name type c c.scopes.file s0)

-- what declarations do to what is known

-- locals

cleared_passes : (line : ℕ) (type : PlainType) (mem : Atom) (c : Context) → Safe c.scopes → Passes c (cleared line type mem c)
cleared_passes line type mem c s = grows_passes c _ s (grows_emit line (Clear mem (pos (size_or_zero c type))) c tt)

fill_memory_passes : (line : ℕ) (type : PlainType) (inits : Trees) (mem : Atom) (c : Context) → Safe c.scopes → Led (Passes c) (fill_memory line type inits mem c)
fill_memory_passes line type (init ▹ rest) (atom.Mem mem) c s =
    let d = cleared line type (atom.Mem mem) c in
    let first = cleared_passes line type (atom.Mem mem) c s in
    led_after (Passes c) (initialize init false type 0 (InMemory line mem) d)
    (λ x h. led_ok (Passes c) (passes_trans c d x.0 first ((initialize_fills init false type 0 (InMemory line mem) d s x h).passes tt)))
fill_memory_passes line type inits mem c s = led_ok (Passes c) (cleared_passes line type mem c s)

fill_register_passes : (line : ℕ) (type : PlainType) (inits : Trees) (register : ℕ) (c : Context) → Safe c.scopes → Led (Passes c) (fill_register line type inits register c)
fill_register_passes line type none register c s = led_ok (Passes c) (grows_passes c _ s (grows_emit line (Set register (zero_of type)) c tt))
fill_register_passes line type (init ▹ rest) register c s =
    led_after (Passes c) (initialize init false type 0 (InRegister line register) c)
    (λ x h. led_ok (Passes c) ((initialize_fills init false type 0 (InRegister line register) c s x h).passes tt))

fill_at_passes : (line : ℕ) (type : PlainType) (inits : Trees) (spot : Spot) (c : Context) → Safe c.scopes → Led (Passes c) (fill_at line type inits spot c)
fill_at_passes line type inits (Local register) c s = fill_register_passes line type inits register c s
fill_at_passes line type inits (Memory mem) c s = fill_memory_passes line type inits mem c s
fill_at_passes line type inits other c s = led_ok (Passes c) (passes_refl c s)

local_object_passes : (line : ℕ) (name : List ℕ) (type : PlainType) (inits : Trees) (b c : Context) → Passes b c → Led (Passes b) (local_object line name type inits c)
local_object_passes line name type inits b c p =
    let x = with_local name type c in
    let q : Passes c x.0 = counted_passes c _ (local_in_passes (next_is_memory type c) name type c p.stays.safe) in
    led_unless (Passes b) (is_function type) LeftOut line (λ e1.
    led_unless (Passes b) (has_no_size c.tags type) Incomplete line (λ e2.
    led_unless (Passes b) (is_twice c.scopes name (n.Object type 0)) DeclaredTwice line (λ e3.
    (λ d e. passes_trans b x.0 d (passes_trans b c x.0 p q) ((fill_at_passes line type inits x.1 x.0 q.stays.safe) d e)))))

local_name_passes : (line : ℕ) (storage : Storage) (name : List ℕ) (type : PlainType) (inits : Trees) (b c : Context) → Passes b c → Led (Passes b) (local_name line storage name type inits c)
local_name_passes line Typedef name type inits b c p = declared_passes line name (n.Typedef type) b c refl tt p
local_name_passes line Outside name type inits b c p = led_refused (Passes b)
local_name_passes line Plain name type inits b c p = local_object_passes line name type inits b c p

-- file scope

no_initializer_stays : (inits : Trees) (c : Context) → Safe c.scopes → Led (Stays c) (no_initializer inits c)
no_initializer_stays none c s = led_ok (Stays c) (passes_refl c s).stays
no_initializer_stays (init ▹ rest) c s = led_after (Stays c) (surplus init c) (λ d h. led_refused (Stays c))

set_bytes : (variables : List Variable) (index : ℕ) (v : Variable) (start : Option Start) → slice_get variables index ≡ Some v → variable_bytes (slice_set variables index (record v { start = start })) ≡ variable_bytes variables
set_bytes (x ∷ xs) (suc i) v start e =
    let size : Variable → ℕ = λ (y : Variable). block_size y.layout.size in
    sum_by-cons size x (slice_set xs i (record v { start = start })) ∙ ap (λ k. size x + k) (set_bytes xs i v start e) ∙ sym (sum_by-cons size x xs)
set_bytes variables index v start e = search (arith, sum_by-cons) fits 100

fill_variable_stays : (line index : ℕ) (type : PlainType) (inits : Trees) (c : Context) → Safe c.scopes → length c.scopes.inner ≡ 0 → Led (Stays c) (fill_variable line index type inits c)
fill_variable_stays line index type none c s flat = led_ok (Stays c) (passes_refl c s).stays
fill_variable_stays line index type (init ▹ rest) c s flat =
    led_unless (Stays c) (is_some (start_of (slice_get c.variables index))) DeclaredTwice line (λ q.
    led_after (Stays c) (initialize init false type 0 (InStatic no_start) c)
    (λ d h. let one = (initialize_fills init false type 0 (InStatic no_start) c s d h).stays in
    led_ok (Stays c) (stays_trans c d.0 _ one (search (arith, tied_refl, set_bytes)))))

file_object_stays : (line : ℕ) (name : List ℕ) (type : PlainType) (inits : Trees) (c : Context) → Safe c.scopes → length c.scopes.inner ≡ 0 → Led (Stays c) (file_object line name type inits c)
file_object_stays line name type inits c s flat =
    let index = variable_number_of c (named_in name c.scopes.file) in
    led_unless (Stays c) (has_no_size c.tags type) Incomplete line (λ q.
    led_after (Stays c) (declared_as line name (n.Object type index) c)
    (λ d h. let one = (declared_passes line name (n.Object type index) c c refl tt (passes_refl c s) d h).stays in
    led_after (Stays c) (with_variable line index name type d)
    (λ v k x e. let two = (either_way (Led (Stays d)) (nat_lt index (length d.variables)) (led_ok (Stays d) (passes_refl d one.safe).stays) (grind (arith, true, false, ok_same, tied_refl, sum_by-append, variable_bytes, ltb-false))) v k in
    stays_trans c v x (stays_trans c d v one two) (fill_variable_stays line index type inits v two.safe (two.depth ∙ one.depth ∙ flat) x e))))

file_function_stays : (line : ℕ) (name : List ℕ) (type : PlainType) (inits : Trees) (c : Context) → Safe c.scopes → length c.scopes.inner ≡ 0 → Led (Stays c) (file_function line name type inits c)
file_function_stays line name type inits c s flat =
    led_after (Stays c) (declared_function line name type c)
    (λ d h x e. let one = (introduced line name type c s flat d h).passes.stays in stays_trans c d x one (no_initializer_stays inits d one.safe x e))

file_value_stays : (line : ℕ) (name : List ℕ) (type : PlainType) (inits : Trees) (c : Context) → Safe c.scopes → length c.scopes.inner ≡ 0 → Led (Stays c) (file_value line name type inits c)
file_value_stays line name type inits c s flat =
    either_way (Led (Stays c)) (is_built_in type (named_in name c.scopes.file)) (no_initializer_stays inits c s)
    (either_way (Led (Stays c)) (is_function type) (file_function_stays line name type inits c s flat) (file_object_stays line name type inits c s flat))

file_name_stays : (line : ℕ) (storage : Storage) (name : List ℕ) (type : PlainType) (inits : Trees) (c : Context) → Safe c.scopes → length c.scopes.inner ≡ 0 → Led (Stays c) (file_name line storage name type inits c)
file_name_stays line Typedef name type inits c s flat = λ d h. (declared_passes line name (n.Typedef type) c c refl tt (passes_refl c s) d h).stays
file_name_stays line other name type inits c s flat = file_value_stays line name type inits c s flat

-- names with their initializers, at file scope and inside functions
pub record Declares (file : Bool) (b c : Context) : Type 0 where
  pub stays : Stays b c
  pub passes : file ≡ false → Passes b c

passed : (file : Bool) (b c : Context) → Passes b c → Declares file b c
passed file b c p = record { stays = p.stays; passes = λ e. p }

declares_trans : (file : Bool) (a b c : Context) → Declares file a b → Declares file b c → Declares file a c
declares_trans file a b c x y = record { stays = stays_trans a b c x.stays y.stays; passes = λ e. passes_trans a b c (x.passes e) (y.passes e) }

name_in_declares : (file : Bool) (line : ℕ) (storage : Storage) (name : Option (List ℕ)) (type : PlainType) (inits : Trees) (c : Context) → Safe c.scopes → (file ≡ true → length c.scopes.inner ≡ 0) → Led (Declares file c) (name_in file line storage name type inits c)
name_in_declares true line storage None type inits c s flat = led_ok (Declares true c) (passed true c c (passes_refl c s))
name_in_declares false line storage None type inits c s flat = led_ok (Declares false c) (passed false c c (passes_refl c s))
name_in_declares true line storage (Some name) type inits c s flat =
    λ d h. record { stays = file_name_stays line storage name type inits c s (flat refl) d h; passes = λ e. absurd (true≢false e) }
name_in_declares false line storage (Some name) type inits c s flat = λ d h. passed false c d (local_name_passes line storage name type inits c c (passes_refl c s) d h)

pub entry_declares : (file : Bool) (line : ℕ) (storage : Storage) (base : PlainType) (declarator : Tree) (inits : Trees) (c : Context) → Safe c.scopes → (file ≡ true → length c.scopes.inner ≡ 0) → Led (Declares file c) (entry file line storage base declarator inits c)
entry_declares file line storage base declarator inits c s flat =
    led_after (Declares file c) (layers declarator c)
    (λ l h. let one = layers_pass declarator c c (passes_refl c s) l h in
    led_after (Declares file c) (with_init_layers l.0.tags l.1 inits base)
    (λ type k x e. declares_trans file c l.0 x (passed file c l.0 one) (name_in_declares file line storage (name_of declarator) type inits l.0 one.stays.safe (λ t. one.stays.depth ∙ flat t) x e)))

pub entries_declare : (names : Trees) (file : Bool) (line : ℕ) (storage : Storage) (base : PlainType) (c : Context) → Safe c.scopes → (file ≡ true → length c.scopes.inner ≡ 0) → Led (Declares file c) (entries file line storage base names c)
unfolding entries
entries_declare none file line storage base c s flat = led_ok (Declares file c) (passed file c c (passes_refl c s))
entries_declare (Node f.Entry (Node f.Declared (declarator ▹ none) ▹ Node f.MaybeInit inits ▹ none) ▹ rest) file line storage base c s flat =
    led_after (Declares file c) (entry file line storage base declarator inits c)
    (λ d h x e. let one = entry_declares file line storage base declarator inits c s flat d h in
    declares_trans file c d x one (entries_declare rest file line storage base d one.stays.safe (λ t. one.stays.depth ∙ flat t) x e))
entries_declare (tree ▹ rest) file line storage base c s flat = led_refused (Declares file c)

specs_alone_passes : (tree : Tree) (c : Context) → Safe c.scopes → Reached (Passes c) (specs_alone tree c)
specs_alone_passes (Node f.Specs (At line ▹ Node (f.RecordTag sort) (At at ▹ Leaf (w.Name name) ▹ none) ▹ none)) c s =
    with_type_passes (tag_named at sort name (asked c) (named_in (tag_name name) (innermost c.scopes))) c c (tag_after at sort name (asked c) (named_in (tag_name name) (innermost c.scopes))) (passes_refl c s)
specs_alone_passes tree c s = specs_passes tree c c (passes_refl c s)

pub specs_before_passes : (tree : Tree) (names : Trees) (c : Context) → Safe c.scopes → Reached (Passes c) (specs_before tree names c)
specs_before_passes tree none c s = specs_alone_passes tree c s
specs_before_passes tree (name ▹ rest) c s = specs_passes tree c c (passes_refl c s)

pub declaration_declares : (file : Bool) (line : ℕ) (words tree : Tree) (c : Context) → Safe c.scopes → (file ≡ true → length c.scopes.inner ≡ 0) → Led (Declares file c) (declaration file line words tree c)
unfolding declaration
declaration_declares file line words (Node f.Names names) c s flat =
    led_after (Declares file c) (specs_before words names c)
    (λ base h x e. let one = specs_before_passes words names c s base h in
    declares_trans file c base.0 x (passed file c base.0 one) (entries_declare names file line (storage_of words) base.1 base.0 one.stays.safe (λ t. one.stays.depth ∙ flat t) x e))
declaration_declares file line words tree c s flat = led_refused (Declares file c)
