-- Initializers and declarations keep whole types, and what they make has the layouts of types (C99 6.7, 6.7.8, 6.9.2).
use Rattle.core_soundness.proofs.Words.Std.{◌≡◌, ◌≤◌, ◌+◌, not, ℕ, zero, suc, pos, Bool, true, false, is_some, nat_lt, min, length, List, [], ◌∷◌, slice_get, slice_set, Option, Some, None, unwrap_or, Ok, refl, subst, arith}
use Rattle.core_soundness.proofs.Words.Trees.{name_of, Tree, Trees, Leaf, At, Node, none, ◌▹◌, count}
use Rattle.core_soundness.proofs.Words.Types.{Known, no_layout, TagTable, known, layout_in, PlainType, Array, line_of, string, Checked, refused, then, unless, named_in, innermost, tag_name, after_declaration, Layer, ArrayOf, layered_before, tag_named, is_function, has_no_size, Assignment, DeclaredTwice, Incomplete, LeftOut, StaticTooLarge, is_built_in}
use Rattle.core_soundness.proofs.Words.Core.{block_size, IsLayoutOfType, IsNumber, Start, Atom, Set, Clear, Off, Copy}
use Rattle.core_soundness.proofs.Words.Elaborating.{Context, Variable, asked, emit, Found, Spot, Local, Memory, atom_in, valued, convert, write, size_or_zero, Storage, Typedef, Outside, storage_of, specs_alone, specs_before, zero_of, cleared, fill_memory, fill_register, fill_at, fill_local, local_object, local_name, function_number, with_function, declared_function, no_initializer, variable_number_of, with_new_variable, with_variable, start_of, started_variable, started, fill_variable, file_object, file_function, file_value, file_name, name_in, entry, entries, declaration, layers, found, Target, InRegister, InMemory, InStatic, static_scalar, member_place, store_at, fill_scalar, scalar, copy_to, fill_record, is_same_place, whole, fill_text, is_character, text, by_text, by_expression, parts_of, takes_braces, is_scalar_type, all_surplus, initialize, initialize_parts, no_start, text_length, given_length, with_init_layers, not_whole, is_twice, declared_as, next_is_memory, with_memory, with_register, local_in, counted_local, with_local, opened, with_static, with_literal}
use Rattle.core_soundness.proofs.Words.Facts.{AtomIn, VariablesLaid, Solid, Whole, HasParts, Written, AllWritten}
use Rattle.c_types.specs.TagTableEquations.{Extends}
use Rattle.core_tree.specs.declared.statements.Atom.TheVariants as atom
use Rattle.c_tree.specs.Forms as f
use Rattle.c_tree.specs.Words as w
use Rattle.c_decls.specs.Named as n
use Rattle.elaboration.specs.Declarations as storages
use Rattle.core_soundness.proofs.CodeWalk.{quiet_literal}
use Rattle.core_soundness.proofs.Growth.{grows_refl, Longer, grown_literal, Led, led_ok, led_refused, led_after, led_unless, led_barred, behind_string}
use Rattle.core_soundness.proofs.Ranged as base
use Rattle.core_soundness.proofs.Ranged.{In, in_emit, in_pointer, zero_number, small_number, size_number, SpotIn, spot_atom, convert_in, write_in, Within, PartsIn, within_stays, parts_stay, within_number, parts_in, starts_within, row_short, variables_push, K, same_kept, same_widens, converted_widens, laid, fit_of}
use Rattle.core_soundness.proofs.RangedFound.{literal_in, Rises, rises_refl, rises_trans, opened_rises, closed_rises, went_rises, found_went, value_went, rises_more, coded_rises, with_code}
use Rattle.core_soundness.proofs.SolidLayers.{T, R1, named_rises, declared_rises, typedef_rises, memory_rises, has_size, specs_rise, layers_rise, type_rises}
use Rattle.core_soundness.proofs.Sorting.{passed}
use Rattle.core_soundness.proofs.TagSorts.{SortedName, tag_leads, SortedType, type_longer, tag_sorted, init_layers_sorted, Sorts, kinds_refl}
use Rattle.core_soundness.proofs.TypedWhole.{LayersWhole, LayerWhole, led_cond, layered_whole, before_whole, tag_good}
use Rattle.core_soundness.proofs.Walks.{grows_convert, grows_write}
use Rattle.core_soundness.proofs.WholeTypes.{whole_stays, extends_refl, some_stays, some_layout}
use Rattle.core_soundness.proofs.Choices.{either_way}
use Rattle.core_soundness.proofs.Scopes.{innermost_fits}

-- initializers

-- the value of an expression, converted behind its full expression's start
pub record Scalar (e : Tree) (at : ℕ) (type : PlainType) (c : Context) (d : Context × Found) : Type 0 where
  pub rises : Rises c (convert at (opened e c).code type d.1.typed (atom_in d.1) d.0).0
  pub fits : In c → AtomIn (convert at (opened e c).code type d.1.typed (atom_in d.1) d.0).1

pub scalar_value : (e : Tree) (at : ℕ) (type : PlainType) (c : Context) (d : Context × Found) → Solid c → Written e → Whole (K c) type → valued e (found e type (opened e c)) ≡ Ok d → Scalar e at type c d
scalar_value e at type c d h w t q =
    let begun = opened e c in
    let o = opened_rises e c h in
    let v = value_went e type begun d o.solid w (whole_stays type (K c) (K begun) o.more t) q in
    let x = convert at begun.code type d.1.typed (atom_in d.1) d.0 in
    let a = converted_widens at begun type d v.gone.grows v.gone.rises.solid in
    let g = base.widens_trans begun d.0 x.0 v.gone.rises a in
    let s = λ (k : In c). (let r = v.fits (o.code k) in convert_in at begun.code type d.1.typed (atom_in d.1) d.0 (o.code k) r.0 (spot_atom d.1.spot r.1)) in
    record { rises = rises_more c begun x.0 o g (grows_convert at begun type d.1.typed (atom_in d.1) d.0 v.gone.grows) (λ k. (s k).0); fits = λ k. (s k).1 }

fill_scalar_rises : (e : Tree) (line : ℕ) (type : PlainType) (offset : ℕ) (target : Target) (c : Context) (d : Context × Found) → Solid c → Written e → Whole (K c) type → IsNumber (pos offset) → valued e (found e type (opened e c)) ≡ Ok d → Led (R1 c) (fill_scalar e line type offset (opened e c).code d target)
fill_scalar_rises e line type offset (InRegister at register) c d h w t m q =
    let v = scalar_value e at type c d h w t q in
    let x = convert at (opened e c).code type d.1.typed (atom_in d.1) d.0 in
    let s = write at type (Local register) x.1 x.0 in
    let b = base.write_widens at type (Local register) x.1 x.0 v.rises.solid in
    let y = rises_more c x.0 s v.rises b (grows_write at type (Local register) x.1 x.0) (λ k. write_in at type (Local register) x.1 x.0 (v.rises.code k) tt (v.fits k)) in
    led_ok (R1 c) (rises_trans c s _ y (closed_rises e s y.solid))
fill_scalar_rises e line type offset (InMemory at mem) c d h w t m q =
    let v = scalar_value e at type c d h w t q in
    let x = convert at (opened e c).code type d.1.typed (atom_in d.1) d.0 in
    let place = member_place at mem offset x.0 in
    let s = store_at at type x.1 place in
    let b = base.write_widens at type (Memory place.1) x.1 place.0 v.rises.solid in
    let p = λ (k : In c). in_pointer at (λ p. Off p (atom.Mem mem) (pos offset)) x.0 (v.rises.code k) (λ r. ((tt, tt), m)) in
    let y = rises_more c place.0 s (coded_rises c x.0 place.0.code v.rises (λ k. (p k).0)) b (grows_write at type (Memory place.1) x.1 place.0) (λ k. write_in at type (Memory place.1) x.1 place.0 (p k).0 (p k).1 (v.fits k)) in
    led_ok (R1 c) (rises_trans c s _ y (closed_rises e s y.solid))
fill_scalar_rises e line type offset (InStatic start) c d h w t m q =
    let begun = opened e c in
    let o = opened_rises e c h in
    let v = value_went e type begun d o.solid w (whole_stays type (K c) (K begun) o.more t) q in
    led_after (R1 c) (static_scalar line type offset start d.1) (λ filled s. led_ok (R1 c) (rises_trans c begun d.0 o (went_rises begun d v)))

scalar_rises : (e : Tree) (line : ℕ) (type : PlainType) (offset : ℕ) (target : Target) (c : Context) → Solid c → Written e → Whole (K c) type → IsNumber (pos offset) → Led (R1 c) (scalar e line type offset target c)
scalar_rises e line type offset target c h w t m = search (arith, led_after, led_barred, fill_scalar_rises)

fill_record_rises : (e : Tree) (line : ℕ) (type : PlainType) (offset : ℕ) (c : Context) (d : Context × Found) (target : Target) → Rises c d.0 → (In c → SpotIn d.1.spot) → Whole (K c) type → IsNumber (pos offset) → Led (R1 c) (fill_record e line type offset d target)
fill_record_rises e line type offset c d (InMemory at mem) r f t m =
    let place = member_place at mem offset d.0 in
    let s = copy_to at type (atom_in d.1) place in
    let y = coded_rises c d.0 s.code r
    (λ k. let p = in_pointer at (λ p. Off p (atom.Mem mem) (pos offset)) d.0 (r.code k) (λ r. ((tt, tt), m)) in
    in_emit at (Copy place.1 (atom_in d.1) (pos (size_or_zero place.0 type))) place.0 p.0 ((p.1, (spot_atom d.1.spot (f k), tt)), size_number d.0 type r.solid (whole_stays type (K c) (K d.0) r.more t))) in
    led_ok (R1 c) (rises_trans c s _ y (closed_rises e s y.solid))
fill_record_rises e line type offset c d other r f t m = led_refused (R1 c)

whole_rises : (e : Tree) (line : ℕ) (type : PlainType) (offset : ℕ) (target : Target) (c : Context) → Solid c → Written e → Whole (K c) type → IsNumber (pos offset) → Led (R1 c) (whole e line type offset target c)
whole_rises e line type offset target c h w t m =
    led_after (R1 c) (found e type (opened e c))
    (λ d q. let o = opened_rises e c h in
    let g = found_went e type (opened e c) d o.solid w (whole_stays type (K c) (K (opened e c)) o.more t) q in
    led_unless (R1 c) (not (is_same_place type d.1.typed)) (not_whole d.1.typed) line
    (λ x. fill_record_rises e line type offset c d target (rises_trans c (opened e c) d.0 o (went_rises (opened e c) d g)) (λ k. (g.fits (o.code k)).1) t m))

fill_text_rises : (e : Tree) (line : ℕ) (bytes : List ℕ) (size offset : ℕ) (target : Target) (c : Context) → Solid c → size ≤ 268435456 → IsNumber (pos offset) → Led (R1 c) (fill_text e line bytes size offset target c)
fill_text_rises e line bytes size offset (InMemory at mem) c h small m =
    let begun = opened e c in
    let o = opened_rises e c h in
    led_after (R1 c) (with_literal line bytes begun)
    (λ d q. let r = same_widens begun d.0 (same_kept begun d.0 (quiet_literal line bytes begun d q) (grown_literal line bytes begun begun (grows_refl begun) d q).kept) o.solid in
    let k : ℕ = min (length bytes + 1) size in
    let place = member_place at mem offset d.0 in
    let s = emit at (Copy place.1 (atom.Static d.1) (pos k)) place.0 in
    let y = rises_more c begun d.0 o r (grown_literal line bytes begun begun (grows_refl begun) d q) (λ g. literal_in line bytes begun (o.code g) d q) in
    led_ok (R1 c)
    (coded_rises c d.0 s.code y
    (λ g. let p = in_pointer at (λ p. Off p (atom.Mem mem) (pos offset)) d.0 (y.code g) (λ r. ((tt, tt), m)) in
    in_emit at (Copy place.1 (atom.Static d.1) (pos k)) place.0 p.0 ((p.1, (tt, tt)), small_number k (omega (arith, small))))))
fill_text_rises e line bytes size offset (InStatic start) c h small m = led_ok (R1 c) (rises_refl c h)
fill_text_rises e line bytes size offset (InRegister at register) c h small m = led_refused (R1 c)

by_text_rises : (e : Tree) (line : ℕ) (element : PlainType) (size offset : ℕ) (o : Option (List ℕ)) (target : Target) (c : Context) → Solid c → Written e → Whole (K c) (Array element size) → IsNumber (pos offset) → Led (R1 c) (by_text e line element size offset o target c)
by_text_rises e line element size offset None target c h w t m = whole_rises e line (Array element size) offset target c h w t m
by_text_rises e line element size offset (Some bytes) target c h w t m =
    led_cond (R1 c) (is_character element) (then (string line bytes) (λ literal. fill_text e line bytes size offset target c)) (whole e line (Array element size) offset target c)
    (λ z q. fill_text_rises e line bytes size offset target c h (row_short c element size h t) m z (behind_string line bytes (fill_text e line bytes size offset target c) z q)) (whole_rises e line (Array element size) offset target c h w t m)

by_expression_rises : (e : Tree) (line : ℕ) (type : PlainType) (offset : ℕ) (target : Target) (c : Context) → Solid c → Written e → Whole (K c) type → IsNumber (pos offset) → Led (R1 c) (by_expression e line type offset target c)
by_expression_rises e line (Array element size) offset target c h w t m = by_text_rises e line element size offset (text e) target c h w t m
by_expression_rises e line type offset target c h w t m = search (arith, whole_rises, scalar_rises) fits 100

mutual
  unfolding initialize initialize_parts Written AllWritten

  pub initialize_rises : (tree : Tree) (in_scalar : Bool) (type : PlainType) (offset : ℕ) (target : Target) (c : Context) → Solid c → Written tree → Whole (K c) type → Within (K c) type offset → Led (R1 c) (initialize tree in_scalar type offset target c)
  initialize_rises (Node f.InitExpr (At line ▹ e ▹ none)) in_scalar type offset target c h w t v = by_expression_rises e (line_of e) type offset target c h w.1.1.0 t (within_number (K c) type offset v)
  initialize_rises (Node (f.InitList trailing) (At line ▹ Node f.Inits inits ▹ none)) in_scalar type offset target c h w t v =
      led_cond (R1 c) (takes_braces type in_scalar) (initialize_parts line inits (is_scalar_type type) (parts_of c (count inits) type offset) target c) (then (all_surplus inits c) (λ d. refused Assignment line))
      (parts_rise inits line (is_scalar_type type) (parts_of c (count inits) type offset) target c h w.1.1.0.1 (parts_in c (count inits) type offset h t v))
      (led_after (R1 c) (all_surplus inits c) (λ d q. led_refused (R1 c)))
  initialize_rises tree in_scalar type offset target c h w t v = led_refused (R1 c)

  parts_rise : (inits : Trees) (line : ℕ) (in_scalar : Bool) (parts : List (PlainType × ℕ)) (target : Target) (c : Context) → Solid c → AllWritten inits → PartsIn (K c) parts → Led (R1 c) (initialize_parts line inits in_scalar parts target c)
  parts_rise none line in_scalar parts target c h w v = led_ok (R1 c) (rises_refl c h)
  parts_rise (init ▹ rest) line in_scalar [] target c h w v = led_after (R1 c) (all_surplus (init ▹ rest) c) (λ d q. led_refused (R1 c))
  parts_rise (init ▹ rest) line in_scalar (part ∷ parts) target c h w v =
      led_after (R1 c) (initialize init in_scalar part.0 part.1 target c)
      (λ d q. let r = initialize_rises init in_scalar part.0 part.1 target c h w.0 v.0.0 v.0.1 d q in
      (λ z s. rises_trans c d.0 z.0 r (parts_rise rest line in_scalar parts d.1 d.0 r.solid w.1 (parts_stay parts (K c) (K d.0) r.more v.1) z s)))

-- locals

clears : (line : ℕ) (type : PlainType) (mem : Atom) (c : Context) → Solid c → Whole (K c) type → AtomIn mem → Rises c (cleared line type mem c)
clears line type mem c h t m = record { solid = h; more = extends_refl (K c); kinds = kinds_refl c; code = λ k. in_emit line (Clear mem (pos (size_or_zero c type))) c k ((m, tt), size_number c type h t); cases = λ k. k; walked = λ k. k }

fill_memory_rises : (line : ℕ) (type : PlainType) (inits : Trees) (mem : Atom) (c : Context) → Solid c → AllWritten inits → Whole (K c) type → Within (K c) type 0 → AtomIn mem → Led (Rises c) (fill_memory line type inits mem c)
unfolding AllWritten
fill_memory_rises line type (init ▹ rest) (atom.Mem mem) c h w t v m =
    let x = cleared line type (atom.Mem mem) c in
    let a = clears line type (atom.Mem mem) c h t m in
    led_after (Rises c) (initialize init false type 0 (InMemory line mem) x) (λ d q. led_ok (Rises c) (rises_trans c x d.0 a (initialize_rises init false type 0 (InMemory line mem) x a.solid w.0 t v d q)))
fill_memory_rises line type inits mem c h w t v m = search (arith, led_ok, clears) fits 100

zero_in : (type : PlainType) → AtomIn (zero_of type)
zero_in type = search (arith, zero_number) fits 100

fill_register_rises : (line : ℕ) (type : PlainType) (inits : Trees) (register : ℕ) (c : Context) → Solid c → AllWritten inits → Whole (K c) type → Within (K c) type 0 → Led (Rises c) (fill_register line type inits register c)
unfolding AllWritten
fill_register_rises line type none register c h w t v = led_ok (Rises c) (record { solid = h; more = extends_refl (K c); kinds = kinds_refl c; code = λ k. in_emit line (Set register (zero_of type)) c k ((zero_in type, tt), tt); cases = λ k. k; walked = λ k. k })
fill_register_rises line type (init ▹ rest) register c h w t v =
    led_after (Rises c) (initialize init false type 0 (InRegister line register) c) (λ d q. led_ok (Rises c) (initialize_rises init false type 0 (InRegister line register) c h w.0 t v d q))

fill_at_rises : (line : ℕ) (type : PlainType) (inits : Trees) (spot : Spot) (c : Context) → Solid c → AllWritten inits → Whole (K c) type → Within (K c) type 0 → SpotIn spot → Led (Rises c) (fill_at line type inits spot c)
fill_at_rises line type inits (Local register) c h w t v s = fill_register_rises line type inits register c h w t v
fill_at_rises line type inits (Memory mem) c h w t v s = fill_memory_rises line type inits mem c h w t v s
fill_at_rises line type inits other c h w t v s = led_ok (Rises c) (rises_refl c h)

with_local_rises : (name : List ℕ) (type : PlainType) (c : Context) → Solid c → Whole (K c) type → is_some (layout_in c.tags type) ≡ true → Rises c (with_local name type c).0
with_local_rises name type c h w s = by (next_is_memory type c)
  where
    by : (t : Bool) → Rises c (counted_local (local_in t name type c)).0
    by true =
        let x = with_memory name type c in
        let a = memory_rises name type c h w s in
        let q = named_rises x name (n.Object type (length c.running.mems)) a.solid w (λ ks. tt) in
        record { solid = q.solid; more = q.more; kinds = q.kinds; code = q.code; cases = q.cases; walked = q.walked }
    by false = let q = named_rises (with_register (Some name) type c) name (n.Register type (length c.running.locals)) h w (λ ks. tt) in record { solid = q.solid; more = q.more; kinds = q.kinds; code = q.code; cases = q.cases; walked = q.walked }

local_spot : (name : List ℕ) (type : PlainType) (c : Context) → SpotIn (with_local name type c).1
local_spot name type c = grind (arith, true, false)

starts : (c : Context) (type : PlainType) → Solid c → Whole (K c) type → is_some (layout_in c.tags type) ≡ true → Within (K c) type 0
starts c type h w s = starts_within c type (unwrap_or (layout_in c.tags type) no_layout) h w (some_layout (layout_in c.tags type) s)

local_object_rises : (line : ℕ) (name : List ℕ) (type : PlainType) (inits : Trees) (c : Context) → Solid c → AllWritten inits → Whole (K c) type → Led (Rises c) (local_object line name type inits c)
local_object_rises line name type inits c h v w =
    let x = with_local name type c in
    let r2 : Checked Context = unless (is_twice c.scopes name (n.Object type 0)) DeclaredTwice line (fill_local line type inits x) in
    let r1 : Checked Context = unless (has_no_size c.tags type) Incomplete line r2 in
    led_unless (Rises c) (is_function type) LeftOut line
    (λ a. led_unless (Rises c) (has_no_size c.tags type) Incomplete line
    (λ b. led_unless (Rises c) (is_twice c.scopes name (n.Object type 0)) DeclaredTwice line
    (λ t. let r = with_local_rises name type c h w (has_size c.tags type b) in
    let y = starts c type h w (has_size c.tags type b) in
    (λ z q. rises_trans c x.0 z r (fill_at_rises line type inits x.1 x.0 r.solid v (whole_stays type (K c) (K x.0) r.more w) (within_stays (K c) (K x.0) type 0 r.more y) (local_spot name type c) z q)))))

-- what a part leads to from an earlier point on, and from its start
pub record Onward (past c d : Context) : Type 0 where
  pub rises : Rises past d
  pub more : Extends (K c) (K d)
  pub made : Longer c.tags.made d.tags.made

onward_led : (past c : Context) (x : Checked Context) → Rises past c → Led (Rises c) x → Led (Onward past c) x
onward_led past c x r k d q = let y = k d q in record { rises = rises_trans past c d r y; more = y.more; made = y.kinds.made }

typedef_onward : (past c : Context) → Rises past c → (line : ℕ) (name : List ℕ) (type : PlainType) → Whole (K c) type → (Sorts past → SortedType c.tags.made type) → Led (Onward past c) (declared_as line name (n.Typedef type) c)
typedef_onward past c r line name type w s d q =
    record { rises = typedef_rises past c r line name type w s d q; more = same_known d q; made = same_made d q }
  where
    same : (d : Context) → declared_as line name (n.Typedef type) c ≡ Ok d → record c { scopes = after_declaration c.scopes name (n.Typedef type) } ≡ d
    same d q = passed (is_twice c.scopes name (n.Typedef type)) DeclaredTwice line (record c { scopes = after_declaration c.scopes name (n.Typedef type) }) d q

    same_known : (d : Context) → declared_as line name (n.Typedef type) c ≡ Ok d → Extends (K c) (K d)
    same_known d q = subst (λ (x : Context). Extends (K c) (K x)) (same d q) (extends_refl (K c))

    same_made : (d : Context) → declared_as line name (n.Typedef type) c ≡ Ok d → Longer c.tags.made d.tags.made
    same_made d q = subst (λ (x : Context). Longer c.tags.made x.tags.made) (same d q) (λ i u e. e)

local_name_rises : (past : Context) (line : ℕ) (storage : Storage) (name : List ℕ) (type : PlainType) (inits : Trees) (c : Context) → Rises past c → AllWritten inits → Whole (K c) type → (Sorts past → SortedType c.tags.made type) → Led (Onward past c) (local_name line storage name type inits c)
local_name_rises past line Typedef name type inits c r v w s = typedef_onward past c r line name type w s
local_name_rises past line Outside name type inits c r v w s = led_refused (Onward past c)
local_name_rises past line storages.Plain name type inits c r v w s = onward_led past c (local_name line storages.Plain name type inits c) r (local_object_rises line name type inits c r.solid v w)

-- file scope

function_rises : (index : ℕ) (name : List ℕ) (c : Context) → Solid c → Rises c (with_function index name c)
function_rises index name c h = either_way (Rises c) (nat_lt index (length c.functions)) (rises_refl c h) (record { solid = h; more = extends_refl (K c); kinds = kinds_refl c; code = λ k. k; cases = λ k. k; walked = λ k. k })

pub declared_function_rises : (line : ℕ) (name : List ℕ) (type : PlainType) (c : Context) → Solid c → Whole (K c) type → Led (Rises c) (declared_function line name type c)
declared_function_rises line name type c h w =
    let index = function_number name c in
    led_after (Rises c) (declared_as line name (n.Function type index) c)
    (λ d q. let r = declared_rises line name (n.Function type index) c h w (λ ks. tt) d q in led_ok (Rises c) (rises_trans c d _ r (function_rises index name d r.solid)))

no_initializer_rises : (inits : Trees) (c : Context) → Solid c → Led (Rises c) (no_initializer inits c)
no_initializer_rises inits c h = search (arith, led_ok, rises_refl, led_after, led_refused) fits 100

-- a type that is whole, and has a layout
record Ready (c : Context) (type : PlainType) (d : Context) : Type 0 where
  rises : Rises c d
  whole : Whole (K d) type
  sized : is_some (layout_in d.tags type) ≡ true

ready_on : (c d : Context) (type : PlainType) → Rises c d → Whole (K c) type → is_some (layout_in c.tags type) ≡ true → Ready c type d
ready_on c d type r w s = record { rises = r; whole = whole_stays type (K c) (K d) r.more w; sized = some_stays (K c) (K d) type r.more s }

new_variable_rises : (line : ℕ) (name : List ℕ) (type : PlainType) (c : Context) → Solid c → Whole (K c) type → is_some (layout_in c.tags type) ≡ true → Led (Rises c) (with_new_variable line name type c)
new_variable_rises line name type c h w s =
    let size = size_or_zero c type in
    led_after (Rises c) (with_static line size c)
    (λ d q. let y = led_unless (Ready c type) (nat_lt 67108864 (c.static_bytes + block_size size)) StaticTooLarge line
    (λ t. led_ok (Ready c type) (record { rises = record { solid = h; more = extends_refl (K c); kinds = kinds_refl c; code = λ k. k; cases = λ k. k; walked = λ k. k }; whole = w; sized = s })) d q in
    let laid_one = variables_push d.variables _ y.rises.solid.statics (laid d type y.rises.solid y.whole y.sized) in
    led_ok (Rises c)
    (with_code c _ (record {
      solid = record { made = y.rises.solid.made; names = y.rises.solid.names; list = y.rises.solid.list; memory = y.rises.solid.memory; result = y.rises.solid.result; statics = laid_one; functions = y.rises.solid.functions };
      more = y.rises.more;
      kinds = y.rises.kinds;
    }) y.rises.code y.rises.cases y.rises.walked))

pub variable_rises : (line index : ℕ) (name : List ℕ) (type : PlainType) (c : Context) → Solid c → Whole (K c) type → is_some (layout_in c.tags type) ≡ true → Led (Rises c) (with_variable line index name type c)
variable_rises line index name type c h w s = search (arith, led_cond, led_ok, rises_refl, new_variable_rises)

get_laid : (vs : List Variable) (i : ℕ) (v : Variable) → slice_get vs i ≡ Some v → VariablesLaid vs → IsLayoutOfType v.layout
get_laid [] i v e h = cc
get_laid (x ∷ vs) zero v e h = let same : x ≡ v = cc in subst (λ (y : Variable). IsLayoutOfType y.layout) same h.0
get_laid (x ∷ vs) (suc i) v e h = get_laid vs i v e h.1

set_laid : (vs : List Variable) (i : ℕ) (v : Variable) → VariablesLaid vs → IsLayoutOfType v.layout → VariablesLaid (slice_set vs i v)
set_laid [] i v h k = tt
set_laid (x ∷ vs) zero v h k = (k, h.1)
set_laid (x ∷ vs) (suc i) v h k = (h.0, set_laid vs i v h.1 k)

started_laid : (index : ℕ) (start : Start) (o : Option Variable) (vs : List Variable) → slice_get vs index ≡ o → VariablesLaid vs → VariablesLaid (started_variable index start o vs)
started_laid index start o vs e h = search (arith, set_laid, get_laid) fits 100

started_rises : (index : ℕ) (d : Context × Target) → Solid d.0 → Rises d.0 (started index d)
started_rises index d h = search (arith, with_code, started_laid, extends_refl, kinds_refl)

fill_variable_rises : (line index : ℕ) (type : PlainType) (inits : Trees) (c : Context) → Solid c → AllWritten inits → Whole (K c) type → is_some (layout_in c.tags type) ≡ true → Led (Rises c) (fill_variable line index type inits c)
unfolding AllWritten
fill_variable_rises line index type none c h v w s = led_ok (Rises c) (rises_refl c h)
fill_variable_rises line index type (init ▹ rest) c h v w s =
    led_unless (Rises c) (is_some (start_of (slice_get c.variables index))) DeclaredTwice line
    (λ t. led_after (Rises c) (initialize init false type 0 (InStatic no_start) c)
    (λ d q. let r = initialize_rises init false type 0 (InStatic no_start) c h v.0 w (starts c type h w s) d q in led_ok (Rises c) (rises_trans c d.0 _ r (started_rises index d r.solid))))

file_object_rises : (line : ℕ) (name : List ℕ) (type : PlainType) (inits : Trees) (c : Context) → Solid c → AllWritten inits → Whole (K c) type → Led (Rises c) (file_object line name type inits c)
file_object_rises line name type inits c h v w =
    let index = variable_number_of c (named_in name c.scopes.file) in
    led_unless (Rises c) (has_no_size c.tags type) Incomplete line
    (λ t. led_after (Rises c) (declared_as line name (n.Object type index) c)
    (λ d q. let r = declared_rises line name (n.Object type index) c h w (λ ks. tt) d q in
    let y = ready_on c d type r w (has_size c.tags type t) in
    led_after (Rises c) (with_variable line index name type d)
    (λ x s. let k = variable_rises line index name type d r.solid y.whole y.sized x s in
    let last = ready_on d x type k y.whole y.sized in
    (λ z u. rises_trans c d z r (rises_trans d x z k (fill_variable_rises line index type inits x k.solid v last.whole last.sized z u))))))

file_value_rises : (line : ℕ) (name : List ℕ) (type : PlainType) (inits : Trees) (c : Context) → Solid c → AllWritten inits → Whole (K c) type → Led (Rises c) (file_value line name type inits c)
file_value_rises line name type inits c h v w =
    led_cond (Rises c) (is_built_in type (named_in name c.scopes.file)) (no_initializer inits c) _ (no_initializer_rises inits c h)
    (led_cond (Rises c) (is_function type) (file_function line name type inits c) (file_object line name type inits c)
    (led_after (Rises c) (declared_function line name type c) (λ d q. let r = declared_function_rises line name type c h w d q in (λ z s. rises_trans c d z r (no_initializer_rises inits d r.solid z s))))
    (file_object_rises line name type inits c h v w))

file_name_rises : (past : Context) (line : ℕ) (storage : Storage) (name : List ℕ) (type : PlainType) (inits : Trees) (c : Context) → Rises past c → AllWritten inits → Whole (K c) type → (Sorts past → SortedType c.tags.made type) → Led (Onward past c) (file_name line storage name type inits c)
file_name_rises past line Typedef name type inits c r v w s = typedef_onward past c r line name type w s
file_name_rises past line other name type inits c r v w s = onward_led past c (file_value line name type inits c) r (file_value_rises line name type inits c r.solid v w)

pub name_in_rises : (past : Context) (file : Bool) (line : ℕ) (storage : Storage) (name : Option (List ℕ)) (type : PlainType) (inits : Trees) (c : Context) → Rises past c → AllWritten inits → Whole (K c) type → (Sorts past → SortedType c.tags.made type) → Led (Onward past c) (name_in file line storage name type inits c)
name_in_rises past true line storage None type inits c r v w s = onward_led past c (Ok c) r (led_ok (Rises c) (rises_refl c r.solid))
name_in_rises past false line storage None type inits c r v w s = onward_led past c (Ok c) r (led_ok (Rises c) (rises_refl c r.solid))
name_in_rises past true line storage (Some name) type inits c r v w s = file_name_rises past line storage name type inits c r v w s
name_in_rises past false line storage (Some name) type inits c r v w s = local_name_rises past line storage name type inits c r v w s

-- the length that an initializer gives

text_some : (element : PlainType) (o : Option (List ℕ)) → 1 ≤ text_length element o
text_some element o = search (arith, either_way) fits 100

inits_some : (inits : Trees) → HasParts f.Inits inits → 1 ≤ count inits
unfolding HasParts
inits_some inits h = search arith fits 100

given_some : (k : Known) (line : ℕ) (element : PlainType) (inits : Trees) → AllWritten inits → LayerWhole k (ArrayOf line (given_length element inits))
unfolding Written AllWritten
given_some k line element inits w = search (arith, text_some, inits_some) fits 100

pub init_layers_whole : (tags : TagTable) (ls : List Layer) (inits : Trees) (type : PlainType) → AllWritten inits → Whole (known tags.completed) type → LayersWhole (known tags.completed) ls → Led (Whole (known tags.completed)) (with_init_layers tags ls inits type)
init_layers_whole tags [] inits type w h g = led_ok (Whole (known tags.completed)) h
init_layers_whole tags (ArrayOf line None ∷ []) inits type w h g = layered_whole tags.completed tags (ArrayOf line (given_length type inits)) type refl h (given_some (known tags.completed) line type inits w)
init_layers_whole tags (ArrayOf line None ∷ (next ∷ ls)) inits type w h g =
    led_after (Whole (known tags.completed)) (layered_before tags (ArrayOf line None) (next ∷ ls) type)
    (λ inner q. init_layers_whole tags (next ∷ ls) inits inner w (before_whole tags.completed tags (ArrayOf line None) (next ∷ ls) type refl h g.0 inner q) g.1)
init_layers_whole tags (layer ∷ ls) inits type w h g =
    led_after (Whole (known tags.completed)) (layered_before tags layer ls type)
    (λ inner q. init_layers_whole tags ls inits inner w (before_whole tags.completed tags layer ls type refl h g.0 inner q) g.1)

pub entry_rises : (past : Context) (file : Bool) (line : ℕ) (storage : Storage) (base : PlainType) (declarator : Tree) (inits : Trees) (c : Context) → Rises past c → Whole (K c) base → (Sorts past → SortedType c.tags.made base) → Written declarator → AllWritten inits → Led (Onward past c) (entry file line storage base declarator inits c)
entry_rises past file line storage base declarator inits c r b st w v =
    led_after (Onward past c) (layers declarator c)
    (λ l q. let k = layers_rise declarator c r.solid w l q in
    led_after (Onward past c) (with_init_layers l.0.tags l.1 inits base)
    (λ type s. let y = init_layers_whole l.0.tags l.1 inits base v (whole_stays base (K c) (K l.0) k.0.more b) k.1 type s in
    (λ z t. let o = name_in_rises past file line storage (name_of declarator) type inits l.0 (rises_trans past c l.0 r k.0) v y
    (λ ks. init_layers_sorted l.0.tags.made l.0.tags l.1 inits base (type_longer base c.tags.made l.0.tags.made k.0.kinds.made (st ks)) type s) z t in
    record { rises = o.rises; more = λ tag l q. o.more tag l (k.0.more tag l q); made = λ i u e. o.made i u (k.0.kinds.made i u e) })))

entries_rise : (names : Trees) (past : Context) (file : Bool) (line : ℕ) (storage : Storage) (base : PlainType) (c : Context) → Rises past c → Whole (K c) base → (Sorts past → SortedType c.tags.made base) → AllWritten names → Led (Rises past) (entries file line storage base names c)
unfolding entries Written AllWritten
entries_rise none past file line storage base c r b st w = led_ok (Rises past) r
entries_rise (Node f.Entry (Node f.Declared (declarator ▹ none) ▹ Node f.MaybeInit inits ▹ none) ▹ rest) past file line storage base c r b st w =
    led_after (Rises past) (entry file line storage base declarator inits c)
    (λ d q. let o = entry_rises past file line storage base declarator inits c r b st w.0.1.0.1.0 w.0.1.1.0.1 d q in
    entries_rise rest past file line storage base d o.rises (whole_stays base (K c) (K d) o.more b) (λ ks. type_longer base c.tags.made d.tags.made o.made (st ks)) w.1)
entries_rise (tree ▹ rest) past file line storage base c r b st w = led_refused (Rises past)

alone_rises : (tree : Tree) (c : Context) → Solid c → Written tree → Led (T c) (specs_alone tree c)
alone_rises (Node f.Specs (At line ▹ Node (f.RecordTag sort) (At at ▹ Leaf (w.Name name) ▹ none) ▹ none)) c h v =
    type_rises (tag_named at sort name (asked c) (named_in (tag_name name) (innermost c.scopes))) c h (tag_good c.tags.completed h.made at sort name (asked c) (named_in (tag_name name) (innermost c.scopes)) (fit_of c h))
    (λ x q. tag_leads at sort name (asked c) (named_in (tag_name name) (innermost c.scopes)) x q)
    (λ ks. tag_sorted at sort name (asked c) (named_in (tag_name name) (innermost c.scopes)) (λ type e. innermost_fits (SortedName c.tags.made) c.scopes ks.names (tag_name name) (n.Tag type) e))
alone_rises tree c h v = specs_rise tree c h v

pub before_rises : (tree : Tree) (names : Trees) (c : Context) → Solid c → Written tree → Led (T c) (specs_before tree names c)
before_rises tree none c h v = alone_rises tree c h v
before_rises tree (name ▹ rest) c h v = specs_rise tree c h v

pub declaration_rises : (file : Bool) (line : ℕ) (words tree : Tree) (c : Context) → Solid c → Written words → Written tree → Led (Rises c) (declaration file line words tree c)
unfolding declaration Written
declaration_rises file line words (Node f.Names names) c h v w =
    led_after (Rises c) (specs_before words names c)
    (λ base q. let b = before_rises words names c h v base q in entries_rise names c file line (storage_of words) base.1 base.0 b.0 b.1 b.2 w.1)
declaration_rises file line words tree c h v w = led_refused (Rises c)
