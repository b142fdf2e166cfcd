-- The first bytes and pointers of statics fill their layouts.
use Rattle.core_soundness.proofs.Words.Std.{◌≡◌, ◌≤◌, ◌+◌, ◌*◌, not, ℕ, Bool, true, false, cond, take, List, [], ◌∷◌, Option, Some, None, Ok, refl, sym, ap, ◌∙◌, subst, arith, length-take, ◌<◌, ◌++◌, ◌==◌, ◌&&◌, is_some, nat_lt, All, length, slice_get, slice_set, unwrap_or, ⊎_elim, bytes_eq, ltb-true, ltb-false, eqb-true, find, reverse-reverse}
use Rattle.core_soundness.proofs.Words.Trees.{name_of, Tree, Trees, At, Node, none, ◌▹◌, count}
use Rattle.core_soundness.proofs.Words.Types.{layout_of, number_layout, pointer_layout, array_layout, Known, no_layout, CompletedTag, known, TagTable, layout_in, PlainType, Void, Int, Pointer, Array, Struct, Union, Function, width_of, Layout, TagInfo, IntType, built_ins, numbered_from, line_of, typed, string, PlainNamed, unconverted, refused, then, unless, Table, named_in, is_null_constant, is_function, has_no_size, same, BuiltIn, Assignment, DeclaredTwice, Incomplete, StaticTooLarge, Folded, Is, is_built_in}
use Rattle.core_soundness.proofs.Words.Core.{low_bits, block_size, IsStatic, Core, Start}
use Rattle.core_soundness.proofs.Words.Elaborating.{addressed_in, Code, Context, asked, Variable, first_context, Found, Fixed, Unknown, Nowhere, Inside, valued, size_or_zero, Storage, Typedef, storage_of, specs_before, declared_function, no_initializer, variable_number_of, with_new_variable, with_variable, start_of, start_in, started_variable, fill_variable, file_object, file_function, file_name, name_in, entry, entries, declaration, layers, walked, elaborated, found, begun, external, externals, Target, InRegister, InMemory, InStatic, bytes_of, static_integer, static_address, static_pointer, static_scalar, fill_scalar, scalar, whole, fill_text, is_character, text, by_text, by_expression, parts_of, takes_braces, is_scalar_type, all_surplus, initialize, initialize_parts, no_start, with_init_layers, is_twice_in, declared_as, reallocates, opened, core_of, with_static}
use Rattle.core_soundness.proofs.Words.Facts.{HasLayouts, Solid, TableFits, Whole, Written, AllWritten, AreWritten}
use Rattle.c_types.specs.TagTableEquations.{some_array, Extends, layout_stays}
use Rattle.c_tree.specs.Forms as f
use Rattle.c_decls.specs.TypedEquations.{same_equal}
use Rattle.c_decls.specs.BuiltIns as names
use Rattle.c_decls.specs.Named as n
use Rattle.core_soundness.proofs.Agreeing.{valued_agrees, found_agrees, came}
use Rattle.core_soundness.proofs.Aiming.{VariablesStay, There, initialize_points}
use Rattle.core_soundness.proofs.Cores.{behind as core_behind}
use Rattle.core_soundness.proofs.Declaring.{entry_declares, specs_before_passes, levels_refl, declared_levels, layers_level}
use Rattle.core_soundness.proofs.Growth.{Led, led_ok, led_refused, led_after, led_unless, led_barred, behind_string, good, ok_same, never, Settled}
use Rattle.core_soundness.proofs.PointedTexts.{set_stay, before_level, function_settled, definition_settled, walked_pointed, StartsFilled, nothing_filled, statics_sound}
use Rattle.core_soundness.proofs.Ranged.{fit_of, value_gone, opened_widens, K}
use Rattle.core_soundness.proofs.RangedFound.{rises_refl}
use Rattle.core_soundness.proofs.Scopes.{none_fits, Safe, get_left, get_last, get_push, get_below, set_get, Pushed, push_get, no_scope}
use Rattle.core_soundness.proofs.Seats.{LayoutsAreSound, Has, Seat, has_row, Filled, filled_more, filled_bytes, filled_pointer, bytes_of_length, Proper, AllProper, PartsSeated, parts_end, parts_seated, MembersProper, trimmed_length, cut_same}
use Rattle.core_soundness.proofs.SolidFills.{declared_function_rises, variable_rises, init_layers_whole, entry_rises, before_rises}
use Rattle.core_soundness.proofs.SolidLayers.{has_size, declared_rises, typedef_rises, layers_rise}
use Rattle.core_soundness.proofs.SolidTexts.{external_rises, begun_rises, first_solid, core_layouts}
use Rattle.core_soundness.proofs.Sorting.{passed, kept_test}
use Rattle.core_soundness.proofs.Statements.{behind_text, Sane, external_sane, first_sane}
use Rattle.core_soundness.proofs.TagSorts.{SortedType, SortedName, type_longer, init_layers_sorted, MembersSorted, BodySorted, BodiesSorted, Sorts}
use Rattle.core_soundness.proofs.TypedWhole.{led_cond, typed_good, wanted_good}
use Rattle.core_soundness.proofs.WholeTypes.{whole_stays, some_stays, some_layout}
use Rattle.core_soundness.proofs.Choices.{either_way, some_same}

-- initializers of statics fill places one behind another: bytes outside the slots, and pointers in them (C99 6.7.8)

-- what an expression of an initializer leaves

pub record Kept (c d : Context) : Type 0 where
  pub solid : Solid d
  pub completed : d.tags.completed ≡ c.tags.completed

kept_refl : (c : Context) → Solid c → Kept c c
kept_refl c h = record { solid = h; completed = refl }

kept_trans : (a b c : Context) → Kept a b → Kept b c → Kept a c
kept_trans a b c x y = record { solid = y.solid; completed = y.completed ∙ x.completed }

value_kept : (e : Tree) (wish : PlainType) (c : Context) (z : Context × Found) → Solid c → valued e (found e wish c) ≡ Ok z → Kept c z.0
value_kept e wish c z h q =
    let agreed = valued_agrees e (found e wish c) (typed e (asked c)) z (λ x k. found_agrees e wish c x k) q in
    let g = wanted_good c.tags.completed h.made e (typed e (asked c)) (typed_good c.tags.completed h.made e (asked c) (fit_of c h)) (asked z.0, z.1.typed) agreed in
    record { solid = (value_gone e wish c z h q).rises.solid; completed = g.0.completed }

-- a static that is filled up to a place
abbrev pub TargetFilled : List ℕ → ℕ → Target → Type 0
TargetFilled slots low (InRegister line register) = ⊥
TargetFilled slots low (InMemory line mem) = ⊥
TargetFilled slots low (InStatic start) = Filled slots low start

target_more : (slots : List ℕ) (low high : ℕ) (target : Target) → low ≤ high → TargetFilled slots low target → TargetFilled slots high target
target_more slots low high (InStatic start) e h = filled_more slots low high start e h
target_more slots low high other e h = absurd h

abbrev pub Fills : List ℕ → ℕ → Context → Context × Target → Type 0
Fills slots high c z = Kept c z.0 × TargetFilled slots high z.1

module _ (ts : List CompletedTag) (room : ℕ) (slots : List ℕ) where
  -- scalars

  integer_filled : (line : ℕ) (ty : IntType) (offset low : ℕ) (start : Start) (folded : Folded) → low ≤ offset → Seat room slots offset (number_layout (width_of ty)) → Filled slots low start → Led (Filled slots (offset + width_of ty)) (static_integer line ty offset start folded)
  integer_filled line ty offset low start (Is v) e seat h =
      led_ok (Filled slots (offset + width_of ty))
      (filled_bytes room slots low offset (number_layout (width_of ty)) start (bytes_of (width_of ty) (low_bits (8 * width_of ty) v)) h e seat (λ s k. k) (omega (arith, bytes_of_length (width_of ty) (low_bits (8 * width_of ty) v))))
  integer_filled line ty offset low start other e seat h = led_refused (Filled slots (offset + width_of ty))

  address_filled : (line offset low : ℕ) (start : Start) (fixed : Fixed) → low ≤ offset → Has slots offset → Filled slots low start → Led (Filled slots (offset + 4)) (static_address line offset start fixed)
  address_filled line offset low start Unknown e there h = led_refused (Filled slots (offset + 4))
  address_filled line offset low start Nowhere e there h = led_ok (Filled slots (offset + 4)) (filled_more slots low (offset + 4) start (omega (arith, e)) h)
  address_filled line offset low start (Inside g at) e there h = led_ok (Filled slots (offset + 4)) (filled_pointer slots low offset g (Rattle.std.specs.Prelude.unsigned_abs at) start h e there)

  pointer_filled : (line offset low : ℕ) (start : Start) (e : Found) → low ≤ offset → Seat room slots offset pointer_layout → Filled slots low start → Led (Filled slots (offset + 4)) (static_pointer line offset start e)
  pointer_filled line offset low start e k seat h =
      let there : Has slots offset = subst (Has slots) (end offset) (seat.up 0 (Rattle.std.proofs.Common.inl refl)) in
      led_cond (Filled slots (offset + 4)) (is_null_constant e.typed) (Ok start) (static_address line offset start e.fixed)
      (led_ok (Filled slots (offset + 4)) (filled_more slots low (offset + 4) start (omega (arith, k)) h))
      (address_filled line offset low start e.fixed k there h)
    where
      end : (k : ℕ) → k + 0 ≡ k
      end k = omega arith

  abbrev NoAggregate : PlainType → Type 0
  NoAggregate (Array element n) = ⊥
  NoAggregate (Struct tag) = ⊥
  NoAggregate (Union tag) = ⊥
  NoAggregate type = Unit {0}

  scalar_filled_at : (line : ℕ) (type : PlainType) (offset low : ℕ) (l : Layout) (start : Start) (e : Found) → NoAggregate type → layout_of (known ts) type ≡ Some l → low ≤ offset → Seat room slots offset l → Filled slots low start → Led (Filled slots (offset + l.size)) (static_scalar line type offset start e)
  scalar_filled_at line (Int ty) offset low l start e a q k seat h =
      let same : number_layout (width_of ty) ≡ l = cc in
      subst (λ (x : Layout). Led (Filled slots (offset + x.size)) (static_integer line ty offset start e.typed.folded)) same
      (integer_filled line ty offset low start e.typed.folded k (subst (λ (x : Layout). Seat room slots offset x) (sym same) seat) h)
  scalar_filled_at line (Pointer target) offset low l start e a q k seat h =
      let same : pointer_layout ≡ l = cc in
      subst (λ (x : Layout). Led (Filled slots (offset + x.size)) (static_pointer line offset start e)) same
      (pointer_filled line offset low start e k (subst (λ (x : Layout). Seat room slots offset x) (sym same) seat) h)
  scalar_filled_at line Void offset low l start e a q k seat h = cc
  scalar_filled_at line (Function answer params) offset low l start e a q k seat h = cc
  scalar_filled_at line other offset low l start e a q k seat h = absurd a

  fill_filled : (e : Tree) (line : ℕ) (type : PlainType) (offset low : ℕ) (l : Layout) (before : Code) (target : Target) (c : Context) (d : Context × Found) → NoAggregate type → layout_of (known ts) type ≡ Some l → low ≤ offset → Seat room slots offset l → Kept c d.0 → TargetFilled slots low target → Led (Fills slots (offset + l.size) c) (fill_scalar e line type offset before d target)
  fill_filled e line type offset low l before (InStatic start) c d a q k seat s h =
      led_after (Fills slots (offset + l.size) c) (static_scalar line type offset start d.1)
      (λ filled r. led_ok (Fills slots (offset + l.size) c) (s, scalar_filled_at line type offset low l start d.1 a q k seat h filled r))
  fill_filled e line type offset low l before other c d a q k seat s h = absurd h

  scalar_fills : (e : Tree) (line : ℕ) (type : PlainType) (offset low : ℕ) (l : Layout) (target : Target) (c : Context) → NoAggregate type → Solid c → layout_of (known ts) type ≡ Some l → low ≤ offset → Seat room slots offset l → TargetFilled slots low target → Led (Fills slots (offset + l.size) c) (scalar e line type offset target c)
  scalar_fills e line type offset low l target c a solid q k seat h =
      let begun = opened e c in
      let o : Kept c (opened e c) = record { solid = (opened_widens e c solid).solid; completed = either_way (λ (x : Context). x.tags.completed ≡ c.tags.completed) (reallocates c.scopes e) refl refl } in
      led_after (Fills slots (offset + l.size) c) (valued e (found e type begun))
      (λ d r. led_barred (Fills slots (offset + l.size) c) (unconverted type d.1.typed) line
      (fill_filled e line type offset low l begun.code target c d a q k seat (kept_trans c begun d.0 o (value_kept e type begun d o.solid r)) h))

  whole_fills : (e : Tree) (line : ℕ) (type : PlainType) (offset low high : ℕ) (target : Target) (c : Context) → TargetFilled slots low target → Led (Fills slots high c) (whole e line type offset target c)
  whole_fills e line type offset low high target c h = search (arith, led_after, led_unless, not)

  -- texts

  character_width : (element : PlainType) (m : Layout) → is_character element ≡ true → layout_of (known ts) element ≡ Some m → number_layout 1 ≡ m
  character_width element m e q = search arith fits 100

  text_fills : (e : Tree) (line : ℕ) (bytes : List ℕ) (size offset low : ℕ) (target : Target) (c : Context) → Solid c → low ≤ offset → Seat room slots offset (array_layout size (number_layout 1)) → TargetFilled slots low target → Led (Fills slots (offset + size * 1) c) (fill_text e line bytes size offset target c)
  text_fills e line bytes size offset low (InMemory at mem) c solid k seat h = absurd h
  text_fills e line bytes size offset low (InRegister at register) c solid k seat h = led_refused (Fills slots (offset + size * 1) c)
  text_fills e line bytes size offset low (InStatic start) c solid k seat h =
      led_ok (Fills slots (offset + size * 1) c)
      (kept_refl c solid, filled_bytes room slots low offset (array_layout size (number_layout 1)) start (take size bytes) h k seat (λ s r. let x = has_row 1 [] 0 size s r in x.there) (omega (arith, length-take size bytes)))

  by_text_fills : (e : Tree) (line : ℕ) (element : PlainType) (size offset low : ℕ) (o : Option (List ℕ)) (l : Layout) (target : Target) (c : Context) → Solid c → layout_of (known ts) (Array element size) ≡ Some l → low ≤ offset → Seat room slots offset l → TargetFilled slots low target → Led (Fills slots (offset + l.size) c) (by_text e line element size offset o target c)
  by_text_fills e line element size offset low None l target c solid q k seat h = whole_fills e line (Array element size) offset low (offset + l.size) target c h
  by_text_fills e line element size offset low (Some bytes) l target c solid q k seat h = by (is_character element) refl
    where
      by : (t : Bool) → is_character element ≡ t → Led (Fills slots (offset + l.size) c) (cond t (then (string line bytes) (λ literal. fill_text e line bytes size offset target c)) (whole e line (Array element size) offset target c))
      by true is = λ z s.
          let r = some_array (layout_of (known ts) element) size l q in
          let same : array_layout size (number_layout 1) ≡ l = ap (array_layout size) (character_width element r.0 is r.1) ∙ r.2 in
          subst (λ (x : Layout). Led (Fills slots (offset + x.size) c) (fill_text e line bytes size offset target c)) same
          (text_fills e line bytes size offset low target c solid k (subst (λ (x : Layout). Seat room slots offset x) (sym same) seat) h)
          z (behind_string line bytes (fill_text e line bytes size offset target c) z s)
      by false is = whole_fills e line (Array element size) offset low (offset + l.size) target c h

  expression_fills : (e : Tree) (line : ℕ) (type : PlainType) (offset low : ℕ) (l : Layout) (target : Target) (c : Context) → Solid c → layout_of (known ts) type ≡ Some l → low ≤ offset → Seat room slots offset l → TargetFilled slots low target → Led (Fills slots (offset + l.size) c) (by_expression e line type offset target c)
  expression_fills e line (Array element size) offset low l target c solid q k seat h = by_text_fills e line element size offset low (text e) l target c solid q k seat h
  expression_fills e line (Struct tag) offset low l target c solid q k seat h = whole_fills e line (Struct tag) offset low (offset + l.size) target c h
  expression_fills e line (Union tag) offset low l target c solid q k seat h = whole_fills e line (Union tag) offset low (offset + l.size) target c h
  expression_fills e line Void offset low l target c solid q k seat h = scalar_fills e line Void offset low l target c tt solid q k seat h
  expression_fills e line (Int ty) offset low l target c solid q k seat h = scalar_fills e line (Int ty) offset low l target c tt solid q k seat h
  expression_fills e line (Pointer t) offset low l target c solid q k seat h = scalar_fills e line (Pointer t) offset low l target c tt solid q k seat h
  expression_fills e line (Function answer params) offset low l target c solid q k seat h = scalar_fills e line (Function answer params) offset low l target c tt solid q k seat h

  -- braces

  seated_parts : LayoutsAreSound → (c : Context) (asked : ℕ) (type : PlainType) (base : ℕ) (l : Layout) → Solid c → c.tags.completed ≡ ts → AllProper ts → Proper ts type → layout_of (known ts) type ≡ Some l → Seat room slots base l → PartsSeated ts room slots base (base + l.size) (parts_of c asked type base)
  seated_parts sound c asked type base l solid same = subst (λ (x : List CompletedTag). AllProper x → Proper x type → layout_of (known x) type ≡ Some l → Seat room slots base l → PartsSeated x room slots base (base + l.size) (parts_of c asked type base)) same (parts_seated sound c room slots asked type base l solid)

module _ (sound : LayoutsAreSound) (ts : List CompletedTag) (all : AllProper ts) (room : ℕ) (slots : List ℕ) where
  mutual
    unfolding initialize initialize_parts

    pub initialize_fills : (tree : Tree) (in_scalar : Bool) (type : PlainType) (offset low : ℕ) (l : Layout) (target : Target) (c : Context) → Solid c → c.tags.completed ≡ ts → Proper ts type → layout_of (known ts) type ≡ Some l → low ≤ offset → Seat room slots offset l → TargetFilled slots low target → Led (Fills slots (offset + l.size) c) (initialize tree in_scalar type offset target c)
    initialize_fills (Node f.InitExpr (At line ▹ e ▹ none)) in_scalar type offset low l target c solid same p q k seat h = expression_fills ts room slots e (line_of e) type offset low l target c solid q k seat h
    initialize_fills (Node (f.InitList trailing) (At line ▹ Node f.Inits inits ▹ none)) in_scalar type offset low l target c solid same p q k seat h =
        led_cond (Fills slots (offset + l.size) c) (takes_braces type in_scalar) (initialize_parts line inits (is_scalar_type type) (parts_of c (count inits) type offset) target c) (then (all_surplus inits c) (λ d. refused Assignment line))
        (parts_fill inits line (is_scalar_type type) (parts_of c (count inits) type offset) low offset (offset + l.size) target c solid same k (seated_parts ts room slots sound c (count inits) type offset l solid same all p q seat) h)
        (led_after (Fills slots (offset + l.size) c) (all_surplus inits c) (λ d r. led_refused (Fills slots (offset + l.size) c)))
    initialize_fills tree in_scalar type offset low l target c solid same p q k seat h = led_refused (Fills slots (offset + l.size) c)

    parts_fill : (inits : Trees) (line : ℕ) (in_scalar : Bool) (parts : List (PlainType × ℕ)) (low base high : ℕ) (target : Target) (c : Context) → Solid c → c.tags.completed ≡ ts → low ≤ base → PartsSeated ts room slots base high parts → TargetFilled slots low target → Led (Fills slots high c) (initialize_parts line inits in_scalar parts target c)
    parts_fill none line in_scalar parts low base high target c solid same k seats h =
        let far = parts_end ts room slots base high parts seats in led_ok (Fills slots high c) (kept_refl c solid, target_more slots low high target (omega (arith, k, far)) h)
    parts_fill (init ▹ rest) line in_scalar [] low base high target c solid same k seats h = led_after (Fills slots high c) (all_surplus (init ▹ rest) c) (λ d q. led_refused (Fills slots high c))
    parts_fill (init ▹ rest) line in_scalar (part ∷ parts) low base high target c solid same k seats h =
        led_after (Fills slots high c) (initialize init in_scalar part.0 part.1 target c)
        (λ d q z s.
        let one = initialize_fills init in_scalar part.0 part.1 low seats.1.0 target c solid same seats.1.3 seats.1.1 (omega (arith, k, seats.0)) seats.1.2 h d q in
        let last = parts_fill rest line in_scalar parts (part.1 + seats.1.0.size) (part.1 + seats.1.0.size) high d.1 d.0 one.0.solid (one.0.completed ∙ same) (omega arith) seats.1.4 one.1 z s in
        (kept_trans c d.0 z.0 one.0 last.0, last.1))

-- the first bytes and pointers of the statics of a core fill their layouts (C99 6.7.8, 6.9.2)

-- tags of their sorts are as types name them

found_body : (made : List TagInfo) (ts : List CompletedTag) (tag : ℕ) (done : CompletedTag) → BodiesSorted made ts → find (λ (d : CompletedTag). d.tag == tag) ts ≡ Some done → (done.tag ≡ tag) × BodySorted made done
found_body made [] tag done h e = cc
found_body made (t ∷ ts) tag done h e = by (t.tag == tag) refl (λ k. found_body made ts tag done h.1 k) e
  where
    by : (b : Bool) → (t.tag == tag) ≡ b → (find (λ (d : CompletedTag). d.tag == tag) ts ≡ Some done → (done.tag ≡ tag) × BodySorted made done) → cond b (Some t) (find (λ (d : CompletedTag). d.tag == tag) ts) ≡ Some done → (done.tag ≡ tag) × BodySorted made done
    by true q again k =
        let same : t ≡ done = ap (λ (o : Option CompletedTag). unwrap_or o done) k in
        subst (λ (x : CompletedTag). (x.tag ≡ tag) × BodySorted made x) same (eqb-true t.tag tag q, h.0)
    by false q again k = again k

proper_type : (made : List TagInfo) (ts : List CompletedTag) (type : PlainType) → BodiesSorted made ts → SortedType made type → Proper ts type
proper_type made ts (Struct tag) h s = λ done e.
    let b = found_body made ts tag done h e in
    let same : b.1.0.0 ≡ s.0 = cc in
    b.1.0.2 ∙ (ap (λ (x : TagInfo). x.is_union) same ∙ s.2)
proper_type made ts (Array element m) h s = proper_type made ts element h s
proper_type made ts other h s = tt

proper_members : (made : List TagInfo) (ts : List CompletedTag) (ms : List (List ℕ × PlainType)) → BodiesSorted made ts → MembersSorted made ms → MembersProper ts ms
proper_members made ts [] h s = tt
proper_members made ts (m ∷ ms) h s = (proper_type made ts m.1 h s.0, proper_members made ts ms h s.1)

all_proper : (made : List TagInfo) (ts : List CompletedTag) → BodiesSorted made ts → AllProper ts
all_proper made ts h tag done e = proper_members made ts done.members h (found_body made ts tag done h e).1.1

-- objects at file scope have variables of their layouts
abbrev LaidObjects : Known → List Variable → Table → Type 0
LaidObjects k vs file = (name : List ℕ) (type : PlainType) (i : ℕ) → named_in name file ≡ Some (n.Object type i) → (v : Variable) × (slice_get vs i ≡ Some v) × (layout_of k type ≡ Some v.layout)

pub record Fitted (c : Context) : Type 0 where
  pub sound : LayoutsAreSound
  pub objects : LaidObjects (K c) c.variables c.scopes.file
  pub starts : StartsFilled c.variables

fitted_on : (c d : Context) → Settled c d → Extends (K c) (K d) → Fitted c → Fitted d
fitted_on c d s x h = record {
  sound = h.sound;
  objects = λ name type i e. let r = h.objects name type i (s.objects name type i e) in (r.0, subst (λ (vs : List Variable). slice_get vs i ≡ Some r.0) (sym s.variables) r.1, layout_stays (K c) (K d) x type r.0.layout r.2);
  starts = subst StartsFilled (sym s.variables) h.starts;
}

there_of : (c : Context) → Fitted c → There c
there_of c h name type i e = let r = h.objects name type i e in (r.0, r.1)

-- an initializer of a variable

target_filled : (slots : List ℕ) (high : ℕ) (t : Target) → TargetFilled slots high t → Filled slots high (start_in t)
target_filled slots high (InStatic start) h = search (arith, trimmed_length, cut_same, reverse-reverse)
target_filled slots high other h = absurd h

objects_set : (k : Known) (vs ws : List Variable) (file : Table) → VariablesStay vs ws → LaidObjects k vs file → LaidObjects k ws file
objects_set k vs ws file x h name type i e = search arith

starts_set : (vs : List Variable) (index : ℕ) (v : Variable) (start : Start) → StartsFilled vs → Filled v.layout.slots v.layout.size start → StartsFilled (slice_set vs index (record v { start = Some start }))
starts_set vs index v start h p i u s g r =
    ⊎_elim
    (λ (k : (i ≡ index) × (u ≡ record v { start = Some start })).
    let layouts : v.layout ≡ u.layout = sym (ap (λ (y : Variable). y.layout) k.1) in
    let starts : start ≡ s = some_same start s (sym (ap (λ (y : Variable). y.start) k.1) ∙ r) in
    subst (λ (x : Start). Filled u.layout.slots u.layout.size x) starts (subst (λ (l : Layout). Filled l.slots l.size start) layouts p))
    (λ (k : (i ≡ index → ⊥) × (slice_get vs i ≡ Some u)). h i u s k.1 r)
    (set_get vs index (record v { start = Some start }) i u g)

start_fitted : (index : ℕ) (c : Context) (start : Start) (v : Variable) → slice_get c.variables index ≡ Some v → Fitted c → Filled v.layout.slots v.layout.size start → Fitted (record c { variables = started_variable index start (slice_get c.variables index) c.variables })
start_fitted index c start v e h p =
    subst (λ (o : Option Variable). Fitted (record c { variables = started_variable index start o c.variables })) (sym e)
    (record { sound = h.sound; objects = objects_set (K c) c.variables _ c.scopes.file (set_stay c.variables index v start e) h.objects; starts = starts_set c.variables index v start h.starts p })

fill_fitted : (line index : ℕ) (type : PlainType) (inits : Trees) (c : Context) (v : Variable) → Solid c → Sorts c → SortedType c.tags.made type → Fitted c → slice_get c.variables index ≡ Some v → layout_of (K c) type ≡ Some v.layout → Led Fitted (fill_variable line index type inits c)
fill_fitted line index type none c v solid ks st h at laid = led_ok Fitted h
fill_fitted line index type (init ▹ rest) c v solid ks st h at laid =
    let ts = c.tags.completed in
    let l = v.layout in
    led_unless Fitted (is_some (start_of (slice_get c.variables index))) DeclaredTwice line
    (λ t. led_after Fitted (initialize init false type 0 (InStatic no_start) c)
    (λ d q. let points = initialize_points init false type 0 (InStatic no_start) c (there_of c h) tt d q in
    let fills = initialize_fills h.sound ts (all_proper c.tags.made ts ks.bodies) l.size l.slots init false type 0 0 l (InStatic no_start) c solid refl (proper_type c.tags.made ts type ks.bodies st) laid (omega arith) (search arith) (nothing_filled l.slots 0) d q in
    let near = fitted_on c d.0 points.0 (λ tag l q. ap (λ (ts : List CompletedTag). known ts tag) fills.0.completed ∙ q) h in
    let here : slice_get d.0.variables index ≡ Some v = subst (λ (vs : List Variable). slice_get vs index ≡ Some v) (sym points.0.variables) at in
    led_ok Fitted (start_fitted index d.0 (start_in d.1) v here near (filled_more l.slots (0 + l.size) l.size (start_in d.1) (omega arith) (target_filled l.slots (0 + l.size) d.1 fills.1)))))

-- an object that is declared, with its variable

record Placed (index : ℕ) (type : PlainType) (c : Context) : Type 0 where
  fitted : Fitted c
  variable : Variable
  there : slice_get c.variables index ≡ Some variable
  laid : layout_of (K c) type ≡ Some variable.layout

module _ (name : List ℕ) (type : PlainType) (c : Context) (file : Table) where
  abbrev outer : Context
  outer = record c { scopes = record { file = file; inner = [] } }

  abbrev index_of : Option PlainNamed → ℕ
  index_of o = variable_number_of outer o

  abbrev pushed : ℕ → Context
  pushed index = record c { scopes = record { file = file ++ (name, n.Object type index) ∷ []; inner = [] } }

  -- a variable more
  new_placed : (line index : ℕ) (x : Context) → index ≡ length c.variables → is_some (layout_in c.tags type) ≡ true → Fitted outer → with_new_variable line name type (pushed index) ≡ Ok x → Placed index type x
  new_placed line index x e s h q =
      let d = pushed index in
      let v : Variable = record { name = name; layout = unwrap_or (layout_in c.tags type) no_layout; start = None } in
      let y = came (with_static line (size_or_zero d type) d) q in
      let k = d.static_bytes + block_size (size_or_zero d type) in
      let p : record d { static_bytes = k } ≡ y.value = passed _ StaticTooLarge line (record d { static_bytes = k }) y.value y.is in
      let same : record d { static_bytes = k; variables = c.variables ++ v ∷ [] } ≡ x =
      ap (λ (z : Context). record z { variables = z.variables ++ (record { name = name; layout = unwrap_or (layout_in z.tags type) no_layout; start = None }) ∷ [] }) p ∙ ok_same _ x y.last in
      let ws = c.variables ++ v ∷ [] in
      let here : slice_get ws index ≡ Some v = ap (λ (i : ℕ). slice_get ws i) e ∙ get_last c.variables v in
      let laid : layout_of (K c) type ≡ Some v.layout = some_layout (layout_in c.tags type) s in
      subst (Placed index type) same (record {
        fitted = record {
          sound = h.sound;
          objects = λ key t i g. ⊎_elim
              (λ (r : named_in key file ≡ Some (n.Object t i)). let z = h.objects key t i r in (z.0, get_left c.variables (v ∷ []) i z.0 z.1, z.2))
              (λ (r : Pushed key name (n.Object type index) (n.Object t i) file). new_object v t i here laid r.value)
              (push_get key name (n.Object type index) (n.Object t i) file g);
          starts = λ i u start g r. ⊎_elim
              (λ (z : slice_get c.variables i ≡ Some u). h.starts i u start z r)
              (λ (z : (i ≡ length c.variables) × (u ≡ v)). absurd (none_started u start z.1 r))
              (get_push c.variables v i u g);
        };
        variable = v;
        there = here;
        laid = laid;
      })
    where
      none_started : (u : Variable) (start : Start) → u ≡ record { name = name; layout = unwrap_or (layout_in c.tags type) no_layout; start = None } → u.start ≡ Some start → ⊥
      none_started u start p r = let clash : None ≡ Some start = sym (ap (λ (y : Variable). y.start) p) ∙ r in cc

      new_object : (v : Variable) (t : PlainType) (i : ℕ) → slice_get (c.variables ++ v ∷ []) index ≡ Some v → layout_of (K c) type ≡ Some v.layout → n.Object type index ≡ n.Object t i → (u : Variable) × (slice_get (c.variables ++ v ∷ []) i ≡ Some u) × (layout_of (K c) t ≡ Some u.layout)
      new_object v t i there laid e =
          let types : type ≡ t = cc in
          let places : index ≡ i = cc in
          (v, subst (λ (j : ℕ). slice_get (c.variables ++ v ∷ []) j ≡ Some v) places there, subst (λ (y : PlainType). layout_of (K c) y ≡ Some v.layout) types laid)

  again_placed : (line i : ℕ) (t : PlainType) (d x : Context) → named_in name file ≡ Some (n.Object t i) → Fitted outer → unless (not (true && same t type)) DeclaredTwice line (good outer) ≡ Ok d → with_variable line i name type d ≡ Ok x → Placed i type x
  again_placed line i t d x e h q k =
      let r = h.objects name t i e in
      let alike : t ≡ type = same_equal t type (not_false (same t type) (kept_test (not (true && same t type)) DeclaredTwice line (good outer) d q)) in
      let is : outer ≡ d = passed (not (true && same t type)) DeclaredTwice line outer d q in
      let near : nat_lt i (length c.variables) ≡ true = below (nat_lt i (length c.variables)) refl (get_below c.variables i r.0 r.1) in
      let stays : good outer ≡ Ok x = sym (ap (λ (b : Bool). cond b (good outer) (with_new_variable line name type outer)) near) ∙ (ap (λ (y : Context). with_variable line i name type y) is ∙ k) in
      subst (Placed i type) (ok_same outer x stays) (record { fitted = h; variable = r.0; there = r.1; laid = subst (λ (y : PlainType). layout_of (K c) y ≡ Some r.0.layout) alike r.2 })
    where
      not_false : (b : Bool) → not (true && b) ≡ false → b ≡ true
      not_false true w = refl
      not_false false w = cc

      below : (b : Bool) → nat_lt i (length c.variables) ≡ b → i < length c.variables → b ≡ true
      below true w less = refl
      below false w less = absurd (omega (arith, less, ltb-false i (length c.variables) w))

  placed_by : (line : ℕ) (o : Option PlainNamed) (d x : Context) → named_in name file ≡ o → is_some (layout_in c.tags type) ≡ true → Fitted outer
      → unless (is_twice_in true (n.Object type (index_of o)) o) DeclaredTwice line (good (record outer { scopes = cond (is_some o) outer.scopes (record { file = file ++ (name, n.Object type (index_of o)) ∷ []; inner = [] }) })) ≡ Ok d
      → with_variable line (index_of o) name type d ≡ Ok x → Placed (index_of o) type x
  placed_by line None d x e s h q k = search (arith, ok_same, nat_lt, new_placed, ltb-true) fits 100
  placed_by line (Some (n.Object t i)) d x e s h q k = again_placed line i t d x e h q k
  placed_by line (Some (n.Register t i)) d x e s h q k = never (Placed (index_of (Some (n.Register t i))) type x) _ d q
  placed_by line (Some (n.Function t i)) d x e s h q k = never (Placed (index_of (Some (n.Function t i))) type x) _ d q
  placed_by line (Some (n.Typedef t)) d x e s h q k = never (Placed (index_of (Some (n.Typedef t))) type x) _ d q
  placed_by line (Some (n.Constant t i)) d x e s h q k = never (Placed (index_of (Some (n.Constant t i))) type x) _ d q
  placed_by line (Some (n.BuiltIn i)) d x e s h q k = never (Placed (index_of (Some (n.BuiltIn i))) type x) _ d q
  placed_by line (Some (n.Tag t)) d x e s h q k = never (Placed (index_of (Some (n.Tag t))) type x) _ d q

placed : (line : ℕ) (name : List ℕ) (type : PlainType) (c d x : Context) → length c.scopes.inner ≡ 0 → is_some (layout_in c.tags type) ≡ true → Fitted c
    → (let index = variable_number_of c (named_in name c.scopes.file) in declared_as line name (n.Object type index) c ≡ Ok d → with_variable line index name type d ≡ Ok x → Placed index type x)
placed line name type c d x flat s h =
    let file = c.scopes.file in
    let at : record c { scopes = record { file = file; inner = [] } } ≡ c = ap (λ (i : List Table). record c { scopes = record { file = file; inner = i } }) (no_scope c.scopes.inner flat) in
    subst (λ (y : Context). Fitted y → (let index = variable_number_of y (named_in name y.scopes.file) in declared_as line name (n.Object type index) y ≡ Ok d → with_variable line index name type d ≡ Ok x → Placed index type x)) at
    (λ g q k. placed_by name type c file line (named_in name file) d x refl s g q k) h

object_fitted : (line : ℕ) (name : List ℕ) (type : PlainType) (inits : Trees) (c : Context) → length c.scopes.inner ≡ 0 → Solid c → Whole (K c) type → Sorts c → SortedType c.tags.made type → Fitted c → Led Fitted (file_object line name type inits c)
object_fitted line name type inits c flat h w ks st fit =
    let index = variable_number_of c (named_in name c.scopes.file) in
    led_unless Fitted (has_no_size c.tags type) Incomplete line
    (λ t. let sized = has_size c.tags type t in
    led_after Fitted (declared_as line name (n.Object type index) c)
    (λ d q. let r = declared_rises line name (n.Object type index) c h w (λ x. tt) d q in
    led_after Fitted (with_variable line index name type d)
    (λ x s. let k = variable_rises line index name type d r.solid (whole_stays type (K c) (K d) r.more w) (some_stays (K c) (K d) type r.more sized) x s in
    let p = placed line name type c d x flat sized fit q s in
    fill_fitted line index type inits x p.variable k.solid (k.kinds.sorts (r.kinds.sorts ks)) (type_longer type c.tags.made x.tags.made (λ i u e. k.kinds.made i u (r.kinds.made i u e)) st) p.fitted p.there p.laid)))

-- functions and other names

no_initializer_fitted : (inits : Trees) (c : Context) → Fitted c → Led Fitted (no_initializer inits c)
no_initializer_fitted inits c h = search (arith, led_ok, led_after, led_refused) fits 100

file_name_fitted : (line : ℕ) (storage : Storage) (name : List ℕ) (type : PlainType) (inits : Trees) (c : Context) → length c.scopes.inner ≡ 0 → Solid c → Whole (K c) type → Sorts c → SortedType c.tags.made type → Fitted c → Led Fitted (file_name line storage name type inits c)
file_name_fitted line Typedef name type inits c flat h w ks st fit = λ d q. fitted_on c d (declared_levels line name (n.Typedef type) c c tt (levels_refl c) d q).settled (typedef_rises c c (rises_refl c h) line name type w (λ x. st) d q).more fit
file_name_fitted line other name type inits c flat h w ks st fit =
    led_cond Fitted (is_built_in type (named_in name c.scopes.file)) (no_initializer inits c) _ (no_initializer_fitted inits c fit)
    (led_cond Fitted (is_function type) (file_function line name type inits c) (file_object line name type inits c)
    (led_after Fitted (declared_function line name type c)
    (λ d q. no_initializer_fitted inits d (fitted_on c d (function_settled line name type c d q) (declared_function_rises line name type c h w d q).more fit)))
    (object_fitted line name type inits c flat h w ks st fit))

name_fitted : (line : ℕ) (storage : Storage) (name : Option (List ℕ)) (type : PlainType) (inits : Trees) (c : Context) → length c.scopes.inner ≡ 0 → Solid c → Whole (K c) type → Sorts c → SortedType c.tags.made type → Fitted c → Led Fitted (name_in true line storage name type inits c)
name_fitted line storage None type inits c flat h w ks st fit = led_ok Fitted fit
name_fitted line storage (Some name) type inits c flat h w ks st fit = file_name_fitted line storage name type inits c flat h w ks st fit

-- declarations at file scope

record Steady (c : Context) : Type 0 where
  safe : Safe c.scopes
  flat : length c.scopes.inner ≡ 0
  solid : Solid c
  sorts : Sorts c
  fitted : Fitted c

entry_fitted : (line : ℕ) (storage : Storage) (base : PlainType) (declarator : Tree) (inits : Trees) (c : Context) → Steady c → Whole (K c) base → SortedType c.tags.made base → Written declarator → AllWritten inits → Led Fitted (entry true line storage base declarator inits c)
entry_fitted line storage base declarator inits c k b st w v =
    led_after Fitted (layers declarator c)
    (λ l q. let r = layers_rise declarator c k.solid w l q in
    let m = layers_level declarator c c (levels_refl c) l q in
    led_after Fitted (with_init_layers l.0.tags l.1 inits base)
    (λ type s. name_fitted line storage (name_of declarator) type inits l.0 (m.depth ∙ k.flat) r.0.solid
    (init_layers_whole l.0.tags l.1 inits base v (whole_stays base (K c) (K l.0) r.0.more b) r.1 type s)
    (r.0.kinds.sorts k.sorts)
    (init_layers_sorted l.0.tags.made l.0.tags l.1 inits base (type_longer base c.tags.made l.0.tags.made r.0.kinds.made st) type s)
    (fitted_on c l.0 m.settled r.0.more k.fitted)))

entries_fitted : (names : Trees) (line : ℕ) (storage : Storage) (base : PlainType) (c : Context) → Steady c → Whole (K c) base → SortedType c.tags.made base → AllWritten names → Led Fitted (entries true line storage base names c)
unfolding entries Written AllWritten
entries_fitted none line storage base c k b st w = led_ok Fitted k.fitted
entries_fitted (Node f.Entry (Node f.Declared (declarator ▹ none) ▹ Node f.MaybeInit inits ▹ none) ▹ rest) line storage base c k b st w =
    led_after Fitted (entry true line storage base declarator inits c)
    (λ d q. let o = entry_rises c true line storage base declarator inits c (rises_refl c k.solid) b (λ x. st) w.0.1.0.1.0 w.0.1.1.0.1 d q in
    let y = (entry_declares true line storage base declarator inits c k.safe (λ t. k.flat) d q).stays in
    entries_fitted rest line storage base d
    (record { safe = y.safe; flat = y.depth ∙ k.flat; solid = o.rises.solid; sorts = o.rises.kinds.sorts k.sorts; fitted = entry_fitted line storage base declarator inits c k b st w.0.1.0.1.0 w.0.1.1.0.1 d q })
    (whole_stays base (K c) (K d) o.more b) (type_longer base c.tags.made d.tags.made o.made st) w.1)
entries_fitted (tree ▹ rest) line storage base c k b st w = led_refused Fitted

declaration_fitted : (line : ℕ) (words tree : Tree) (c : Context) → Steady c → Written words → Written tree → Led Fitted (declaration true line words tree c)
unfolding declaration Written
declaration_fitted line words (Node f.Names names) c k v w =
    led_after Fitted (specs_before words names c)
    (λ base q. let b = before_rises words names c k.solid v base q in
    let m = before_level words names c base q in
    let y = (specs_before_passes words names c k.safe base q).stays in
    entries_fitted names line (storage_of words) base.1 base.0
    (record { safe = y.safe; flat = m.depth ∙ k.flat; solid = b.0.solid; sorts = b.0.kinds.sorts k.sorts; fitted = fitted_on c base.0 m.settled b.0.more k.fitted })
    b.1 (b.2 k.sorts) w.1)
declaration_fitted line words tree c k v w = led_refused Fitted

-- texts

begun_fitted : (line : ℕ) (addressed : List ℕ) (c : Context) → Fitted c → Fitted (begun line addressed c)
begun_fitted line addressed c h = record { sound = h.sound; objects = h.objects; starts = h.starts }

external_fitted : (tree : Tree) (c : Context) → Sane c → Solid c → Sorts c → Written tree → Fitted c → Led Fitted (external tree c)
unfolding external Written AllWritten
external_fitted (Node f.Function (At line ▹ words ▹ Node f.Declared (declarator ▹ none) ▹ tree ▹ none)) c s h ks w fit z q =
    let b = begun line (addressed_in declarator tree) c in
    fitted_on b z (definition_settled line words declarator tree b s.safe s.params s.flat z q) (external_rises (Node f.Function (At line ▹ words ▹ Node f.Declared (declarator ▹ none) ▹ tree ▹ none)) c h w z q).more (begun_fitted line (addressed_in declarator tree) c fit)
external_fitted (Node f.Declaration (At line ▹ words ▹ names ▹ none)) c s h ks w fit z q =
    declaration_fitted line words names (begun line [] c) (record { safe = s.safe; flat = s.flat; solid = (begun_rises line [] c h).solid; sorts = ks; fitted = begun_fitted line [] c fit }) w.1.1.0 w.1.1.1.0 z q
external_fitted tree c s h ks w fit z q = led_refused Fitted z q

externals_fitted : (unit : Trees) (c : Context) → Sane c → Solid c → Sorts c → AreWritten unit → Fitted c → Led Fitted (externals unit c)
unfolding externals
externals_fitted none c s h ks w fit = led_ok Fitted fit
externals_fitted (tree ▹ rest) c s h ks w fit =
    led_after Fitted (external tree c)
    (λ d q. let r = external_rises tree c h w.0.0 d q in
    externals_fitted rest d (external_sane tree c s d q) r.solid (r.kinds.sorts ks) w.1 (external_fitted tree c s h ks w.0.0 fit d q))

no_objects : (k : ℕ) (list : List BuiltIn) → LaidObjects (K first_context) [] (numbered_from k list)
no_objects k [] name type i e = cc
no_objects k (b ∷ list) name type i e = by (bytes_eq name (names.name_of b)) (no_objects (k + 1) list name type i) e
  where
    Goal : Type 0
    Goal = (v : Variable) × (slice_get [] i ≡ Some v) × (layout_of (K first_context) type ≡ Some v.layout)

    by : (t : Bool) → (named_in name (numbered_from (k + 1) list) ≡ Some (n.Object type i) → Goal) → cond t (Some (n.BuiltIn k)) (named_in name (numbered_from (k + 1) list)) ≡ Some (n.Object type i) → Goal
    by true rest q = cc
    by false rest q = rest q

first_fitted : LayoutsAreSound → Fitted first_context
first_fitted sound = record { sound = sound; objects = no_objects 0 built_ins; starts = λ i v s e q. cc }

numbered_sorted : (j : ℕ) (bs : List BuiltIn) → TableFits (SortedName []) (numbered_from j bs)
numbered_sorted j [] name v e = cc
numbered_sorted j (b ∷ bs) name v e =
    either_way (λ y0. (named_in name (numbered_from (j + 1) bs) ≡ Some v → SortedName [] v) → y0 ≡ Some v → SortedName [] v) (bytes_eq name (names.name_of b))
    (λ again q. let same : n.BuiltIn j ≡ v = cc in subst (SortedName []) same tt)
    (λ again q. again q) (numbered_sorted (j + 1) bs name v) e

first_sorts : Sorts first_context
first_sorts = record { names = record { file = numbered_sorted 0 built_ins; inner = tt }; list = none_fits (SortedName []); bodies = tt }

walked_fitted : LayoutsAreSound → (unit : Trees) → AreWritten unit → Led Fitted (walked unit)
walked_fitted sound unit w c q = externals_fitted unit first_context first_sane first_solid first_sorts w (first_fitted sound) c (behind_text unit c q).0

-- the statics of a core

pub core_statics : LayoutsAreSound → (unit : Trees) (core : Core) (tags : TagTable) → AreWritten unit → elaborated unit ≡ Ok (core, tags) → All (IsStatic core) core.statics
core_statics sound unit core tags w q =
    let b = core_behind unit core tags q in
    let c = b.context in
    let layouts : HasLayouts (core_of c) = subst HasLayouts (sym b.made) (core_layouts unit core tags w q) in
    subst (λ (x : Core). All (IsStatic x) x.statics) b.made (statics_sound c (walked_pointed unit c b.is) (walked_fitted sound unit w c b.is).starts layouts)
