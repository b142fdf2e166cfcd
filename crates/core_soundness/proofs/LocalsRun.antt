-- What initializers and declarations of locals do to what fits.
use Rattle.core_soundness.proofs.Words.Std.{◌≡◌, ◌≤◌, ◌<◌, ◌+◌, ℕ, pos, Bool, true, false, cond, min, take, length, List, [], ◌∷◌, Option, Some, None, Ok, refl, sym, subst, arith, zero, suc, nat_lt, is_some, ◌++◌, slice_get, slice_set, unwrap_or, ap, ◌∙◌, bytes_eq, length-append, ltb-true, option_or}
use Rattle.core_soundness.proofs.Words.Trees.{name_of, Tree, Trees, At, Node, none, ◌▹◌, count, Leaf}
use Rattle.core_soundness.proofs.Words.Types.{no_layout, layout_in, PlainType, Array, Struct, Union, line_of, PlainNamed, unconverted, Checked, refused, then, unless, Table, named_in, innermost, with_name, after_declaration, tag_name, Layer, tag_named, is_function, has_no_size, Assignment, DeclaredTwice, Incomplete, LeftOut, StaticTooLarge, is_built_in}
use Rattle.core_soundness.proofs.Words.Core.{block_size, Pointer, Sort, Integer, Start, Atom, Off, Copy, Set, Clear, Enter}
use Rattle.core_soundness.proofs.Words.Elaborating.{Context, emit, Variable, asked, Found, Local, Memory, atom_in, code_line, valued, convert, write, size_or_zero, Spot, Storage, storage_of, specs_before, fill_local, entry, Typedef, Outside, specs_alone, zero_of, cleared, fill_memory, fill_register, fill_at, local_name, function_number, with_function, declared_function, no_initializer, variable_number_of, with_new_variable, with_variable, start_of, start_in, started_variable, started, fill_variable, file_object, file_function, file_value, file_name, name_in, entries, declaration, layers, found, Target, InRegister, InMemory, InStatic, static_scalar, member_place, store_at, fill_scalar, copy_to, fill_record, whole, fill_text, is_character, text, by_text, by_expression, parts_of, takes_braces, is_scalar_type, all_surplus, initialize, initialize_parts, with_bytes, with_init_layers, surplus, no_start, with_local, is_twice, declared_as, opened, closed, with_literal, with_static, reallocates, anew}
use Rattle.core_soundness.proofs.Words.Facts.{Spoken, AllSpoken, World, world, Holds, StandsAs, NamesFit, InnerFits, FileFits, Written, AllWritten, TablesFit}
use Rattle.c_types.specs.Types as types
use Rattle.core_tree.specs.declared.statements.Atom.TheVariants as atom
use Rattle.c_tree.specs.Forms as f
use Rattle.c_tree.specs.Words as w
use Rattle.c_decls.specs.Named as n
use Rattle.c_decls.specs.ScopeList as scopes
use Rattle.elaboration.specs.Declarations as storages
use Rattle.core_soundness.proofs.Agreeing.{came}
use Rattle.core_soundness.proofs.Calls.{converting_of, same_record, names_more, all_spoken_more}
use Rattle.core_soundness.proofs.Growth.{good, bad, ok_same, never, behind_string, behind_test}
use Rattle.core_soundness.proofs.Landing.{in_memory, literal_there}
use Rattle.core_soundness.proofs.LayersRun.{TableKept, rescoped, with_local_runs, declared_runs, with_type_runs, specs_run, layers_run}
use Rattle.core_soundness.proofs.Scopes.{pushed_fits, more_refl, all_refl, named_push, outside_spoken}
use Rattle.core_soundness.proofs.Sitting.{opened_rests, closed_goes, Evaluates, evaluates, evaluated_goes, Fine, Runs, runs_refl, runs_trans, goes_runs, on_runs, goes_anew}
use Rattle.core_soundness.proofs.Sorting.{Grew, holds_grew, Goes, goes_refl, goes_trans, goes_emit, gives_pointer, Gives, held_grew, stands_as_grew, converted, write_goes, unbarred, grew_refl, pieces_grew, passed}
use Rattle.core_soundness.proofs.TagSorts.{tag_after}
use Rattle.core_soundness.proofs.Choices.{either_way, three_parts}

-- what initializers do to what fits (C99 6.7.8)

-- what is initialized fits
abbrev pub TargetFits : World → PlainType → Target → Type 0
TargetFits v type (InRegister line register) = (1 ≤ line) × StandsAs v true type (Local register)
TargetFits v type (InMemory line mem) = (1 ≤ line) × (mem < v.mems)
TargetFits v type (InStatic start) = Unit {0}

abbrev pub SameTarget : Target → Target → Type 0
SameTarget (InRegister line register) u = u ≡ InRegister line register
SameTarget (InMemory line mem) u = u ≡ InMemory line mem
SameTarget (InStatic start) (InStatic other) = Unit {0}
SameTarget (InStatic start) (InRegister line register) = ⊥
SameTarget (InStatic start) (InMemory line mem) = ⊥

target_refl : (t : Target) → SameTarget t t
target_refl t = search arith fits 100

target_trans : (t u v : Target) → SameTarget t u → SameTarget u v → SameTarget t v
target_trans t u v x y = search arith fits 100

target_on : (v w : World) (type : PlainType) (t u : Target) → Grew v w → SameTarget t u → TargetFits v type t → TargetFits w type u
target_on v w type (InRegister line register) u g s h = subst (TargetFits w type) (sym s) (h.0, stands_as_grew v w true type (Local register) g h.1)
target_on v w type t u g s h = search arith fits 100

-- what is filled, and where the walk goes
pub record Fills (c : Context) (t : Target) (z : Context × Target) : Type 0 where
  pub goes : Goes c z.0
  pub same : SameTarget t z.1

place_gives : (line mem offset : ℕ) (c : Context) → 1 ≤ line → mem < (world c).mems → Gives c Pointer (member_place line mem offset c)
place_gives line mem offset c l h = gives_pointer line (λ p. Off p (atom.Mem mem) (pos offset)) c l (λ v r g there. (there, (refl, omega (arith, h, g.mems))))

-- leaves

fill_scalar_fits : (e : Tree) (line : ℕ) (type : PlainType) (offset : ℕ) (c : Context) (d : Context × Found) (t : Target) (z : Context × Target) → Evaluates c e d → unconverted type d.1.typed ≡ None → TargetFits (world c) type t
    → fill_scalar e line type offset (opened e c).code d t ≡ Ok z → Fills c t z
fill_scalar_fits e line type offset c d (InRegister at register) z v u h q =
    let begun = opened e c in
    let x = convert at begun.code type d.1.typed (atom_in d.1) d.0 in
    let k = converted at begun type d.1.typed (atom_in d.1) d.0 h.0 v.comes.goes v.comes.value.held in
    let gx : Goes c x.0 = goes_trans c begun x.0 v.begun k.goes in
    let s = write at type (Local register) x.1 x.0 in
    let gs : Goes x.0 s = write_goes at type (Local register) x.1 x.0 h.0 (stands_as_grew (world c) (world x.0) true type (Local register) gx.grew h.1) (k.held (converting_of type d.1.typed u)) in
    subst (Fills c (InRegister at register)) (ok_same (closed e s, InRegister at register) z q) (record { goes = goes_trans c x.0 _ gx (goes_trans x.0 s _ gs (closed_goes e s v.line)); same = refl })
fill_scalar_fits e line type offset c d (InMemory at mem) z v u h q =
    let begun = opened e c in
    let x = convert at begun.code type d.1.typed (atom_in d.1) d.0 in
    let k = converted at begun type d.1.typed (atom_in d.1) d.0 h.0 v.comes.goes v.comes.value.held in
    let gx : Goes c x.0 = goes_trans c begun x.0 v.begun k.goes in
    let place = member_place at mem offset x.0 in
    let pg = place_gives at mem offset x.0 h.0 (omega (arith, h.1, gx.grew.mems)) in
    let s = store_at at type x.1 place in
    let gs : Goes place.0 s = write_goes at type (Memory place.1) x.1 place.0 h.0 pg.holds (held_grew (world x.0) (world place.0) type x.1 pg.goes.grew (k.held (converting_of type d.1.typed u))) in
    subst (Fills c (InMemory at mem)) (ok_same (closed e s, InMemory at mem) z q)
    (record { goes = goes_trans c x.0 _ gx (goes_trans x.0 place.0 _ pg.goes (goes_trans place.0 s _ gs (closed_goes e s v.line))); same = refl })
fill_scalar_fits e line type offset c d (InStatic start) z v u h q =
    let s = came (static_scalar line type offset start d.1) q in
    subst (Fills c (InStatic start)) (ok_same (d.0, InStatic s.value) z s.last) (record { goes = evaluated_goes c e d v; same = tt })

fill_record_fits : (e : Tree) (line : ℕ) (type : PlainType) (offset : ℕ) (c : Context) (d : Context × Found) (t : Target) (z : Context × Target) → Goes c d.0 → 1 ≤ code_line e → Holds (world d.0) Pointer (atom_in d.1) → TargetFits (world c) type t → fill_record e line type offset d t ≡ Ok z → Fills c t z
fill_record_fits e line type offset c d (InMemory at mem) z g l held h q =
    let place = member_place at mem offset d.0 in
    let pg = place_gives at mem offset d.0 h.0 (omega (arith, h.1, g.grew.mems)) in
    let s = copy_to at type (atom_in d.1) place in
    let gs : Goes place.0 s = goes_emit at (Copy place.1 (atom_in d.1) (pos (size_or_zero place.0 type))) place.0 h.0 (pg.holds, holds_grew (world d.0) (world place.0) Pointer (atom_in d.1) pg.goes.grew held) in
    subst (Fills c (InMemory at mem)) (ok_same (closed e s, InMemory at mem) z q)
    (record { goes = goes_trans c d.0 _ g (goes_trans d.0 place.0 _ pg.goes (goes_trans place.0 s _ gs (closed_goes e s l))); same = refl })
fill_record_fits e line type offset c d other z g l held h q = never _ _ z q

whole_fits : (e : Tree) (line : ℕ) (type : PlainType) (offset : ℕ) (t : Target) (c : Context) (z : Context × Target) → Spoken c.scopes e → NamesFit (world c) c.scopes → TargetFits (world c) type t → whole e line type offset t c ≡ Ok z → Fills c t z
whole_fits e line type offset t c z s n h q =
    let d = came (found e type (opened e c)) q in
    let o = opened_rests e type c d.value s n d.is in
    fill_record_fits e line type offset c d.value t z (goes_trans c (opened e c) d.value.0 o.goes o.rests.sits.goes) o.rests.line
    (search (arith, three_parts, in_memory, same_record)) h (behind_test _ _ line _ z d.last)

fill_text_fits : (e : Tree) (line : ℕ) (bytes : List ℕ) (type : PlainType) (size offset : ℕ) (t : Target) (c : Context) (z : Context × Target) → 1 ≤ code_line e → TargetFits (world c) type t → fill_text e line bytes size offset t c ≡ Ok z → Fills c t z
fill_text_fits e line bytes type size offset (InMemory at mem) c z l h q =
    let d = came (with_literal line bytes (opened e c)) q in
    let k = literal_there line bytes (opened e c) d.value d.is in
    let g : Goes c d.value.0 = goes_trans c (opened e c) d.value.0 (either_way (Goes c) (reallocates c.scopes e) (goes_trans c (anew c) _ (goes_anew c) (goes_emit (code_line e) Enter (anew c) l tt)) (goes_anew c)) k.goes in
    let place = member_place at mem offset d.value.0 in
    let pg = place_gives at mem offset d.value.0 h.0 (omega (arith, h.1, g.grew.mems)) in
    let copied = Copy place.1 (atom.Static d.value.1) (pos (min (length bytes + 1) size)) in
    let gs : Goes place.0 (emit at copied place.0) = goes_emit at copied place.0 h.0 (pg.holds, holds_grew (world d.value.0) (world place.0) Pointer (atom.Static d.value.1) pg.goes.grew (refl, k.there)) in
    subst (Fills c (InMemory at mem)) (ok_same (emit at copied place.0, InMemory at mem) z d.last) (record { goes = goes_trans c d.value.0 _ g (goes_trans d.value.0 place.0 _ pg.goes gs); same = refl })
fill_text_fits e line bytes type size offset (InStatic start) c z l h q = subst (Fills c (InStatic start)) (ok_same (c, InStatic (with_bytes start offset (take size bytes))) z q) (record { goes = goes_refl c; same = tt })
fill_text_fits e line bytes type size offset (InRegister at register) c z l h q = never _ _ z q

by_text_fits : (e : Tree) (line : ℕ) (element : PlainType) (size offset : ℕ) (o : Option (List ℕ)) (t : Target) (c : Context) (z : Context × Target) → text e ≡ o → Spoken c.scopes e → NamesFit (world c) c.scopes → TargetFits (world c) (Array element size) t → by_text e line element size offset o t c ≡ Ok z → Fills c t z
unfolding Spoken AllSpoken line_of
by_text_fits e line element size offset None t c z is s n h q = whole_fits e line (Array element size) offset t c z s n h q
by_text_fits e line element size offset (Some bytes) t c z is s n h q =
    either_way (λ x. x ≡ Ok z → Fills c t z) (is_character element)
    (λ q. fill_text_fits e line bytes (Array element size) size offset t c z (search arith fits 100) h (behind_string line bytes (fill_text e line bytes size offset t c) z q))
    (λ q. whole_fits e line (Array element size) offset t c z s n h q) q

by_expression_fits : (e : Tree) (line : ℕ) (type : PlainType) (offset : ℕ) (t : Target) (c : Context) (z : Context × Target) → Spoken c.scopes e → NamesFit (world c) c.scopes → TargetFits (world c) type t → by_expression e line type offset t c ≡ Ok z → Fills c t z
by_expression_fits e line (Array element size) offset t c z s n h q = by_text_fits e line element size offset (text e) t c z refl s n h q
by_expression_fits e line (Struct tag) offset t c z s n h q = whole_fits e line (Struct tag) offset t c z s n h q
by_expression_fits e line (Union tag) offset t c z s n h q = whole_fits e line (Union tag) offset t c z s n h q
by_expression_fits e line type offset t c z s n h q =
    let d = came (valued e (found e type (opened e c))) q in
    let k = unbarred (unconverted type d.value.1.typed) line (fill_scalar e line type offset (opened e c).code d.value t) z d.last in
    fill_scalar_fits e line type offset c d.value t z (evaluates e type c d.value s n d.is) k.0 h k.1

-- braces

abbrev AllTargets : World → List (PlainType × ℕ) → Target → Type 0
AllTargets v [] t = Unit {0}
AllTargets v (part ∷ parts) t = TargetFits v part.0 t × AllTargets v parts t

all_targets_on : (v w : World) (parts : List (PlainType × ℕ)) (t u : Target) → Grew v w → SameTarget t u → AllTargets v parts t → AllTargets w parts u
all_targets_on v w [] t u g s h = tt
all_targets_on v w (part ∷ parts) t u g s h = (target_on v w part.0 t u g s h.0, all_targets_on v w parts t u g s h.1)

-- memory and statics hold parts of any type
in_memory_parts : (v : World) (line mem : ℕ) (parts : List (PlainType × ℕ)) → (1 ≤ line) × (mem < v.mems) → AllTargets v parts (InMemory line mem)
in_memory_parts v line mem [] h = tt
in_memory_parts v line mem (part ∷ parts) h = (h, in_memory_parts v line mem parts h)

in_static_parts : (v : World) (start : Start) (parts : List (PlainType × ℕ)) → AllTargets v parts (InStatic start)
in_static_parts v start [] = tt
in_static_parts v start (part ∷ parts) = (tt, in_static_parts v start parts)

parts_fit : (c : Context) (asked : ℕ) (type : PlainType) (offset : ℕ) (t : Target) → TargetFits (world c) type t → AllTargets (world c) (parts_of c asked type offset) t
unfolding parts_of
parts_fit c asked type offset t h = search (arith, in_memory_parts, in_static_parts) fits 100

cond_parts : (k : Bool) (c : Context) (t : Target) (one other : Checked (Context × Target)) (z : Context × Target) → (one ≡ Ok z → Fills c t z) → (other ≡ Ok z → Fills c t z) → cond k one other ≡ Ok z → Fills c t z
cond_parts k c t one other z x y q = search arith fits 100

surplus_never : (c : Context) (t : Target) (inits : Trees) (line : ℕ) (z : Context × Target) → then (all_surplus inits c) (λ d. bad (record { kind = Assignment; line = line })) ≡ good z → Fills c t z
surplus_never c t inits line z q = let d = came (all_surplus inits c) q in never _ _ z d.last

mutual
  unfolding initialize initialize_parts Spoken AllSpoken

  pub initialize_fits : (tree : Tree) (in_scalar : Bool) (type : PlainType) (offset : ℕ) (t : Target) (c : Context) (z : Context × Target) → Spoken c.scopes tree → NamesFit (world c) c.scopes → TargetFits (world c) type t → initialize tree in_scalar type offset t c ≡ Ok z → Fills c t z
  initialize_fits (Node f.InitExpr (At line ▹ e ▹ none)) in_scalar type offset t c z s n h q = by_expression_fits e (line_of e) type offset t c z s.1.1.0 n h q
  initialize_fits (Node (f.InitList trailing) (At line ▹ Node f.Inits inits ▹ none)) in_scalar type offset t c z s n h q =
      cond_parts (takes_braces type in_scalar) c t (initialize_parts line inits (is_scalar_type type) (parts_of c (count inits) type offset) t c) (then (all_surplus inits c) (λ d. refused Assignment line)) z
      (λ k. initialize_parts_fit inits line (is_scalar_type type) (parts_of c (count inits) type offset) t c z s.1.1.0.1 n (parts_fit c (count inits) type offset t h) k) (λ k. surplus_never c t inits line z k) q
  initialize_fits tree in_scalar type offset t c z s n h q = never _ _ z q

  initialize_parts_fit : (inits : Trees) (line : ℕ) (in_scalar : Bool) (parts : List (PlainType × ℕ)) (t : Target) (c : Context) (z : Context × Target) → AllSpoken c.scopes inits → NamesFit (world c) c.scopes → AllTargets (world c) parts t → initialize_parts line inits in_scalar parts t c ≡ Ok z → Fills c t z
  initialize_parts_fit none line in_scalar parts t c z s n h q = subst (Fills c t) (ok_same (c, t) z q) (record { goes = goes_refl c; same = target_refl t })
  initialize_parts_fit (init ▹ rest) line in_scalar [] t c z s n h q = surplus_never c t (init ▹ rest) line z q
  initialize_parts_fit (init ▹ rest) line in_scalar (part ∷ parts) t c z s n h q =
      let d = came (initialize init in_scalar part.0 part.1 t c) q in
      let one = initialize_fits init in_scalar part.0 part.1 t c d.value s.0 n h.0 d.is in
      let two = initialize_parts_fit rest line in_scalar parts d.value.1 d.value.0 z (all_spoken_more c.scopes d.value.0.scopes rest one.goes.more s.1) (names_more (world c) (world d.value.0) c.scopes d.value.0.scopes one.goes.grew one.goes.more n) (all_targets_on (world c) (world d.value.0) parts t d.value.1 one.goes.grew one.same h.1) d.last in
      record { goes = goes_trans c d.value.0 z.0 one.goes two.goes; same = target_trans t d.value.1 z.1 one.same two.same }

-- what is asked of the initializers of the locals that a declaration declares: where they are filled with success, they take the address of no register

-- of a local that is declared there
abbrev pub LocalSpoken : ℕ → List ℕ → PlainType → Trees → Context → Context → Type 0
LocalSpoken line name type inits c z =
    fill_local line type inits (with_local name type c) ≡ Ok z → AllSpoken (with_local name type c).0.scopes inits

-- of a declarator, which may have no name
abbrev pub EntrySpoken : ℕ → PlainType → Tree → Trees → Context → Context → Type 0
EntrySpoken line base declarator inits c z =
    (l : Context × List Layer) (type : PlainType) (name : List ℕ) → layers declarator c ≡ Ok l → with_init_layers l.0.tags l.1 inits base ≡ Ok type → name_of declarator ≡ Some name → LocalSpoken line name type inits l.0 z

-- of declarators in turn
unfoldable pub EntriesSpoken : ℕ → Storage → PlainType → Trees → Context → Type 0
EntriesSpoken line storage base none c = Unit {0}
EntriesSpoken line storage base (Node f.Entry (Node f.Declared (declarator ▹ none) ▹ Node f.MaybeInit inits ▹ none) ▹ rest) c =
    (d : Context) → entry false line storage base declarator inits c ≡ Ok d → EntrySpoken line base declarator inits c d × EntriesSpoken line storage base rest d
EntriesSpoken line storage base (tree ▹ rest) c = Unit {0}

-- of a declaration
abbrev pub DeclarationSpoken : ℕ → Tree → Tree → Context → Type 0
DeclarationSpoken line words (Node f.Names names) c =
    (base : Context × PlainType) → specs_before words names c ≡ Ok base → EntriesSpoken line (storage_of words) base.1 names base.0
DeclarationSpoken line words tree c = Unit {0}

-- what declarations do to what fits (C99 6.7, 6.9.2)

-- locals

cleared_goes : (line : ℕ) (type : PlainType) (mem : Atom) (c : Context) → 1 ≤ line → Holds (world c) Pointer mem → Goes c (cleared line type mem c)
cleared_goes line type mem c l h = goes_emit line (Clear mem (pos (size_or_zero c type))) c l h

fill_memory_goes : (line : ℕ) (type : PlainType) (inits : Trees) (mem : Atom) (c z : Context) → 1 ≤ line → AllSpoken c.scopes inits → Fine c → Holds (world c) Pointer mem → fill_memory line type inits mem c ≡ Ok z → Goes c z
unfolding AllSpoken
fill_memory_goes line type (init ▹ rest) (atom.Mem mem) c z l p g h q =
    let x = cleared line type (atom.Mem mem) c in
    let first = cleared_goes line type (atom.Mem mem) c l h in
    let d = came (initialize init false type 0 (InMemory line mem) x) q in
    let one = initialize_fits init false type 0 (InMemory line mem) x d.value p.0 g.names (l, h.1) d.is in
    subst (Goes c) (ok_same d.value.0 z d.last) (goes_trans c x d.value.0 first one.goes)
fill_memory_goes line type none mem c z l p g h q = subst (Goes c) (ok_same (cleared line type mem c) z q) (cleared_goes line type mem c l h)
fill_memory_goes line type (init ▹ rest) (atom.Reg r) c z l p g h q = subst (Goes c) (ok_same (cleared line type (atom.Reg r) c) z q) (cleared_goes line type (atom.Reg r) c l h)
fill_memory_goes line type (init ▹ rest) (atom.Int v) c z l p g h q = subst (Goes c) (ok_same (cleared line type (atom.Int v) c) z q) (cleared_goes line type (atom.Int v) c l h)
fill_memory_goes line type (init ▹ rest) atom.Null c z l p g h q = subst (Goes c) (ok_same (cleared line type atom.Null c) z q) (cleared_goes line type atom.Null c l h)
fill_memory_goes line type (init ▹ rest) (atom.Static v) c z l p g h q = subst (Goes c) (ok_same (cleared line type (atom.Static v) c) z q) (cleared_goes line type (atom.Static v) c l h)

zero_set : (line : ℕ) (type : PlainType) (register : ℕ) (c : Context) → 1 ≤ line → StandsAs (world c) true type (Local register) → Goes c (emit line (Set register (zero_of type)) c)
zero_set line (types.Int ty) register c l h = goes_emit line (Set register (atom.Int (pos 0))) c l (Integer, h.1, refl)
zero_set line (types.Pointer target) register c l h = goes_emit line (Set register atom.Null) c l (Pointer, h.1, refl)
zero_set line other register c l h = let clash : false ≡ true = h.0 in cc

fill_register_goes : (line : ℕ) (type : PlainType) (inits : Trees) (register : ℕ) (c z : Context) → 1 ≤ line → AllSpoken c.scopes inits → Fine c → StandsAs (world c) true type (Local register) → fill_register line type inits register c ≡ Ok z → Goes c z
unfolding AllSpoken
fill_register_goes line type none register c z l p g h q = subst (Goes c) (ok_same (emit line (Set register (zero_of type)) c) z q) (zero_set line type register c l h)
fill_register_goes line type (init ▹ rest) register c z l p g h q =
    let d = came (initialize init false type 0 (InRegister line register) c) q in
    let one = initialize_fits init false type 0 (InRegister line register) c d.value p.0 g.names (l, h) d.is in
    subst (Goes c) (ok_same d.value.0 z d.last) one.goes

fill_at_goes : (line : ℕ) (type : PlainType) (inits : Trees) (spot : Spot) (c z : Context) → 1 ≤ line → AllSpoken c.scopes inits → Fine c → StandsAs (world c) true type spot → fill_at line type inits spot c ≡ Ok z → Goes c z
fill_at_goes line type inits (Local register) c z l p g h q = fill_register_goes line type inits register c z l p g h q
fill_at_goes line type inits (Memory mem) c z l p g h q = fill_memory_goes line type inits mem c z l p g h q
fill_at_goes line type inits other c z l p g h q = absurd h

module _ (answer : Option Sort) where
  local_name_runs : (line : ℕ) (storage : Storage) (name : List ℕ) (type : PlainType) (inits : Trees) (k : ℕ) (c z : Context) → 1 ≤ line → LocalSpoken line name type inits c z → Fine c → length c.scopes.inner ≡ suc k → local_name line storage name type inits c ≡ Ok z → Runs answer c z
  local_name_runs line Typedef name type inits k c z l p g deep q = declared_runs answer line name (n.Typedef type) c c tt tt tt (runs_refl answer c g) z q
  local_name_runs line Outside name type inits k c z l p g deep q = never _ _ z q
  local_name_runs line storages.Plain name type inits k c z l p g deep q =
      let x : Context × Spot = with_local name type c in
      let r2 : Checked Context = unless (is_twice c.scopes name (n.Object type 0)) DeclaredTwice line (fill_local line type inits x) in
      let r1 : Checked Context = unless (has_no_size c.tags type) Incomplete line r2 in
      let a = behind_test (is_function type) LeftOut line r1 z q in
      let b = behind_test (has_no_size c.tags type) Incomplete line r2 z a in
      let e = behind_test (is_twice c.scopes name (n.Object type 0)) DeclaredTwice line (fill_local line type inits x) z b in
      let r = with_local_runs answer name type k c deep g in
      on_runs answer c x.0 z r.runs (fill_at_goes line type inits x.1 x.0 z l (p e) r.runs.fine r.stands e)

-- file scope

pushed_kept : (key : List ℕ) (v : PlainNamed) (t : Table) → TableKept t (t ++ (key, v) ∷ [])
pushed_kept key v t name x e = named_push name key v t ∙ ap (λ o. option_or o (cond (bytes_eq name key) (Some v) None)) e

-- a name more at file scope
file_renamed : (answer : Option Sort) (name : List ℕ) (v : PlainNamed) (c : Context) → length c.scopes.inner ≡ 0 → FileFits (world c) v → Fine c → Runs answer c (record c { scopes = after_declaration c.scopes name v })
file_renamed answer name v c flat h g = by (is_some (named_in name (innermost c.scopes)))
  where
    empty : (inner : List Table) → length inner ≡ 0 → TablesFit (InnerFits (world c)) inner → Runs answer c (record c { scopes = record { file = c.scopes.file; inner = inner } }) → Runs answer c (record c { scopes = scopes.with_name_in c.scopes.file inner name v })
    empty [] e t r = runs_trans answer c (record c { scopes = record { file = c.scopes.file; inner = [] } }) _ r
        (rescoped answer (record c { scopes = record { file = c.scopes.file; inner = [] } }) (record { file = c.scopes.file ++ (name, v) ∷ []; inner = [] }) (pushed_kept name v c.scopes.file) refl tt
        (record { file = pushed_fits (FileFits (world c)) name v c.scopes.file h g.names.file; inner = tt }) r.fine)
    empty (s ∷ ss) e t r = absurd (omega arith)

    by : (t : Bool) → Runs answer c (record c { scopes = cond t c.scopes (with_name c.scopes name v) })
    by true = runs_refl answer c g
    by false = empty c.scopes.inner flat g.names.inner (runs_refl answer c g)

declared_at : (line : ℕ) (name : List ℕ) (v : PlainNamed) (c d : Context) → declared_as line name v c ≡ Ok d → record c { scopes = after_declaration c.scopes name v } ≡ d
declared_at line name v c d q = passed (is_twice c.scopes name v) DeclaredTwice line (record c { scopes = after_declaration c.scopes name v }) d q

functions_grew : (answer : Option Sort) (c : Context) (index : ℕ) (name : List ℕ) → Fine c → Runs answer c (with_function index name c)
functions_grew answer c index name g =
    either_way (Runs answer c) (nat_lt index (length c.functions))
    (runs_refl answer c g)
    (record { grew = grew_refl (world c); fine = record { names = g.names; lined = g.lined }; fits = λ k. k; answer = refl; addressed = refl; outside = all_refl (scopes.tail c.scopes.inner); depth = refl; params = λ flat k. k; walked = refl })

pub function_runs : (answer : Option Sort) (line : ℕ) (name : List ℕ) (type : PlainType) (c z : Context) → length c.scopes.inner ≡ 0 → Fine c → declared_function line name type c ≡ Ok z → Runs answer c z
function_runs answer line name type c z flat g q =
    let index = function_number name c in
    let d = came (declared_as line name (n.Function type index) c) q in
    let one : Runs answer c d.value = subst (Runs answer c) (declared_at line name (n.Function type index) c d.value d.is) (file_renamed answer name (n.Function type index) c flat tt g) in
    subst (Runs answer c) (ok_same (with_function index name d.value) z d.last) (runs_trans answer c d.value _ one (functions_grew answer d.value index name one.fine))

no_initializer_runs : (answer : Option Sort) (inits : Trees) (c z : Context) → Fine c → no_initializer inits c ≡ Ok z → Runs answer c z
no_initializer_runs answer none c z g q = subst (Runs answer c) (ok_same c z q) (runs_refl answer c g)
no_initializer_runs answer (init ▹ rest) c z g q = let d = came (surplus init c) q in never _ _ z d.last

-- one variable more, with its bytes
more_variables : (answer : Option Sort) (c : Context) (v : Variable) (bytes : ℕ) → Fine c → Runs answer c (record c { static_bytes = bytes; variables = c.variables ++ v ∷ [] })
more_variables answer c v bytes g =
    let d : Context = record c { static_bytes = bytes; variables = c.variables ++ v ∷ [] } in
    let grew : Grew (world c) (world d) = record { locals = λ k r e. e; mems = omega arith; integers = omega arith; pointers = omega arith; variables = omega (arith, length-append c.variables (v ∷ [])); literals = omega arith; formats = λ k x e. e; calls = λ j y e. e; file = λ name t i e. e } in
    goes_runs answer c d g (record { grew = grew; more = more_refl c.scopes; kept = record { line = refl; answer = refl; addressed = refl; declared = refl; params = refl; walked = refl }; fits = λ a k. pieces_grew a (world c) (world d) c.code.pieces grew k })

number_small : (c : Context) (o : Option PlainNamed) → ((v : PlainNamed) → o ≡ Some v → FileFits (world c) v) → variable_number_of c o ≤ length c.variables
number_small c (Some (n.Object type i)) h = omega (arith, h (n.Object type i) refl)
number_small c other h = omega arith

-- a variable with its name
variable_runs : (answer : Option Sort) (line index : ℕ) (name : List ℕ) (type : PlainType) (c z : Context) → length c.scopes.inner ≡ 0 → index ≤ length c.variables → Fine c → with_variable line index name type (record c { scopes = after_declaration c.scopes name (n.Object type index) }) ≡ Ok z → Runs answer c z
variable_runs answer line index name type c z flat small g q = by (nat_lt index (length c.variables)) refl q
  where
    by : (t : Bool) → nat_lt index (length c.variables) ≡ t → cond t (good (record c { scopes = after_declaration c.scopes name (n.Object type index) })) (with_new_variable line name type (record c { scopes = after_declaration c.scopes name (n.Object type index) })) ≡ Ok z → Runs answer c z
    by true e q = subst (Runs answer c) (ok_same _ z q) (file_renamed answer name (n.Object type index) c flat (ltb-true index (length c.variables) e) g)
    by false e q =
        let x : Context = record c { scopes = after_declaration c.scopes name (n.Object type index) } in
        let v : Variable = record { name = name; layout = unwrap_or (layout_in c.tags type) no_layout; start = None } in
        let s = came (with_static line (size_or_zero x type) x) q in
        let bytes : ℕ = c.static_bytes + block_size (size_or_zero c type) in
        let same : record x { static_bytes = bytes } ≡ s.value = passed (nat_lt 67108864 bytes) StaticTooLarge line (record x { static_bytes = bytes }) s.value s.is in
        let y : Context = record c { static_bytes = bytes; variables = c.variables ++ v ∷ [] } in
        let one = more_variables answer c v bytes g in
        let two = file_renamed answer name (n.Object type index) y flat (omega (arith, small, length-append c.variables (v ∷ []))) one.fine in
        subst (Runs answer c) (ap (λ (k : Context). record k { variables = k.variables ++ (record { name = name; layout = unwrap_or (layout_in k.tags type) no_layout; start = None }) ∷ [] }) same ∙ ok_same _ z s.last) (runs_trans answer c y _ one two)

set_length : {X : Type 0} (xs : List X) (i : ℕ) (x : X) → length (slice_set xs i x) ≡ length xs
set_length [] i x = refl
set_length (y ∷ ys) zero x = refl
set_length (y ∷ ys) (suc i) x = ap suc (set_length ys i x)

started_length : (index : ℕ) (start : Start) (o : Option Variable) (variables : List Variable) → length (started_variable index start o variables) ≡ length variables
started_length index start o variables = search (arith, set_length) fits 100

started_runs : (answer : Option Sort) (index : ℕ) (d : Context × Target) → Fine d.0 → Runs answer d.0 (started index d)
started_runs answer index d g =
    let z = started index d in
    let grew : Grew (world d.0) (world z) = record { locals = λ k r e. e; mems = omega arith; integers = omega arith; pointers = omega arith; variables = omega (arith, started_length index (start_in d.1) (slice_get d.0.variables index) d.0.variables); literals = omega arith; formats = λ k x e. e; calls = λ j y e. e; file = λ name t i e. e } in
    goes_runs answer d.0 z g (record { grew = grew; more = more_refl d.0.scopes; kept = record { line = refl; answer = refl; addressed = refl; declared = refl; params = refl; walked = refl }; fits = λ a k. pieces_grew a (world d.0) (world z) d.0.code.pieces grew k })

fill_variable_runs : (answer : Option Sort) (line index : ℕ) (type : PlainType) (inits : Trees) (c z : Context) → AllWritten inits → Fine c → length c.scopes.inner ≡ 0 → fill_variable line index type inits c ≡ Ok z → Runs answer c z
unfolding AllWritten
fill_variable_runs answer line index type none c z p g flat q = subst (Runs answer c) (ok_same c z q) (runs_refl answer c g)
fill_variable_runs answer line index type (init ▹ rest) c z p g flat q =
    let a = behind_test (is_some (start_of (slice_get c.variables index))) DeclaredTwice line (then (initialize init false type 0 (InStatic no_start) c) (λ d. good (started index d))) z q in
    let d = came (initialize init false type 0 (InStatic no_start) c) a in
    let one = initialize_fits init false type 0 (InStatic no_start) c d.value (outside_spoken (world c) c.scopes init flat g.names.file p.0) g.names tt d.is in
    let r = goes_runs answer c d.value.0 g one.goes in
    subst (Runs answer c) (ok_same (started index d.value) z d.last) (runs_trans answer c d.value.0 _ r (started_runs answer index d.value r.fine))

file_object_runs : (answer : Option Sort) (line : ℕ) (name : List ℕ) (type : PlainType) (inits : Trees) (c z : Context) → AllWritten inits → Fine c → length c.scopes.inner ≡ 0 → file_object line name type inits c ≡ Ok z → Runs answer c z
file_object_runs answer line name type inits c z p g flat q =
    let index = variable_number_of c (named_in name c.scopes.file) in
    let a = behind_test (has_no_size c.tags type) Incomplete line (then (declared_as line name (n.Object type index) c) (λ d. then (with_variable line index name type d) (λ v. fill_variable line index type inits v))) z q in
    let d = came (declared_as line name (n.Object type index) c) a in
    let v = came (with_variable line index name type d.value) d.last in
    let at : with_variable line index name type (record c { scopes = after_declaration c.scopes name (n.Object type index) }) ≡ Ok v.value = ap (λ (x : Context). with_variable line index name type x) (declared_at line name (n.Object type index) c d.value d.is) ∙ v.is in
    let one = variable_runs answer line index name type c v.value flat (number_small c (named_in name c.scopes.file) (λ x e. g.names.file name x e)) g at in
    runs_trans answer c v.value z one (fill_variable_runs answer line index type inits v.value z p one.fine (one.depth ∙ flat) v.last)

file_value_runs : (answer : Option Sort) (line : ℕ) (name : List ℕ) (type : PlainType) (inits : Trees) (c z : Context) → AllWritten inits → Fine c → length c.scopes.inner ≡ 0 → file_value line name type inits c ≡ Ok z → Runs answer c z
file_value_runs answer line name type inits c z p g flat q = first (is_built_in type (named_in name c.scopes.file)) q
  where
    by : (t : Bool) → cond t (file_function line name type inits c) (file_object line name type inits c) ≡ Ok z → Runs answer c z
    by true q =
        let d = came (declared_function line name type c) q in
        let one = function_runs answer line name type c d.value flat g d.is in
        runs_trans answer c d.value z one (no_initializer_runs answer inits d.value z one.fine d.last)
    by false q = file_object_runs answer line name type inits c z p g flat q

    first : (t : Bool) → cond t (no_initializer inits c) (cond (is_function type) (file_function line name type inits c) (file_object line name type inits c)) ≡ Ok z → Runs answer c z
    first true q = no_initializer_runs answer inits c z g q
    first false q = by (is_function type) q

-- where names are declared: at file scope, or inside a function
abbrev pub AtPlace : Bool → Context → Type 0
AtPlace true c = length c.scopes.inner ≡ 0
AtPlace false c = (k : ℕ) × (length c.scopes.inner ≡ suc k)

pub place_on : (file : Bool) (c d : Context) → length d.scopes.inner ≡ length c.scopes.inner → AtPlace file c → AtPlace file d
place_on file c d e h = search arith fits 100

file_name_runs : (answer : Option Sort) (line : ℕ) (storage : Storage) (name : List ℕ) (type : PlainType) (inits : Trees) (c z : Context) → AllWritten inits → Fine c → length c.scopes.inner ≡ 0 → file_name line storage name type inits c ≡ Ok z → Runs answer c z
file_name_runs answer line Typedef name type inits c z p g flat q = declared_runs answer line name (n.Typedef type) c c tt tt tt (runs_refl answer c g) z q
file_name_runs answer line other name type inits c z p g flat q = file_value_runs answer line name type inits c z p g flat q

-- what is asked of the initializers of a name at its place
abbrev NameSpoken : Bool → ℕ → Option (List ℕ) → PlainType → Trees → Context → Context → Type 0
NameSpoken true line name type inits c z = AllWritten inits
NameSpoken false line None type inits c z = Unit {0}
NameSpoken false line (Some name) type inits c z = LocalSpoken line name type inits c z

name_in_runs : (answer : Option Sort) (file : Bool) (line : ℕ) (storage : Storage) (name : Option (List ℕ)) (type : PlainType) (inits : Trees) (c z : Context) → 1 ≤ line → NameSpoken file line name type inits c z → Fine c → AtPlace file c → name_in file line storage name type inits c ≡ Ok z → Runs answer c z
name_in_runs answer true line storage None type inits c z l p g at q = subst (Runs answer c) (ok_same c z q) (runs_refl answer c g)
name_in_runs answer false line storage None type inits c z l p g at q = subst (Runs answer c) (ok_same c z q) (runs_refl answer c g)
name_in_runs answer true line storage (Some name) type inits c z l p g at q = file_name_runs answer line storage name type inits c z p g at q
name_in_runs answer false line storage (Some name) type inits c z l p g at q = local_name_runs answer line storage name type inits at.0 c z l p g at.1 q

entry_runs : (answer : Option Sort) (file : Bool) (line : ℕ) (storage : Storage) (base : PlainType) (declarator : Tree) (inits : Trees) (c z : Context) → 1 ≤ line
    → ((l : Context × List Layer) (type : PlainType) → layers declarator c ≡ Ok l → with_init_layers l.0.tags l.1 inits base ≡ Ok type → NameSpoken file line (name_of declarator) type inits l.0 z)
    → Fine c → AtPlace file c → entry file line storage base declarator inits c ≡ Ok z → Runs answer c z
entry_runs answer file line storage base declarator inits c z l p g at q =
    let x = came (layers declarator c) q in
    let t = came (with_init_layers x.value.0.tags x.value.1 inits base) x.last in
    let one = layers_run answer declarator c c (runs_refl answer c g) x.value x.is in
    runs_trans answer c x.value.0 z one (name_in_runs answer file line storage (name_of declarator) t.value inits x.value.0 z l (p x.value t.value x.is t.is) one.fine (place_on file c x.value.0 one.depth at) t.last)

-- a name that is there, or none
name_spoken : (line : ℕ) (o : Option (List ℕ)) (type : PlainType) (inits : Trees) (c z : Context) → ((name : List ℕ) → o ≡ Some name → LocalSpoken line name type inits c z) → NameSpoken false line o type inits c z
name_spoken line o type inits c z p = search arith fits 100

file_entries_run : (names : Trees) (answer : Option Sort) (line : ℕ) (storage : Storage) (base : PlainType) (c z : Context) → 1 ≤ line → AllWritten names → Fine c → length c.scopes.inner ≡ 0 → entries true line storage base names c ≡ Ok z → Runs answer c z
unfolding entries Written AllWritten
file_entries_run none answer line storage base c z l p g at q = subst (Runs answer c) (ok_same c z q) (runs_refl answer c g)
file_entries_run (Node f.Entry (Node f.Declared (declarator ▹ none) ▹ Node f.MaybeInit inits ▹ none) ▹ rest) answer line storage base c z l p g at q =
    let d = came (entry true line storage base declarator inits c) q in
    let one = entry_runs answer true line storage base declarator inits c d.value l (λ x type e h. p.0.1.1.0.1) g at d.is in
    runs_trans answer c d.value z one (file_entries_run rest answer line storage base d.value z l p.1 one.fine (one.depth ∙ at) d.last)
file_entries_run (tree ▹ rest) answer line storage base c z l p g at q = never _ _ z q

local_entries_run : (names : Trees) (answer : Option Sort) (line : ℕ) (storage : Storage) (base : PlainType) (c z : Context) → 1 ≤ line → EntriesSpoken line storage base names c → Fine c → AtPlace false c → entries false line storage base names c ≡ Ok z → Runs answer c z
unfolding entries EntriesSpoken
local_entries_run none answer line storage base c z l p g at q = subst (Runs answer c) (ok_same c z q) (runs_refl answer c g)
local_entries_run (Node f.Entry (Node f.Declared (declarator ▹ none) ▹ Node f.MaybeInit inits ▹ none) ▹ rest) answer line storage base c z l p g at q =
    let d = came (entry false line storage base declarator inits c) q in
    let s = p d.value d.is in
    let one = entry_runs answer false line storage base declarator inits c d.value l (λ x type e h. name_spoken line (name_of declarator) type inits x.0 d.value (λ name k. s.0 x type name e h k)) g at d.is in
    runs_trans answer c d.value z one (local_entries_run rest answer line storage base d.value z l s.1 one.fine (place_on false c d.value one.depth at) d.last)
local_entries_run (tree ▹ rest) answer line storage base c z l p g at q = never _ _ z q

specs_alone_runs : (answer : Option Sort) (tree : Tree) (c : Context) (z : Context × PlainType) → Fine c → specs_alone tree c ≡ Ok z → Runs answer c z.0
specs_alone_runs answer (Node f.Specs (At line ▹ Node (f.RecordTag sort) (At at ▹ Leaf (w.Name name) ▹ none) ▹ none)) c z g q =
    with_type_runs answer (tag_named at sort name (asked c) (named_in (tag_name name) (innermost c.scopes))) c c (tag_after at sort name (asked c) (named_in (tag_name name) (innermost c.scopes))) (runs_refl answer c g) z q
specs_alone_runs answer tree c z g q = specs_run answer tree c c (runs_refl answer c g) z q

specs_before_runs : (answer : Option Sort) (tree : Tree) (names : Trees) (c : Context) (z : Context × PlainType) → Fine c → specs_before tree names c ≡ Ok z → Runs answer c z.0
specs_before_runs answer tree none c z g q = specs_alone_runs answer tree c z g q
specs_before_runs answer tree (name ▹ rest) c z g q = specs_run answer tree c c (runs_refl answer c g) z q

pub file_declaration_runs : (answer : Option Sort) (line : ℕ) (words tree : Tree) (c z : Context) → 1 ≤ line → Written tree → Fine c → length c.scopes.inner ≡ 0 → declaration true line words tree c ≡ Ok z → Runs answer c z
unfolding declaration Written
file_declaration_runs answer line words (Node f.Names names) c z l p g at q =
    let base = came (specs_before words names c) q in
    let one = specs_before_runs answer words names c base.value g base.is in
    runs_trans answer c base.value.0 z one (file_entries_run names answer line (storage_of words) base.value.1 base.value.0 z l p.1 one.fine (one.depth ∙ at) base.last)
file_declaration_runs answer line words tree c z l p g at q = never _ _ z q

pub local_declaration_runs : (answer : Option Sort) (line : ℕ) (words tree : Tree) (c z : Context) → 1 ≤ line → DeclarationSpoken line words tree c → Fine c → AtPlace false c → declaration false line words tree c ≡ Ok z → Runs answer c z
unfolding declaration
local_declaration_runs answer line words (Node f.Names names) c z l p g at q =
    let base = came (specs_before words names c) q in
    let one = specs_before_runs answer words names c base.value g base.is in
    runs_trans answer c base.value.0 z one (local_entries_run names answer line (storage_of words) base.value.1 base.value.0 z l (p base.value base.is) one.fine (place_on false c base.value.0 one.depth at) base.last)
local_declaration_runs answer line words tree c z l p g at q = never _ _ z q
