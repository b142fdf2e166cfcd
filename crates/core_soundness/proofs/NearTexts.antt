-- How much declarations, statements and texts make: the lists of a core are short.
use Rattle.core_soundness.proofs.Words.Std.{◌≡◌, ◌≤◌, ◌+◌, ◌*◌, ◌==◌, not, ℕ, zero, suc, pos, Bool, true, false, cond, is_some, nat_lt, length, All, List, [], ◌∷◌, ◌++◌, slice_get, slice_set, Option, Some, None, unwrap_or, Ok, subst, arith, ◌-◌, ℤ, take, drop, Result, Err, length-drop, length-take-le, map, replicate, sum_by, sym, length-append, length-replicate, All-push, All-head, All-tail, All-cons, All-nil, All-weaker, All-append, All-map, All-replicate, IfSome}
use Rattle.core_soundness.proofs.Words.Trees.{first_place, behind, IsCut, answer_with, answer_of, HasTokens, PieceKind, LexError, Token, some_commas, shape, Place, name_of, Tree, Trees, Leaf, At, Node, none, ◌▹◌, count}
use Rattle.core_soundness.proofs.Words.Types.{no_layout, layout_in, TagTable, PlainType, Array, Void, IntType, line_of, promoted, unconverted, Checked, refused, then, unless, named_in, innermost, tag_name, tag_named, with_layers, is_function, has_no_size, Operand, Number, operand, is_void, is_scalar, Assignment, DeclaredTwice, Incomplete, LeftOut, Operands, ProgramTooLong, is_built_in}
use Rattle.core_soundness.proofs.Words.Core.{IsShort, AreShort, Core, Func, Reg as Register, Static, Atom, Off, Enter, Leave, Jump, Return}
use Rattle.core_soundness.proofs.Words.Elaborating.{addressed_in, Context, With, Variable, asked, emit, anew, left, entered, here, new_label, with_labels, with_pieces, Walked, first_context, Found, Spot, Local, Memory, atom_in, valued, convert, write, size_or_zero, convert_integer, tested_value, unused, Storage, Typedef, Outside, storage_of, specs_alone, specs_before, cleared, fill_memory, fill_register, fill_at, fill_local, local_object, local_name, function_number, declared_function, no_initializer, variable_number_of, with_new_variable, with_variable, start_of, fill_variable, file_object, file_function, file_value, file_name, name_in, entry, entries, declaration, layers, specs, elaborated, found, begun, params_of, is_defined, body_begun, last_answer, piece_length, body_ended, body, named_definition, external, externals, Target, InRegister, InMemory, InStatic, static_scalar, member_place, store_at, fill_scalar, copy_to, fill_record, is_same_place, whole, fill_text, is_character, text, by_text, by_expression, parts_of, takes_braces, is_scalar_type, surplus, all_surplus, initialize, initialize_parts, no_start, with_init_layers, not_whole, is_twice, declared_as, with_local, reallocates, opened, closed, function_of, variable_static, literal_static, temporary, pointer_register, core_of, with_static, with_literal, Around, below, in_loop, in_switch, in_delay, leaves, leave_to, evaluated, maybe_evaluated, condition, leaves_if_zero, maybe_leaves, apart, return_of, return_from, case_of, cased, defaulted, switch_operand_of, switch_operand, no_cases, for_start, statement, items, around_body}
use Rattle.core_soundness.proofs.Words.Facts.{AreWithin, HasShortLists}
use Rattle.c_lexer.specs.declared.piece.Piece.{Piece}
use Rattle.c_lexer.specs.declared.place.Place.{Place as SourcePlace}
use Rattle.core_tree.specs.declared.statements.Atom.TheVariants as atom
use Rattle.c_tree.specs.Forms as f
use Rattle.c_tree.specs.Places as p
use Rattle.c_tree.specs.Words as w
use Rattle.c_decls.specs.Named as n
use Rattle.elaboration.specs.Declarations as storages
use Rattle.elaboration.specs.Resolving.{plain_name}
use Rattle.core_soundness.proofs.Agreeing.{came}
use Rattle.core_soundness.proofs.Cores.{behind as core_behind, core_sizes}
use Rattle.core_soundness.proofs.Growth.{Reached, reached_ok, reached_refused, reached_after, reached_unless, reached_barred, Led, led_ok, led_refused, led_after, led_unless, led_barred, behind_string}
use Rattle.core_soundness.proofs.Near.{Near, near_refl, near_on, near_most, near_pointer, near_register, near_memory, static_near, literal_near, declared_near, named_near, specs_near, layers_near, constant_near, share, Share, Tidy, made_in, temporaries, Sized, Clear, near_writes, near_walk}
use Rattle.core_soundness.proofs.Scopes.{Short, AllShort, name_short}
use Rattle.core_soundness.proofs.Walks.{weight, weights, said, commas_said, found_keeps}
use Rattle.core_soundness.proofs.Choices.{either_way}
use Rattle.core_soundness.proofs.Statements.{behind_text}
use Rattle.core_soundness.proofs.CodeWalk.{unused_keeps, valued_keeps, convert_integer_keeps, convert_keeps, tested_value_keeps, write_keeps}

-- what initializers and declarations make

-- full expressions

anew_near : (c : Context) → Near 0 c (anew c)
anew_near c = search (arith, temporaries)

pub opened_near : (e : Tree) (c : Context) → Near 0 c (opened e c)
opened_near e c = either_way (Near 0 c) (reallocates c.scopes e) (anew_near c) (anew_near c)

pub closed_near : (e : Tree) (c : Context) → Near 0 c (closed e c)
closed_near e c = either_way (Near 0 c) (reallocates c.scopes e) (near_refl c) (near_refl c)

-- the value of a full expression, and the same converted
pub full_near : (e : Tree) (type : PlainType) (c : Context) (d : Context × Found) → valued e (found e type (opened e c)) ≡ Ok d → Near (weight e + 1) (opened e c) d.0
full_near e type c d q = valued_keeps Near near_writes (weight e) e (opened e c) (found e type (opened e c)) (found_keeps Near near_walk e type (opened e c)) d q

pub converted_near : (e : Tree) (at : ℕ) (type : PlainType) (c : Context) (d : Context × Found) → valued e (found e type (opened e c)) ≡ Ok d → Near (weight e + 2) c (convert at (opened e c).code type d.1.typed (atom_in d.1) d.0).0
converted_near e at type c d q =
    near_on 0 (weight e + 1 + 1) (weight e + 2) (omega arith) (opened_near e c) (convert_keeps Near near_writes (weight e + 1) at (opened e c) type d.1.typed (atom_in d.1) d.0 (full_near e type c d q))

-- initializers

place_near : (line mem offset : ℕ) (c : Context) → Near 1 c (member_place line mem offset c).0
place_near line mem offset c = near_pointer line (λ p. Off p (atom.Mem mem) (pos offset)) c

fill_scalar_near : (e : Tree) (line : ℕ) (type : PlainType) (offset : ℕ) (target : Target) (c : Context) (d : Context × Found) → valued e (found e type (opened e c)) ≡ Ok d → Reached (Near (weight e + 3) c) (fill_scalar e line type offset (opened e c).code d target)
fill_scalar_near e line type offset (InRegister at register) c d q =
    let v = convert at (opened e c).code type d.1.typed (atom_in d.1) d.0 in
    let s = write at type (Local register) v.1 v.0 in
    let last = near_on 0 0 0 (omega arith) (write_keeps Near near_writes at type (Local register) v.1 v.0) (closed_near e s) in
    reached_ok (Near (weight e + 3) c) (near_on (weight e + 2) 0 (weight e + 3) (omega arith) (converted_near e at type c d q) last)
fill_scalar_near e line type offset (InMemory at mem) c d q =
    let v = convert at (opened e c).code type d.1.typed (atom_in d.1) d.0 in
    let place = member_place at mem offset v.0 in
    let s = store_at at type v.1 place in
    let last = near_on 0 0 0 (omega arith) (write_keeps Near near_writes at type (Memory place.1) v.1 place.0) (closed_near e s) in
    let stored = near_on 1 0 1 (omega arith) (place_near at mem offset v.0) last in
    reached_ok (Near (weight e + 3) c) (near_on (weight e + 2) 1 (weight e + 3) (omega arith) (converted_near e at type c d q) stored)
fill_scalar_near e line type offset (InStatic start) c d q =
    reached_after (Near (weight e + 3) c) (static_scalar line type offset start d.1)
    (λ filled s. reached_ok (Near (weight e + 3) c) (near_on 0 (weight e + 1) (weight e + 3) (omega arith) (opened_near e c) (full_near e type c d q)))

fill_record_near : (k : ℕ) (e : Tree) (line : ℕ) (type : PlainType) (offset : ℕ) (c : Context) (d : Context × Found) (target : Target) → Near k c d.0 → Reached (Near (k + 3) c) (fill_record e line type offset d target)
fill_record_near k e line type offset c d (InMemory at mem) g =
    let place = member_place at mem offset d.0 in
    let s = copy_to at type (atom_in d.1) place in
    reached_ok (Near (k + 3) c) (near_on k 1 (k + 3) (omega arith) g (near_on 1 0 1 (omega arith) (place_near at mem offset d.0) (closed_near e s)))
fill_record_near k e line type offset c d other g = reached_refused (Near (k + 3) c)

whole_near : (e : Tree) (line : ℕ) (type : PlainType) (offset : ℕ) (target : Target) (c : Context) → Reached (Near (weight e + 3) c) (whole e line type offset target c)
whole_near e line type offset target c =
    reached_after (Near (weight e + 3) c) (found e type (opened e c))
    (λ d q. reached_unless (Near (weight e + 3) c) (not (is_same_place type d.1.typed)) (not_whole d.1.typed) line
    (fill_record_near (weight e) e line type offset c d target (near_on 0 (weight e) (weight e) (omega arith) (opened_near e c) (found_keeps Near near_walk e type (opened e c) d q))))

fill_text_near : (e : Tree) (line : ℕ) (bytes : List ℕ) (size offset : ℕ) (target : Target) (c : Context) → Reached (Near 1 c) (fill_text e line bytes size offset target c)
fill_text_near e line bytes size offset (InMemory at mem) c =
    reached_after (Near 1 c) (with_literal line bytes (opened e c))
    (λ d q. let place = member_place at mem offset d.0 in
    reached_ok (Near 1 c)
    (near_on 0 1 1 (omega arith) (near_on 0 0 0 (omega arith) (opened_near e c) (literal_near line bytes (opened e c) d q)) (place_near at mem offset d.0)))
fill_text_near e line bytes size offset (InStatic start) c = reached_ok (Near 1 c) (near_most 0 1 (omega arith) (near_refl c))
fill_text_near e line bytes size offset (InRegister at register) c = reached_refused (Near 1 c)

by_text_near : (e : Tree) (line : ℕ) (element : PlainType) (size offset : ℕ) (o : Option (List ℕ)) (target : Target) (c : Context) → Reached (Near (weight e + 3) c) (by_text e line element size offset o target c)
by_text_near e line element size offset None target c = whole_near e line (Array element size) offset target c
by_text_near e line element size offset (Some bytes) target c =
    either_way (Reached (Near (weight e + 3) c)) (is_character element)
    (λ z q. near_most 1 (weight e + 3) (omega arith) (fill_text_near e line bytes size offset target c z (behind_string line bytes (fill_text e line bytes size offset target c) z q)))
    (λ z q. whole_near e line (Array element size) offset target c z q)

by_expression_near : (e : Tree) (line : ℕ) (type : PlainType) (offset : ℕ) (target : Target) (c : Context) → Reached (Near (weight e + 3) c) (by_expression e line type offset target c)
by_expression_near e line (Array element size) offset target c = by_text_near e line element size offset (text e) target c
by_expression_near e line type offset target c = search (arith, whole_near, reached_after, weight, reached_barred, fill_scalar_near) fits 100

some_commas_said : (place : Place) (k : ℕ) → 6 * k ≤ said (some_commas place k) + 6
some_commas_said place zero = omega arith
some_commas_said place (suc k) = commas_said place (suc k)

reached_cond : {A : Type 0} (k : ℕ) (c : Context) (t : Bool) (r s : With A) → Reached (Near k c) r → Reached (Near k c) s → Reached (Near k c) (cond t r s)
reached_cond k c true r s g h = g
reached_cond k c false r s g h = h

mutual
  unfolding initialize initialize_parts shape

  initialize_near : (tree : Tree) (in_scalar : Bool) (type : PlainType) (offset : ℕ) (target : Target) (c : Context) → Reached (Near (weight tree + 3) c) (initialize tree in_scalar type offset target c)
  initialize_near (Node f.InitExpr (At line ▹ e ▹ none)) in_scalar type offset target c z q = near_most (weight e + 3) _ (omega arith) (by_expression_near e (line_of e) type offset target c z q)
  initialize_near (Node (f.InitList trailing) (At line ▹ Node f.Inits inits ▹ none)) in_scalar type offset target c z q =
      let room = some_commas_said p.Init (count inits) in
      near_most (weights inits + 3 * count inits) _ (omega (arith, room))
      (reached_cond (weights inits + 3 * count inits) c (takes_braces type in_scalar) (initialize_parts line inits (is_scalar_type type) (parts_of c (count inits) type offset) target c) (then (all_surplus inits c) (λ d. refused Assignment line))
      (parts_near inits line (is_scalar_type type) (parts_of c (count inits) type offset) target c)
      (reached_after (Near (weights inits + 3 * count inits) c) (all_surplus inits c) (λ d s. reached_refused (Near (weights inits + 3 * count inits) c))) z q)
  initialize_near tree in_scalar type offset target c z q = reached_refused (Near (weight tree + 3) c) z q

  parts_near : (inits : Trees) (line : ℕ) (in_scalar : Bool) (parts : List (PlainType × ℕ)) (target : Target) (c : Context) → Reached (Near (weights inits + 3 * count inits) c) (initialize_parts line inits in_scalar parts target c)
  parts_near (init ▹ rest) line in_scalar (part ∷ parts) target c z q =
      let d = came (initialize init in_scalar part.0 part.1 target c) q in
      near_on (weight init + 3) (weights rest + 3 * count rest) _ (omega arith) (initialize_near init in_scalar part.0 part.1 target c d.value d.is) (parts_near rest line in_scalar parts d.value.1 d.value.0 z d.last)
  parts_near inits line in_scalar parts target c z q =
      search (arith, reached_ok, near_refl, reached_after, weights, reached_refused) fits 100

-- locals; what initializes a name stands behind `=`

abbrev pub starting : Trees → ℕ
starting none = 0
starting (init ▹ rest) = weight init + 3

fill_memory_near : (line : ℕ) (type : PlainType) (inits : Trees) (mem : Atom) (c : Context) → Led (Near (starting inits) c) (fill_memory line type inits mem c)
fill_memory_near line type (init ▹ rest) (atom.Mem mem) c =
    let x = cleared line type (atom.Mem mem) c in
    led_after (Near (weight init + 3) c) (initialize init false type 0 (InMemory line mem) x) (λ d q. led_ok (Near (weight init + 3) c) (initialize_near init false type 0 (InMemory line mem) x d q))
fill_memory_near line type none mem c = led_ok (Near 0 c) (near_refl c)
fill_memory_near line type (init ▹ rest) other c = led_ok (Near (weight init + 3) c) (near_most 0 (weight init + 3) (omega arith) (near_refl c))

fill_register_near : (line : ℕ) (type : PlainType) (inits : Trees) (register : ℕ) (c : Context) → Led (Near (starting inits) c) (fill_register line type inits register c)
fill_register_near line type none register c = led_ok (Near 0 c) (near_refl c)
fill_register_near line type (init ▹ rest) register c =
    led_after (Near (weight init + 3) c) (initialize init false type 0 (InRegister line register) c) (λ d q. led_ok (Near (weight init + 3) c) (initialize_near init false type 0 (InRegister line register) c d q))

fill_at_near : (line : ℕ) (type : PlainType) (inits : Trees) (spot : Spot) (c : Context) → Led (Near (starting inits) c) (fill_at line type inits spot c)
fill_at_near line type inits (Local register) c = fill_register_near line type inits register c
fill_at_near line type inits (Memory mem) c = fill_memory_near line type inits mem c
fill_at_near line type inits other c = led_ok (Near (starting inits) c) (near_most 0 (starting inits) (omega arith) (near_refl c))

local_object_near : (line : ℕ) (name : List ℕ) (type : PlainType) (inits : Trees) (c : Context) → IsShort name → Led (Near (1 + starting inits) c) (local_object line name type inits c)
local_object_near line name type inits c h =
    let x = with_local name type c in
    let r2 : Checked Context = unless (is_twice c.scopes name (n.Object type 0)) DeclaredTwice line (fill_local line type inits x) in
    let r1 : Checked Context = unless (has_no_size c.tags type) Incomplete line r2 in
    led_unless (Near (1 + starting inits) c) (is_function type) LeftOut line
    (λ a. led_unless (Near (1 + starting inits) c) (has_no_size c.tags type) Incomplete line
    (λ b. led_unless (Near (1 + starting inits) c) (is_twice c.scopes name (n.Object type 0)) DeclaredTwice line
    (λ t z q. near_on 1 (starting inits) (1 + starting inits) (omega arith) (grind (arith, true, near_on, near_memory, named_near, false, near_register)) (fill_at_near line type inits x.1 x.0 z q))))

local_name_near : (line : ℕ) (storage : Storage) (name : List ℕ) (type : PlainType) (inits : Trees) (c : Context) → IsShort name → Led (Near (1 + starting inits) c) (local_name line storage name type inits c)
local_name_near line Typedef name type inits c h z q = near_most 0 (1 + starting inits) (omega arith) (declared_near line name (n.Typedef type) c z q)
local_name_near line Outside name type inits c h z q = led_refused (Near (1 + starting inits) c) z q
local_name_near line storages.Plain name type inits c h z q = local_object_near line name type inits c h z q

-- file scope

pub declared_function_near : (line : ℕ) (name : List ℕ) (type : PlainType) (c : Context) → Led (Near 0 c) (declared_function line name type c)
declared_function_near line name type c = search (arith, led_after, led_ok, near_on, declared_near, either_way, near_refl)

no_initializer_near : (inits : Trees) (c : Context) → Led (Near 0 c) (no_initializer inits c)
no_initializer_near none c = led_ok (Near 0 c) (near_refl c)
no_initializer_near (init ▹ rest) c = led_after (Near 0 c) (surplus init c) (λ d q. led_refused (Near 0 c))

abbrev HasShort : Variable → Type 0
HasShort v = IsShort v.name

variables_near : (vs : List Variable) (c : Context) → (All HasShort c.variables → All HasShort vs) → Near 0 c (record c { variables = vs })
variables_near vs c h = search (arith, temporaries)

new_variable_near : (line : ℕ) (name : List ℕ) (type : PlainType) (c : Context) → IsShort name → Led (Near 0 c) (with_new_variable line name type c)
new_variable_near line name type c h =
    led_after (Near 0 c) (with_static line (size_or_zero c type) c)
    (λ d q. let v : Variable = record { name = name; layout = unwrap_or (layout_in d.tags type) no_layout; start = None } in
    led_ok (Near 0 c)
    (near_on 0 0 0 (omega arith) (static_near line (size_or_zero c type) c d q) (variables_near (d.variables ++ v ∷ []) d (λ k. All-push HasShort d.variables v k h))))

variable_near : (line index : ℕ) (name : List ℕ) (type : PlainType) (c : Context) → IsShort name → Led (Near 0 c) (with_variable line index name type c)
variable_near line index name type c h = either_way (Led (Near 0 c)) (nat_lt index (length c.variables)) (led_ok (Near 0 c) (near_refl c)) (new_variable_near line name type c h)

get_short : (vs : List Variable) (i : ℕ) (v : Variable) → slice_get vs i ≡ Some v → All HasShort vs → HasShort v
get_short [] i v e h = cc
get_short (x ∷ vs) zero v e h = let same : x ≡ v = cc in subst HasShort same (All-head HasShort x vs h)
get_short (x ∷ vs) (suc i) v e h = get_short vs i v e (All-tail HasShort x vs h)

set_short : (vs : List Variable) (i : ℕ) (v : Variable) → All HasShort vs → HasShort v → All HasShort (slice_set vs i v)
set_short [] i v h k = h
set_short (x ∷ vs) zero v h k = All-cons HasShort v vs k (All-tail HasShort x vs h)
set_short (x ∷ vs) (suc i) v h k = All-cons HasShort x (slice_set vs i v) (All-head HasShort x vs h) (set_short vs i v (All-tail HasShort x vs h) k)

fill_variable_near : (line index : ℕ) (type : PlainType) (inits : Trees) (c : Context) → Led (Near (starting inits) c) (fill_variable line index type inits c)
fill_variable_near line index type none c = led_ok (Near 0 c) (near_refl c)
fill_variable_near line index type (init ▹ rest) c =
    led_unless (Near (weight init + 3) c) (is_some (start_of (slice_get c.variables index))) DeclaredTwice line
    (λ t. led_after (Near (weight init + 3) c) (initialize init false type 0 (InStatic no_start) c)
    (λ d q. led_ok (Near (weight init + 3) c) (near_on (weight init + 3) 0 (weight init + 3) (omega arith) (initialize_near init false type 0 (InStatic no_start) c d q) (search (arith, variables_near, set_short, get_short)))))

file_object_near : (line : ℕ) (name : List ℕ) (type : PlainType) (inits : Trees) (c : Context) → IsShort name → Led (Near (1 + starting inits) c) (file_object line name type inits c)
file_object_near line name type inits c h =
    let index = variable_number_of c (named_in name c.scopes.file) in
    led_unless (Near (1 + starting inits) c) (has_no_size c.tags type) Incomplete line
    (λ t. led_after (Near (1 + starting inits) c) (declared_as line name (n.Object type index) c)
    (λ d q. led_after (Near (1 + starting inits) c) (with_variable line index name type d)
    (λ x s z u. near_on 0 (starting inits) (1 + starting inits) (omega arith) (near_on 0 0 0 (omega arith) (declared_near line name (n.Object type index) c d q) (variable_near line index name type d h x s)) (fill_variable_near line index type inits x z u))))

file_function_near : (line : ℕ) (name : List ℕ) (type : PlainType) (inits : Trees) (c : Context) → Led (Near 0 c) (file_function line name type inits c)
file_function_near line name type inits c = search (arith, led_after, near_on, declared_function_near, no_initializer_near)

file_value_near : (line : ℕ) (name : List ℕ) (type : PlainType) (inits : Trees) (c : Context) → IsShort name → Led (Near (1 + starting inits) c) (file_value line name type inits c)
file_value_near line name type inits c h =
    either_way (Led (Near (1 + starting inits) c)) (is_built_in type (named_in name c.scopes.file))
    (λ z q. near_most 0 (1 + starting inits) (omega arith) (no_initializer_near inits c z q))
    (either_way (Led (Near (1 + starting inits) c)) (is_function type)
    (λ z q. near_most 0 (1 + starting inits) (omega arith) (file_function_near line name type inits c z q))
    (λ z q. file_object_near line name type inits c h z q))

file_name_near : (line : ℕ) (storage : Storage) (name : List ℕ) (type : PlainType) (inits : Trees) (c : Context) → IsShort name → Led (Near (1 + starting inits) c) (file_name line storage name type inits c)
file_name_near line Typedef name type inits c h z q = near_most 0 (1 + starting inits) (omega arith) (declared_near line name (n.Typedef type) c z q)
file_name_near line other name type inits c h z q = file_value_near line name type inits c h z q

name_in_near : (file : Bool) (line : ℕ) (storage : Storage) (name : Option (List ℕ)) (type : PlainType) (inits : Trees) (c : Context) → IfSome name IsShort → Led (Near (1 + starting inits) c) (name_in file line storage name type inits c)
name_in_near true line storage None type inits c h = led_ok (Near (1 + starting inits) c) (near_most 0 (1 + starting inits) (omega arith) (near_refl c))
name_in_near false line storage None type inits c h = led_ok (Near (1 + starting inits) c) (near_most 0 (1 + starting inits) (omega arith) (near_refl c))
name_in_near true line storage (Some name) type inits c h = file_name_near line storage name type inits c h
name_in_near false line storage (Some name) type inits c h = local_name_near line storage name type inits c h

entry_near : (file : Bool) (line : ℕ) (storage : Storage) (base : PlainType) (declarator : Tree) (inits : Trees) (c : Context) → Short declarator → Led (Near (weight declarator + starting inits + 1) c) (entry file line storage base declarator inits c)
entry_near file line storage base declarator inits c h z q =
    let l = came (layers declarator c) q in
    let t = came (with_init_layers l.value.0.tags l.value.1 inits base) l.last in
    near_on (weight declarator) (1 + starting inits) (weight declarator + starting inits + 1) (omega arith) (layers_near declarator c h l.value l.is) (name_in_near file line storage (name_of declarator) t.value inits l.value.0 (name_short declarator h) z t.last)

entries_near : (names : Trees) (file : Bool) (line : ℕ) (storage : Storage) (base : PlainType) (c : Context) → AllShort names → Led (Near (weights names + count names) c) (entries file line storage base names c)
unfolding entries shape
entries_near none file line storage base c h z q = led_ok (Near 0 c) (near_refl c) z q
entries_near (Node f.Entry (Node f.Declared (declarator ▹ none) ▹ Node f.MaybeInit inits ▹ none) ▹ rest) file line storage base c h z q =
    let d = came (entry file line storage base declarator inits c) q in
    let room : starting inits ≤ weight (Node f.MaybeInit inits) = search arith fits 100 in
    near_on (weight declarator + starting inits + 1) (weights rest + count rest) _ (omega (arith, room)) (entry_near file line storage base declarator inits c h.0.0.0 d.value d.is) (entries_near rest file line storage base d.value h.1 z d.last)
entries_near (tree ▹ rest) file line storage base c h z q = led_refused (Near (weights (tree ▹ rest) + count (tree ▹ rest)) c) z q

alone_near : (tree : Tree) (c : Context) → Short tree → Reached (Near (weight tree) c) (specs_alone tree c)
alone_near (Node f.Specs (At line ▹ Node (f.RecordTag sort) (At at ▹ Leaf (w.Name name) ▹ none) ▹ none)) c h z q =
    near_most 0 _ (omega arith) ((reached_after (Near 0 c) (tag_named at sort name (asked c) (named_in (tag_name name) (innermost c.scopes))) (λ x q. reached_ok (Near 0 c) (near_refl c))) z q)
alone_near tree c h z q = specs_near tree c h z q

before_near : (tree : Tree) (names : Trees) (c : Context) → Short tree → Reached (Near (weight tree) c) (specs_before tree names c)
before_near tree none c h = alone_near tree c h
before_near tree (name ▹ rest) c h = specs_near tree c h

pub declaration_near : (file : Bool) (line : ℕ) (words tree : Tree) (c : Context) → Short words → Short tree → Led (Near (weight words + weight tree + 6) c) (declaration file line words tree c)
unfolding declaration shape
declaration_near file line words (Node f.Names names) c h k z q =
    let base = came (specs_before words names c) q in
    let room = commas_said p.Entry (count names) in
    near_on (weight words) (weights names + count names) _ (omega (arith, room)) (before_near words names c h base.value base.is) (entries_near names file line (storage_of words) base.value.1 base.value.0 k z base.last)
declaration_near file line words tree c h k z q = led_refused (Near (weight words + weight tree + 6) c) z q

-- what statements make

led_most : (m k : ℕ) (c : Context) {x : Checked Context} → m ≤ k → Led (Near m c) x → Led (Near k c) x
led_most m k c e g d q = near_most m k e (g d q)

scoped_near : (k : ℕ) (c : Context) {x : Checked Context} → Led (Near k c) x → Led (Near k c) (then x (λ d. Ok (left d)))
scoped_near k c {x} g = led_after (Near k c) x (λ d q. led_ok (Near k c) (g d q))

-- one part behind another, and behind one that has an answer
then_near : (m n k : ℕ) (c : Context) {x : Checked Context} {next : Context → Checked Context} → m + n ≤ k → Led (Near m c) x → ((d : Context) → Led (Near n d) (next d)) → Led (Near k c) (then x next)
then_near m n k c {x} e h g = led_after (Near k c) x (λ d q z p. near_on m n k e (h d q) (g d z p))

answer_near : {A : Type 0} (m n k : ℕ) (c : Context) {x : Checked (Context × A)} {next : Context × A → Checked Context} → m + n ≤ k → Reached (Near m c) x → ((d : Context × A) → Led (Near n d.0) (next d)) → Led (Near k c) (then x next)
answer_near m n k c {x} e h g = led_after (Near k c) x (λ d q z p. near_on m n k e (h d q) (g d z p))

leaves_near : (k line : ℕ) (c : Context) → Near 0 c (leaves line k c)
leaves_near zero line c = near_refl c
leaves_near (suc k) line c = leaves_near k line (emit line Leave c)

leave_near : (line delays : ℕ) (o : Option (ℕ × ℕ)) (c : Context) → Led (Near 0 c) (leave_to line delays o c)
leave_near line delays None c = led_refused (Near 0 c)
leave_near line delays (Some exit) c = led_ok (Near 0 c) (leaves_near (delays - exit.1) line c)

-- expressions

evaluated_near : (e : Tree) (c : Context) → Led (Near (weight e + 1) c) (evaluated e c)
evaluated_near e c =
    led_after (Near (weight e + 1) c) (unused e (found e Void (opened e c)))
    (λ d q. led_ok (Near (weight e + 1) c) (near_on 0 (weight e + 1) (weight e + 1) (omega arith) (opened_near e c) (near_on (weight e + 1) 0 (weight e + 1) (omega arith) (unused_keeps Near near_writes (weight e) e (opened e c) (found e Void (opened e c)) (found_keeps Near near_walk e Void (opened e c)) d q) (closed_near e d.0))))

maybe_evaluated_near : (es : Trees) (c : Context) → Led (Near (weights es + 1) c) (maybe_evaluated es c)
maybe_evaluated_near none c z q = led_ok (Near 1 c) (near_most 0 1 (omega arith) (near_refl c)) z q
maybe_evaluated_near (e ▹ rest) c z q = near_most (weight e + 1) _ (omega arith) (evaluated_near e c z q)

condition_near : (e : Tree) (c : Context) → Reached (Near (weight e + 2) c) (condition e c)
condition_near e c =
    reached_after (Near (weight e + 2) c) (valued e (found e Void (opened e c)))
    (λ d q. let last = near_on 1 0 1 (omega arith) (tested_value_keeps Near near_writes e d) (closed_near e (tested_value e d).0) in
    reached_unless (Near (weight e + 2) c) (not (is_scalar d.1.typed.type)) Operands (line_of e)
    (reached_ok (Near (weight e + 2) c) (near_on 0 (weight e + 2) (weight e + 2) (omega arith) (opened_near e c) (near_on (weight e + 1) 1 (weight e + 2) (omega arith) (full_near e Void c d q) last))))

if_zero_near : (line label : ℕ) (e : Tree) (c : Context) → Led (Near (weight e + 2) c) (leaves_if_zero line label e c)
if_zero_near line label e c = led_after (Near (weight e + 2) c) (condition e c) (λ d q. led_ok (Near (weight e + 2) c) (condition_near e c d q))

maybe_leaves_near : (line label : ℕ) (es : Trees) (c : Context) → Led (Near (weights es + 2) c) (maybe_leaves line label es c)
maybe_leaves_near line label none c z q = led_ok (Near 2 c) (near_most 0 2 (omega arith) (near_refl c)) z q
maybe_leaves_near line label (e ▹ rest) c z q = near_most (weight e + 2) _ (omega arith) (if_zero_near line label e c z q)

return_of_near : (line delays : ℕ) (e : Tree) (type : PlainType) (c : Context) → Led (Near (weight e + 2) c) (return_of line delays e type c)
return_of_near line delays e type c =
    let begun = opened e c in
    led_after (Near (weight e + 2) c) (valued e (found e type begun))
    (λ d q. let v = convert line begun.code type d.1.typed (atom_in d.1) d.0 in
    led_unless (Near (weight e + 2) c) (is_void type) Assignment line
    (λ x. led_barred (Near (weight e + 2) c) (unconverted type d.1.typed) line
    (led_ok (Near (weight e + 2) c)
    (near_on (weight e + 2) 0 (weight e + 2) (omega arith) (converted_near e line type c d q) (near_on 0 0 0 (omega arith) (closed_near e v.0) (leaves_near delays line (closed e v.0)))))))

return_near : (line delays : ℕ) (es : Trees) (c : Context) → Led (Near (weights es + 2) c) (return_from line delays es c)
return_near line delays none c z q =
    led_unless (Near 2 c) (not (is_void c.running.answer)) Assignment line
    (λ x. led_ok (Near 2 c) (near_most 0 2 (omega arith) (leaves_near delays line c))) z q
return_near line delays (e ▹ rest) c z q = near_most (weight e + 2) _ (omega arith) (return_of_near line delays e c.running.answer c z q)

-- switches

case_near : (line : ℕ) (a : Around) (ty : IntType) (place : ℕ) (v : ℤ) (label : ℕ) (c : Context) → Led (Near 0 c) (case_of line a ty place v label c)
case_near line a ty place v label c = search (arith, led_unless, not, led_ok, near_refl)

cased_near : (line : ℕ) (a : Around) (o : Option IntType) (place : ℕ) (v : ℤ) (label : ℕ) (c : Context) → Led (Near 0 c) (cased line a o place v label c)
cased_near line a o place v label c = search (arith, led_refused, case_near) fits 100

defaulted_near : (line : ℕ) (a : Around) (label : ℕ) (c : Context) → Led (Near 0 c) (defaulted line a label c)
defaulted_near line a label c = search (arith, not, led_unless, led_ok, near_refl)

operand_of_near : (k line : ℕ) (e : Tree) (o : Operand) (c : Context) (d : Context × Found) → Near k c d.0 → Reached (Near (k + 1) c) (switch_operand_of line e o d)
operand_of_near k line e (Number ty) c d g =
    let v = convert_integer line (promoted ty) ty (atom_in d.1) d.0 in
    reached_ok (Near (k + 1) c) (near_on k 1 (k + 1) (omega arith) g (near_on 1 0 1 (omega arith) (convert_integer_keeps Near near_writes line (promoted ty) ty (atom_in d.1) d.0) (closed_near e v.0)))
operand_of_near k line e other c d g = reached_refused (Near (k + 1) c)

operand_near : (line : ℕ) (e : Tree) (c : Context) → Reached (Near (weight e + 1 + 1) c) (switch_operand line e c)
operand_near line e c =
    reached_after (Near (weight e + 1 + 1) c) (valued e (found e Void (opened e c)))
    (λ d q. operand_of_near (weight e + 1) line e (operand d.1.typed.type) c d (near_on 0 (weight e + 1) (weight e + 1) (omega arith) (opened_near e c) (full_near e Void c d q)))

start_near : (line : ℕ) (tree : Tree) (c : Context) → Short tree → Led (Near (weight tree) c) (for_start line tree c)
unfolding shape
start_near line (Node f.ForNames (words ▹ names ▹ none)) c h z q = near_most (weight words + weight names + 6) _ (omega arith) (declaration_near false line words names c h.0 h.1.0 z q)
start_near line (Node f.ForStart (Node f.MaybeExpr e ▹ none)) c h z q = near_most (weights e + 1) _ (omega arith) (maybe_evaluated_near e c z q)
start_near line tree c h z q = led_refused (Near (weight tree) c) z q

mutual
  unfolding statement items shape

  statement_near : (tree : Tree) (a : Around) (c : Context) → Short tree → Led (Near (weight tree) c) (statement tree a c)
  statement_near (Node f.Empty parts) a c h = led_ok (Near (weight (Node f.Empty parts)) c) (near_most 0 _ (omega arith) (near_refl c))
  statement_near (Node f.Expr (At line ▹ e ▹ none)) a c h = led_most (weight e + 1) _ c (omega arith) (evaluated_near e c)
  statement_near (Node f.Block (At line ▹ Node f.Items parts ▹ none)) a c h =
      led_most (weights parts) _ c (omega arith) (scoped_near (weights parts) c (items_near parts (below a) (entered c) h.1.0))
  statement_near (Node f.Delay (At line ▹ Node f.Items parts ▹ none)) a c h =
      led_most (weights parts) _ c (omega arith)
      (scoped_near (weights parts) c (then_near (weights parts) 0 (weights parts) c (omega arith) (items_near parts (in_delay a) (emit line Enter (entered c)) h.1.0)
      (λ d. led_ok (Near 0 d) (near_refl d))))
  statement_near (Node f.If (At line ▹ e ▹ s ▹ none)) a c h =
      let k : ℕ = weight e + 2 + weight s in
      led_most k _ c (omega arith)
      (scoped_near k c (then_near (weight e + 2) (weight s) k c (omega arith) (if_zero_near line (new_label c) e (entered (with_labels 1 c)))
      (λ t. then_near (weight s) 0 (weight s) t (omega arith) (scoped_near (weight s) t (statement_near s (below a) (entered t) h.1.1.0)) (λ d. led_ok (Near 0 d) (near_refl d)))))
  statement_near (Node f.IfElse (At line ▹ e ▹ s ▹ other ▹ none)) a c h =
      let end = new_label c in
      let two : ℕ = weight s + weight other in
      let k : ℕ = weight e + 2 + two in
      led_most k _ c (omega arith)
      (scoped_near k c (then_near (weight e + 2) two k c (omega arith) (if_zero_near line (end + 1) e (entered (with_labels 2 c)))
      (λ t. then_near (weight s) (weight other) two t (omega arith) (scoped_near (weight s) t (statement_near s (below a) (entered t) h.1.1.0))
      (λ g. let x = here (end + 1) (emit line (Jump end) g) in
      then_near (weight other) 0 (weight other) g (omega arith) (scoped_near (weight other) x (statement_near other (below a) (entered x) h.1.1.1.0)) (λ d. led_ok (Near 0 d) (near_refl d))))))
  statement_near (Node f.While (At line ▹ e ▹ s ▹ none)) a c h =
      let head = new_label c in
      let k : ℕ = weight e + 2 + weight s in
      led_most k _ c (omega arith)
      (scoped_near k c (then_near (weight e + 2) (weight s) k c (omega arith) (if_zero_near line (head + 1) e (here head (entered (with_labels 3 c))))
      (λ t. then_near (weight s) 0 (weight s) t (omega arith) (scoped_near (weight s) t (statement_near s (in_loop (head + 1) (head + 2) a) (entered t) h.1.1.0))
      (λ d. led_ok (Near 0 d) (near_refl d)))))
  statement_near (Node f.Do (At line ▹ s ▹ e ▹ none)) a c h =
      let head = new_label c in
      let x = here head (entered (with_labels 3 c)) in
      let k : ℕ = weight s + (weight e + 2) in
      led_most k _ c (omega arith)
      (scoped_near k c (then_near (weight s) (weight e + 2) k c (omega arith) (scoped_near (weight s) x (statement_near s (in_loop (head + 1) (head + 2) a) (entered x) h.1.0))
      (λ g. then_near (weight e + 2) 0 (weight e + 2) g (omega arith) (if_zero_near line (head + 1) e (here (head + 2) g)) (λ d. led_ok (Near 0 d) (near_refl d)))))
  statement_near (Node f.For (At line ▹ start ▹ Node f.MaybeExpr test ▹ Node f.MaybeExpr step ▹ s ▹ none)) a c h =
      let head = new_label c in
      let behind : ℕ = weights step + 1 + weight s in
      let rest : ℕ = weights test + 2 + behind in
      let k : ℕ = weight start + rest in
      led_most k _ c (omega arith)
      (scoped_near k c (then_near (weight start) rest k c (omega arith) (start_near line start (entered (with_labels 3 c)) h.1.0)
      (λ x. then_near (weights test + 2) behind rest x (omega arith) (maybe_leaves_near line (head + 1) test (here head x))
      (λ t. then_near (weights step + 1) (weight s) behind t (omega arith) (maybe_evaluated_near step (apart t))
      (λ g. let y = with_pieces t.code.pieces g in
      then_near (weight s) 0 (weight s) g (omega arith) (scoped_near (weight s) y (statement_near s (in_loop (head + 1) (head + 2) a) (entered y) h.1.1.1.1.0))
      (λ d. led_ok (Near 0 d) (near_refl d)))))))
  statement_near (Node f.Switch (At line ▹ e ▹ Node f.Block (At at ▹ Node f.Items parts ▹ none) ▹ none)) a c h =
      let k : ℕ = weight e + 1 + 1 + weights parts in
      led_most k _ c (omega arith)
      (scoped_near k c (answer_near (weight e + 1 + 1) (weights parts) k c (omega arith) (operand_near line e (entered (with_labels 1 c)))
      (λ t. let x = no_cases (apart t.0) in
      then_near (weights parts) 0 (weights parts) t.0 (omega arith) (scoped_near (weights parts) x (items_near parts (in_switch true (new_label c) t.1.0 a) (entered x) h.1.1.0.1.0))
      (λ d. led_ok (Near 0 d) (near_refl d)))))
  statement_near (Node f.Switch (At line ▹ e ▹ s ▹ none)) a c h =
      let k : ℕ = weight (Node f.Switch (At line ▹ e ▹ s ▹ none)) in
      scoped_near k c (led_after (Near k c) (switch_operand line e (entered (with_labels 1 c)))
      (λ t q. led_after (Near k c) (statement s (in_switch false (new_label c) t.1.0 a) (no_cases (apart t.0))) (λ g u. led_refused (Near k c) {kind = LeftOut} {line = line})))
  statement_near (Node f.Case (At line ▹ e ▹ s ▹ none)) a c h =
      answer_near 0 (weight s) _ c (omega arith) (constant_near e c)
      (λ k. then_near (weight s) 0 (weight s) k.0 (omega arith) (statement_near s a (here (new_label k.0) (with_labels 1 k.0)) h.1.1.0)
      (λ d. cased_near line a a.switched (length c.running.cases) k.1.value (new_label k.0) d))
  statement_near (Node f.Default (At line ▹ s ▹ none)) a c h =
      then_near (weight s) 0 _ c (omega arith) (statement_near s a (here (new_label c) (with_labels 1 c)) h.1.0) (λ d. defaulted_near line a (new_label c) d)
  statement_near (Node f.Break (At line ▹ none)) a c h = led_most 0 _ c (omega arith) (leave_near line a.delays a.breaks c)
  statement_near (Node f.Continue (At line ▹ none)) a c h = led_most 0 _ c (omega arith) (leave_near line a.delays a.continues c)
  statement_near (Node f.Return (At line ▹ Node f.MaybeExpr e ▹ none)) a c h = led_most (weights e + 2) _ c (omega arith) (return_near line a.delays e c)
  statement_near (Node f.Local (At line ▹ words ▹ names ▹ none)) a c h =
      led_most (weight words + weight names + 6) _ c (omega arith) (declaration_near false line words names c h.1.0 h.1.1.0)
  statement_near tree a c h = led_refused (Near (weight tree) c)

  pub items_near : (parts : Trees) (a : Around) (c : Context) → AllShort parts → Led (Near (weights parts) c) (items parts a c)
  items_near none a c h = led_ok (Near 0 c) (near_refl c)
  items_near (item ▹ rest) a c h = then_near (weight item) (weights rest) _ c (omega arith) (statement_near item a c h.0) (λ d. items_near rest a d h.1)

-- the tokens of a text are no more than its bytes, and none is longer than it

abbrev Answer : Type 0
Answer = Result (List Token) LexError

abbrev right : List Token → Answer
right tokens = Ok tokens

abbrev wrong : LexError → Answer
wrong error = Err error

same : (xs ys : List Token) → right xs ≡ right ys → xs ≡ ys
same xs ys e = cc

never : {G : Type 0} (error : LexError) (ys : List Token) → wrong error ≡ right ys → G
never error ys e = cc

each_longer : (j k : ℕ) (tokens : List Token) → j ≤ k → All (λ (token : Token). length token.bytes ≤ j) tokens → All (λ (token : Token). length token.bytes ≤ k) tokens
each_longer j k tokens h a = All-weaker (λ (token : Token). length token.bytes ≤ j) (λ (token : Token). length token.bytes ≤ k) (λ token q. omega (arith, h, q)) tokens a

longer : (j k : ℕ) (tokens : List Token) → j ≤ k → AreWithin j tokens → AreWithin k tokens
longer j k tokens h w = record { count = omega (arith, h, w.count); bytes = each_longer j k tokens h w.bytes }

-- behind one piece more
step_within : (kind : PieceKind) (line : ℕ) (bytes : List ℕ) (j k : ℕ) (rest : Answer) (tokens : List Token) → ((ts : List Token) → rest ≡ right ts → AreWithin j ts) → answer_with kind line bytes rest ≡ right tokens → j + 1 ≤ k → length bytes ≤ k → AreWithin k tokens
step_within kind line bytes j k rest tokens h e small long = search (arith, longer, same, each_longer, never) fits 100

cut_within : (pieces : List Piece) (place : SourcePlace) (text : List ℕ) (tokens : List Token) → IsCut place text pieces → answer_of place text pieces ≡ right tokens → AreWithin (length text) tokens
cut_within [] place text tokens cut e = subst (AreWithin (length text)) (same [] tokens e) (record { count = omega arith; bytes = All-nil (λ (token : Token). length token.bytes ≤ length text) })
cut_within (piece ∷ pieces) place text tokens cut e =
    let some = cut.0.some in
    let within = cut.0.within in
    step_within piece.kind place.line (take piece.len text) (length (drop piece.len text)) (length text) (answer_of (behind place (take piece.len text)) (drop piece.len text) pieces) tokens
    (λ ts q. cut_within pieces (behind place (take piece.len text)) (drop piece.len text) ts cut.1 q) e
    (omega (arith, length-drop piece.len text, some, within)) (omega (arith, length-take-le piece.len text within, within))

pub tokens_within : (text : List ℕ) (tokens : List Token) → HasTokens text tokens → AreWithin (length text) tokens
tokens_within text tokens h = cut_within h.0 first_place text tokens h.1 h.2

-- the lists of a text's core are short

-- what holds between external declarations
record Steady (c : Context) : Type 0 where
  variables : All (λ (v : Variable). IsShort v.name) c.variables
  walked : All Sized c.walked

-- what was made since a function began
record Small (k : ℕ) (s : Share) : Type 0 where
  made : made_in s ≤ k
  temporaries : temporaries s ≤ k
  tidy : Tidy s
  clear : Clear s

small_on : (m n : ℕ) (c d : Context) → Small m (share c) → Near n c d → Small (m + n) (share d)
small_on m n c d s g = record { made = omega (arith, s.made, g.made); temporaries = omega (arith, s.temporaries, g.temporaries s.tidy); tidy = g.tidy s.tidy; clear = g.clear s.clear }

begun_small : (line : ℕ) (addressed : List ℕ) (c : Context) → Steady c → Small 0 (share (begun line addressed c))
begun_small line addressed c h = search (arith, temporaries)

body_ended_steady : (k line : ℕ) (name : List ℕ) (type : PlainType) (end : ℕ) (c : Context) → Small k (share c) → k ≤ 1610612736 → IsShort name → Led Steady (body_ended line name type end c)
body_ended_steady k line name type end c s small h =
    let d = emit end (Return (last_answer c.running.answer)) c in
    let total = d.length + sum_by piece_length d.code.pieces in
    let w : Walked = record { name = name; params = params_of type; running = d.running; code = d.code } in
    let z : Context = record d { scopes = record { file = d.scopes.file; inner = [] }; length = total; walked = d.walked ++ w ∷ [] } in
    led_unless Steady (nat_lt 268435456 total) ProgramTooLong line
    (λ x. led_ok Steady (record {
      variables = s.clear.variables;
      walked = All-push Sized c.walked w s.clear.walked (record { name = h; named = s.clear.named; made = omega (arith, s.made, small); temporaries = omega (arith, s.temporaries, small) });
    }))

body_steady : (k line : ℕ) (name : List ℕ) (type : PlainType) (tree : Tree) (c : Context) → Small k (share c) → k + weight tree ≤ 1610612736 → IsShort name → Short tree → Led Steady (body line name type tree c)
unfolding shape
body_steady k line name type (Node f.Body (Node f.Items parts ▹ At end ▹ none)) c s small h g =
    led_after Steady (items parts around_body c)
    (λ d q. body_ended_steady (k + weights parts) line name type end d (small_on k (weights parts) c d s (items_near parts around_body c g.0 d q)) (omega (arith, small)) h)
body_steady k line name type tree c s small h g = led_refused Steady

body_begun_small : (k index : ℕ) (type : PlainType) (c : Context) → Small k (share c) → Small k (share (body_begun index type c))
body_begun_small k index type c s = s

named_steady : (k line : ℕ) (name : Option (List ℕ)) (type : PlainType) (tree : Tree) (c : Context) → Small k (share c) → k + weight tree ≤ 1610612736 → IfSome name IsShort → Short tree → Led Steady (named_definition line name type tree c)
named_steady k line None type tree c s small h g = led_refused Steady
named_steady k line (Some name) type tree c s small h g =
    let index = function_number name c in
    led_unless Steady (not (is_function type)) LeftOut line
    (λ x. led_after Steady (declared_function line name type c)
    (λ d q. let y = small_on k 0 c d s (declared_function_near line name type c d q) in
    led_unless Steady (is_defined (slice_get d.functions index)) DeclaredTwice line
    (λ z. body_steady (k + 0) line name type tree (body_begun index type d) (body_begun_small (k + 0) index type d y) (omega (arith, small)) h g)))

external_steady : (tree : Tree) (c : Context) → Steady c → weight tree ≤ 1610612736 → Short tree → Led Steady (external tree c)
unfolding external shape
external_steady (Node f.Function (At line ▹ words ▹ Node f.Declared (declarator ▹ none) ▹ tree ▹ none)) c h small g z q =
    let base = came (specs words (begun line (addressed_in declarator tree) c)) q in
    let l = came (layers declarator base.value.0) base.last in
    let t = came (with_layers l.value.0.tags l.value.1 base.value.1) l.last in
    let far = near_on (weight words) (weight declarator) (weight words + weight declarator) (omega arith) (specs_near words (begun line (addressed_in declarator tree) c) g.1.0 base.value base.is) (layers_near declarator base.value.0 g.1.1.0.0 l.value l.is) in
    named_steady (0 + (weight words + weight declarator)) line (name_of declarator) t.value tree l.value.0 (small_on 0 (weight words + weight declarator) (begun line (addressed_in declarator tree) c) l.value.0 (begun_small line (addressed_in declarator tree) c h) far) (omega (arith, small)) (name_short declarator g.1.1.0.0) g.1.1.1.0 z t.last
external_steady (Node f.Declaration (At line ▹ words ▹ names ▹ none)) c h small g z q =
    let k = (declaration_near true line words names (begun line [] c) g.1.0 g.1.1.0 z q).clear (begun_small line [] c h).clear in record { variables = k.variables; walked = k.walked }
external_steady tree c h small g z q = led_refused Steady z q

externals_steady : (unit : Trees) (c : Context) → Steady c → weights unit ≤ 1610612736 → AllShort unit → Led Steady (externals unit c)
unfolding externals
externals_steady none c h small g z q = led_ok Steady h z q
externals_steady (tree ▹ rest) c h small g z q =
    let d = came (external tree c) q in
    externals_steady rest d.value (external_steady tree c h (omega (arith, small)) g.0 d.value d.is) (omega (arith, small)) g.1 z d.last

first_steady : Steady first_context
first_steady = record { variables = All-nil (λ (v : Variable). IsShort v.name); walked = All-nil Sized }

-- the core

abbrev HasName : Static → Type 0
HasName static = IfSome static.name IsShort

abbrev HasRegister : Register → Type 0
HasRegister reg = IfSome reg.name IsShort

-- a name is no longer without its suffix
plain_shorter : (name : List ℕ) → length (plain_name name) ≤ length name
plain_shorter [] = omega arith
plain_shorter (b ∷ rest) =
    either_way (λ (xs : List ℕ). length xs ≤ length (b ∷ rest)) (b == 46) (omega arith) (omega (arith, plain_shorter rest))

plain_short : (name : List ℕ) → IsShort name → IsShort (plain_name name)
plain_short name h = omega (arith, h, plain_shorter name)

statics_short : (c : Context) → Steady c → All HasName (core_of c).statics
statics_short c h =
    All-append HasName (map (variable_static c) c.variables) (map literal_static c.literals)
    (All-map HasName (variable_static c) c.variables (All-weaker HasShort (λ (v : Variable). IsShort (plain_name v.name)) (λ v q. plain_short v.name q) c.variables h.variables))
    (All-map HasName literal_static c.literals (every c.literals))
  where
    every : (ls : List (List ℕ)) → All (λ (l : List ℕ). HasName (literal_static l)) ls
    every ls = λ i l q. tt

regs_length : (locals : List Register) (i p : ℕ) → length (locals ++ (replicate i temporary ++ replicate p pointer_register)) ≡ length locals + (i + p)
regs_length locals i p = search (arith, length-append, length-replicate)

function_short : (c : Context) (w : Walked) → Sized w → IsShort (function_of c w).body → AreShort (function_of c w)
function_short c w h b = record {
  name = plain_short w.name h.name;
  regs = omega (arith, regs_length w.running.locals w.code.most_integers w.code.most_pointers, h.made, h.temporaries);
  reg_names =
      All-append HasRegister w.running.locals (replicate w.code.most_integers temporary ++ replicate w.code.most_pointers pointer_register) h.named.locals
      (All-append HasRegister (replicate w.code.most_integers temporary) (replicate w.code.most_pointers pointer_register)
      (All-replicate HasRegister w.code.most_integers temporary tt) (All-replicate HasRegister w.code.most_pointers pointer_register tt));
  mems = omega (arith, h.made);
  mem_names = h.named.mems;
  body = b;
  formats = omega (arith, h.made);
  texts = h.named.formats;
}

each_short : (c : Context) (xs : List Walked) → All Sized xs → (k : ℕ) (func : Func) → slice_get (map (function_of c) xs) k ≡ Some func → IsShort func.body → AreShort func
each_short c [] h k func e b = cc
each_short c (x ∷ xs) h zero func e b =
    let same : function_of c x ≡ func = cc in
    subst AreShort same (function_short c x (All-head Sized x xs h) (subst (λ (y : Func). IsShort y.body) (sym same) b))
each_short c (x ∷ xs) h (suc k) func e b = each_short c xs (All-tail Sized x xs h) k func e b

context_short : (c : Context) → Steady c → ((k : ℕ) (func : Func) → slice_get (core_of c).funcs k ≡ Some func → IsShort func.body) → HasShortLists (core_of c)
context_short c h b = record { short_names = statics_short c h; short = λ k func e. each_short c c.walked h.walked k func e (b k func e) }

pub core_short : (unit : Trees) (core : Core) (tags : TagTable) → weights unit ≤ 1610612736 → AllShort unit → elaborated unit ≡ Ok (core, tags) → HasShortLists core
core_short unit core tags few short e =
    let k = core_behind unit core tags e in
    let h = externals_steady unit first_context first_steady few short k.context (behind_text unit k.context k.is).0 in
    let sizes = core_sizes unit core tags e in
    subst HasShortLists k.made (context_short k.context h (subst (λ (x : Core). (j : ℕ) (func : Func) → slice_get x.funcs j ≡ Some func → IsShort func.body) (sym k.made) sizes.short_bodies))
