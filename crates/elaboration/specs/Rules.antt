-- The rules of the forms of expressions, on parts that are elaborated (C99 6.5).
use Rattle.std.specs.Prelude.{ℕ, ◌+◌, nat_lt, pos, Bool, true, false, ◌&&◌, cond, length, is_some, List, [], ◌∷◌, ◌++◌, Option, Some, None, Ok, Err}
use Rattle.hs_base.specs.Place.{block_size}
use Rattle.c_types.specs.Types.{PlainType, Void, Int, Pointer}
use Rattle.core_tree.specs.declared.statements.Atom.{Atom}
use Rattle.core_tree.specs.declared.statements.Atom.TheVariants as atom
use Rattle.core_tree.specs.declared.statements.CmpOp.TheVariants as cmp
use Rattle.core_tree.specs.declared.statements.StmKind.TheVariants.{Set, Cmp, Zero, Jump}
use Rattle.c_tree.specs.declared.operator.BinaryOp.{BinaryOp}
use Rattle.c_tree.specs.declared.operator.BinaryOp.TheVariants as b
use Rattle.c_tree.specs.declared.operator.UnaryOp.{UnaryOp}
use Rattle.c_tree.specs.declared.operator.UnaryOp.TheVariants as u
use Rattle.c_tree.specs.Tree.{Tree}
use Rattle.c_decls.specs.declared.refusal.TypeKind.TheVariants.{StaticTooLarge}
use Rattle.c_decls.specs.Refusals.{Checked, then, unless}
use Rattle.c_decls.specs.ScopeList.{found_from}
use Rattle.c_decls.specs.Named as n
use Rattle.c_decls.specs.Named.{PlainNamed}
use Rattle.c_decls.specs.declared.typed.Folded.{Folded}
use Rattle.c_decls.specs.declared.typed.Folded.TheVariants.{Is}
use Rattle.c_decls.specs.Typed.{PlainTyped, Operand, Number, PointerTo, operand, is_null_constant}
use Rattle.c_decls.specs.TypeRules.{unary, binary}
use Rattle.c_decls.specs.PlaceRules.{cast, choice, dot, arrow, element}
use Rattle.c_decls.specs.TypeNames as names
use Rattle.c_decls.specs.Expressions as types
use Rattle.elaboration.specs.Context.{Code, Context, With, asked, emit, here, new_label, with_labels, integer_by, pointer_by, literal_object, file_variable, local_register}
use Rattle.elaboration.specs.Conversions.{Found, Spot, Local, Memory, Value, Empty, Fixed, Unknown, Nowhere, Inside, found_as, valued_as, atom_in, convert, forget, tested_value}
use Rattle.elaboration.specs.Operations.{before_integer, combined, fixed_sum, moved_by, offset_of, member_address}

-- a register in hand is written again
abbrev pub set_again : ℕ → Atom → Atom → Context → Context
set_again line (atom.Reg r) a c = emit line (Set r a) c
set_again line other a c = c

abbrev pub compare_again : ℕ → Atom → Atom → Context → Context
compare_again line (atom.Reg r) a c = emit line (Cmp cmp.Ne r a (atom.Int (pos 0))) c
compare_again line other a c = c

abbrev pub is_pointer_operand : Operand → Bool
is_pointer_operand (PointerTo target) = true
is_pointer_operand other = false

abbrev pub is_pointer : PlainType → Bool
is_pointer type = is_pointer_operand (operand type)

-- names and constants

-- the number of a constant
abbrev pub number_atom : Folded → Atom
number_atom (Is m) = atom.Int m
number_atom folded = atom.Null

abbrev pub constant_found : PlainTyped → Found
constant_found typed = valued_as typed (number_atom typed.folded)

-- an object of that number: a memory local inside a function, a variable at file scope
abbrev pub object_found : PlainTyped → Bool → ℕ → Found
object_found typed true index = found_as typed (Memory (atom.Mem index)) Unknown
object_found typed false index = found_as typed (Memory (atom.Static (file_variable index))) (Inside (file_variable index) (pos 0))

-- `NULL`, or a constant
abbrev pub built_in_found : PlainTyped → Bool → Found
built_in_found typed true = found_as typed (Value atom.Null) Nowhere
built_in_found typed false = constant_found typed

-- a name that has a type: a local in a register, an object, or a constant (C99 6.5.1)
abbrev pub name_found : PlainTyped → Bool → Option PlainNamed → Found
name_found typed inner (Some (n.Register type index)) = found_as typed (Local (local_register index)) Unknown
name_found typed inner (Some (n.Object type index)) = object_found typed inner index
name_found typed inner (Some (n.BuiltIn index)) = built_in_found typed typed.is_null
name_found typed inner other = constant_found typed

-- whether a name is declared inside a function
abbrev pub is_inner : Context → List ℕ → Bool
is_inner c name = is_some (found_from [] name c.scopes.inner)

-- with so many bytes of statics more, unless they take more than they may together
abbrev pub with_static : ℕ → ℕ → Context → Checked Context
with_static line size c =
    let bytes = c.static_bytes + block_size size in
    unless (nat_lt 67108864 bytes) StaticTooLarge line (Ok (record c { static_bytes = bytes }))

-- a literal that stands for an object (C99 6.4.5)
abbrev pub with_literal : ℕ → List ℕ → Context → With ℕ
with_literal line bytes c =
    then (with_static line (length bytes + 1) c) (λ d. Ok (record d { literals = d.literals ++ bytes ∷ [] }, literal_object (length c.literals)))

abbrev pub literal_found : PlainTyped → Context × ℕ → Context × Found
literal_found typed d = (d.0, found_as typed (Memory (atom.Static d.1)) (Inside d.1 (pos 0)))

-- places

-- an answer at an address in hand
abbrev pub at_address : PlainTyped → Fixed → Context × Atom → Context × Found
at_address typed fixed d = (d.0, found_as typed (Memory d.1) fixed)

-- a value in hand
abbrev pub with_value : PlainTyped → Fixed → Context × Atom → Context × Found
with_value typed fixed d = (d.0, found_as typed (Value d.1) fixed)

-- `e[f]`: `add` with the pointer first (C99 6.5.2.1)
abbrev pub indexed : ℕ → Context → Found → Found → With Found
indexed line c x y =
    then (element line c.tags x.typed y.typed) (λ typed. Ok (at_address typed (fixed_sum c b.Add x y) (combined line b.Add c.code x y c)))

-- `e.m`, and `e->m` (C99 6.5.2.3)
abbrev pub member_of : ℕ → ℕ → PlainTyped → Context → Found → Context × Found
member_of line offset typed c e =
    at_address typed (moved_by c (pos offset) e.fixed) (member_address line offset (atom_in e) c)

abbrev pub dotted : ℕ → List ℕ → Context → Found → With Found
dotted line name c e =
    then (dot line name c.tags e.typed) (λ typed. Ok (member_of line (offset_of c.tags name e.typed.type) typed c e))

abbrev pub target_of : Operand → PlainType
target_of (PointerTo target) = target
target_of other = Void

abbrev pub pointed : ℕ → List ℕ → Context → Found → With Found
pointed line name c e =
    then (arrow line name c.tags e.typed) (λ typed. Ok (member_of line (offset_of c.tags name (target_of (operand e.typed.type))) typed c e))

-- operators

-- `!` (C99 6.5.3.3)
abbrev pub negated : ℕ → Tree → PlainTyped → Context → Found → Context × Found
negated line tree typed c e =
    let d = tested_value tree (c, e) in with_value typed Unknown (integer_by line (λ r. Cmp cmp.Eq r d.1 (atom.Int (pos 0))) d.0)

abbrev pub before_number : ℕ → UnaryOp → PlainTyped → Operand → Context → Found → Context × Found
before_number line op typed (Number ty) c e = with_value typed Unknown (before_integer line op ty (atom_in e) c)
before_number line op typed other c e = (c, e)

-- an operator before a value: `*` gives the place at a pointer (C99 6.5.3.2)
abbrev pub apply : ℕ → UnaryOp → Tree → PlainTyped → Context → Found → Context × Found
apply line u.Deref tree typed c e = (c, found_as typed (Memory (atom_in e)) e.fixed)
apply line u.Not tree typed c e = negated line tree typed c e
apply line op tree typed c e = before_number line op typed (operand e.typed.type) c e

abbrev pub applied : ℕ → UnaryOp → Tree → Context → Found → With Found
applied line op tree c e = then (unary line op c.tags e.typed) (λ typed. Ok (apply line op tree typed c e))

-- what a tree that comes next will be as a value, where it is not refused
abbrev pub ahead_of : Checked PlainTyped → Option PlainTyped
ahead_of (Ok typed) = Some typed
ahead_of (Err refusal) = None

abbrev pub typed_value : Checked (names.Context × PlainTyped) → Checked PlainTyped
typed_value answer = then answer (λ d. Ok d.1)

abbrev pub ahead : Tree → Context → Option PlainTyped
ahead tree c = ahead_of (typed_value (types.wanted tree (types.typed tree (asked c))))

-- whether an operator tells whether two values are equal
abbrev pub tells_equal : BinaryOp → Bool
tells_equal b.Equal = true
tells_equal b.NotEqual = true
tells_equal op = false

abbrev pub is_pointer_ahead : Option PlainTyped → Bool
is_pointer_ahead (Some e) = is_pointer e.type
is_pointer_ahead None = false

-- a left operand in front of its right one: a null pointer constant beside a pointer is null, and its code is forgotten
abbrev pub left_operand : BinaryOp → Code → Tree → Context × Found → Context × Found
left_operand op before right d =
    cond (tells_equal op && is_null_constant d.1.typed && is_pointer_ahead (ahead right d.0))
    (forget before d.0, found_as d.1.typed (Value atom.Null) Nowhere) d

-- an operator between two values
abbrev pub between : ℕ → BinaryOp → Code → Context → Found → Found → With Found
between line op before c x y =
    then (binary line op c.tags x.typed y.typed) (λ typed. Ok (with_value typed (fixed_sum c op x y) (combined line op before x y c)))

-- a cast: C to the type; before is the code in front of the operand's (C99 6.5.4)
abbrev pub cast_fixed : PlainTyped → Fixed → Fixed
cast_fixed e fixed = cond (is_null_constant e) Nowhere fixed

abbrev pub cast_to : ℕ → PlainType → Code → Context → Found → With Found
cast_to line type before c e =
    then (cast line type e.typed) (λ typed. Ok (with_value typed (cast_fixed e.typed e.fixed) (convert line before type e.typed (atom_in e) c)))

-- `&&` and `||`: the right operand is evaluated only where it is needed (C99 6.5.13, 6.5.14)

-- behind the left operand: `zero a F`
abbrev pub and_then : ℕ → Tree → Context × Found → Context
and_then line tree d =
    let t = tested_value tree d in emit line (Zero t.1 (new_label t.0)) (with_labels 2 t.0)

-- behind the right one: `cmp != i b 0`, `jump E`, F: `set i 0`, E:
abbrev pub and_ends : ℕ → ℕ → Context × Atom → Context × Atom
and_ends line false_label t =
    let d = integer_by line (λ r. Cmp cmp.Ne r t.1 (atom.Int (pos 0))) t.0 in
    let e = here false_label (emit line (Jump (false_label + 1)) d.0) in
    (here (false_label + 1) (set_again line d.1 (atom.Int (pos 0)) e), d.1)

abbrev pub and_ended : ℕ → ℕ → Tree → Found → Context × Found → With Found
and_ended line false_label tree x d =
    then (binary line b.And d.0.tags x.typed d.1.typed) (λ typed. Ok (with_value typed Unknown (and_ends line false_label (tested_value tree d))))

-- behind the left operand: `zero a N`, `set i 1`, `jump E`, N:
abbrev pub or_else : ℕ → Tree → Context × Found → Context × Atom
or_else line tree d =
    let t = tested_value tree d in
    let next = new_label t.0 in
    let e = integer_by line (λ r. Set r (atom.Int (pos 1))) (emit line (Zero t.1 next) (with_labels 2 t.0)) in
    (here next (emit line (Jump (next + 1)) e.0), e.1)

-- behind the right one: `cmp != i b 0`, E:
abbrev pub or_ends : ℕ → ℕ → Atom → Context × Atom → Context × Atom
or_ends line end i t = (here end (compare_again line i t.1 t.0), i)

abbrev pub or_ended : ℕ → ℕ → Tree → Atom → Found → Context × Found → With Found
or_ended line end tree i x d =
    then (binary line b.Or d.0.tags x.typed d.1.typed) (λ typed. Ok (with_value typed Unknown (or_ends line end i (tested_value tree d))))

-- `?:` (C99 6.5.15)

-- behind the test: `zero a F`
abbrev pub choose : ℕ → Tree → Context × Found → Context
choose line tree d = and_then line tree d

abbrev pub choice_type : Checked PlainTyped → PlainType
choice_type (Ok typed) = typed.type
choice_type (Err refusal) = Void

abbrev pub choice_ahead : ℕ → PlainTyped → PlainTyped → Option PlainTyped → PlainType
choice_ahead line test x None = Void
choice_ahead line test x (Some y) = choice_type (choice line test x y)

-- the type of the whole, which decides the conversion of its middle part
abbrev pub type_ahead : ℕ → Found → Tree → Context × Found → PlainType
type_ahead line test tree d = choice_ahead line test.typed d.1.typed (ahead tree d.0)

-- behind the middle part: C, `set t x`, `jump E`, F:
abbrev pub chosen_by : ℕ → Code → PlainType → PlainTyped → Context × Atom → Context × Atom
chosen_by line before (Int ty) e d = let v = convert line before (Int ty) e d.1 d.0 in integer_by line (λ r. Set r v.1) v.0
chosen_by line before (Pointer target) e d =
    let v = convert line before (Pointer target) e d.1 d.0 in pointer_by line (λ r. Set r v.1) v.0
chosen_by line before type e d = (d.0, atom.Null)

abbrev pub choose_first : ℕ → ℕ → Code → PlainType → Context × Found → Context × Atom
choose_first line other before type d =
    let v = chosen_by line before type d.1.typed (d.0, atom_in d.1) in
    (here other (emit line (Jump (other + 1)) v.0), v.1)

-- behind the last part: C, `set t y`, E:
abbrev pub choose_last : ℕ → Code → PlainType → Atom → Context × Found → Context × Atom
choose_last line before type t d =
    let v = convert line before type d.1.typed (atom_in d.1) d.0 in (set_again line t v.1 v.0, t)

abbrev pub choice_spot : PlainType → Atom → Spot
choice_spot Void a = Empty
choice_spot type a = Value a

abbrev pub choice_found : PlainTyped → Atom → Found
choice_found typed a = found_as typed (choice_spot typed.type a) Unknown

abbrev pub chosen : ℕ → ℕ → Code → Atom → Found → Found → Context × Found → With Found
chosen line end before t test x d =
    then (choice line test.typed x.typed d.1.typed) (λ typed. let v = choose_last line before typed.type t d in Ok (here end v.0, choice_found typed v.1))
