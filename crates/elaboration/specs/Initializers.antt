-- Initializers (C99 6.7.8).
use Rattle.std.specs.Prelude.{ℕ, zero, suc, ◌+◌, ◌*◌, ◌-◌, ◌/◌, ◌%◌, ◌==◌, min, pos, Bool, true, false, not, ◌&&◌, cond, map, length, take, reverse, replicate, unsigned_abs, List, [], ◌∷◌, ◌++◌, Option, Some, None, Ok}
use Rattle.hs_base.specs.Numbers.{low_bits}
use Rattle.c_types.specs.declared.types.IntType.{IntType}
use Rattle.c_types.specs.declared.types.IntType.TheVariants as i
use Rattle.c_types.specs.Types.{PlainType, Void, Int, Array, Struct, Union, width_of}
use Rattle.c_types.specs.TagTable.{TagTable, PlainMember, members_in}
use Rattle.core_tree.specs.declared.program.Start.{Start}
use Rattle.core_tree.specs.declared.statements.Atom.{Atom}
use Rattle.core_tree.specs.declared.statements.Atom.TheVariants as atom
use Rattle.core_tree.specs.declared.statements.StmKind.TheVariants.{Off, Copy}
use Rattle.c_tree.specs.Forms as f
use Rattle.c_tree.specs.Tree.{Tree, Trees, At, Node, none, ◌▹◌, count}
use Rattle.c_decls.specs.declared.refusal.TypeKind.{TypeKind}
use Rattle.c_decls.specs.declared.refusal.TypeKind.TheVariants.{Assignment, NotConstant, Operands}
use Rattle.c_decls.specs.Refusals.{Checked, refused, then, unless}
use Rattle.c_decls.specs.declared.typed.Folded.{Folded}
use Rattle.c_decls.specs.declared.typed.Folded.TheVariants.{Is}
use Rattle.c_decls.specs.Typed.{PlainTyped, same, is_record, is_null_constant, has_no_value}
use Rattle.c_decls.specs.TypeNames.{Layer, ArrayOf, layered, layered_before}
use Rattle.c_decls.specs.PlaceRules.{converts}
use Rattle.c_decls.specs.Expressions.{line_of, joined, string}
use Rattle.elaboration.specs.Context.{Code, Context, With, emit, pointer_by}
use Rattle.elaboration.specs.Conversions.{Found, Local, Memory, Fixed, Unknown, Nowhere, Inside, atom_in, valued, convert, write, size_or_zero}
use Rattle.elaboration.specs.Reallocates.{opened, closed}
use Rattle.elaboration.specs.Rules.{with_literal}
use Rattle.elaboration.specs.Expressions.{found}

-- what is initialized: a local in a register, a memory local, or a static with what is known of its start so far
pub data Target : Type 0 where
  InRegister : (line register : ℕ) → Target
  InMemory : (line mem : ℕ) → Target
  InStatic : (start : Start) → Target

-- what is initialized behind an initializer, with the context
abbrev pub Filled : Type 0
Filled = With Target

-- statics

abbrev pub no_start : Start
no_start = record { bytes = []; pointers = [] }

-- a number in little-endian bytes
abbrev pub bytes_of : ℕ → ℕ → List ℕ
bytes_of zero n = []
bytes_of (suc width) n = n % 256 ∷ bytes_of width (n / 256)

-- bytes behind those so far, at an offset
abbrev pub with_bytes : Start → ℕ → List ℕ → Start
with_bytes start offset bytes =
    record start { bytes = start.bytes ++ replicate (offset - length start.bytes) 0 ++ bytes }

abbrev pub with_pointer : Start → ℕ → ℕ → ℕ → Start
with_pointer start slot static offset = record start { pointers = start.pointers ++ (slot, static, offset) ∷ [] }

-- without the zeros at the end
abbrev pub without_zeros : List ℕ → List ℕ
without_zeros [] = []
without_zeros (b ∷ bytes) = cond (b == 0) (without_zeros bytes) (b ∷ bytes)

abbrev pub trimmed : Start → Start
trimmed start = record start { bytes = reverse (without_zeros (reverse start.bytes)) }

-- an integer that a static holds first
abbrev pub static_integer : ℕ → IntType → ℕ → Start → Folded → Checked Start
static_integer line ty offset start (Is n) =
    Ok (with_bytes start offset (bytes_of (width_of ty) (low_bits (8 * width_of ty) n)))
static_integer line ty offset start folded = refused NotConstant line

-- a pointer that a static holds first
abbrev pub static_address : ℕ → ℕ → Start → Fixed → Checked Start
static_address line offset start Unknown = refused NotConstant line
static_address line offset start Nowhere = Ok start
static_address line offset start (Inside static at) = Ok (with_pointer start offset static (unsigned_abs at))

abbrev pub static_pointer : ℕ → ℕ → Start → Found → Checked Start
static_pointer line offset start e = cond (is_null_constant e.typed) (Ok start) (static_address line offset start e.fixed)

abbrev pub static_scalar : ℕ → PlainType → ℕ → Start → Found → Checked Start
static_scalar line (Int ty) offset start e = static_integer line ty offset start e.typed.folded
static_scalar line type offset start e = static_pointer line offset start e

-- leaves

-- `off p mK c`
abbrev pub member_place : ℕ → ℕ → ℕ → Context → Context × Atom
member_place line mem offset c = pointer_by line (λ p. Off p (atom.Mem mem) (pos offset)) c

abbrev pub store_at : ℕ → PlainType → Atom → Context × Atom → Context
store_at line type a place = write line type (Memory place.1) a place.0

-- a scalar, once its value is in hand: C and the write of a local, or what a static holds
abbrev pub fill_scalar : Tree → ℕ → PlainType → ℕ → Code → Context × Found → Target → Filled
fill_scalar e line type offset before d (InRegister at register) =
    let v = convert at before type d.1.typed (atom_in d.1) d.0 in
    Ok (closed e (write at type (Local register) v.1 v.0), InRegister at register)
fill_scalar e line type offset before d (InMemory at mem) =
    let v = convert at before type d.1.typed (atom_in d.1) d.0 in
    Ok (closed e (store_at at type v.1 (member_place at mem offset v.0)), InMemory at mem)
fill_scalar e line type offset before d (InStatic start) =
    then (static_scalar line type offset start d.1) (λ filled. Ok (d.0, InStatic filled))

-- a scalar by an expression: V, the conversion by type, and then the rest
abbrev pub scalar : Tree → ℕ → PlainType → ℕ → Target → Context → Filled
scalar e line type offset target c =
    let begun = opened e c in
    then (valued e (found e type begun)) (λ d. converts line type d.1.typed (fill_scalar e line type offset begun.code d target))

-- a place of the same struct or union: `copy p a n` of a local; a static holds no such value
abbrev pub copy_to : ℕ → PlainType → Atom → Context × Atom → Context
copy_to line type a place = emit line (Copy place.1 a (pos (size_or_zero place.0 type))) place.0

abbrev pub fill_record : Tree → ℕ → PlainType → ℕ → Context × Found → Target → Filled
fill_record e line type offset d (InMemory at mem) =
    Ok (closed e (copy_to at type (atom_in d.1) (member_place at mem offset d.0)), InMemory at mem)
fill_record e line type offset d target = refused NotConstant line

abbrev pub is_same_place : PlainType → PlainTyped → Bool
is_same_place type e = e.is_place && is_record type && same type e.type

-- why an expression is none: an assignment has no value at all
abbrev pub not_whole : PlainTyped → TypeKind
not_whole e = cond (has_no_value e) Operands Assignment

-- a struct, union or array by an expression: it must be a place of this struct or union
abbrev pub whole : Tree → ℕ → PlainType → ℕ → Target → Context → Filled
whole e line type offset target c =
    then (found e type (opened e c)) (λ d. unless (not (is_same_place type d.1.typed)) (not_whole d.1.typed) line (fill_record e line type offset d target))

-- a string for an array of a character type, cut to its length: `copy p gK n` of a local
abbrev pub copy_text : ℕ → ℕ → ℕ → ℕ → Context × ℕ → Filled
copy_text line mem offset size d =
    let place = member_place line mem offset d.0 in
    Ok (emit line (Copy place.1 (atom.Static d.1) (pos size)) place.0, InMemory line mem)

abbrev pub fill_text : Tree → ℕ → List ℕ → ℕ → ℕ → Target → Context → Filled
fill_text e line bytes size offset (InMemory at mem) c =
    then (with_literal line bytes (opened e c)) (λ d. copy_text at mem offset (min (length bytes + 1) size) d)
fill_text e line bytes size offset (InStatic start) c = Ok (c, InStatic (with_bytes start offset (take size bytes)))
fill_text e line bytes size offset target c = refused Assignment line

-- an expression as an initializer, by the type that is wanted
abbrev pub is_character : PlainType → Bool
is_character (Int i.Char) = true
is_character (Int i.SChar) = true
is_character (Int i.UChar) = true
is_character type = false

-- string literals that are not in parentheses
abbrev pub text : Tree → Option (List ℕ)
text (Node f.Str (At line ▹ Node f.Strings parts ▹ none)) = Some (joined parts)
text e = None

abbrev pub by_text : Tree → ℕ → PlainType → ℕ → ℕ → Option (List ℕ) → Target → Context → Filled
by_text e line element size offset None target c = whole e line (Array element size) offset target c
by_text e line element size offset (Some bytes) target c =
    cond (is_character element) (then (string line bytes) (λ literal. fill_text e line bytes size offset target c))
    (whole e line (Array element size) offset target c)

abbrev pub by_expression : Tree → ℕ → PlainType → ℕ → Target → Context → Filled
by_expression e line (Array element size) offset target c = by_text e line element size offset (text e) target c
by_expression e line (Struct tag) offset target c = whole e line (Struct tag) offset target c
by_expression e line (Union tag) offset target c = whole e line (Union tag) offset target c
by_expression e line type offset target c = scalar e line type offset target c

-- braces

-- what initializers in braces are for, in order: a type and an offset each; of an array as many elements as are asked for
abbrev pub elements : ℕ → ℕ → ℕ → ℕ → PlainType → List (PlainType × ℕ)
elements zero n offset size element = []
elements (suc asked) zero offset size element = []
elements (suc asked) (suc n) offset size element =
    (element, offset) ∷ elements asked n (offset + size) size element

abbrev pub struct_parts : ℕ → Option (List PlainMember) → List (PlainType × ℕ)
struct_parts offset None = []
struct_parts offset (Some members) = map (λ (m : PlainMember). (m.type, offset + m.offset)) members

-- a union's braces give its first member, a scalar's the scalar
unfoldable pub parts_of : Context → ℕ → PlainType → ℕ → List (PlainType × ℕ)
parts_of c asked (Array element n) offset = elements asked n offset (size_or_zero c element) element
parts_of c asked (Struct tag) offset = struct_parts offset (members_in c.tags tag)
parts_of c asked (Union tag) offset = take 1 (struct_parts offset (members_in c.tags tag))
parts_of c asked type offset = (type, offset) ∷ []

-- a scalar in braces has no braces in these
abbrev pub takes_braces : PlainType → Bool → Bool
takes_braces (Array element n) in_scalar = true
takes_braces (Struct tag) in_scalar = true
takes_braces (Union tag) in_scalar = true
takes_braces type in_scalar = not in_scalar

abbrev pub is_scalar_type : PlainType → Bool
is_scalar_type type = not (takes_braces type true)

unfoldable mutual
  -- what initializes nothing is gone through all the same
  pub surplus : Tree → Context → Checked Context
  surplus (Node f.InitExpr (At line ▹ e ▹ none)) c = then (found e Void (opened e c)) (λ d. Ok d.0)
  surplus (Node (f.InitList trailing) (At line ▹ Node f.Inits inits ▹ none)) c = all_surplus inits c
  surplus tree c = refused Operands (line_of tree)

  pub all_surplus : Trees → Context → Checked Context
  all_surplus none c = Ok c
  all_surplus (init ▹ rest) c = then (surplus init c) (λ d. all_surplus rest d)

unfoldable mutual
  -- an initializer for a type at an offset of what is initialized; whether it stands in the braces of a scalar
  pub initialize : Tree → Bool → PlainType → ℕ → Target → Context → Filled
  initialize (Node f.InitExpr (At line ▹ e ▹ none)) in_scalar type offset target c =
      by_expression e (line_of e) type offset target c
  initialize (Node (f.InitList trailing) (At line ▹ Node f.Inits inits ▹ none)) in_scalar type offset target c =
      cond (takes_braces type in_scalar)
      (initialize_parts line inits (is_scalar_type type) (parts_of c (count inits) type offset) target c)
      (then (all_surplus inits c) (λ d. refused Assignment line))
  initialize tree in_scalar type offset target c = refused Operands (line_of tree)

  -- initializers in braces: one for each part in turn; too many are refused when all are gone through
  pub initialize_parts : ℕ → Trees → Bool → List (PlainType × ℕ) → Target → Context → Filled
  initialize_parts line none in_scalar parts target c = Ok (c, target)
  initialize_parts line (init ▹ rest) in_scalar [] target c =
      then (all_surplus (init ▹ rest) c) (λ d. refused Assignment line)
  initialize_parts line (init ▹ rest) in_scalar (part ∷ parts) target c =
      then (initialize init in_scalar part.0 part.1 target c) (λ d. initialize_parts line rest in_scalar parts d.1 d.0)

-- lengths

-- the length that an initializer gives to an array: so many as stand in its braces, or for characters the bytes of a string
-- with its zero; any other expression is refused where it is gone through, so its length is of no matter
abbrev pub text_length : PlainType → Option (List ℕ) → ℕ
text_length element None = 1
text_length element (Some bytes) = cond (is_character element) (length bytes + 1) 1

abbrev pub given_length : PlainType → Trees → Option ℕ
given_length element (Node f.InitExpr (At line ▹ e ▹ none) ▹ none) = Some (text_length element (text e))
given_length element (Node (f.InitList trailing) (At line ▹ Node f.Inits inits ▹ none) ▹ none) = Some (count inits)
given_length element inits = None

-- a type with layers, whose array next to the name may take its length from the initializer
abbrev pub with_init_layers : TagTable → List Layer → Trees → PlainType → Checked PlainType
with_init_layers tags [] inits type = Ok type
with_init_layers tags (ArrayOf line None ∷ []) inits type = layered tags (ArrayOf line (given_length type inits)) type
with_init_layers tags (layer ∷ layers) inits type =
    then (layered_before tags layer layers type) (λ inner. with_init_layers tags layers inits inner)
