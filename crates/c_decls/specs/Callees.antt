-- What is called (C99 6.5.2.2), and what a name is in an expression (C99 6.5.1).
use Rattle.std.specs.Prelude.{ℕ, Bool, true, false, not, ◌&&◌, ◌||◌, ◌==◌, zero, suc, nat_le, nat_eq, is_some, cond, codes, List, [], ◌∷◌, ◌++◌, length, drop, take_while, slice_get, slice_index, Option, Some, None, Ok}
use Rattle.std.specs.Char.{is_ascii_digit}
use Rattle.std.specs.Str.Parse.{digits_value}
use Rattle.hs_base.specs.Numbers.{width}
use Rattle.c_types.specs.declared.types.IntType.TheVariants as i
use Rattle.c_types.specs.Types.{PlainType, PlainTypes, Void, Int, Pointer, Function, none, first, kind_of}
use Rattle.c_types.specs.TagTable.{TagTable}
use Rattle.c_print.specs.declared.piece.Piece.{Piece}
use Rattle.c_print.specs.declared.piece.Piece.TheVariants as p
use Rattle.c_print.specs.Length as lengths
use Rattle.c_print.specs.Length.{length_bytes, is_one_of}
use Rattle.c_print.specs.Item.{is_flag}
use Rattle.c_print.specs.Pieces.{length_at, pieces_of}
use Rattle.c_decls.specs.declared.constant.Constant.{Constant}
use Rattle.c_decls.specs.declared.built_in.BuiltIn.{BuiltIn}
use Rattle.c_decls.specs.declared.built_in.BuiltIn.TheVariants.{SizeT, Null, Malloc, Calloc, Realloc, Free, Exit, Abort, Memcpy, Memmove, Memset, Strlen, Strcmp, Getchar, Putchar, Puts, Printf}
use Rattle.c_decls.specs.declared.refusal.TypeKind.TheVariants.{Undeclared, Operands, ArgumentCount, Format, LeftOut}
use Rattle.c_decls.specs.IntegerTypes.{promoted}
use Rattle.c_decls.specs.Constants.{typed}
use Rattle.c_decls.specs.BuiltIns.{built_ins, constant_of}
use Rattle.c_decls.specs.Named as n
use Rattle.c_decls.specs.Named.{PlainNamed}
use Rattle.c_decls.specs.Refusals.{Checked, refused, then, unless}
use Rattle.c_decls.specs.declared.typed.Folded.TheVariants.{Varies}
use Rattle.c_decls.specs.Typed.{PlainTyped, place, same, value, constant, wanted_value}
use Rattle.c_decls.specs.PlaceRules.{length_of, all_convert}

abbrev void_pointer : PlainType
void_pointer = Pointer Void

abbrev text : PlainType
text = Pointer (Int i.Char)

abbrev size_type : PlainType
size_type = Int i.UInt

abbrev number : PlainType
number = Int i.Int

abbrev one : PlainType → PlainTypes
one a = first a none

abbrev two : PlainType → PlainType → PlainTypes
two a b = first a (one b)

abbrev three : PlainType → PlainType → PlainType → PlainTypes
three a b c = first a (two b c)

-- a function with its result and its parameters; `printf`, which takes arguments by its format; or no function
pub data Callee : Type 0 where
  Takes : (answer : PlainType) (params : PlainTypes) → Callee
  Prints : Callee
  NoFunction : Callee

-- the built-in functions (C99 7.19 to 7.21)
abbrev pub built_in_callee : BuiltIn → Callee
built_in_callee Malloc = Takes void_pointer (one size_type)
built_in_callee Calloc = Takes void_pointer (two size_type size_type)
built_in_callee Realloc = Takes void_pointer (two void_pointer size_type)
built_in_callee Free = Takes Void (one void_pointer)
built_in_callee Exit = Takes Void (one number)
built_in_callee Abort = Takes Void none
built_in_callee Memcpy = Takes void_pointer (three void_pointer void_pointer size_type)
built_in_callee Memmove = Takes void_pointer (three void_pointer void_pointer size_type)
built_in_callee Memset = Takes void_pointer (three void_pointer number size_type)
built_in_callee Strlen = Takes size_type (one text)
built_in_callee Strcmp = Takes number (two text text)
built_in_callee Getchar = Takes number none
built_in_callee Putchar = Takes number (one number)
built_in_callee Puts = Takes number (one text)
built_in_callee Printf = Prints
built_in_callee _ = NoFunction

-- a built-in name in an expression: `NULL`, a constant, or a function that is not called
abbrev pub built_in_value : ℕ → BuiltIn → Option Constant → Checked PlainTyped
built_in_value line Null c = Ok (record { type = void_pointer; is_place = false; folded = Varies; is_null = true })
built_in_value line SizeT c = refused Operands line
built_in_value line name (Some c) = Ok (constant c)
built_in_value line name None = refused LeftOut line

abbrev pub built_in_named : ℕ → Option BuiltIn → Checked PlainTyped
built_in_named line None = refused Undeclared line
built_in_named line (Some name) = built_in_value line name (constant_of name)

-- a name in an expression; a function stands for itself in calls alone
abbrev pub named : ℕ → Option PlainNamed → Checked PlainTyped
named line None = refused Undeclared line
named line (Some (n.Object type index)) = Ok (place type)
named line (Some (n.Register type index)) = Ok (place type)
named line (Some (n.Function type index)) = refused LeftOut line
named line (Some (n.Typedef type)) = refused Operands line
named line (Some (n.Constant type value)) = Ok (constant (typed type value))
named line (Some (n.BuiltIn index)) = built_in_named line (slice_get built_ins index)
named line (Some (n.Tag type)) = refused Operands line

-- what a value is that is called
abbrev pub no_function : ℕ → TagTable → Checked PlainTyped → Checked Callee
no_function line tags answer = then answer (λ e. then (wanted_value line tags e) (λ held. Ok NoFunction))

abbrev pub function_callee : PlainType → Callee
function_callee (Function answer params) = Takes answer params
function_callee _ = NoFunction

abbrev pub built_in_called : ℕ → TagTable → Option BuiltIn → Callee → Checked Callee
built_in_called line tags name NoFunction = no_function line tags (built_in_named line name)
built_in_called line tags name callee = Ok callee

abbrev pub callee_at : Option BuiltIn → Callee
callee_at None = NoFunction
callee_at (Some name) = built_in_callee name

-- a type is that of a built-in function, which may be declared by hand (C99 7.1.4)
abbrev pub has_type : PlainType → Callee → Bool
has_type type (Takes answer params) = same type (Function answer params)
has_type type Prints = false
has_type type NoFunction = false

abbrev pub is_built_in : PlainType → Option PlainNamed → Bool
is_built_in type (Some (n.BuiltIn index)) = has_type type (callee_at (slice_get built_ins index))
is_built_in type other = false

-- a name that is called
abbrev pub called : ℕ → TagTable → Option PlainNamed → Checked Callee
called line tags (Some (n.Function type index)) = Ok (function_callee type)
called line tags (Some (n.BuiltIn index)) =
    built_in_called line tags (slice_get built_ins index) (callee_at (slice_get built_ins index))
called line tags other = no_function line tags (named line other)

-- formats of `printf` (C99 7.19.6.1, narrowed)

-- what stands behind the flags, and behind the digits behind them
abbrev pub behind_flags : List ℕ → List ℕ
behind_flags bytes = drop (length (take_while is_flag bytes)) bytes

abbrev pub digits_at : List ℕ → List ℕ
digits_at bytes = take_while is_ascii_digit (behind_flags bytes)

abbrev pub behind_digits : List ℕ → List ℕ
behind_digits bytes = drop (length (digits_at bytes)) (behind_flags bytes)

abbrev pub behind_length : List ℕ → List ℕ
behind_length bytes = drop (length (length_bytes (length_at (behind_digits bytes)))) (behind_digits bytes)

-- an item has its form behind its percent sign: a width of at most 4095, a length and a conversion that go together, and
-- no `0` with `c` or `s`
abbrev pub is_item : List ℕ → Bool
is_item bytes =
    let conversion = slice_index (behind_length bytes) 0 in
    nat_le (digits_value 10 (digits_at bytes)) 4095
    && is_some (lengths.kind_of (length_at (behind_digits bytes)) conversion)
    && not (is_one_of (take_while is_flag bytes) 48 && is_one_of (codes "cs") conversion)

-- so many bytes at most have the form of a format: no byte is 0, and behind a percent sign stands another or an item
abbrev pub is_format_of : ℕ → List ℕ → Bool
is_format_of n [] = true
is_format_of zero bytes = false
is_format_of (suc n) (b ∷ rest) =
    cond (b == 0) false
    (cond (not (b == 37)) (is_format_of n rest)
    (cond (slice_index rest 0 == 37) (is_format_of n (drop 1 rest))
    (is_item rest && is_format_of n (drop 1 (behind_length rest)))))

abbrev pub is_format : List ℕ → Bool
is_format bytes = is_format_of (length bytes) bytes

-- an argument for an item: a pointer to a character type for `s`, and else an integer whose promoted type is as wide as
-- the promoted kind
abbrev pub suits_type : ℕ → ℕ → PlainType → Bool
suits_type conversion bytes (Pointer (Int i.Char)) = conversion == 115
suits_type conversion bytes (Pointer (Int i.SChar)) = conversion == 115
suits_type conversion bytes (Pointer (Int i.UChar)) = conversion == 115
suits_type conversion bytes (Int ty) =
    not (conversion == 115) && (nat_eq (width (kind_of (promoted ty))) (cond (bytes == 8) 8 4))
suits_type conversion bytes _ = false

abbrev pub suit : List Piece → List PlainTyped → Bool
suit [] [] = true
suit [] (e ∷ rest) = false
suit (p.Plain bytes ∷ pieces) arguments = suit pieces arguments
suit (p.Item flush zeros width' conversion kind ∷ pieces) [] = false
suit (p.Item flush zeros width' conversion kind ∷ pieces) (e ∷ rest) =
    suits_type conversion (width kind) e.type && suit pieces rest

-- a call of `printf` with its format, where its first argument is string literals
abbrev pub prints : ℕ → Option (List ℕ) → List PlainTyped → Checked PlainTyped
prints line None arguments = refused Format line
prints line (Some bytes) [] = refused Format line
prints line (Some bytes) (format ∷ rest) =
    unless (not (is_format bytes && suit (pieces_of bytes) rest)) Format line (Ok (value number))

-- a call: the number of its arguments, and then each
abbrev pub call : ℕ → Option (List ℕ) → Callee → List PlainTyped → Checked PlainTyped
call line literal (Takes answer params) arguments =
    unless (not (length arguments == length_of params)) ArgumentCount line
    (all_convert line params arguments (Ok (value answer)))
call line literal Prints arguments = prints line literal arguments
call line literal NoFunction arguments = refused Operands line
