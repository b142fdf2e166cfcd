-- The rules of casts, choices, members, assignments and calls (C99 6.5.2, 6.5.3.4, 6.5.4, 6.5.15, 6.5.16).
use Rattle.std.specs.Prelude.{ℕ, zero, suc, ℤ, pos, Bool, true, false, not, ◌&&◌, ◌||◌, cond, bytes_eq, List, [], ◌∷◌, Option, Some, None, Ok}
use Rattle.std.specs.List.{find}
use Rattle.std.specs.Option.{option_map}
use Rattle.hs_base.specs.Numbers.{wrapped}
use Rattle.c_types.specs.declared.types.IntType.{IntType}
use Rattle.c_types.specs.declared.types.IntType.TheVariants as i
use Rattle.c_types.specs.Types.{PlainType, PlainTypes, Void, Int, Pointer, Array, Struct, Union, Function, none, first, kind_of}
use Rattle.c_types.specs.TagTable.{TagTable, PlainMember, members_in, size_in}
use Rattle.c_tree.specs.declared.operator.AssignOp.{AssignOp}
use Rattle.c_tree.specs.declared.operator.AssignOp.TheVariants as a
use Rattle.c_decls.specs.declared.refusal.TypeKind.{TypeKind}
use Rattle.c_decls.specs.declared.refusal.TypeKind.TheVariants.{Operands, NotLvalue, ArgumentCount, Assignment, Incomplete, NoMember, PointerAndInteger}
use Rattle.c_decls.specs.IntegerTypes.{common_type}
use Rattle.c_decls.specs.Refusals.{Checked, refused, then, unless}
use Rattle.c_decls.specs.declared.typed.Folded.TheVariants.{Varies, Traps, Is}
use Rattle.c_decls.specs.declared.typed.Folded.{Folded}
use Rattle.c_decls.specs.Typed.{PlainTyped, place, value, integer, int, Operand, Number, PointerTo, Neither, operand, same, is_void, is_scalar, is_record, is_array, has_no_size, is_null_constant, has_no_value, wanted_value}
use Rattle.c_decls.specs.TypeRules.{fold_one, chosen, barred, moving, beside_pointer}

-- a number converted to a type
abbrev pub converted_value : IntType → Folded → Folded
converted_value ty folded = fold_one (λ n. Is (wrapped (kind_of ty) n)) folded

-- a null pointer constant that is cast to `void *`, from an integer, is one again
abbrev pub null_pointer : PlainType → PlainType → PlainTyped
null_pointer type target = record { type = type; is_place = false; folded = Varies; is_null = is_void target }

-- a cast of a value of the second type (C99 6.5.4)
abbrev pub cast_types : ℕ → PlainType → PlainTyped → Operand → Operand → Checked PlainTyped
cast_types line type e (Number ty) (Number source) = Ok (integer ty (converted_value ty e.folded))
cast_types line type e (Number ty) (PointerTo source) = refused PointerAndInteger line
cast_types line type e (PointerTo target) (PointerTo source) = Ok (value type)
cast_types line type e (PointerTo target) (Number source) = beside_pointer line e (Ok (null_pointer type target))
cast_types line type e _ _ = refused Operands line

abbrev pub cast : ℕ → PlainType → PlainTyped → Checked PlainTyped
cast line type e =
    cond (is_void type) (Ok (value type)) (cast_types line type e (operand type) (operand e.type))

-- the type of two pointers between which is chosen (C99 6.5.15)
abbrev pub chosen_pointer : ℕ → PlainTyped → PlainTyped → PlainType → PlainType → Checked PlainTyped
chosen_pointer line x y s t =
    cond (same s t || y.is_null) (Ok (value x.type))
    (cond x.is_null (Ok (value y.type))
    (cond (is_void s) (Ok (value x.type)) (cond (is_void t) (Ok (value y.type)) (refused Operands line))))

abbrev pub choice_types : ℕ → Folded → PlainTyped → PlainTyped → Operand → Operand → Checked PlainTyped
choice_types line test x y (Number s) (Number t) =
    let ty = common_type s t in
    Ok (integer ty (chosen test (converted_value ty x.folded) (converted_value ty y.folded)))
choice_types line test x y (PointerTo s) (PointerTo t) = chosen_pointer line x y s t
choice_types line test x y (PointerTo s) (Number t) = beside_pointer line y (Ok (value x.type))
choice_types line test x y (Number s) (PointerTo t) = beside_pointer line x (Ok (value y.type))
choice_types line test x y _ _ = cond (is_void x.type && is_void y.type) (Ok (value x.type)) (refused Operands line)

-- `?:` (C99 6.5.15)
abbrev pub choice : ℕ → PlainTyped → PlainTyped → PlainTyped → Checked PlainTyped
choice line test x y =
    unless (not (is_scalar test.type)) Operands line (choice_types line test.folded x y (operand x.type) (operand y.type))

-- `sizeof` of a type (C99 6.5.3.4)
abbrev pub size_answer : ℕ → Option ℕ → Checked PlainTyped
size_answer line None = refused Incomplete line
size_answer line (Some size) = Ok (integer i.UInt (Is (pos size)))

abbrev pub size : ℕ → TagTable → PlainType → Checked PlainTyped
size line tags type = size_answer line (size_in tags type)

-- `e[f]` (C99 6.5.2.1)
abbrev pub element_types : ℕ → TagTable → Operand → Operand → Checked PlainTyped
element_types line tags (PointerTo target) (Number ty) = moving line tags target (place target)
element_types line tags (Number ty) (PointerTo target) = moving line tags target (place target)
element_types line tags _ _ = refused Operands line

abbrev pub element : ℕ → TagTable → PlainTyped → PlainTyped → Checked PlainTyped
element line tags e f = element_types line tags (operand e.type) (operand f.type)

-- the member of that name (C99 6.5.2.3)
abbrev pub member_answer : ℕ → Option PlainType → Checked PlainTyped
member_answer line None = refused NoMember line
member_answer line (Some type) = Ok (place type)

abbrev pub member_among : ℕ → List ℕ → Option (List PlainMember) → Checked PlainTyped
member_among line name None = refused Incomplete line
member_among line name (Some members) =
    member_answer line (option_map (λ (m : PlainMember). m.type) (find (λ (m : PlainMember). bytes_eq name m.name) members))

abbrev pub member_of : ℕ → List ℕ → TagTable → PlainType → Checked PlainTyped
member_of line name tags (Struct tag) = member_among line name (members_in tags tag)
member_of line name tags (Union tag) = member_among line name (members_in tags tag)
member_of line name tags _ = refused Operands line

-- `e.name` on a place
abbrev pub dot : ℕ → List ℕ → TagTable → PlainTyped → Checked PlainTyped
dot line name tags e = unless (not e.is_place) Operands line (member_of line name tags e.type)

-- `e->name` on a value
abbrev pub arrow_of : ℕ → List ℕ → TagTable → Operand → Checked PlainTyped
arrow_of line name tags (PointerTo target) = member_of line name tags target
arrow_of line name tags _ = refused Operands line

abbrev pub arrow : ℕ → List ℕ → TagTable → PlainTyped → Checked PlainTyped
arrow line name tags e = arrow_of line name tags (operand e.type)

-- why a value does not convert to a type that is wanted: in an assignment, an argument, an initializer or a return (C99
-- 6.5.16.1)
abbrev pub unconverted_types : PlainTyped → Operand → Operand → Option TypeKind
unconverted_types e (Number ty) (Number source) = None
unconverted_types e (Number ty) (PointerTo source) = Some PointerAndInteger
unconverted_types e (PointerTo target) (PointerTo source) =
    cond (same target source || is_void target || is_void source) None (Some Assignment)
unconverted_types e (PointerTo target) (Number source) = cond (is_null_constant e) None (Some PointerAndInteger)
unconverted_types e _ _ = Some Assignment

abbrev pub unconverted : PlainType → PlainTyped → Option TypeKind
unconverted type e = unconverted_types e (operand type) (operand e.type)

-- an answer, if the value converts
abbrev pub converts : {A : Type 0} → ℕ → PlainType → PlainTyped → Checked A → Checked A
converts line type e answer = barred (unconverted type e) line answer

-- a place that an assignment may write: no array (C99 6.3.2.1)
abbrev pub is_written : PlainTyped → Bool
is_written e = e.is_place && not (is_array e.type)

-- `=` to a struct or a union, from a place of the same type
abbrev pub record_assigned : ℕ → TagTable → PlainTyped → PlainTyped → Checked PlainTyped
record_assigned line tags target e =
    unless (has_no_value e) Operands line
    (unless (not target.is_place) NotLvalue line
    (unless (has_no_size tags target.type) Incomplete line
    (unless (not (same target.type e.type)) Assignment line (Ok (value target.type)))))

-- `=` to a scalar, from a value
abbrev pub scalar_assigned : ℕ → PlainTyped → PlainTyped → Checked PlainTyped
scalar_assigned line target e =
    unless (not (is_written target)) NotLvalue line
    (unless (is_void target.type) Incomplete line
    (converts line target.type e (Ok (value target.type))))

-- `=` (C99 6.5.16.1); where a struct or a union is written, its right side is a place, which is not read
abbrev pub assigned : ℕ → ℕ → TagTable → PlainTyped → PlainTyped → Checked PlainTyped
assigned line right tags target e =
    cond (is_record target.type) (record_assigned line tags target e) (then (wanted_value right tags e) (scalar_assigned line target))

-- `++` and `--`, and the operators with `=`, on a pointer
abbrev pub moves : AssignOp → Bool
moves a.Add = true
moves a.Subtract = true
moves _ = false

-- an operator with `=` on what a place holds (C99 6.5.16.2)
abbrev pub changed_types : ℕ → AssignOp → TagTable → PlainType → Operand → Operand → Checked PlainTyped
changed_types line op tags type (Number ty) (Number source) = Ok (value type)
changed_types line op tags type (PointerTo target) (Number source) =
    unless (not (moves op)) Operands line (moving line tags target (value type))
changed_types line op tags type _ _ = refused Operands line

abbrev pub changed : ℕ → AssignOp → TagTable → PlainTyped → PlainTyped → Checked PlainTyped
changed line op tags target e =
    unless (not (is_written target)) NotLvalue line (changed_types line op tags target.type (operand target.type) (operand e.type))

-- `++` and `--`: as `+= 1`
abbrev pub stepped : ℕ → TagTable → PlainTyped → Checked PlainTyped
stepped line tags target = changed line a.Add tags target int

-- an operand of an operator that reads a place and writes it: what it holds is refused where it is no value
abbrev pub held_place : ℕ → TagTable → PlainTyped → Checked PlainTyped
held_place line tags e = then (wanted_value line tags e) (λ held. Ok e)

-- the right side of a comma
abbrev pub behind_comma : PlainTyped → PlainTyped
behind_comma e = value e.type

-- arguments for parameters (C99 6.5.2.2): their number first, and then each in turn
abbrev pub length_of : PlainTypes → ℕ
length_of none = 0
length_of (first type rest) = suc (length_of rest)

abbrev pub all_convert : ℕ → PlainTypes → List PlainTyped → Checked PlainTyped → Checked PlainTyped
all_convert line none arguments answer = answer
all_convert line (first type rest) [] answer = answer
all_convert line (first type rest) (e ∷ arguments) answer = converts line type e (all_convert line rest arguments answer)
