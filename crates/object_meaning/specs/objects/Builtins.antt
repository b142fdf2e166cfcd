-- Built-in functions that have no statement of their own (C99 7.19.7, 7.20.4, 7.21).
use Rattle.std.specs.Prelude.{ℕ, ℤ, pos, negsuc, List, [], ◌∷◌, ◌++◌, map, length, Option, Some, None, Result, Ok}
use Rattle.hs_base.specs.declared.ends.IntKind.TheVariants.{I32}
use Rattle.hs_base.specs.declared.ends.TrapKind.TheVariants as trap
use Rattle.hs_base.specs.declared.values.Pointer.{Pointer}
use Rattle.hs_base.specs.declared.values.Value.{Value}
use Rattle.hs_base.specs.Access.{Refusal, and_then, set_bytes}
use Rattle.hs_base.specs.Numbers.{low_bits, wrapped}
use Rattle.hs_base.specs.Object.{Object}
use Rattle.hs_base.specs.State.{State}
use Rattle.hs_base.specs.Trace.{Out, In, Exit, Trap}
use Rattle.core_tree.specs.declared.statements.LibName.{LibName}
use Rattle.core_tree.specs.declared.statements.LibName.TheVariants as lib
use Rattle.object_meaning.specs.objects.Values.{number, address, number_at, pointer_at, size_in}
use Rattle.object_meaning.specs.objects.Going.{Next, goes, stops, write, with_objects, answers, if_done}
use Rattle.object_meaning.specs.objects.Memory.{copied}
use Rattle.object_meaning.specs.objects.Strings.{string_at, order_of}

-- an integer converted to an int, and from there to a byte
abbrev pub byte_in : ℤ → ℕ
byte_in n = low_bits 8 (wrapped I32 n)

-- a byte is written, and is the answer
abbrev pub put_byte : Option ℕ → ℕ → State → Next
put_byte r byte s = goes s (Out byte ∷ []) (write s r (number (pos byte)))

-- the next byte of the input is read, or its end, which answers -1
abbrev pub get_byte : Option ℕ → List ℕ → State → Next
get_byte r [] s = goes s (In None ∷ []) (write s r (number (negsuc 0)))
get_byte r (byte ∷ rest) s = goes s (In (Some byte) ∷ []) (write (record s { input = rest }) r (number (pos byte)))

-- a string and a line end are written
abbrev pub put_line : Option ℕ → List ℕ → State → Next
put_line r text s = goes s (map Out (text ++ 10 ∷ [])) (write s r (number (pos 0)))

-- the objects are those after a copy or a set, whose answer is its destination
abbrev pub filled : ℕ → Option ℕ → Pointer → Result (List Object) Refusal → State → Next
filled line r p done s = if_done line s done (λ objects. goes s [] (write (with_objects s objects) r (address p)))

-- what each built-in function does with its arguments; a register takes its answer
abbrev pub call_lib : ℕ → LibName → Option ℕ → List Value → State → Next
call_lib line lib.Exit r values s = stops s (Exit (byte_in (number_at values 0)))
call_lib line lib.Abort r values s = stops s (Trap trap.Abort line)
call_lib line lib.Memcpy r values s =
    filled line r (pointer_at values 0) (copied s.objects (pointer_at values 0) (pointer_at values 1) (size_in (number_at values 2))) s
call_lib line lib.Memmove r values s =
    filled line r (pointer_at values 0) (copied s.objects (pointer_at values 0) (pointer_at values 1) (size_in (number_at values 2))) s
call_lib line lib.Memset r values s =
    filled line r (pointer_at values 0) (set_bytes s.objects (pointer_at values 0) (byte_in (number_at values 1)) (size_in (number_at values 2))) s
call_lib line lib.Strlen r values s =
    answers line s r (and_then (string_at s.objects (pointer_at values 0)) (λ text. Ok (number (pos (length text)))))
call_lib line lib.Strcmp r values s =
    answers line s r (and_then (order_of s.objects (pointer_at values 0) (pointer_at values 1)) (λ order. Ok (number order)))
call_lib line lib.Getchar r values s = get_byte r s.input s
call_lib line lib.Putchar r values s = put_byte r (byte_in (number_at values 0)) s
call_lib line lib.Puts r values s =
    if_done line s (string_at s.objects (pointer_at values 0)) (λ text. put_line r text s)
