-- What a format writes with its arguments (C99 7.19.6.1, 7.19.6.3).
use Rattle.std.specs.Prelude.{ℕ, pos, cond, nat_eq, List, [], ◌∷◌, ◌++◌, map, drop, length, Option, Some, None, Result, Ok, Err}
use Rattle.hs_base.specs.declared.ends.IntKind.TheVariants.{I32}
use Rattle.hs_base.specs.declared.values.Value.{Value}
use Rattle.hs_base.specs.Access.{Refusal, and_then}
use Rattle.hs_base.specs.Numbers.{wrapped}
use Rattle.hs_base.specs.Object.{Object}
use Rattle.hs_base.specs.State.{State}
use Rattle.hs_base.specs.Trace.{Out}
use Rattle.c_print.specs.declared.piece.Piece.{Piece}
use Rattle.c_print.specs.declared.piece.Piece.TheVariants.{Plain, Item}
use Rattle.c_print.specs.Print.{item_bytes, field}
use Rattle.object_meaning.specs.objects.Values.{number, number_at, pointer_at}
use Rattle.object_meaning.specs.objects.Going.{Next, goes, stops_after, write, ended_by}
use Rattle.object_meaning.specs.objects.Strings.{string_at}

-- the bytes that are written, and why the rest is not
pub record Printed : Type 0 where
  pub bytes : List ℕ
  pub refused : Option Refusal

-- the bytes of an item: of a string where its conversion is `s` (115), and else of an integer converted to its kind
abbrev pub item_text : List Object → Piece → List Value → Result (List ℕ) Refusal
item_text objects (Plain text) values = Ok text
item_text objects (Item left zeros width conv kind) values =
    cond (nat_eq conv 115) (and_then (string_at objects (pointer_at values 0)) (λ text. Ok (field left zeros width [] text))) (Ok (item_bytes (Item left zeros width conv kind) (wrapped kind (number_at values 0))))

-- an item takes the first of the arguments, plain text none
abbrev pub arguments_behind : Piece → List Value → List Value
arguments_behind (Plain text) values = values
arguments_behind (Item left zeros width conv kind) values = drop 1 values

-- bytes in front of the rest; an item that is refused writes nothing
abbrev pub in_front : Result (List ℕ) Refusal → Printed → Printed
in_front (Ok text) rest = record { bytes = text ++ rest.bytes; refused = rest.refused }
in_front (Err e) rest = record { bytes = []; refused = Some e }

-- piece by piece
abbrev pub printed : List Object → List Piece → List Value → Printed
printed objects [] values = record { bytes = []; refused = None }
printed objects (piece ∷ pieces) values =
    in_front (item_text objects piece values) (printed objects pieces (arguments_behind piece values))

-- the bytes are written, and a register takes their number as an int
abbrev pub print : ℕ → ℕ → List ℕ → Option Refusal → State → Next
print line r bytes None s = goes s (map Out bytes) (write s (Some r) (number (wrapped I32 (pos (length bytes)))))
print line r bytes (Some e) s = stops_after s (map Out bytes) s (ended_by line e)
