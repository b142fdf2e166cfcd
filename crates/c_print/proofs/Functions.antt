-- The pieces of a format are what the function gives.
use Rattle.std.proofs.Common.{◌≡◌, ◌<◌, ◌≤◌, ℕ, zero, suc, nat_eq, Bool, true, false, cond, List, [], ◌∷◌, ◌++◌, length, length-append, drop, refl, sym, ap, ◌∙◌, arith}
use Rattle.std.specs.List.{flat_map, take_while}
use Rattle.std.specs.Option.{unwrap_or}
use Rattle.std.specs.Char.{is_ascii_digit}
use Rattle.std.proofs.Math.Seq.{drop-append_seam}
use Rattle.std.proofs.lemmas.Bool.{eqb-true}
use Rattle.hs_base.specs.declared.ends.IntKind.{IntKind}
use Rattle.hs_base.specs.declared.ends.IntKind.TheVariants.{I32}
use Rattle.c_print.specs.declared.piece.Piece.{Piece}
use Rattle.c_print.specs.declared.piece.Piece.TheVariants.{Plain, Item}
use Rattle.c_print.specs.Length.{length_bytes}
use Rattle.c_print.specs.Item.{is_flag, StartsOutside, width_bytes, ReadsItem}
use Rattle.c_print.specs.Format.{plain_byte, GoesOnPlain, ReadsPieces, IsFormat}
use Rattle.c_print.specs.Pieces.{length_at, item_of, item_at, join, pieces_from, pieces_of}
use Rattle.c_print.proofs.Widths.{value_width_bytes}
use Rattle.c_print.proofs.Fronts.{take_while_front}
use Rattle.c_print.proofs.Convs.{conv_is_not, length_at_is}
use Rattle.c_print.specs.ItemEquations.{width_digits, item_is_no_percent}
use Rattle.c_print.proofs.Parts.{item_ends}
use Rattle.c_print.proofs.Pieces.{begins_plain, some_bytes, plain_written, plain_behind, plain_byte_some, piece_is_longer}

past_front : (a front bytes behind : List ℕ) → a ≡ front → bytes ≡ front ++ behind → drop (length a) bytes ≡ behind
past_front a front bytes behind is whole = (λ i. drop (length (is i)) (whole i)) ∙ drop-append_seam front behind

-- an item that stands at the front is the one that is read
item_at_is : (bytes : List ℕ) (left zeros : Bool) (width conv : ℕ) (kind : IntKind) (rest : List ℕ) →
    ReadsItem bytes left zeros width conv kind rest → item_at bytes ≡ (Item left zeros width conv kind, rest)
item_at_is bytes left zeros width conv kind rest item =
    let l = item.conversion.length in
    let ends = item_ends bytes left zeros width conv kind rest item in
    let flags = take_while_front is_flag bytes item.flags (width_bytes width ++ item.behind) item.written item.only_flags ends.0 in
    let from_width = drop (length (take_while is_flag bytes)) bytes in
    let from_width_is = past_front (take_while is_flag bytes) item.flags bytes (width_bytes width ++ item.behind) flags item.written in
    let digits = take_while_front is_ascii_digit from_width (width_bytes width) item.behind from_width_is (width_digits width item.width_fits) ends.1 in
    let from_length = drop (length (take_while is_ascii_digit from_width)) from_width in
    let from_length_is = past_front (take_while is_ascii_digit from_width) (width_bytes width) from_width item.behind digits from_width_is
    ∙ item.conversion.written in
    let l_is = ap length_at from_length_is ∙ length_at_is l conv rest (conv_is_not l conv kind item.conversion.kind_is) in
    let from_conv_is = past_front (length_bytes (length_at from_length)) (length_bytes l) from_length (conv ∷ rest) (ap length_bytes l_is) from_length_is in
    let parts : item_at bytes ≡ item_of item.flags (width_bytes width) l (conv ∷ rest) =
    λ i. item_of (flags i) (digits i) (l_is i) (from_conv_is i) in
    let made : item_of item.flags (width_bytes width) l (conv ∷ rest) ≡ (Item left zeros width conv kind, rest) =
    λ i. (Item (sym item.left_is i) (sym item.zeros_is i) (value_width_bytes width item.width_fits i) conv (unwrap_or (item.conversion.kind_is i) I32), rest) in
    parts ∙ made

-- one step over a plain byte
from_plain : (n b : ℕ) (rest : List ℕ) → pieces_from (suc n) (plain_byte b ++ rest) ≡ join (Plain (b ∷ [])) (pieces_from n rest)
from_plain n b rest = by_test (nat_eq b 37) refl where
  by_test : (test : Bool) → nat_eq b 37 ≡ test →
      pieces_from (suc n) (cond test (37 ∷ 37 ∷ []) (b ∷ []) ++ rest) ≡ join (Plain (b ∷ [])) (pieces_from n rest)
  by_test true is = ap (λ c. join (Plain (c ∷ [])) (pieces_from n rest)) (sym (eqb-true b 37 is))
  by_test false is = rw is refl

-- one step over an item
from_item : (n : ℕ) (item : List ℕ) (piece : Piece) (rest : List ℕ) → StartsOutside (λ b. nat_eq b 37) item →
    item_at item ≡ (piece, rest) → pieces_from (suc n) (37 ∷ item) ≡ join piece (pieces_from n rest)
from_item n [] piece rest outside is = ap (λ front. join front.0 (pieces_from n front.1)) is
from_item n (b ∷ item) piece rest outside is = rw outside (ap (λ front. join front.0 (pieces_from n front.1)) is)

-- no text meets a text that goes as far as it can
alone : (bytes text : List ℕ) (pieces : List Piece) (rest : List ℕ) → ReadsPieces bytes pieces rest → ¬ GoesOnPlain bytes →
    join (Plain text) pieces ≡ Plain text ∷ pieces
alone bytes text [] rest reads ends = refl
alone bytes text (Plain more ∷ pieces) rest reads ends = absurd (ends (begins_plain bytes more reads.0 reads.1.0 reads.1.1))
alone bytes text (Item left zeros width conv kind ∷ pieces) rest reads ends = refl

from_enough : (n : ℕ) (bytes : List ℕ) (pieces : List Piece) → length bytes ≤ n → IsFormat bytes pieces → pieces_from n bytes ≡ pieces
from_enough zero bytes [] enough format = ap (pieces_from zero) format
from_enough (suc n) bytes [] enough format = ap (pieces_from (suc n)) format
from_enough zero bytes (p ∷ pieces) enough format = absurd (omega (arith, piece_is_longer bytes p format.0 format.1))
from_enough (suc n) bytes (Plain [] ∷ pieces) enough format = absurd (format.1.0 refl)
from_enough (suc n) bytes (Plain (b ∷ []) ∷ pieces) enough format =
    let written = plain_written bytes b [] format.0 format.1.1 in
    let shorter = piece_is_longer bytes (Plain (b ∷ [])) format.0 format.1 in
    let more = from_enough n format.0 pieces (omega arith) format.2 in
    ap (pieces_from (suc n)) written ∙ from_plain n b format.0 ∙ ap (join (Plain (b ∷ []))) more
    ∙ alone format.0 (b ∷ []) pieces [] format.2 format.1.1.longest
from_enough (suc n) bytes (Plain (b ∷ c ∷ text) ∷ pieces) enough format =
    let written = plain_written bytes b (c ∷ text) format.0 format.1.1 in
    let rest = flat_map plain_byte (c ∷ text) ++ format.0 in
    let shorter : length rest < length bytes =
    omega (arith, ap length written, length-append (plain_byte b) rest, plain_byte_some b) in
    let more = from_enough n rest (Plain (c ∷ text) ∷ pieces) (omega arith)
    (format.0, (some_bytes c text, plain_behind b (c ∷ text) format.0 format.1.1.no_zero format.1.1.longest), format.2) in
    ap (pieces_from (suc n)) written ∙ from_plain n b rest ∙ ap (join (Plain (b ∷ []))) more
from_enough (suc n) bytes (Item left zeros width conv kind ∷ pieces) enough format =
    let item = format.1.0 in
    let reads = format.1.2 in
    let shorter = piece_is_longer bytes (Item left zeros width conv kind) format.0 format.1 in
    let more = from_enough n format.0 pieces (omega arith) format.2 in
    ap (pieces_from (suc n)) format.1.1
    ∙ from_item n item (Item left zeros width conv kind) format.0 (item_is_no_percent item left zeros width conv kind format.0 reads)
    (item_at_is item left zeros width conv kind format.0 reads)
    ∙ ap (join (Item left zeros width conv kind)) more

-- the pieces of a format are what the function gives
pub pieces_of_format : (bytes : List ℕ) (pieces : List Piece) → IsFormat bytes pieces → pieces_of bytes ≡ pieces
unfolding pieces_of
pieces_of_format bytes pieces format = from_enough (length bytes) bytes pieces (omega arith) format
