-- The piece at the front of a format.
use Rattle.std.proofs.Common.{◌≡◌, ◌≢◌, ◌<◌, ◌≤◌, ℕ, suc, nat_eq, Bool, true, false, cond, List, [], ◌∷◌, ◌++◌, length, length-append, drop, refl, sym, ap, ◌∙◌, subst, append_assoc, arith}
use Rattle.std.specs.List.{All, flat_map}
use Rattle.std.proofs.lemmas.List.Concat.{flat_map-cons}
use Rattle.std.proofs.lemmas.List.Elements.{All-nil, All-cons}
use Rattle.hs_base.specs.declared.ends.IntKind.{IntKind}
use Rattle.c_print.specs.declared.piece.Piece.{Piece}
use Rattle.c_print.specs.declared.piece.Piece.TheVariants.{Plain, Item}
use Rattle.c_print.specs.Item.{ReadsItem, StartsOutside}
use Rattle.c_print.specs.ItemEquations.{item_is_no_percent}
use Rattle.c_print.proofs.Parts.{one_item, item_is_longer}
use Rattle.std.proofs.lemmas.Bool.{eqb-true, eqb-false, true≢false}
use Rattle.c_print.specs.Format.{plain_byte, GoesOnPlain, ReadsPlain, ReadsPiece, ReadsPieces, IsFormat, IsGiven}

-- plain text begins with a plain byte
pub begins_plain : (bytes text rest : List ℕ) → text ≢ [] → ReadsPlain bytes text rest → GoesOnPlain bytes
begins_plain bytes [] rest some reads = absurd (some refl)
begins_plain bytes (b ∷ text) rest some reads = (
  b,
  flat_map plain_byte text ++ rest,
  reads.no_zero 0 0 (omega arith),
  reads.written ∙ ap (λ front. front ++ rest) (flat_map-cons plain_byte b text) ∙ append_assoc (plain_byte b) (flat_map plain_byte text) rest,
)

-- no piece stands in front of bytes that do not begin with a plain byte and, behind a percent sign, with no item
pub no_piece : (bytes : List ℕ) → ¬ GoesOnPlain bytes →
    ((item : List ℕ) → bytes ≡ 37 ∷ item → (left zeros : Bool) (width conv : ℕ) (kind : IntKind) (rest : List ℕ) →
    ¬ ReadsItem item left zeros width conv kind rest) →
    (piece : Piece) (rest : List ℕ) → ¬ ReadsPiece bytes piece rest
no_piece bytes not_plain not_item (Plain text) rest reads = not_plain (begins_plain bytes text rest reads.0 reads.1)
no_piece bytes not_plain not_item (Item left zeros width conv kind) rest reads =
    not_item reads.0 reads.1 left zeros width conv kind rest reads.2

-- where no plain text was read, none is there
pub no_plain : (bytes text rest : List ℕ) → length text ≤ 0 → ReadsPlain bytes text rest → ¬ GoesOnPlain bytes
no_plain bytes [] rest none reads = subst (λ l. ¬ GoesOnPlain l) (sym reads.written) reads.longest
no_plain bytes (b ∷ text) rest none reads = absurd (omega arith)

-- a byte is spelled once
one_plain_byte : (b c : ℕ) (bytes rest : List ℕ) → plain_byte b ++ bytes ≡ plain_byte c ++ rest → (b ≡ c) × (bytes ≡ rest)
one_plain_byte b c bytes rest same = by_tests (nat_eq b 37) (nat_eq c 37) refl refl same where
  by_tests : (p q : Bool) → nat_eq b 37 ≡ p → nat_eq c 37 ≡ q →
      cond p (37 ∷ 37 ∷ []) (b ∷ []) ++ bytes ≡ cond q (37 ∷ 37 ∷ []) (c ∷ []) ++ rest → (b ≡ c) × (bytes ≡ rest)
  by_tests true true x y e = (eqb-true b 37 x ∙ sym (eqb-true c 37 y), cc)
  by_tests true false x y e = let is : 37 ≡ c = cc in absurd (eqb-false c 37 y (sym is))
  by_tests false true x y e = let is : b ≡ 37 = cc in absurd (eqb-false b 37 x is)
  by_tests false false x y e = (cc, cc)

pub plain_behind : (b : ℕ) (text rest : List ℕ) → All (λ c. c ≢ 0) (b ∷ text) → ¬ GoesOnPlain rest →
    ReadsPlain (flat_map plain_byte text ++ rest) text rest
plain_behind b text rest no_zero longest = record {
  written = refl;
  no_zero = λ k d below. no_zero (suc k) d (omega arith);
  longest = longest;
}

pub plain_written : (bytes : List ℕ) (b : ℕ) (text rest : List ℕ) → ReadsPlain bytes (b ∷ text) rest →
    bytes ≡ plain_byte b ++ (flat_map plain_byte text ++ rest)
plain_written bytes b text rest reads = reads.written ∙ ap (λ front. front ++ rest) (flat_map-cons plain_byte b text)
    ∙ append_assoc (plain_byte b) (flat_map plain_byte text) rest

pub some_bytes : (b : ℕ) (text : List ℕ) → b ∷ text ≢ []
some_bytes b text e = cc

one_plain : (bytes text text' rest rest' : List ℕ) → ReadsPlain bytes text rest → ReadsPlain bytes text' rest' →
    (text ≡ text') × (rest ≡ rest')
one_plain bytes [] [] rest rest' one other = (refl, sym one.written ∙ other.written)
one_plain bytes [] (c ∷ text') rest rest' one other =
    absurd (one.longest (subst GoesOnPlain one.written (begins_plain bytes (c ∷ text') rest' (some_bytes c text') other)))
one_plain bytes (b ∷ text) [] rest rest' one other =
    absurd (other.longest (subst GoesOnPlain other.written (begins_plain bytes (b ∷ text) rest (some_bytes b text) one)))
one_plain bytes (b ∷ text) (c ∷ text') rest rest' one other =
    let same = one_plain_byte b c _ _ (sym (plain_written bytes b text rest one) ∙ plain_written bytes c text' rest' other) in
    let more = one_plain (flat_map plain_byte text ++ rest) text text' rest rest' (plain_behind b text rest one.no_zero one.longest)
    (subst (λ l. ReadsPlain l text' rest') (sym same.1) (plain_behind c text' rest' other.no_zero other.longest)) in
    ((λ i. same.0 i ∷ more.0 i), more.1)

-- plain text and an item do not begin alike
plain_or_item : (item : List ℕ) (left zeros : Bool) (width conv : ℕ) (kind : IntKind) (rest : List ℕ) →
    ReadsItem item left zeros width conv kind rest → ¬ GoesOnPlain (37 ∷ item)
plain_or_item item left zeros width conv kind rest reads plain =
    by_test (nat_eq plain.0 37) refl plain.3 where
      outside : (l : List ℕ) → item ≡ 37 ∷ l → ⊥
      outside l is = true≢false (subst (StartsOutside (λ b. nat_eq b 37)) is (item_is_no_percent item left zeros width conv kind rest reads))

      by_test : (test : Bool) → nat_eq plain.0 37 ≡ test → 37 ∷ item ≡ cond test (37 ∷ 37 ∷ []) (plain.0 ∷ []) ++ plain.1 → ⊥
      by_test true is e = outside plain.1 (cc)
      by_test false is e = let same : 37 ≡ plain.0 = cc in eqb-false plain.0 37 is (sym same)

-- there is one piece at the front
pub one_piece : (bytes : List ℕ) (piece piece' : Piece) (rest rest' : List ℕ) →
    ReadsPiece bytes piece rest → ReadsPiece bytes piece' rest' → (piece ≡ piece') × (rest ≡ rest')
one_piece bytes (Plain text) (Plain text') rest rest' one other =
    let same = one_plain bytes text text' rest rest' one.1 other.1 in (ap Plain same.0, same.1)
one_piece bytes (Plain text) (Item left zeros width conv kind) rest rest' one other =
    absurd (plain_or_item other.0 left zeros width conv kind rest' other.2 (subst GoesOnPlain other.1 (begins_plain bytes text rest one.0 one.1)))
one_piece bytes (Item left zeros width conv kind) (Plain text) rest rest' one other =
    absurd (plain_or_item one.0 left zeros width conv kind rest one.2 (subst GoesOnPlain one.1 (begins_plain bytes text rest' other.0 other.1)))
one_piece bytes (Item left zeros width conv kind) (Item left' zeros' width' conv' kind') rest rest' one other =
    let items : one.0 ≡ other.0 = ap (drop 1) (sym one.1 ∙ other.1) in
    let same = one_item other.0 left zeros width conv kind rest left' zeros' width' conv' kind' rest'
    (subst (λ l. ReadsItem l left zeros width conv kind rest) items one.2) other.2 in
    ((λ i. Item (same.same_left i) (same.same_zeros i) (same.same_width i) (same.same_conv i) (same.same_kind i)), same.same_rest)

pub plain_byte_some : (b : ℕ) → 0 < length (plain_byte b)
plain_byte_some b = by_test (nat_eq b 37) where
  by_test : (test : Bool) → 0 < length (cond test (37 ∷ 37 ∷ []) (b ∷ []))
  by_test true = omega arith
  by_test false = omega arith

-- and it has a byte
pub piece_is_longer : (bytes : List ℕ) (piece : Piece) (rest : List ℕ) → ReadsPiece bytes piece rest → length rest < length bytes
piece_is_longer bytes (Plain []) rest reads = absurd (reads.0 refl)
piece_is_longer bytes (Plain (b ∷ text)) rest reads =
    omega (
      arith,
      ap length (plain_written bytes b text rest reads.1),
      length-append (plain_byte b) (flat_map plain_byte text ++ rest),
      length-append (flat_map plain_byte text) rest,
      plain_byte_some b,
    )
piece_is_longer bytes (Item left zeros width conv kind) rest reads =
    omega (arith, ap length reads.1, item_is_longer reads.0 left zeros width conv kind rest reads.2)

-- one more piece
pub reads_more : (bytes : List ℕ) (pieces : List Piece) (rest : List ℕ) (piece : Piece) (after : List ℕ) →
    ReadsPieces bytes pieces rest → ReadsPiece rest piece after → ReadsPieces bytes (pieces ++ piece ∷ []) after
reads_more bytes [] rest piece after reads more = (after, subst (λ l. ReadsPiece l piece after) (sym reads) more, refl)
reads_more bytes (p ∷ pieces) rest piece after reads more = (reads.0, reads.1, reads_more reads.0 pieces rest piece after reads.2 more)

-- where no piece goes on, no pieces spell the bytes
pub reads_no_more : (bytes : List ℕ) (pieces : List Piece) (rest : List ℕ) → ReadsPieces bytes pieces rest → rest ≢ [] →
    ((piece : Piece) (after : List ℕ) → ¬ ReadsPiece rest piece after) → (all : List Piece) → ¬ IsFormat bytes all
reads_no_more bytes [] rest reads some stuck [] format = some (sym reads ∙ format)
reads_no_more bytes [] rest reads some stuck (q ∷ all) format = stuck q format.0 (subst (λ l. ReadsPiece l q format.0) reads format.1)
reads_no_more bytes (p ∷ pieces) rest reads some stuck [] format =
    omega (arith, piece_is_longer bytes p reads.0 reads.1, ap length format)
reads_no_more bytes (p ∷ pieces) rest reads some stuck (q ∷ all) format =
    let same = one_piece bytes p q reads.0 format.0 reads.1 format.1 in
    reads_no_more reads.0 pieces rest reads.2 some stuck all (subst (λ l. ReadsPieces l all []) (sym same.1) format.2)

-- at most one list of pieces spells the bytes
pub one_format : (bytes : List ℕ) (pieces others : List Piece) → IsFormat bytes pieces → IsFormat bytes others → pieces ≡ others
one_format bytes [] [] one other = refl
one_format bytes [] (q ∷ others) one other = absurd (omega (arith, piece_is_longer bytes q other.0 other.1, ap length one))
one_format bytes (p ∷ pieces) [] one other = absurd (omega (arith, piece_is_longer bytes p one.0 one.1, ap length other))
one_format bytes (p ∷ pieces) (q ∷ others) one other =
    let same = one_piece bytes p q one.0 other.0 one.1 other.1 in
    let more = one_format one.0 pieces others one.2 (subst (λ l. ReadsPieces l others []) (sym same.1) other.2) in
    (λ i. same.0 i ∷ more i)

-- each piece of a format is as formats have them
given : (bytes : List ℕ) (piece : Piece) (rest : List ℕ) → ReadsPiece bytes piece rest → IsGiven piece
given bytes (Plain text) rest reads = (reads.0, reads.1.no_zero)
given bytes (Item left zeros width conv kind) rest reads =
    ((reads.2.conversion.length, reads.2.conversion.kind_is), reads.2.width_fits, reads.2.no_zeros_in_text)

pub all_given : (bytes : List ℕ) (pieces : List Piece) (rest : List ℕ) → ReadsPieces bytes pieces rest → All IsGiven pieces
all_given bytes [] rest reads = All-nil IsGiven
all_given bytes (piece ∷ pieces) rest reads =
    All-cons IsGiven piece pieces (given bytes piece reads.0 reads.1) (all_given reads.0 pieces rest reads.2)
