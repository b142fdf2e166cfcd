-- Formats, read piece by piece.
use Rattle.std.proofs.Common.{◌≡◌, ◌<◌, ◌≤◌, ℕ, zero, suc, Bool, true, false, cond, map, List, [], ◌∷◌, ◌++◌, length, drop, get_or, refl, sym, ap, ◌∙◌, arith}
use Rattle.std.specs.Prelude.{◌==◌, ◌&&◌, not, nat_le, is_some, slice_index, codes}
use Rattle.std.specs.Str.Parse.{digits_value}
use Rattle.c_print.specs.Length.{is_one_of, kind_of}
use Rattle.c_print.specs.Item.{is_flag}
use Rattle.std.specs.List.{take_while, prefix_len}
use Rattle.std.proofs.Math.Seq.{drop-cons}
use Rattle.std.proofs.lemmas.List.{length-take, drop_all}
use Rattle.std.proofs.lemmas.List.Sums.{prefix_len-le-length}
use Rattle.c_print.specs.declared.piece.Piece.{Piece}
use Rattle.c_print.specs.declared.piece.Piece.TheVariants as p
use Rattle.c_print.specs.Pieces.{length_at, item_at, join, pieces_from, pieces_of}
use Rattle.c_types.specs.Types.{plain}
use Rattle.c_decls.specs.declared.typed.Typed.{Typed}
use Rattle.c_decls.specs.Typed.{PlainTyped, plain_typed}
use Rattle.c_decls.specs.Callees.{suits_type, digits_at, behind_digits, behind_length, is_item, is_format_of, is_format, suit}
use Rattle.c_typing.specs.Format.{Front, End, Bad, Plain, Item, Wanted, conversion_front, item_front, front_of}

-- so many bytes are taken
pub length_taken : (test : ℕ → Bool) (bytes : List ℕ) → length (take_while test bytes) ≡ prefix_len test bytes
length_taken test bytes = omega (arith, length-take (prefix_len test bytes) bytes, prefix_len-le-length test bytes)

abbrev pub is_nil : {A : Type 0} → List A → Bool
is_nil [] = true
is_nil (x ∷ xs) = false

-- so many pieces at most have their forms, and the arguments suit them
abbrev pub fits : ℕ → List ℕ → List PlainTyped → Bool
fits n bytes arguments = is_format_of n bytes && suit (pieces_from n bytes) arguments

-- an argument for an item, and what is left fits
abbrev pub fits_item : ℕ → Wanted → List ℕ → List PlainTyped → Bool
fits_item n item rest [] = false
fits_item n item rest (e ∷ arguments) = suits_type item.conversion item.bytes e.type && fits n rest arguments

abbrev pub fits_front : ℕ → Front → List PlainTyped → Bool
fits_front n End [] = true
fits_front n End (e ∷ arguments) = false
fits_front n Bad arguments = false
fits_front n (Plain rest) arguments = fits n rest arguments
fits_front n (Item item rest) arguments = fits_item n item rest arguments

no_format : (b : Bool) → (b && false) ≡ false
no_format true = refl
no_format false = refl

-- a joined text is no item
joined_suits : (piece : Piece) (pieces : List Piece) (arguments : List PlainTyped) →
    suit (join piece pieces) arguments ≡ suit (piece ∷ pieces) arguments
joined_suits (p.Plain text) [] arguments = refl
joined_suits (p.Plain text) (p.Plain more ∷ pieces) arguments = refl
joined_suits (p.Plain text) (p.Item left zeros width' conv kind ∷ pieces) arguments = refl
joined_suits (p.Item left zeros width' conv kind) pieces arguments = refl

swapped : (f s t : Bool) → (f && (s && t)) ≡ (s && (f && t))
swapped true true t = refl
swapped true false t = refl
swapped false true t = refl
swapped false false t = refl

-- one piece more
pub fits_step : (n : ℕ) (bytes : List ℕ) (arguments : List PlainTyped) →
    fits (suc n) bytes arguments ≡ fits_front n (front_of bytes) arguments
fits_step n [] [] = refl
fits_step n [] (e ∷ arguments) = refl
fits_step n (b ∷ rest) arguments = by (b == 0) (b == 37) (slice_index rest 0 == 37) (is_item rest) arguments
  where
    by : (is_zero is_percent is_double is_good : Bool) (arguments : List PlainTyped) →
        (cond is_zero false
        (cond (not is_percent) (is_format_of n rest)
        (cond is_double (is_format_of n (drop 1 rest)) (is_good && is_format_of n (drop 1 (behind_length rest)))))
        && suit (let front = cond is_percent (cond is_double (p.Plain (37 ∷ []), drop 1 rest) (item_at rest)) (p.Plain (b ∷ []), rest) in join front.0 (pieces_from n front.1)) arguments)
        ≡ fits_front n (cond is_zero Bad
        (cond (not is_percent) (Plain rest) (cond is_double (Plain (drop 1 rest)) (cond is_good (item_front rest) Bad)))) arguments
    by true is_percent is_double is_good arguments = refl
    by false false is_double is_good arguments =
        ap (λ s. is_format_of n rest && s) (joined_suits (p.Plain (b ∷ [])) (pieces_from n rest) arguments)
    by false true true is_good arguments =
        ap (λ s. is_format_of n (drop 1 rest) && s) (joined_suits (p.Plain (37 ∷ [])) (pieces_from n (drop 1 rest)) arguments)
    by false true false false arguments = refl
    by false true false true [] = no_format (is_format_of n (drop 1 (behind_length rest)))
    by false true false true (e ∷ arguments) = swapped (is_format_of n (drop 1 (behind_length rest))) _ _

-- no piece more
pub fits_none : (bytes : List ℕ) (arguments : List PlainTyped) →
    fits 0 bytes arguments ≡ (is_nil bytes && is_nil arguments)
fits_none [] [] = refl
fits_none [] (e ∷ arguments) = refl
fits_none (b ∷ rest) arguments = refl

-- the pieces of a format
pub fits_whole : (bytes : List ℕ) (arguments : List PlainTyped) →
    fits (length bytes) bytes arguments ≡ (is_format bytes && suit (pieces_of bytes) arguments)
unfolding pieces_of
fits_whole bytes arguments = refl

-- an item whose width is not too great
pub item_front_is : (bytes rest : List ℕ) (is_filled : Bool) → rest ≡ behind_digits bytes →
    is_filled ≡ is_one_of (take_while is_flag bytes) 48 → nat_le (digits_value 10 (digits_at bytes)) 4095 ≡ true →
    conversion_front rest is_filled ≡ cond (is_item bytes) (item_front bytes) Bad
item_front_is bytes rest is_filled at filled small =
    (λ j. conversion_front (at j) (filled j))
    ∙ sym (ap (λ fits. cond (fits && is_some (kind_of (length_at (behind_digits bytes)) (slice_index (behind_length bytes) 0))
    && not (is_one_of (take_while is_flag bytes) 48 && is_one_of (codes "cs") (slice_index (behind_length bytes) 0)))
    (item_front bytes) Bad) small)

end_fits : (n : ℕ) (arguments : List PlainTyped) → fits_front n End arguments ≡ is_nil arguments
end_fits n [] = refl
end_fits n (e ∷ arguments) = refl

-- one piece on
pub went : (fuel n : ℕ) (rest : List ℕ) (arguments : List PlainTyped) (front : Front) (whole : Bool) → fuel ≡ suc n →
    front ≡ front_of rest → fits fuel rest arguments ≡ whole → fits_front n front arguments ≡ whole
went fuel n rest arguments front whole more at is =
    ap (λ f. fits_front n f arguments) at ∙ sym (fits_step n rest arguments) ∙ ap (λ k. fits k rest arguments) (sym more) ∙ is

-- the end of a format
pub went_to_end : (fuel n : ℕ) (rest : List ℕ) (arguments : List PlainTyped) (front : Front) (whole : Bool) → fuel ≡ suc n →
    front ≡ front_of rest → fits fuel rest arguments ≡ whole → front ≡ End → is_nil arguments ≡ whole
went_to_end fuel n rest arguments front whole more at is end =
    sym (ap (λ f. fits_front n f arguments) end ∙ end_fits n arguments) ∙ went fuel n rest arguments front whole more at is

-- all arguments are used where none is left
pub all_used : (arguments : List Typed) (used : ℕ) → used ≤ length arguments →
    (used == length arguments) ≡ is_nil (map plain_typed (drop used arguments))
all_used [] used within = let none : used ≡ 0 = omega arith in ap (λ n. n == 0) none ∙ ap (λ n. is_nil (map plain_typed (drop n []))) (sym none)
all_used (e ∷ arguments) zero within = grind arith
all_used (e ∷ arguments) (suc used) within = shifted ∙ all_used arguments used (omega arith)
  where
    shifted : (suc used == suc (length arguments)) ≡ (used == length arguments)
    shifted = grind arith

-- an item takes one argument
pub item_takes : (n : ℕ) (item : Wanted) (rest : List ℕ) (arguments : List Typed) (used : ℕ) (e : Typed) →
    e ≡ get_or arguments used e → used < length arguments →
    fits_item n item rest (map plain_typed (drop used arguments))
    ≡ (suits_type item.conversion item.bytes (plain e.ty) && fits n rest (map plain_typed (drop (suc used) arguments)))
item_takes n item rest arguments used e at below =
    ap (λ es. fits_item n item rest (map plain_typed es))
    (drop-cons arguments used e below ∙ ap (λ x. x ∷ drop (suc used) arguments) (sym at))

pub item_wants : (n : ℕ) (item : Wanted) (rest : List ℕ) (arguments : List Typed) (used : ℕ) → length arguments ≤ used →
    fits_item n item rest (map plain_typed (drop used arguments)) ≡ false
item_wants n item rest arguments used over =
    ap (λ es. fits_item n item rest (map plain_typed es)) (drop_all used arguments over)

pub nil_is : (bytes : List ℕ) → is_nil bytes ≡ (length bytes == 0)
nil_is [] = refl
nil_is (b ∷ bytes) = grind arith
