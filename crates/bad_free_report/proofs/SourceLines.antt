-- The lines that bstr gives are the text's lines by number.
use Rattle.std.proofs.Common.{◌≡◌, ℕ, zero, suc, ◌-◌, ◌<◌, ◌≤◌, ◌==◌, ◌&&◌, ◌||◌, cond, true, false, lt-ltb, length-take-le, nat_lt, Bool, List, [], ◌∷◌, Option, Some, None, length, take, drop, slice_index, slice_get, map, min, option_map, refl, ap, ◌∙◌, arith, length-drop}
use Rattle.std.proofs.lemmas.List.{take_min}
use Rattle.std.proofs.lemmas.Option.{slice_get-map}
use Rattle.bstr.specs.Text.{line_len, lines_of, no_cr, without_terminator}
use Rattle.bstr.proofs.lemmas.LineLemmas.{line_len-bounds, lines-nil, lines-step}
use Rattle.bad_free_report.specs.Report.{whole_line, without_end, shown_part}

-- up to the byte 10, or one more byte and what is behind it
first_part : (b k : ℕ) (rest tail : List ℕ) (ends : Bool) → tail ≡ take k rest → b ∷ cond ends [] tail ≡ take (cond ends 1 (suc k)) (b ∷ rest)
first_part b k rest tail true e = refl
first_part b k rest tail false e = ap (λ l. b ∷ l) e

-- the first line is the bytes up to the first byte 10
first_line : (text : List ℕ) → whole_line text 1 ≡ take (line_len text) text
unfolding whole_line line_len
first_line [] = refl
first_line (b ∷ rest) = first_part b (line_len rest) rest (whole_line rest 1) (b == 10) (first_line rest)

later_part : (b k n : ℕ) (rest : List ℕ) (ends : Bool) → whole_line rest (suc (suc n)) ≡ whole_line (drop k rest) (suc n)
    → cond ends (whole_line rest (suc n)) (whole_line rest (suc (suc n))) ≡ whole_line (drop (cond ends 1 (suc k)) (b ∷ rest)) (suc n)
later_part b k n rest true e = refl
later_part b k n rest false e = e

-- a later line is one of the text behind the first
later_line : (text : List ℕ) (n : ℕ) → whole_line text (suc (suc n)) ≡ whole_line (drop (line_len text) text) (suc n)
unfolding whole_line line_len
later_line [] n = refl
later_line (b ∷ rest) n = later_part b (line_len rest) n rest (b == 10) (later_line rest n)

-- a line that has a byte
abbrev some_line : List ℕ → Option (List ℕ)
some_line [] = None
some_line (b ∷ rest) = Some (b ∷ rest)

-- the line at a place of bstr's list is the text's line of the next number
lines-at : (fuel : ℕ) (text : List ℕ) (n : ℕ) → length text ≤ fuel → slice_get (lines_of text) n ≡ some_line (whole_line text (suc n))
unfolding whole_line line_len
lines-at fuel [] n short = rw lines-nil refl
lines-at zero (b ∷ rest) n short = absurd (omega arith)
lines-at (suc fuel) (b ∷ rest) zero short = rw (lines-step (b ∷ rest) (omega arith), first_line (b ∷ rest)) refl
lines-at (suc fuel) (b ∷ rest) (suc n) short =
    let text = b ∷ rest in
    let some = line_len-bounds text (omega arith) in
    let left = length-drop (line_len text) text in
    rw (lines-step text (omega arith), later_line text n) (lines-at fuel (drop (line_len text) text) n (omega arith))

pull : (b : ℕ) (ends : Bool) (xs ys : List ℕ) → cond ends (b ∷ xs) (b ∷ ys) ≡ b ∷ cond ends xs ys
pull b true xs ys = refl
pull b false xs ys = refl

some_byte : (xs : List ℕ) → 0 < length xs → nat_lt 0 (length xs) ≡ true
some_byte xs some = lt-ltb 0 (length xs) some

-- a byte before the end stays
no_cr-cons : (b : ℕ) (xs : List ℕ) → 0 < length xs → no_cr (b ∷ xs) ≡ b ∷ no_cr xs
no_cr-cons b xs some =
    let last : length (b ∷ xs) - 1 ≡ suc (length xs - 1) = omega arith in
    rw (some_byte (b ∷ xs) (omega arith), some_byte xs some, last) (pull b (slice_index xs (length xs - 1) == 13) (take (length xs - 1) xs) xs)

without_terminator-cons : (b : ℕ) (xs : List ℕ) → 1 < length xs → without_terminator (b ∷ xs) ≡ b ∷ without_terminator xs
without_terminator-cons b xs some =
    let last : length (b ∷ xs) - 1 ≡ suc (length xs - 1) = omega arith in
    let front : length (take (length xs - 1) xs) ≡ length xs - 1 = length-take-le (length xs - 1) xs (omega arith) in
    rw (some_byte (b ∷ xs) (omega arith), some_byte xs (omega arith), last, no_cr-cons b (take (length xs - 1) xs) (omega arith))
    (pull b (slice_index xs (length xs - 1) == 10) (no_cr (take (length xs - 1) xs)) xs)

and_false : (t : Bool) → (t && false) ≡ false
and_false true = refl
and_false false = refl

and_true : (t : Bool) → (t && true) ≡ t
and_true true = refl
and_true false = refl

or_false : (t : Bool) → (t || false) ≡ t
or_false true = refl
or_false false = refl

-- a line feed after a byte, which stays unless it is a carriage return
two_bytes : (b c : ℕ) (is_cr is_lf : Bool) → cond is_lf (cond is_cr [] (b ∷ [])) (b ∷ c ∷ []) ≡ cond (is_cr && is_lf) [] (b ∷ cond is_lf [] (c ∷ []))
two_bytes b c true true = refl
two_bytes b c true false = refl
two_bytes b c false true = refl
two_bytes b c false false = refl

-- bstr's line without its end
same_end : (bs : List ℕ) → without_terminator bs ≡ without_end bs
unfolding without_end
same_end [] = refl
same_end (b ∷ []) = rw (and_true (b == 10), and_false (b == 13), or_false (b == 10)) refl
same_end (b ∷ c ∷ []) =
    rw (and_false (b == 10), and_true (c == 10), and_false (c == 13), or_false (c == 10)) (two_bytes b c (b == 13) (c == 10))
same_end (b ∷ c ∷ d ∷ rest) =
    without_terminator-cons b (c ∷ d ∷ rest) (omega arith)
    ∙ ap (λ l. b ∷ l) (same_end (c ∷ d ∷ rest))
    ∙ rw (and_false (b == 10), and_false (c == 10), and_false (b == 13)) refl

at_some : (whole found : List ℕ) → Some found ≡ option_map without_terminator (some_line whole) → Some (take (min (length found) 200) found) ≡ shown_part whole
at_some [] found h = absurd (cc)
at_some (b ∷ rest) found h =
    let same : found ≡ without_end (b ∷ rest) = cc (h, same_end (b ∷ rest)) in
    let least : min (length found) 200 ≡ min 200 (length found) = omega arith in
    ap Some (ap (λ k. take k found) least ∙ take_min 200 found ∙ ap (take 200) same)

at_none : (whole : List ℕ) → None ≡ option_map without_terminator (some_line whole) → None ≡ shown_part whole
at_none [] h = refl
at_none (b ∷ rest) h = absurd (cc)

line_is : (text : List ℕ) (n : ℕ) → slice_get (map without_terminator (lines_of text)) n ≡ option_map without_terminator (some_line (whole_line text (suc n)))
line_is text n =
    slice_get-map without_terminator (lines_of text) n
    ∙ ap (option_map without_terminator) (lines-at (length text) text n (omega arith))

module _ (text : List ℕ) (line n : ℕ) (is : line ≡ suc n) where
  -- a line that bstr gives is what is shown of the text's line
  pub shown-some : (found : List ℕ) → Some found ≡ slice_get (map without_terminator (lines_of text)) n
      → Some (take (min (length found) 200) found) ≡ shown_part (whole_line text line)
  shown-some found h = rw is (at_some (whole_line text (suc n)) found (h ∙ line_is text n))

  -- where bstr has none, the text's line has no byte
  pub shown-none : None ≡ slice_get (map without_terminator (lines_of text)) n → None ≡ shown_part (whole_line text line)
  shown-none h = rw is (at_none (whole_line text (suc n)) (h ∙ line_is text n))

-- lines count from 1
pub shown-zero : (text : List ℕ) (line : ℕ) → line ≡ 0 → None ≡ shown_part (whole_line text line)
unfolding whole_line
shown-zero [] line none = refl
shown-zero (b ∷ rest) line none = rw none refl
