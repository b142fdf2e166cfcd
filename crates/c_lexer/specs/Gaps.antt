-- Comments (C99 6.4.9) and the accepted include lines (C99 6.10.2).
use Rattle.std.specs.Prelude.{ℕ, suc, ◌+◌, Bool, not, ◌==◌, ◌&&◌, if◌then◌else◌, List, [], ◌∷◌, length, drop, nat_eq, Option, Some, None, option_map, codes}
use Rattle.std.specs.List.{prefix_len, starts_with}
use Rattle.c_lexer.specs.Bytes.{is_blank}

-- whether a byte stays on its line: every byte but byte 10
abbrev pub is_on_line : ℕ → Bool
is_on_line b = not (b == 10)

-- how many bytes stand up to and with the first `*/`, where there is one. The flag says whether a `*` stands right
-- before the text.
unfoldable pub comment_end : Bool → List ℕ → Option ℕ
comment_end star [] = None
comment_end star (b ∷ w) = if star && b == 47 then Some 1 else option_map suc (comment_end (b == 42) w)

-- the headers that may be included
abbrev pub headers : List (List ℕ)
headers = codes "<stdio.h>" ∷ codes "<stdlib.h>" ∷ codes "<string.h>" ∷ codes "<stddef.h>" ∷ codes "<limits.h>" ∷ []

-- how many bytes the word has that the text begins with, of some words
abbrev pub front_of : List (List ℕ) → List ℕ → Option ℕ
front_of [] text = None
front_of (word ∷ words) text = if starts_with nat_eq text word then Some (length word) else front_of words text

-- how many bytes of space and byte 9 stand at the front of a text
abbrev pub blanks : List ℕ → ℕ
blanks text = prefix_len is_blank text

-- how many bytes a text has up to an end that is found behind its blanks
abbrev pub behind_blanks : (List ℕ → Option ℕ) → List ℕ → Option ℕ
behind_blanks end_of text = option_map (λ end. blanks text + end) (end_of (drop (blanks text) text))

-- how many bytes a text has up to the end of a header, behind any number of blanks
unfoldable pub header_end : List ℕ → Option ℕ
header_end text = behind_blanks (front_of headers) text

-- how many bytes a text that begins with `include` has up to the end of the header behind it
unfoldable pub word_end : List ℕ → Option ℕ
word_end text =
    if starts_with nat_eq text (codes "include") then option_map (λ end. 7 + end) (header_end (drop 7 text)) else None

-- how many bytes an accepted include line has behind its `#`: blanks, `include`, blanks, and a header
unfoldable pub include_end : List ℕ → Option ℕ
include_end text = behind_blanks word_end text
