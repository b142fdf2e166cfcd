-- Lines, each with its byte 10, and which of them are directives (C99 5.1.1.2 and 6.10).
use Rattle.std.specs.Prelude.{ℕ, ◌+◌, ◌==◌, nat_lt, if◌then◌else◌, List, [], ◌∷◌, length, take, drop, Option, Some, None}
use Rattle.std.specs.List.{prefix_len}
use Rattle.c_lexer.specs.Bytes.{is_space, is_name_byte}
use Rattle.c_lexer.specs.Gaps.{is_on_line}

-- how many bytes the first line of a text has
abbrev pub line_length : List ℕ → ℕ
line_length text =
    if nat_lt (prefix_len is_on_line text) (length text) then prefix_len is_on_line text + 1 else prefix_len is_on_line text

-- a byte that stands before some lines, on the first of them unless it is a byte 10
abbrev pub with_byte : ℕ → List (List ℕ) → List (List ℕ)
with_byte b [] = (b ∷ []) ∷ []
with_byte b (line ∷ lines) = if b == 10 then (b ∷ []) ∷ line ∷ lines else (b ∷ line) ∷ lines

-- the lines of a text
unfoldable pub lines_of : List ℕ → List (List ℕ)
lines_of [] = []
lines_of (b ∷ w) = with_byte b (lines_of w)

-- a text without the white space at its front
abbrev pub behind_spaces : List ℕ → List ℕ
behind_spaces text = drop (prefix_len is_space text) text

-- what stands behind the first word of a text
abbrev pub behind_word : List ℕ → List ℕ
behind_word text = drop (prefix_len is_name_byte (behind_spaces text)) (behind_spaces text)

-- the first word of a text: the letters, digits and `_` that stand behind its white space
abbrev pub first_word : List ℕ → List ℕ
first_word text = take (prefix_len is_name_byte (behind_spaces text)) (behind_spaces text)

-- what stands behind a first byte, where it is `#`
abbrev pub behind_hash : List ℕ → Option (List ℕ)
behind_hash [] = None
behind_hash (b ∷ w) = if b == 35 then Some w else None

-- what stands on a line behind its first visible byte, where that is `#`
abbrev pub directive_rest : List ℕ → Option (List ℕ)
directive_rest line = behind_hash (behind_spaces line)
