-- A backslash that ends a line joins it with the next one (C99 5.1.1.2, phase 2), outside comments and literals, where the next
-- line is no directive and no token would stand on both. A byte order mark at the front of a text is white space.
use Rattle.std.specs.Prelude.{ℕ, ◌+◌, ◌-◌, Bool, true, false, not, ◌==◌, ◌||◌, ◌&&◌, bytes_eq, nat_eq, is_some, if◌then◌else◌, List, [], ◌∷◌, ◌++◌, length, take, drop, replicate, slice_get, Option, Some, None, codes}
use Rattle.std.specs.List.{list_any, starts_with}
use Rattle.c_lexer.specs.Bytes.{is_number_byte}
use Rattle.c_pre.specs.Comments.{next_mode}
use Rattle.c_pre.specs.Lines.{behind_spaces, directive_rest}
use Rattle.c_pre.specs.declared.comments.Mode.{Mode}
use Rattle.c_pre.specs.declared.comments.Mode.TheVariants.{Code, Quoted, Escaped, LineComment, Opened, Inside}

-- where the byte behind some bytes stands, where the first of them stands here
abbrev pub mode_behind : Mode → List ℕ → Mode
mode_behind here [] = here
mode_behind here (b ∷ w) = mode_behind (next_mode here b w) w

-- outside comments and literals
abbrev pub is_code : Mode → Bool
is_code Code = true
is_code (Quoted quote) = false
is_code (Escaped quote) = false
is_code LineComment = false
is_code Opened = false
is_code (Inside star) = false

-- a byte may stand in a sign of several bytes
unfoldable pub is_sign_byte : ℕ → Bool
is_sign_byte b = list_any (λ c. c == b) (codes "+-*/%&|^<>=!#.:")

-- two bytes may stand next to each other in one token
abbrev pub touch : ℕ → ℕ → Bool
touch b c = is_number_byte b && is_number_byte c || is_sign_byte b && is_sign_byte c

-- the last byte of a part and the first of the next line may stand in one token, or the part is empty
abbrev pub touch_at : Option ℕ → Option ℕ → Bool
touch_at None c = true
touch_at (Some b) None = false
touch_at (Some b) (Some c) = touch b c

-- nothing but white space stands behind the `#` of a directive, by what stands behind it
abbrev pub is_bare : Option (List ℕ) → Bool
is_bare None = false
is_bare (Some rest) = length (behind_spaces rest) == 0

-- a line may follow a part of the line before: it is no directive, it does not give one its word, and no token stands on both
abbrev pub may_follow : List ℕ → List ℕ → Bool
may_follow part next =
    not (is_some (directive_rest next)) && not (is_bare (directive_rest part)) &&
    not (touch_at (slice_get part (length part - 1)) (slice_get next 0))

-- the part of a line before the backslash and the byte 10 that end it
unfoldable pub before_backslash : List ℕ → Option (List ℕ)
before_backslash line =
    if bytes_eq (drop (length line - 2) line) (92 ∷ 10 ∷ []) && is_code (mode_behind Code (take (length line - 2) line))
    then Some (take (length line - 2) line) else None

-- the part of a line that goes on in the next, by what stands before its backslash and the lines behind it
abbrev pub going_on : Option (List ℕ) → List (List ℕ) → Option (List ℕ)
going_on None lines = None
going_on (Some part) [] = None
going_on (Some part) (next ∷ lines) = if may_follow part next then Some part else None

-- a line and what is made of those behind it: a line that goes on is joined with them by a space, and the bytes 10 that
-- were taken away stand behind the next that does not
abbrev pub joined_by : Option (List ℕ) → ℕ → List ℕ → (ℕ → List ℕ) → List ℕ
joined_by None taken line behind = line ++ replicate taken 10 ++ behind 0
joined_by (Some part) taken line behind = part ++ 32 ∷ behind (taken + 1)

-- the text of these lines, joined where they go on, behind so many bytes 10 that were taken away
unfoldable pub joined : ℕ → List (List ℕ) → List ℕ
joined taken [] = replicate taken 10
joined taken (line ∷ lines) =
    joined_by (going_on (before_backslash line) lines) taken line (λ n. joined n lines)

-- a text with spaces in place of a byte order mark at its front
abbrev pub unmarked : List ℕ → List ℕ
unmarked text = if starts_with nat_eq text (239 ∷ 187 ∷ 191 ∷ []) then 32 ∷ 32 ∷ 32 ∷ drop 3 text else text
