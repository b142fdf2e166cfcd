-- Comments become spaces before anything else is read (C99 5.1.1.2 and 6.4.9). In this search a literal that no quote
-- closes ends with its line.
use Rattle.std.specs.Prelude.{ℕ, ◌+◌, Bool, true, false, ◌==◌, ◌||◌, ◌&&◌, if◌then◌else◌, List, [], ◌∷◌, Option, Some, None}
use Rattle.c_pre.specs.declared.comments.Mode.{Mode}
use Rattle.c_pre.specs.declared.comments.Mode.TheVariants.{Code, Quoted, Escaped, LineComment, Opened, Inside}

-- the first byte of a text is this one
abbrev pub begins_with : ℕ → List ℕ → Bool
begins_with first [] = false
begins_with first (b ∷ w) = b == first

-- behind a byte outside comments and literals: a quote begins a literal, and `//` and `/*` begin comments
abbrev pub behind_code : ℕ → List ℕ → Mode
behind_code b w =
    if b == 39 || b == 34 then Quoted b else
    if b == 47 && begins_with 47 w then LineComment else if b == 47 && begins_with 42 w then Opened else Code

-- behind a byte of a literal: its quote and byte 10 end it, and a backslash hides the byte behind it
abbrev pub behind_quoted : ℕ → ℕ → Mode
behind_quoted quote b = if b == 10 || b == quote then Code else if b == 92 then Escaped quote else Quoted quote

-- where the byte behind this one stands
abbrev pub next_mode : Mode → ℕ → List ℕ → Mode
next_mode Code b w = behind_code b w
next_mode (Quoted quote) b w = behind_quoted quote b
next_mode (Escaped quote) b w = if b == 10 then Code else Quoted quote
next_mode LineComment b w = if b == 10 then Code else LineComment
next_mode Opened b w = Inside false
next_mode (Inside star) b w = if star && b == 47 then Code else Inside (b == 42)

-- a byte there belongs to a comment up to `*/`
abbrev pub is_open : Mode → Bool
is_open Code = false
is_open (Quoted quote) = false
is_open (Escaped quote) = false
is_open LineComment = false
is_open Opened = true
is_open (Inside star) = true

-- a byte there belongs to a comment
abbrev pub is_comment : Mode → Bool
is_comment LineComment = true
is_comment Code = false
is_comment (Quoted quote) = false
is_comment (Escaped quote) = false
is_comment Opened = true
is_comment (Inside star) = true

-- a comment begins right behind a byte
abbrev pub is_opened : Mode → Bool
is_opened Opened = true
is_opened Code = false
is_opened (Quoted quote) = false
is_opened (Escaped quote) = false
is_opened LineComment = false
is_opened (Inside star) = false

-- what a byte becomes, by where it and the byte behind it stand: byte 10 stays, and in a comment all else is a space
abbrev pub shown : Mode → Mode → ℕ → ℕ
shown here next b = if b == 10 then b else if is_comment here || is_comment next then 32 else b

-- a text with spaces in place of its comments
abbrev pub blanked : Mode → List ℕ → List ℕ
blanked here [] = []
blanked here (b ∷ w) = shown here (next_mode here b w) b ∷ blanked (next_mode here b w) w

-- the line of the `/*` that no `*/` follows, from a line on, where the last `/*` before began on the line `start`
abbrev pub open_from : Mode → ℕ → ℕ → List ℕ → Option ℕ
open_from here line start [] = if is_open here then Some start else None
open_from here line start (b ∷ w) =
    open_from (next_mode here b w) (if b == 10 then line + 1 else line) (if is_opened (next_mode here b w) then line else start) w

-- the line of the `/*` that no `*/` follows
abbrev pub open_comment : List ℕ → Option ℕ
open_comment text = open_from Code 1 1 text
