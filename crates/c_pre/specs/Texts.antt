-- Texts, and the texts that they include (C99 6.10.2).
use Rattle.std.specs.Prelude.{ℕ, zero, suc, ◌+◌, ◌==◌, count_by, nat_lt, if◌then◌else◌, List, [], ◌∷◌, ◌++◌, length, map, Option, Some, None, Result, Ok, Err}
use Rattle.c_lexer.specs.declared.token.Token.{Token}
use Rattle.c_lexer.specs.declared.token.LexKind.TheVariants.{OpenComment}
use Rattle.c_pre.specs.Comments.{blanked, open_comment}
use Rattle.c_pre.specs.Lines.{lines_of}
use Rattle.c_pre.specs.Splices.{joined, unmarked}
use Rattle.c_pre.specs.After.{and_then}
use Rattle.c_pre.specs.Macros.{no_macros}
use Rattle.c_pre.specs.Qualifiers.{plain_token}
use Rattle.c_pre.specs.Reading.{first_of, line_read, text_ended}
use Rattle.c_pre.specs.declared.comments.Mode.TheVariants.{Code}
use Rattle.c_pre.specs.declared.answer.Place.{Place}
use Rattle.c_pre.specs.declared.answer.Pre.{Pre}
use Rattle.c_pre.specs.declared.answer.Sources.{Sources}
use Rattle.c_pre.specs.declared.answer.PreKind.TheVariants as kind
use Rattle.c_pre.specs.declared.answer.PreError.{PreError}
use Rattle.c_pre.specs.declared.answer.PreError.TheVariants.{Bad, Lex, TooLong, NoMemory}
use Rattle.c_pre.specs.declared.answer.Refusal.{Refusal}
use Rattle.c_pre.specs.declared.answer.Refusal.TheVariants as refusal
use Rattle.c_pre.specs.declared.here.Here.{Here}
use Rattle.c_pre.specs.declared.progress.Progress.{Progress}
use Rattle.c_pre.specs.declared.preprocessor.Source.{Source}

-- the most bytes that all texts may have
abbrev pub most_bytes : ℕ
most_bytes = 1048576

-- how many lines a text has: one more than its bytes 10
abbrev pub line_count : List ℕ → ℕ
line_count text = count_by (λ b. b == 10) text + 1

-- the bytes of a text that are read: comments and a byte order mark are spaces, and lines that go on are joined
abbrev pub plain_of : List ℕ → List ℕ
plain_of text = joined 0 (lines_of (unmarked (blanked Code text)))

-- a text that is read, behind so many lines of the texts that were opened before
abbrev pub source : List ℕ → List ℕ → ℕ → Source
source name text base = record { name = name; text = text; plain = plain_of text; base = base }

-- a line of a text
abbrev pub place : Source → ℕ → Place
place s line = record { name = s.name; line = line; text = s.text }

-- the error for a line of a text that is refused
abbrev pub refused : Source → Refusal → PreError
refused s (refusal.Bad kind line) = Bad kind (place s line)
refused s (refusal.Lex kind line) = Lex kind (place s line)
refused s refusal.NoMemory = NoMemory

-- an answer whose refusal has its place in a text
abbrev pub placed : {S : Type 0} → Source → Result S Refusal → Result S PreError
placed s (Ok answer) = Ok answer
placed s (Err e) = Err (refused s e)

-- with one text more
abbrev pub with_text : List ℕ → List ℕ → Progress → Progress
with_text name text p = record p {
  texts = p.texts ++ record { name = name; base = p.lines; text = text } ∷ [];
  lines = p.lines + line_count text;
  used = p.used + length text;
}

-- what an include answers: where it stands, the name of the text, and what was read before
abbrev pub Including : Type 0
Including = Place → List ℕ → Progress → Result Progress PreError

-- behind a line and the text that it includes, if it includes one
abbrev pub included : Including → Place → Option (List ℕ) → Progress → Result Progress PreError
included include at None p = Ok p
included include at (Some name) p = include at name p

-- the line behind this one
abbrev pub next_line : Here → Here
next_line here = record here { line = here.line + 1 }

-- behind the lines of a text that are left, by what an include answers
unfoldable pub lines_read : Including → Source → List (List ℕ) → Here → Progress → Result Progress PreError
lines_read include s [] here p = placed s (text_ended here p)
lines_read include s (line ∷ lines) here p =
    and_then (placed s (line_read line here p)) (λ step.
    and_then (included include (place s step.here.line) step.include step.progress) (λ q.
    lines_read include s lines (next_line step.here) q))

-- a text on opening, by the line of its comment without an end, if it has one
abbrev pub source_by : Option ℕ → List ℕ → List ℕ → ℕ → Result Source PreError
source_by None name text base = Ok (source name text base)
source_by (Some line) name text base = Err (Lex OpenComment (place (source name text base) line))

-- a text on opening
unfoldable pub opened : List ℕ → List ℕ → ℕ → Result Source PreError
opened name text base = source_by (open_comment text) name text base

-- behind a text that was read whole
unfoldable pub source_read : Including → Source → Progress → Result Progress PreError
source_read include s p = lines_read include s (lines_of s.plain) (first_of s.base) p

-- a text on opening, if all texts that were read have at most so many bytes
unfoldable pub entered : List ℕ → List ℕ → Progress → Result Source PreError
entered name text p =
    if nat_lt most_bytes (p.used + length text) then Err (TooLong name) else opened name text p.lines

-- behind a text of these bytes
unfoldable pub text_read : Including → List ℕ → List ℕ → Progress → Result Progress PreError
text_read include name text p = and_then (entered name text p) (λ s. source_read include s (with_text name text p))

-- what an include answers where these are the texts by name and so many more may be open, one in another
unfoldable pub below : (List ℕ → List ℕ) → ℕ → Including
below told zero at name p = Err (Bad kind.Depth at)
below told (suc left) at name p = text_read (below told left) name (told name) p

-- behind these texts, before anything else is read
abbrev pub behind : Sources → Progress
behind s = record { tokens = []; texts = s.texts; lines = s.lines; used = s.used; macros = no_macros; work = 0 }

-- the tokens, with `const` in place of words without effect, and the texts that were opened
abbrev pub with_sources : Result Progress PreError → Result (List Token × Sources) PreError
with_sources (Ok p) = Ok (map plain_token p.tokens, record { texts = p.texts; lines = p.lines; used = p.used })
with_sources (Err e) = Err e

-- the tokens of a text and of those that it includes, at most 16 open one in another, behind these texts, and the texts with
-- its own; or the first refusal
abbrev pub preprocessed_behind : Sources → (List ℕ → List ℕ) → List ℕ → Result (List Token × Sources) PreError
preprocessed_behind before told file = with_sources (text_read (below told 15) file (told file) (behind before))

-- no text, but so many bytes that were read
abbrev pub no_sources : ℕ → Sources
no_sources used = record { texts = []; lines = 0; used = used }

abbrev pub answer_of : Result (List Token × Sources) PreError → Result Pre PreError
answer_of (Ok (tokens, sources)) = Ok (record { tokens = tokens; texts = sources.texts; used = sources.used })
answer_of (Err e) = Err e

-- the same of a text alone
abbrev pub preprocessed : (List ℕ → List ℕ) → List ℕ → ℕ → Result Pre PreError
preprocessed told file used = answer_of (preprocessed_behind (no_sources used) told file)
