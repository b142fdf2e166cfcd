-- Conditions of `#if` and `#elif` (C99 6.10.1), in four steps: `defined` is answered, macros are replaced as in text, the names that
-- are left become 0, and what is left is an expression whose value is asked.
use Rattle.std.specs.Prelude.{ℕ, Bool, true, false, ◌&&◌, is_some, bytes_eq, if◌then◌else◌, List, [], ◌∷◌, map, Option, Some, None, option_map, Result, Ok, Err, codes}
use Rattle.std.specs.List.{list_any}
use Rattle.std.specs.Option.{option_and_then}
use Rattle.c_lexer.specs.declared.token.Token.{Token}
use Rattle.c_lexer.specs.declared.token.TokenKind.{TokenKind}
use Rattle.c_lexer.specs.declared.token.TokenKind.TheVariants.{Keyword, Name, Int, Char, Str, Sign}
use Rattle.c_conditions.specs.Conditions.{condition_holds}
use Rattle.c_pre.specs.After.{and_then}
use Rattle.c_pre.specs.Directives.{is_name, is_sign}
use Rattle.c_pre.specs.Expansion.{expanded}
use Rattle.c_pre.specs.Macros.{found}
use Rattle.c_pre.specs.Table.{Table}
use Rattle.c_pre.specs.declared.marked.Marked.{Marked}
use Rattle.c_pre.specs.declared.answer.PreKind.TheVariants as kind
use Rattle.c_pre.specs.declared.answer.Refusal.{Refusal}
use Rattle.c_pre.specs.declared.answer.Refusal.TheVariants.{Bad, Lex, NoMemory}
use Rattle.c_pre.specs.declared.progress.Progress.{Progress}

-- a token is a word: a name or a keyword, which the preprocessor does not tell apart
abbrev pub is_word_kind : TokenKind → Bool
is_word_kind Name = true
is_word_kind Keyword = true
is_word_kind Int = false
is_word_kind Char = false
is_word_kind Str = false
is_word_kind Sign = false

abbrev pub is_word : Token → Bool
is_word token = is_word_kind token.kind

-- a token is the name `defined`
abbrev pub is_defined : Token → Bool
is_defined token = is_name token && bytes_eq token.bytes (codes "defined")

-- 1 or 0 in place of a token
abbrev pub digit : Bool → Token → Token
digit holds token = record { line = token.line; kind = Int; bytes = (if holds then 49 else 48) ∷ [] }

-- whether a name has a macro, in its place
abbrev pub answer : Table → Token → Token
answer macros name = digit (is_some (found name.bytes macros)) name

-- a token before others, if there are these
abbrev pub before : Token → Option (List Token) → Option (List Token)
before token rest = option_map (λ tokens. token ∷ tokens) rest

-- with an answer in place of each `defined NAME` and `defined ( NAME )`; nothing where a `defined` has neither form
abbrev mutual
  pub answered : Table → List Token → Option (List Token)
  answered macros [] = Some []
  answered macros (t ∷ rest) = if is_defined t then asked macros rest else before t (answered macros rest)

  -- behind `defined`
  pub asked : Table → List Token → Option (List Token)
  asked macros [] = None
  asked macros (t ∷ rest) =
      if is_word t then before (answer macros t) (answered macros rest) else
      if is_sign 40 t then asked_inside macros rest else None

  -- behind its `(`
  pub asked_inside : Table → List Token → Option (List Token)
  asked_inside macros [] = None
  asked_inside macros (name ∷ rest) = if is_word name then closed macros name rest else None

  pub closed : Table → Token → List Token → Option (List Token)
  closed macros name [] = None
  closed macros name (t ∷ rest) = if is_sign 41 t then before (answer macros name) (answered macros rest) else None

-- the name that is asked for behind a `defined`, and what stands behind it
abbrev pub question_closed : Token → List Token → Option (Token × List Token)
question_closed name [] = None
question_closed name (t ∷ rest) = if is_sign 41 t then Some (name, rest) else None

abbrev pub question_inside : List Token → Option (Token × List Token)
question_inside [] = None
question_inside (name ∷ rest) = if is_word name then question_closed name rest else None

abbrev pub question : List Token → Option (Token × List Token)
question [] = None
question (t ∷ rest) = if is_word t then Some (t, rest) else if is_sign 40 t then question_inside rest else None

-- a word becomes 0
abbrev pub zeroed : Token → Token
zeroed token = if is_word token then digit false token else token

-- the same of a token whose macro is not replaced
abbrev pub plain_zeroed : Marked → Token
plain_zeroed m = zeroed m.token

abbrev pub is_defined_word : Marked → Bool
is_defined_word m = is_defined m.token

-- with 0 in place of each word; nothing where one is a `defined` that a replacement made, which C99 leaves open
abbrev pub without_words : List Marked → Option (List Token)
without_words tokens = if list_any is_defined_word tokens then None else Some (map plain_zeroed tokens)

-- whether the condition of replaced tokens holds
abbrev pub holds_of : List Marked → Option Bool
holds_of tokens = option_and_then condition_holds (without_words tokens)

-- what there is, or the line has no condition
abbrev pub or_bad : {A : Type 0} → ℕ → Option A → Result A Refusal
or_bad line None = Err (Bad kind.Condition line)
or_bad line (Some x) = Ok x

-- a refusal, as one of this line
abbrev pub moved_to : ℕ → Refusal → Refusal
moved_to line (Bad kind at) = Bad kind line
moved_to line (Lex kind at) = Lex kind line
moved_to line NoMemory = NoMemory

-- a refusal in a condition is one of its line
abbrev pub on_line : {A : Type 0} → ℕ → Result A Refusal → Result A Refusal
on_line line (Ok x) = Ok x
on_line line (Err e) = Err (moved_to line e)

-- with the work that a condition took
abbrev pub with_work : Progress → ℕ → Bool → Bool × Progress
with_work p work holds = (holds, record p { work = work })

-- whether the condition of a line holds, by its tokens, and what was read so far with the work that it took
unfoldable pub condition_asked : ℕ → List Token → Progress → Result (Bool × Progress) Refusal
condition_asked line tokens p =
    and_then (or_bad line (answered p.macros tokens)) (λ asked.
    and_then (on_line line (expanded p.macros asked p.work)) (λ e.
    and_then (or_bad line (holds_of e.tokens)) (λ holds. Ok (with_work p e.work holds))))
