-- The lines of a text in turn, and what each does to what was read so far (C99 6.10).
use Rattle.std.specs.Prelude.{ℕ, ◌+◌, ◌-◌, false, is_some, bytes_eq, codes, if◌then◌else◌, List, [], ◌∷◌, ◌++◌, map, Option, Some, None, Result, Ok, Err}
use Rattle.c_lexer.specs.Gaps.{include_end}
use Rattle.c_lexer.specs.Tokens.{first_place, answer_of}
use Rattle.c_lexer.specs.Readers.{pieces_from}
use Rattle.c_lexer.specs.declared.token.Token.{Token}
use Rattle.c_lexer.specs.declared.token.LexKind.TheVariants.{BadByte}
use Rattle.c_lexer.specs.declared.token.LexError.{LexError}
use Rattle.c_lexer.specs.declared.token.LexError.TheVariants as lex
use Rattle.c_pre.specs.After.{and_then, at_line}
use Rattle.c_pre.specs.Comments.{begins_with}
use Rattle.c_pre.specs.Lines.{behind_spaces, first_word, directive_rest}
use Rattle.c_pre.specs.Expansion.{expanded}
use Rattle.c_pre.specs.Conditions.{condition_asked}
use Rattle.c_pre.specs.Groups.{is_live, is_read, is_over, first_line, opened, turned, branched, closed, skipped}
use Rattle.c_pre.specs.Macros.{same_truth, found, defined, undefined}
use Rattle.c_pre.specs.Table.{Table}
use Rattle.c_pre.specs.Directives.{directive_of}
use Rattle.c_pre.specs.declared.groups.Group.{Group}
use Rattle.c_pre.specs.declared.marked.Marked.{Marked}
use Rattle.c_pre.specs.declared.scan.Expanded.{Expanded}
use Rattle.c_pre.specs.declared.directive.Directive.{Directive}
use Rattle.c_pre.specs.declared.directive.Directive.TheVariants as directive
use Rattle.c_pre.specs.declared.answer.PreKind.TheVariants as kind
use Rattle.c_pre.specs.declared.answer.Refusal.{Refusal}
use Rattle.c_pre.specs.declared.answer.Refusal.TheVariants.{Bad, Lex, NoMemory}
use Rattle.c_pre.specs.declared.progress.Progress.{Progress}
use Rattle.c_pre.specs.declared.here.Here.{Here}

-- the tokens of a text that stands alone, or its first bad place (C99 6.4)
unfoldable pub lexed : List ℕ → Result (List Token) LexError
lexed text = answer_of first_place text (pieces_from first_place 0 text)

-- the tokens behind the `#` of a directive, where another `#` begins nothing
abbrev pub rest_lexed : List ℕ → Result (List Token) LexError
rest_lexed rest = if begins_with 35 (behind_spaces rest) then Err (lex.Bad BadByte 1) else lexed rest

-- a token that stands so many lines further down
abbrev pub moved : ℕ → Token → Token
moved lines token = record { line = lines + token.line; kind = token.kind; bytes = token.bytes }

-- a token without what is hidden from it
abbrev pub plain : Marked → Token
plain m = m.token

-- with the tokens of a run, its macros replaced, behind those before, or its refusal, whose line is counted in its text
abbrev pub with_expanded : ℕ → Progress → Result Expanded Refusal → Result Progress Refusal
with_expanded base p (Ok e) = Ok (record p { tokens = p.tokens ++ map plain e.tokens; work = e.work })
with_expanded base p (Err (Bad kind line)) = Err (Bad kind (line - base))
with_expanded base p (Err (Lex kind line)) = Err (Lex kind (line - base))
with_expanded base p (Err NoMemory) = Err NoMemory

-- the same, by the tokens before their macros are replaced
abbrev pub run_expanded : ℕ → List Token → Progress → Result Progress Refusal
run_expanded base tokens p = with_expanded base p (expanded p.macros tokens p.work)

-- with the tokens of a run of text lines, or the line of its first bad place
abbrev pub with_run : Here → Progress → Result (List Token) LexError → Result Progress Refusal
with_run here p (Ok tokens) =
    with_expanded here.base p (expanded p.macros (map (moved (here.base + (here.run_line - 1))) tokens) p.work)
with_run here p (Err (lex.Bad kind line)) = Err (Lex kind (here.run_line - 1 + line))
with_run here p (Err lex.NoMemory) = Err NoMemory

-- the run of text lines since the last directive ends: it is read as one
unfoldable pub run_ended : Here → Progress → Result Progress Refusal
run_ended here p = with_run here p (lexed here.run)

-- the first line of a text, behind so many lines of the texts that were opened before
abbrev pub first_of : ℕ → Here
first_of base = record { base = base; line = 1; groups = []; run = []; run_line = 1 }

-- a new run of text lines begins behind this line
abbrev pub behind_line : Here → Here
behind_line here = record here { run = []; run_line = here.line + 1 }

-- a new run of text lines begins with this line, which includes a header
abbrev pub at_header : List ℕ → Here → Here
at_header line here = record here { run = line; run_line = here.line }

-- a text line goes to the run, where lines are read
abbrev pub with_text : List ℕ → Here → Here
with_text line here = if is_live here.groups then record here { run = here.run ++ line } else here

-- behind a line: what was read so far, and the text that it includes, if it includes one
pub record Step : Type 0 where
  pub here : Here
  pub progress : Progress
  pub include : Option (List ℕ)

-- behind a line that includes no text
abbrev pub step : Here → Progress → Step
step here p = record { here = here; progress = p; include = None }

-- behind a line that leaves these groups or macros
abbrev pub with_groups : Here → Progress → Result (List Group) Refusal → Result Step Refusal
with_groups here p (Ok groups) = Ok (step (record here { groups = groups }) p)
with_groups here p (Err e) = Err e

abbrev pub with_macros : Here → Progress → Result Table Refusal → Result Step Refusal
with_macros here p (Ok macros) = Ok (step here (record p { macros = macros }))
with_macros here p (Err e) = Err e

-- behind a directive
unfoldable pub obeyed : Directive → Here → Progress → Result Step Refusal
obeyed directive.Empty here p = Ok (step here p)
obeyed (directive.Include name) here p = Ok (record { here = here; progress = p; include = Some name })
obeyed (directive.Define m) here p = with_macros here p (at_line here.line (defined m p.macros))
obeyed (directive.Undefine name) here p = Ok (step here (record p { macros = undefined name p.macros }))
obeyed (directive.Group name wanted) here p =
    with_groups here p (Ok (here.groups ++ opened here.line (same_truth (is_some (found name p.macros)) wanted) ∷ []))
obeyed (directive.If tokens) here p =
    and_then (condition_asked here.line tokens p) (λ a.
    Ok (step (record here { groups = here.groups ++ opened here.line a.0 ∷ [] }) a.1))
obeyed (directive.ElseIf tokens) here p =
    and_then (condition_asked here.line tokens p) (λ a.
    with_groups here a.1 (at_line here.line (branched a.0 here.groups)))
obeyed directive.Else here p = with_groups here p (at_line here.line (turned here.groups))
obeyed directive.EndIf here p = with_groups here p (at_line here.line (closed here.groups))

-- the directive of a line, if it has one of the forms
abbrev pub of_form : ℕ → Option Directive → Result Directive Refusal
of_form line None = Err (Bad kind.Directive line)
of_form line (Some d) = Ok d

-- the directive of a line, by the tokens behind its `#`, or their first bad place
abbrev pub of_tokens : ℕ → List ℕ → Result (List Token) LexError → Result Directive Refusal
of_tokens line rest (Ok tokens) = of_form line (directive_of rest tokens)
of_tokens line rest (Err (lex.Bad kind at)) = Err (Lex kind line)
of_tokens line rest (Err lex.NoMemory) = Err NoMemory

-- the directive of a line, by what stands behind its `#`; a `#pragma` is nothing and an `#error` is refused, and the rest of
-- neither is looked at (C99 6.10.5 and 6.10.6)
abbrev pub directive_on : ℕ → List ℕ → Result Directive Refusal
directive_on line rest =
    if bytes_eq (first_word rest) (codes "pragma") then Ok directive.Empty else
    if bytes_eq (first_word rest) (codes "error") then Err (Bad kind.Error line) else of_tokens line rest (rest_lexed rest)

-- behind a directive that is read, behind the run before it
abbrev pub directed_from : List ℕ → List ℕ → Here → Progress → Result Step Refusal
directed_from line rest here p =
    if is_some (include_end rest) then Ok (step (at_header line here) p) else
    if is_over (first_word rest) here.groups
    then with_groups (behind_line here) p (at_line here.line (branched false here.groups)) else
    and_then (directive_on here.line rest) (λ d. obeyed d (behind_line here) p)

-- behind a directive that is read: the run before it ends first
unfoldable pub directed : List ℕ → List ℕ → Here → Progress → Result Step Refusal
directed line rest here p = and_then (run_ended here p) (λ q. directed_from line rest here q)

-- behind a directive that is not read
unfoldable pub passed : List ℕ → Here → Progress → Result Step Refusal
passed rest here p =
    with_groups (behind_line here) p (at_line here.line (skipped (first_word rest) here.line here.groups))

-- behind a line, by what stands behind its `#`, if it is a directive
abbrev pub line_by : Option (List ℕ) → List ℕ → Here → Progress → Result Step Refusal
line_by None line here p = Ok (step (with_text line here) p)
line_by (Some rest) line here p =
    if is_read (first_word rest) here.groups then directed line rest here p else passed rest here p

-- behind a line
unfoldable pub line_read : List ℕ → Here → Progress → Result Step Refusal
line_read line here p = line_by (directive_rest line) line here p

-- behind the last line no group may be open
abbrev pub balanced : Option ℕ → Progress → Result Progress Refusal
balanced None p = Ok p
balanced (Some line) p = Err (Bad kind.Unbalanced line)

-- behind the last line of a text
unfoldable pub text_ended : Here → Progress → Result Progress Refusal
text_ended here p = and_then (run_ended here p) (λ q. balanced (first_line here.groups) q)
