-- The replacement of macros in a run of text lines (C99 6.10.3 and 6.10.3.4). Each token has a set of macros that are hidden
-- from it. The run is scanned from left to right. A name of a macro that is not hidden from it is replaced: one of a
-- function-like macro only where a `(` is the next token, and then by way of its arguments, each of which is expanded alone and
-- once. The scan goes on at the first token of what stands in its place.
use Rattle.std.specs.Prelude.{◌≡◌, ◌≢◌, ◌<◌, ◌≤◌, MatchOption, ℕ, zero, suc, ◌+◌, ◌-◌, ◌*◌, ◌==◌, Bool, true, false, ◌||◌, ◌&&◌, bytes_eq, nat_lt, if◌then◌else◌, List, [], ◌∷◌, ◌++◌, length, map, drop, slice_get, Option, Some, None, unwrap_or, Result, Ok, Err}
use Rattle.std.specs.FinSet as set
use Rattle.c_lexer.specs.declared.token.Token.{Token}
use Rattle.c_pre.specs.After.{and_then}
use Rattle.c_pre.specs.Directives.{is_name, is_sign}
use Rattle.c_pre.specs.Macros.{found}
use Rattle.c_pre.specs.Table.{Table, Numbers}
use Rattle.c_pre.specs.declared.macros.Defined.{Defined}
use Rattle.c_pre.specs.declared.macros.Macro.{Macro}
use Rattle.c_pre.specs.declared.answer.PreKind.TheVariants as kind
use Rattle.c_pre.specs.declared.answer.Refusal.{Refusal}
use Rattle.c_pre.specs.declared.answer.Refusal.TheVariants.{Bad, NoMemory}
use Rattle.c_pre.specs.declared.marked.Marked.{Marked}
use Rattle.c_pre.specs.declared.calls.Split.{Split}
use Rattle.c_pre.specs.declared.scan.Expanded.{Expanded}

-- the most work of all texts: one for each replacement, and one for each token that it puts in
abbrev pub most_work : ℕ
most_work = 4000000

-- a token of a text, from which nothing is hidden
abbrev pub fresh : Token → Marked
fresh token = record { token = token; hidden = set.empty }

-- a token that is put in on a line, with more macros hidden from it
abbrev pub put_on : ℕ → Numbers → Marked → Marked
put_on line numbers m = record {
  token = record { line = line; kind = m.token.kind; bytes = m.token.bytes };
  hidden = set.union m.hidden numbers;
}

-- a token with what is hidden from it
abbrev pub marked : Token → Numbers → Marked
marked token hidden = record { token = token; hidden = hidden }

-- a macro, where it is not hidden
abbrev pub unhidden : Numbers → Option Defined → Option Defined
unhidden hidden None = None
unhidden hidden (Some m) = if set.contains hidden m.number then None else Some m

-- the macro of a token: of a name from which it is not hidden
abbrev pub macro_for : Table → Marked → Option Defined
macro_for macros t = if is_name t.token then unhidden t.hidden (found t.token.bytes macros) else None

-- the place of a parameter, behind so many others
abbrev pub place_from : ℕ → List (List ℕ) → List ℕ → Option ℕ
place_from place [] word = None
place_from place (name ∷ names) word = if bytes_eq word name then Some place else place_from (place + 1) names word

-- the place of a parameter
abbrev pub place_of : List (List ℕ) → List ℕ → Option ℕ
place_of names word = place_from 0 names word

-- the tokens in place of one token of a macro: the expanded argument of a parameter, or the token itself
abbrev pub part_by : List (List Marked) → Token → Option ℕ → List Marked
part_by expanded token None = fresh token ∷ []
part_by expanded token (Some i) = unwrap_or (slice_get expanded i) []

-- the parameters of a macro, none of an object-like one
abbrev pub parameters_of : Option (List (List ℕ)) → List (List ℕ)
parameters_of None = []
parameters_of (Some names) = names

-- the tokens in place of one token of this macro
abbrev pub part_of : Macro → List (List Marked) → Token → List Marked
part_of m expanded token = part_by expanded token (place_of (parameters_of m.parameters) token.bytes)

-- the tokens in place of those of a macro
abbrev pub substituted : ℕ → Numbers → List (List ℕ) → List (List Marked) → List Token → List Marked
substituted line numbers parameters expanded [] = []
substituted line numbers parameters expanded (token ∷ tokens) =
    map (put_on line numbers) (part_by expanded token (place_of parameters token.bytes))
    ++ substituted line numbers parameters expanded tokens

-- what stands in place of a macro
abbrev pub replaced : ℕ → Numbers → List (List Marked) → Macro → List Marked
replaced line numbers expanded m = substituted line numbers (parameters_of m.parameters) expanded m.replacement

-- the same of one token of a macro
abbrev pub put_part : ℕ → Numbers → Macro → List (List Marked) → Token → List Marked
put_part line numbers m expanded token = map (put_on line numbers) (part_of m expanded token)

-- whether what stands in place of a macro has more than so many tokens is told, on whatever line and by whatever numbers
abbrev pub TellsLonger : ℕ → List (List Marked) → Macro → Bool → Type 0
TellsLonger most expanded m longer =
    (line : ℕ) (numbers : Numbers) → longer ≡ nat_lt most (length (replaced line numbers expanded m))

-- these tokens are given, unless they are more than so many
abbrev pub GivesAtMost : ℕ → List Marked → Option (List Marked) → Type 0
GivesAtMost most tokens found = MatchOption found (most < length tokens) (λ given. (given ≡ tokens) × (length given ≤ most))

-- the place of the argument that keeps its commas: the last of a variadic macro (C99 6.10.3p12)
abbrev pub keeps_commas : Bool → List (List ℕ) → Option ℕ
keeps_commas variadic parameters = if variadic then Some (length parameters - 1) else None

-- a comma ends the argument at a place
abbrev pub is_ended : Option ℕ → ℕ → Bool
is_ended None place = true
is_ended (Some keeps) place = nat_lt place keeps

-- a token is a comma that ends the argument at a place
abbrev pub is_separator : Option ℕ → ℕ → Token → Bool
is_separator keeps place token = is_sign 44 token && is_ended keeps place

-- what a call has behind its `(`: its arguments, what is hidden from its `)`, and what stands behind that
abbrev pub split_from : Option ℕ → ℕ → List (List Marked) → List Marked → List Marked → Option Split
split_from keeps depth args current [] = None
split_from keeps depth args current (t ∷ rest) =
    if is_sign 41 t.token && depth == 0 then Some (record { args = args ++ current ∷ []; hidden = t.hidden; rest = rest }) else
    if is_sign 41 t.token then split_from keeps (depth - 1) args (current ++ t ∷ []) rest else
    if is_sign 40 t.token then split_from keeps (depth + 1) args (current ++ t ∷ []) rest else
    if depth == 0 && is_separator keeps (length args) t.token then split_from keeps 0 (args ++ current ∷ []) [] rest else
    split_from keeps depth args (current ++ t ∷ []) rest

-- the next token is a `(`
abbrev pub is_open : List Marked → Bool
is_open [] = false
is_open (t ∷ rest) = is_sign 40 t.token

-- the only argument of these is empty
abbrev pub is_blank : List (List Marked) → Bool
is_blank [] = false
is_blank (arg ∷ args) = length (arg ∷ args) == 1 && length arg == 0

-- as many arguments as parameters: where there is no parameter, one empty argument; where there is one, it may be empty. Of a
-- variadic macro the last may be left out, with the comma before it
abbrev pub fits : Bool → List (List ℕ) → List (List Marked) → Bool
fits variadic [] args = is_blank args
fits variadic (name ∷ names) args =
    length (name ∷ names) == length args || variadic && nat_lt 0 (length args) && length names == length args

-- a scan of some tokens, behind so much work
abbrev pub Scanning : Type 0
Scanning = ℕ → List Marked → Result Expanded Refusal

-- a token that is not replaced stands before those that the scan behind it gives
abbrev pub kept : Marked → Result Expanded Refusal → Result Expanded Refusal
kept t (Ok e) = Ok (record { tokens = t ∷ e.tokens; work = e.work })
kept t (Err e) = Err e

-- the scan goes on at the first token of a replacement, if the work allows it
abbrev pub goes_on : Scanning → ℕ → ℕ → List Marked → List Marked → Result Expanded Refusal
goes_on scan line work replacement rest =
    if nat_lt most_work (work + 1 + length replacement) then Err (Bad kind.Work line) else
    scan (work + 1 + length replacement) (replacement ++ rest)

-- arguments that are expanded, and the work behind them
pub record Arguments : Type 0 where
  pub expanded : List (List Marked)
  pub work : ℕ

-- each argument is expanded alone, once, in order
abbrev pub arguments_scanned : Scanning → ℕ → List (List Marked) → Result Arguments Refusal
arguments_scanned scan work [] = Ok (record { expanded = []; work = work })
arguments_scanned scan work (arg ∷ args) =
    and_then (scan work arg) (λ e.
    and_then (arguments_scanned scan e.work args) (λ es.
    Ok (record { expanded = e.tokens ∷ es.expanded; work = es.work })))

-- what is hidden from what stands in place of an object-like macro: what is hidden from its name, and itself
abbrev pub object_hides : Marked → ℕ → Numbers
object_hides t number = set.insert t.hidden number

-- and of a function-like one: what is hidden both from its name and from its `)`, and itself
abbrev pub function_hides : Marked → ℕ → Split → Numbers
function_hides t number split = set.insert (set.intersection t.hidden split.hidden) number

-- a call of a function-like macro with these arguments
abbrev pub applied : Scanning → ℕ → Marked → Defined → Split → Result Expanded Refusal
applied scan work t m split =
    and_then (arguments_scanned scan work split.args) (λ args.
    goes_on scan t.token.line args.work (replaced t.token.line (function_hides t m.number split) args.expanded m.it) split.rest)

-- at a call of a function-like macro, by what stands behind its `(`
abbrev pub called : Scanning → ℕ → Marked → Defined → List (List ℕ) → Option Split → Result Expanded Refusal
called scan work t m parameters None = Err (Bad kind.Arguments t.token.line)
called scan work t m parameters (Some split) =
    if fits m.it.variadic parameters split.args then applied scan work t m split else Err (Bad kind.Arguments t.token.line)

-- at a name of a macro with these parameters: a function-like one is replaced only before a `(`
abbrev pub at_macro : Scanning → ℕ → Marked → List Marked → Defined → Option (List (List ℕ)) → Result Expanded Refusal
at_macro scan work t rest m None =
    goes_on scan t.token.line work (replaced t.token.line (object_hides t m.number) [] m.it) rest
at_macro scan work t rest m (Some parameters) =
    if is_open rest
    then called scan work t m parameters (split_from (keeps_commas m.it.variadic parameters) 0 [] [] (drop 1 rest))
    else kept t (scan work rest)

-- at a token, by its macro, and those behind it
abbrev pub at_token : Scanning → ℕ → Marked → List Marked → Option Defined → Result Expanded Refusal
at_token scan work t rest None = kept t (scan work rest)
at_token scan work t rest (Some m) = at_macro scan work t rest m m.it.parameters

-- what a scan comes to. It looks at no more than so many tokens in turn, and at `enough` of them it has come to its end.
unfoldable pub scanned : Table → ℕ → Scanning
scanned macros looks work [] = Ok (record { tokens = []; work = work })
scanned macros zero work (t ∷ rest) = Err NoMemory
scanned macros (suc looks) work (t ∷ rest) = at_token (scanned macros looks) work t rest (macro_for macros t)

-- no scan of so many tokens looks at as many in turn: a replacement takes work, and a call takes its name and two signs
abbrev pub enough : List Marked → ℕ → ℕ
enough tokens work = 3 * (most_work + 1 - work) + 3 * length tokens + 1

-- the tokens of a run with its macros replaced, behind so much work
unfoldable pub expanded : Table → List Token → ℕ → Result Expanded Refusal
expanded macros tokens work = scanned macros (enough (map fresh tokens) work) work (map fresh tokens)

-- the replacement of macros comes to an end
abbrev pub ReplacementEnds : Type 0
ReplacementEnds = (macros : Table) (tokens : List Token) (work : ℕ) → expanded macros tokens work ≢ Err NoMemory
