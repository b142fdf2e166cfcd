-- How the code replaces the macros of a run: one step after another, where a call waits, with what was done before it and the
-- tokens behind it, while the tokens of an argument are scanned. What it comes to is what `Expansion` says.
use Rattle.std.specs.Prelude.{ℕ, zero, suc, ◌+◌, ◌-◌, nat_lt, if◌then◌else◌, List, [], ◌∷◌, ◌++◌, length, map, take, drop, slice_get, Option, Some, None, Result, Ok, Err}
use Rattle.c_lexer.specs.declared.token.Token.{Token}
use Rattle.c_pre.specs.Expansion.{most_work, enough, fresh, macro_for, replaced, function_hides, object_hides, keeps_commas, split_from, is_open, fits}
use Rattle.c_pre.specs.Macros.{found}
use Rattle.c_pre.specs.Table.{Table, Numbers}
use Rattle.c_pre.specs.declared.macros.Defined.{Defined}
use Rattle.c_pre.specs.declared.macros.Macro.{Macro}
use Rattle.c_pre.specs.declared.answer.PreKind.TheVariants as kind
use Rattle.c_pre.specs.declared.answer.Refusal.{Refusal}
use Rattle.c_pre.specs.declared.answer.Refusal.TheVariants.{Bad, NoMemory}
use Rattle.c_pre.specs.declared.marked.Marked.{Marked}
use Rattle.c_pre.specs.declared.calls.Call.{Call}
use Rattle.c_pre.specs.declared.calls.Split.{Split}
use Rattle.c_pre.specs.declared.scan.Expanded.{Expanded}
use Rattle.c_pre.specs.declared.scan.Scan.{Scan}

-- a step goes on, or all tokens are done, or one is refused
pub data Next : Type 0 where
  Goes : (after : Scan) → Next
  Ends : (tokens : List Marked) (work : ℕ) → Next
  Stops : (refusal : Refusal) → Next

-- the tokens of a replacement are put in before those that are left, if the work allows it
abbrev pub put_in : ℕ → List Marked → Scan → Next
put_in line tokens s =
    if nat_lt most_work (s.work + 1 + length tokens) then Stops (Bad kind.Work line) else
    Goes (record s { rest = tokens ++ s.rest; work = s.work + 1 + length tokens })

-- the first of some arguments, and those behind it
abbrev pub first_of : List (List Marked) → List Marked
first_of [] = []
first_of (arg ∷ args) = arg

abbrev pub behind_first : List (List Marked) → List (List Marked)
behind_first [] = []
behind_first (arg ∷ args) = args

-- a call begins: the first of its arguments is scanned, and it waits
abbrev pub begun : Marked → Numbers → Split → Scan → Scan
begun t numbers split s = record s {
  done = [];
  rest = first_of split.args;
  calls = s.calls ++ record {
    name = t.token.bytes;
    line = t.token.line;
    hidden = numbers;
    expanded = [];
    left = behind_first split.args;
    done = s.done;
    rest = split.rest;
  } ∷ [];
}

-- at a call of a function-like macro, by what stands behind its `(`
abbrev pub called : Marked → Defined → List (List ℕ) → Option Split → Scan → Next
called t m parameters None s = Stops (Bad kind.Arguments t.token.line)
called t m parameters (Some split) s =
    if fits m.it.variadic parameters split.args then Goes (begun t (function_hides t m.number split) split s)
    else Stops (Bad kind.Arguments t.token.line)

-- a call begins at a name with what stands behind its `(`, and what is hidden from both
abbrev pub call_begun : Marked → ℕ → Split → Scan → Next
call_begun t number split s = Goes (begun t (function_hides t number split) split s)

-- at a name before a `(`
abbrev pub at_call : Marked → Defined → List (List ℕ) → Scan → Next
at_call t m parameters s =
    called t m parameters (split_from (keeps_commas m.it.variadic parameters) 0 [] [] (drop 1 s.rest)) s

-- what stands in place of a macro is put in
abbrev pub replaced_in : ℕ → Numbers → List (List Marked) → Macro → Scan → Next
replaced_in line numbers expanded m s = put_in line (replaced line numbers expanded m) s

-- a token is done
abbrev pub kept : Marked → Scan → Next
kept t s = Goes (record s { done = s.done ++ t ∷ [] })

-- at a name of a macro: a function-like one is replaced only before a `(`
abbrev pub at_macro : Marked → Defined → Option (List (List ℕ)) → Scan → Next
at_macro t m None s = put_in t.token.line (replaced t.token.line (object_hides t m.number) [] m.it) s
at_macro t m (Some parameters) s =
    if is_open s.rest then at_call t m parameters s else kept t s

-- at a token, by its macro
abbrev pub at_token : Marked → Option Defined → Scan → Next
at_token t None s = kept t s
at_token t (Some m) s = at_macro t m m.it.parameters s

-- behind the last argument of a call: its macro is replaced, and the scan goes on at the replacement's first token; the
-- case without a macro never comes
abbrev pub ended : Call → Option Defined → Scan → Next
ended call None s = Stops NoMemory
ended call (Some m) s =
    put_in call.line (replaced call.line call.hidden call.expanded m.it) (record s { done = call.done; rest = call.rest })

-- behind an argument of a call: the next is scanned, or the call ends
abbrev pub argument_done : Table → Call → List (List Marked) → Scan → Next
argument_done macros call [] s = ended call (found call.name macros) s
argument_done macros call (arg ∷ args) s =
    Goes (record s { done = []; rest = arg; calls = s.calls ++ record call { left = args } ∷ [] })

-- behind an argument of a call whose tokens are done
abbrev pub argument_ended : Table → Call → Scan → Next
argument_ended macros call s =
    argument_done macros (record call { expanded = call.expanded ++ s.done ∷ [] }) call.left s

-- behind the tokens that are left: an argument of the innermost call is done, or all is
abbrev pub rest_done : Table → Option Call → Scan → Next
rest_done macros None s = Ends s.done s.work
rest_done macros (Some call) s =
    argument_done macros (record call { expanded = call.expanded ++ s.done ∷ [] }) call.left
    (record s { calls = take (length s.calls - 1) s.calls })

-- one step, by the tokens that are left
abbrev pub step_by : Table → List Marked → Scan → Next
step_by macros [] s = rest_done macros (slice_get s.calls (length s.calls - 1)) s
step_by macros (t ∷ rest) s = at_token t (macro_for macros t) (record s { rest = rest })

-- one step
unfoldable pub step : Table → Scan → Next
step macros s = step_by macros s.rest s

-- what a step comes to, by what a scan comes to
abbrev pub goes_on : (Scan → Result Expanded Refusal) → Next → Result Expanded Refusal
goes_on scan (Goes s) = scan s
goes_on scan (Ends tokens work) = Ok (record { tokens = tokens; work = work })
goes_on scan (Stops e) = Err e

-- what a scan comes to in at most so many steps
unfoldable pub scanned : Table → ℕ → Scan → Result Expanded Refusal
scanned macros zero s = Err NoMemory
scanned macros (suc n) s = goes_on (scanned macros n) (step macros s)

-- a scan of some tokens
abbrev pub scan_of : List Marked → ℕ → Scan
scan_of tokens work = record { done = []; rest = tokens; calls = []; work = work }

-- the steps for the tokens of a run, behind so much work
unfoldable pub expanded_by_steps : Table → List Token → ℕ → Result Expanded Refusal
expanded_by_steps macros tokens work =
    scanned macros (enough (map fresh tokens) work) (scan_of (map fresh tokens) work)
