-- Where no macro is defined, the tokens of a run stay as they are.
use Rattle.std.proofs.Common.{◌≡◌, ◌∙◌, ℕ, zero, suc, ◌+◌, ◌<◌, Bool, true, false, cond, List, [], ◌∷◌, ◌++◌, length, map, Option, None, Result, Ok, refl, sym, ap, arith}
use Rattle.c_lexer.specs.declared.token.Token.{Token}
use Rattle.c_pre.specs.Directives.{is_name}
use Rattle.c_pre.specs.Expansion.{enough, fresh, macro_for, kept, at_token, scanned, expanded}
use Rattle.c_pre.specs.Reading.{plain, moved, with_expanded}
use Rattle.c_pre.specs.declared.answer.Refusal.{Refusal}
use Rattle.c_pre.specs.Table.{Table}
use Rattle.c_pre.specs.declared.macros.Defined.{Defined}
use Rattle.c_pre.specs.declared.marked.Marked.{Marked}
use Rattle.c_pre.specs.declared.progress.Progress.{Progress}
use Rattle.c_pre.specs.declared.scan.Expanded.{Expanded}

abbrev given : List Marked → ℕ → Result Expanded Refusal
given tokens work = Ok (record { tokens = tokens; work = work })

none_by : (b : Bool) (m : Option Defined) → m ≡ None → cond b m None ≡ None
none_by true m is = is
none_by false m is = refl

-- a table in which no name has a macro
abbrev bare : ℕ → Table
bare count = record { count = count; names = [] }

none_for : (count : ℕ) (t : Marked) → macro_for (bare count) t ≡ None
none_for count t = none_by (is_name t.token) None refl

all_kept : (count n work : ℕ) (tokens : List Marked) → length tokens < n + 1 → scanned (bare count) n work tokens ≡ given tokens work
unfolding scanned
all_kept count zero work [] room = refl
all_kept count zero work (t ∷ rest) room = absurd (omega (arith, room))
all_kept count (suc n) work [] room = refl
all_kept count (suc n) work (t ∷ rest) room =
    ap (at_token (scanned (bare count) n) work t rest) (none_for count t)
    ∙ ap (kept t) (all_kept count n work rest (omega (arith, room)))

plain_fresh : (tokens : List Token) → map plain (map fresh tokens) ≡ tokens
plain_fresh [] = refl
plain_fresh (t ∷ tokens) = ap (λ (ts : List Token). t ∷ ts) (plain_fresh tokens)

unreplaced : (count : ℕ) (tokens : List Token) (work : ℕ) → expanded (bare count) tokens work ≡ given (map fresh tokens) work
unfolding expanded
unreplaced count tokens work =
    all_kept count (enough (map fresh tokens) work) work (map fresh tokens) (omega arith)

abbrev pub progressed : Progress → Result Progress Refusal
progressed p = Ok p

pub run_unreplaced : (base : ℕ) (p : Progress) (tokens : List Token) → p.macros.names ≡ [] → with_expanded base p (expanded p.macros tokens p.work) ≡ Ok (record p { tokens = p.tokens ++ tokens })
run_unreplaced base p tokens none =
    ap (λ names. let table : Table = record { count = p.macros.count; names = names } in with_expanded base p (expanded table tokens p.work)) none
    ∙ ap (with_expanded base p) (unreplaced p.macros.count tokens p.work)
    ∙ ap (λ (ts : List Token). progressed (record p { tokens = p.tokens ++ ts })) (plain_fresh tokens)

-- tokens that are put behind none, no line further down
no_further : (n : ℕ) → 0 + n ≡ n
no_further n = omega arith

one_unmoved : (t : Token) → moved 0 t ≡ t
one_unmoved t = ap (λ n. let u : Token = record { line = n; kind = t.kind; bytes = t.bytes } in u) (no_further t.line)

unmoved : (tokens : List Token) → map (moved 0) tokens ≡ tokens
unmoved [] = refl
unmoved (t ∷ tokens) = λ i. one_unmoved t i ∷ unmoved tokens i

pub taken : (before tokens : List Token) (lines : ℕ) → lines ≡ 0 → before ≡ [] → tokens ≡ before ++ map (moved lines) tokens
taken before tokens lines none empty = sym (unmoved tokens) ∙ (λ i. sym empty i ++ map (moved (sym none i)) tokens)
