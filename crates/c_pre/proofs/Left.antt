-- Each step of a scan leaves less.
use Rattle.std.proofs.Common.{◌≡◌, ℕ, zero, suc, ◌+◌, ◌-◌, ◌*◌, ◌<◌, ◌≤◌, ◌==◌, Bool, true, false, cond, nat_lt, ◌&&◌, List, [], ◌∷◌, ◌++◌, length, map, take, drop, Option, Some, None, Result, Ok, Err, refl, sym, ap, subst, ◌∙◌, arith, length-append, length-drop}
use Rattle.std.specs.List.{sum_by}
use Rattle.std.specs.Prelude.{slice_get}
use Rattle.std.proofs.lemmas.Bool.{ltb-false}
use Rattle.std.proofs.lemmas.List.Sums.{sum_by_push, sum_by-append}
use Rattle.c_lexer.specs.declared.token.Token.{Token}
use Rattle.c_pre.specs.Directives.{is_sign}
use Rattle.c_pre.specs.Macros.{found}
use Rattle.c_pre.specs.Expansion.{most_work, enough, fresh, macro_for, function_hides, keeps_commas, is_separator, split_from, is_open, fits}
use Rattle.c_pre.specs.Steps.{Next, Goes, Ends, Stops, put_in, first_of, behind_first, begun, called, kept, at_macro, at_token, ended, argument_done, rest_done, step_by, step, goes_on, scanned, scan_of, expanded_by_steps}
use Rattle.c_pre.specs.Table.{Table, Numbers}
use Rattle.c_pre.specs.declared.macros.Defined.{Defined}
use Rattle.c_pre.specs.declared.marked.Marked.{Marked}
use Rattle.c_pre.specs.declared.calls.Call.{Call}
use Rattle.c_pre.specs.declared.calls.Split.{Split}
use Rattle.c_pre.specs.declared.scan.Scan.{Scan}
use Rattle.c_pre.specs.declared.scan.Expanded.{Expanded}
use Rattle.c_pre.specs.declared.answer.PreKind.TheVariants.{Arguments, Work}
use Rattle.c_pre.specs.declared.answer.Refusal.{Refusal}
use Rattle.c_pre.specs.declared.answer.Refusal.TheVariants.{Bad, Lex, NoMemory}
use Rattle.c_pre.specs.Answering.{Answers, StepsTo}

-- what a call that waits leaves
abbrev pub weight : Call → ℕ
weight call = 3 * (length call.rest + sum_by length call.left) + length call.left + 1

-- what a scan leaves
abbrev pub left : Scan → ℕ
left s = 3 * (most_work + 1 - s.work) + 3 * length s.rest + sum_by weight s.calls

-- a step that goes on leaves less than this
abbrev pub Falls : ℕ → Next → Type 0
Falls n (Goes t) = left t < n
Falls n (Ends tokens work) = Unit {0}
Falls n (Stops e) = Unit {0}

sum_cons : {X : Type 0} (f : X → ℕ) (x : X) (xs : List X) → sum_by f (x ∷ xs) ≡ f x + sum_by f xs
sum_cons f x xs = omega (arith, sum_by-append f (x ∷ []) xs)

put_in_by : (b : Bool) (line : ℕ) (tokens : List Marked) (s : Scan) (n : ℕ) → nat_lt most_work (s.work + 1 + length tokens) ≡ b → left s ≤ n → Falls n (cond b (Stops (Bad Work line)) (Goes (record s { rest = tokens ++ s.rest; work = s.work + 1 + length tokens })))
put_in_by true line tokens s n is low = tt
put_in_by false line tokens s n is low =
    omega (arith, low, ltb-false most_work (s.work + 1 + length tokens) is, length-append tokens s.rest)

put_in_falls : (line : ℕ) (tokens : List Marked) (s : Scan) (n : ℕ) → left s ≤ n → Falls n (put_in line tokens s)
put_in_falls line tokens s n low = put_in_by (nat_lt most_work (s.work + 1 + length tokens)) line tokens s n refl low

-- a call has its tokens, without its last sign and one sign for each argument but the first
abbrev pub Conserves : ℕ → Option Split → Type 0
Conserves n None = Unit {0}
Conserves n (Some split) = sum_by length split.args + length split.rest + length split.args ≡ n

moved : (m n : ℕ) (o : Option Split) → m ≡ n → Conserves m o → Conserves n o
moved m n o e h = subst (λ k. Conserves k o) e h

pick : (a b c d : Bool) (n : ℕ) (v w x y z : Option Split) → Conserves n v → Conserves n w → Conserves n x → Conserves n y → Conserves n z → Conserves n (cond a v (cond b w (cond c x (cond d y z))))
pick true b c d n v w x y z hv hw hx hy hz = hv
pick false true c d n v w x y z hv hw hx hy hz = hw
pick false false true d n v w x y z hv hw hx hy hz = hx
pick false false false true n v w x y z hv hw hx hy hz = hy
pick false false false false n v w x y z hv hw hx hy hz = hz

-- what the parts of a call have so far
abbrev pub whole : List (List Marked) → List Marked → List Marked → ℕ
whole args current ts = sum_by length args + length current + length ts + length args

pub split_conserves : (keeps : Option ℕ) (depth : ℕ) (args : List (List Marked)) (current ts : List Marked) → Conserves (whole args current ts) (split_from keeps depth args current ts)
split_conserves keeps depth args current [] = tt
split_conserves keeps depth args current (t ∷ rest) =
    let longer : whole args (current ++ t ∷ []) rest ≡ whole args current (t ∷ rest) = omega (arith, length-append current (t ∷ [])) in
    let next : whole (args ++ current ∷ []) [] rest ≡ whole args current (t ∷ rest) = omega (arith, length-append args (current ∷ []), sum_by_push length args current) in
    pick (is_sign 41 t.token && depth == 0) (is_sign 41 t.token) (is_sign 40 t.token) (depth == 0 && is_separator keeps (length args) t.token) (whole args current (t ∷ rest)) _ _ _ _ _
    (omega (arith, length-append args (current ∷ []), sum_by_push length args current))
    (moved _ _ _ longer (split_conserves keeps (depth - 1) args (current ++ t ∷ []) rest))
    (moved _ _ _ longer (split_conserves keeps (depth + 1) args (current ++ t ∷ []) rest))
    (moved _ _ _ next (split_conserves keeps 0 (args ++ current ∷ []) [] rest))
    (moved _ _ _ longer (split_conserves keeps depth args (current ++ t ∷ []) rest))

sum_first : (args : List (List Marked)) → sum_by length args ≡ length (first_of args) + sum_by length (behind_first args)
sum_first [] = refl
sum_first (arg ∷ args) = sum_cons length arg args

behind_short : (args : List (List Marked)) → length (behind_first args) ≤ length args
behind_short [] = omega arith
behind_short (arg ∷ args) = omega arith

begun_by : (b : Bool) (t : Marked) (numbers : Numbers) (split : Split) (s : Scan) (n k : ℕ) → Conserves k (Some split) → 3 * (most_work + 1 - s.work) + 3 * k + sum_by weight s.calls + 1 < n → Falls n (cond b (Goes (begun t numbers split s)) (Stops (Bad Arguments t.token.line)))
begun_by false t numbers split s n k h low = tt
begun_by true t numbers split s n k h low =
    let call : Call = record { name = t.token.bytes; line = t.token.line; hidden = numbers; expanded = []; left = behind_first split.args; done = s.done; rest = split.rest } in
    omega (arith, h, low, sum_by_push weight s.calls call, sum_first split.args, behind_short split.args)

called_falls : (t : Marked) (m : Defined) (parameters : List (List ℕ)) (o : Option Split) (s : Scan) (n k : ℕ) → Conserves k o → 3 * (most_work + 1 - s.work) + 3 * k + sum_by weight s.calls + 1 < n → Falls n (called t m parameters o s)
called_falls t m parameters None s n k h low = tt
called_falls t m parameters (Some split) s n k h low =
    begun_by (fits m.it.variadic parameters split.args) t (function_hides t m.number split) split s n k h low

open_by : (b : Bool) (t : Marked) (m : Defined) (parameters : List (List ℕ)) (s : Scan) (n : ℕ) → left s + 2 < n → Falls n (cond b (called t m parameters (split_from (keeps_commas m.it.variadic parameters) 0 [] [] (drop 1 s.rest)) s) (kept t s))
open_by true t m parameters s n low =
    called_falls t m parameters (split_from (keeps_commas m.it.variadic parameters) 0 [] [] (drop 1 s.rest)) s n (whole [] [] (drop 1 s.rest)) (split_conserves (keeps_commas m.it.variadic parameters) 0 [] [] (drop 1 s.rest)) (omega (arith, low, length-drop 1 s.rest))
open_by false t m parameters s n low = omega (arith, low)

at_macro_falls : (t : Marked) (m : Defined) (o : Option (List (List ℕ))) (s : Scan) (n : ℕ) → left s + 2 < n → Falls n (at_macro t m o s)
at_macro_falls t m None s n low = put_in_falls t.token.line _ s n (omega (arith, low))
at_macro_falls t m (Some parameters) s n low = open_by (is_open s.rest) t m parameters s n low

at_token_falls : (t : Marked) (o : Option Defined) (s : Scan) (n : ℕ) → left s + 2 < n → Falls n (at_token t o s)
at_token_falls t None s n low = omega (arith, low)
at_token_falls t (Some m) s n low = at_macro_falls t m m.it.parameters s n low

ended_falls : (call : Call) (o : Option Defined) (s : Scan) (n : ℕ) → 3 * (most_work + 1 - s.work) + sum_by weight s.calls + 3 * length call.rest ≤ n → Falls n (ended call o s)
ended_falls call None s n low = tt
ended_falls call (Some m) s n low =
    put_in_falls call.line _ (record s { done = call.done; rest = call.rest }) n (omega (arith, low))

argument_falls : (macros : Table) (call : Call) (args : List (List Marked)) (s : Scan) (n : ℕ) → 3 * (most_work + 1 - s.work) + sum_by weight s.calls + (3 * (length call.rest + sum_by length args) + length args + 1) ≤ n → Falls n (argument_done macros call args s)
argument_falls macros call [] s n low = ended_falls call (found call.name macros) s n (omega (arith, low))
argument_falls macros call (arg ∷ args) s n low =
    omega (arith, low, sum_by_push weight s.calls (record call { left = args }), sum_cons length arg args)

sum_last_at : (calls : List Call) (i : ℕ) (call : Call) → suc i ≡ length calls → slice_get calls i ≡ Some call → sum_by weight calls ≡ sum_by weight (take i calls) + weight call
sum_last_at [] i call long is = absurd (omega (arith, long))
sum_last_at (c ∷ []) zero call long is = let e : c ≡ call = cc in ap (λ x. sum_by weight (x ∷ [])) e
sum_last_at (c ∷ d ∷ calls) zero call long is = absurd (omega (arith, long))
sum_last_at (c ∷ calls) (suc i) call long is =
    omega (arith, sum_last_at calls i call (omega (arith, long)) is, sum_cons weight c calls, sum_cons weight c (take i calls))

sum_last : (calls : List Call) (call : Call) → slice_get calls (length calls - 1) ≡ Some call → sum_by weight calls ≡ sum_by weight (take (length calls - 1) calls) + weight call
sum_last [] call is = cc
sum_last (c ∷ calls) call is = sum_last_at (c ∷ calls) (length (c ∷ calls) - 1) call (omega arith) is

rest_falls : (macros : Table) (o : Option Call) (s : Scan) → slice_get s.calls (length s.calls - 1) ≡ o → Falls (left s) (rest_done macros o s)
rest_falls macros None s is = tt
rest_falls macros (Some call) s is =
    argument_falls macros (record call { expanded = call.expanded ++ s.done ∷ [] }) call.left (record s { calls = take (length s.calls - 1) s.calls }) (left s) (omega (arith, sum_last s.calls call is))

by_rest : (macros : Table) (s : Scan) (rest : List Marked) → s.rest ≡ rest → Falls (left s) (step_by macros rest s)
by_rest macros s [] is = rest_falls macros _ s refl
by_rest macros s (t ∷ rest) is = at_token_falls t (macro_for macros t) (record s { rest = rest }) (left s) (omega (arith, ap length is))

pub step_falls : (macros : Table) (s : Scan) → Falls (left s) (step macros s)
unfolding step
step_falls macros s = by_rest macros s s.rest refl

pub falls : (macros : Table) (s t : Scan) → step macros s ≡ Goes t → left t < left s
falls macros s t is = let h : Falls (left s) (Goes t) = subst (Falls (left s)) is (step_falls macros s) in h

-- a scan comes to this in more steps than it leaves
abbrev pub ComesTo : Table → Scan → Result Expanded Refusal → Type 0
ComesTo macros s whole = (fuel : ℕ) × (left s < fuel) × (scanned macros fuel s ≡ whole)

one_step : (macros : Table) (n : ℕ) (s : Scan) → scanned macros (suc n) s ≡ goes_on (scanned macros n) (step macros s)
unfolding scanned
one_step macros n s = refl

pub goes : (macros : Table) (s t : Scan) (whole : Result Expanded Refusal) → ComesTo macros s whole → step macros s ≡ Goes t → ComesTo macros t whole
goes macros s t whole (zero, low, is) h = absurd (omega (arith, low))
goes macros s t whole (suc n, low, is) h =
    (n, omega (arith, low, falls macros s t h), sym (one_step macros n s ∙ ap (goes_on (scanned macros n)) h) ∙ is)

pub stops_by : (macros : Table) (s : Scan) (whole : Result Expanded Refusal) (e : Refusal) → ComesTo macros s whole → step macros s ≡ Stops e → whole ≡ Err e
stops_by macros s whole e (zero, low, is) h = absurd (omega (arith, low))
stops_by macros s whole e (suc n, low, is) h = sym is ∙ (one_step macros n s ∙ ap (goes_on (scanned macros n)) h)

pub ends_by : (macros : Table) (s : Scan) (whole : Result Expanded Refusal) (tokens : List Marked) (work : ℕ) → ComesTo macros s whole → step macros s ≡ Ends tokens work → whole ≡ Ok (record { tokens = tokens; work = work })
ends_by macros s whole tokens work (zero, low, is) h = absurd (omega (arith, low))
ends_by macros s whole tokens work (suc n, low, is) h = sym is ∙ (one_step macros n s ∙ ap (goes_on (scanned macros n)) h)

pub refused : (macros : Table) (s new : Scan) (whole : Result Expanded Refusal) (e : Refusal) → ComesTo macros s whole → StepsTo (step macros s) new (Err e) → Answers whole (Err e)
refused macros s new whole (Bad kind line) h is = stops_by macros s whole (Bad kind line) h is
refused macros s new whole (Lex kind line) h is = stops_by macros s whole (Lex kind line) h is
refused macros s new whole NoMemory h is = tt

-- before the first step
pub starts : (macros : Table) (tokens : List Token) (work : ℕ) (s : Scan) → s ≡ scan_of (map fresh tokens) work → ComesTo macros s (expanded_by_steps macros tokens work)
unfolding expanded_by_steps
starts macros tokens work s is =
    subst (λ t. ComesTo macros t (expanded_by_steps macros tokens work)) (sym is) (enough (map fresh tokens) work, omega arith, refl)
