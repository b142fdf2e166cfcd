-- Every token that comes out of a run is one, and there are no more than the work allows.
use Rattle.std.proofs.Common.{◌≡◌, refl, arith, length-append, length-drop, ℕ, zero, suc, ◌+◌, ◌-◌, ◌≤◌, ◌==◌, Bool, true, false, cond, nat_lt, ◌&&◌, bytes_eq, List, [], ◌∷◌, ◌++◌, length, map, drop, Option, Some, None, unwrap_or, Result, Ok, Err, All}
use Rattle.std.specs.FinSet as set
use Rattle.std.specs.Prelude.{slice_get, IfSome}
use Rattle.std.proofs.lemmas.Bool.{ltb-false}
use Rattle.std.proofs.lemmas.List.Elements.{All-nil, All-cons, All-head, All-tail, All-append, All-push, All-map, All-weaker, All-drop}
use Rattle.c_lexer.specs.declared.token.Token.{Token}
use Rattle.c_pre.specs.Formed.{IsFormed, IsFormedMacro, IsFormedEntry}
use Rattle.c_pre.specs.Directives.{is_name, is_sign}
use Rattle.c_pre.specs.Macros.{found_in}
use Rattle.c_pre.specs.Expansion.{Arguments, Scanning, most_work, enough, fresh, put_on, unhidden, macro_for, place_of, part_by, replaced, substituted, parameters_of, keeps_commas, is_separator, split_from, is_open, fits, kept, goes_on, arguments_scanned, object_hides, function_hides, called, at_macro, at_token, scanned, expanded}
use Rattle.c_pre.specs.After.{and_then}
use Rattle.c_pre.proofs.Left.{Conserves, split_conserves, whole}
use Rattle.c_pre.specs.Table.{Table, Numbers}
use Rattle.c_pre.specs.declared.macros.Defined.{Defined}
use Rattle.c_pre.specs.declared.marked.Marked.{Marked}
use Rattle.c_pre.specs.declared.calls.Split.{Split}
use Rattle.c_pre.specs.declared.scan.Expanded.{Expanded}
use Rattle.c_pre.specs.declared.answer.PreKind.TheVariants.{Work}
use Rattle.c_pre.specs.declared.answer.Refusal.{Refusal}
use Rattle.c_pre.specs.declared.answer.Refusal.TheVariants.{Bad}

abbrev M : Marked → Type 0
M m = IsFormed m.token

abbrev N : Defined → Type 0
N m = IsFormedMacro m.it

put_on_formed : (line : ℕ) (numbers : Numbers) (m : Marked) → 1 ≤ line → M m → M (put_on line numbers m)
put_on_formed line numbers m low h = ((h.0.0, low), h.1)

argument_formed : (expanded : List (List Marked)) (i : ℕ) → All (All M) expanded → All M (unwrap_or (slice_get expanded i) [])
argument_formed [] i h = All-nil M
argument_formed (x ∷ xs) zero h = All-head (All M) x xs h
argument_formed (x ∷ xs) (suc i) h = argument_formed xs i (All-tail (All M) x xs h)

part_formed : (expanded : List (List Marked)) (token : Token) (o : Option ℕ) → All (All M) expanded → IsFormed token → All M (part_by expanded token o)
part_formed expanded token None h l = All-cons M (fresh token) [] l (All-nil M)
part_formed expanded token (Some i) h l = argument_formed expanded i h

substituted_formed : (line : ℕ) (numbers : Numbers) (parameters : List (List ℕ)) (expanded : List (List Marked)) (tokens : List Token) → 1 ≤ line → All (All M) expanded → All IsFormed tokens → All M (substituted line numbers parameters expanded tokens)
substituted_formed line numbers parameters expanded [] low h l = All-nil M
substituted_formed line numbers parameters expanded (token ∷ tokens) low h l =
    let part = part_by expanded token (place_of parameters token.bytes) in
    All-append M (map (put_on line numbers) part) (substituted line numbers parameters expanded tokens)
    (All-map M (put_on line numbers) part (All-weaker M (λ m. M (put_on line numbers m)) (λ m k. put_on_formed line numbers m low k) part (part_formed expanded token (place_of parameters token.bytes) h (All-head IsFormed token tokens l))))
    (substituted_formed line numbers parameters expanded tokens low h (All-tail IsFormed token tokens l))

-- a macro that is found is formed
abbrev OnMacro : Option Defined → Type 0
OnMacro None = Unit {0}
OnMacro (Some m) = N m

pick_macro : (b : Bool) (x y : Option Defined) → OnMacro x → OnMacro y → OnMacro (cond b x y)
pick_macro true x y hx hy = hx
pick_macro false x y hx hy = hy

entry_formed : (o : Option Defined) → IfSome o (λ m. IsFormedMacro m.it) → OnMacro o
entry_formed None h = tt
entry_formed (Some m) h = h

found_formed : (name : List ℕ) (names : List (List ℕ × Option Defined)) → All IsFormedEntry names → OnMacro (found_in name names)
found_formed name [] h = tt
found_formed name (entry ∷ names) h =
    pick_macro (bytes_eq name entry.0) entry.1 (found_in name names) (entry_formed entry.1 (All-head IsFormedEntry entry names h)) (found_formed name names (All-tail IsFormedEntry entry names h))

unhidden_formed : (hidden : Numbers) (o : Option Defined) → OnMacro o → OnMacro (unhidden hidden o)
unhidden_formed hidden None h = tt
unhidden_formed hidden (Some m) h = pick_macro (set.contains hidden m.number) None (Some m) tt h

abbrev OnSplit : Option Split → Type 0
OnSplit None = Unit {0}
OnSplit (Some split) = All (All M) split.args × All M split.rest

pick : (a b c d : Bool) (v w x y z : Option Split) → OnSplit v → OnSplit w → OnSplit x → OnSplit y → OnSplit z → OnSplit (cond a v (cond b w (cond c x (cond d y z))))
pick true b c d v w x y z hv hw hx hy hz = hv
pick false true c d v w x y z hv hw hx hy hz = hw
pick false false true d v w x y z hv hw hx hy hz = hx
pick false false false true v w x y z hv hw hx hy hz = hy
pick false false false false v w x y z hv hw hx hy hz = hz

split_formed : (keeps : Option ℕ) (depth : ℕ) (args : List (List Marked)) (current ts : List Marked) → All (All M) args → All M current → All M ts → OnSplit (split_from keeps depth args current ts)
split_formed keeps depth args current [] a c h = tt
split_formed keeps depth args current (t ∷ rest) a c h =
    let longer = All-push M current t c (All-head M t rest h) in let more = All-tail M t rest h in let next = All-push (All M) args current a c in
    pick (is_sign 41 t.token && depth == 0) (is_sign 41 t.token) (is_sign 40 t.token) (depth == 0 && is_separator keeps (length args) t.token) _ _ _ _ _
    (next, more)
    (split_formed keeps (depth - 1) args (current ++ t ∷ []) rest a longer more)
    (split_formed keeps (depth + 1) args (current ++ t ∷ []) rest a longer more)
    (split_formed keeps 0 (args ++ current ∷ []) [] rest next (All-nil M) more)
    (split_formed keeps depth args (current ++ t ∷ []) rest a longer more)

-- a scan of some tokens, behind so much work, gives tokens, and no more than it was given and work put in
abbrev pub OnScan : ℕ → List Marked → Result Expanded Refusal → Type 0
OnScan work tokens (Ok e) =
    All M e.tokens × (length e.tokens + work ≤ length tokens + e.work) × (work ≤ e.work) × (work ≤ most_work → e.work ≤ most_work)
OnScan work tokens (Err e) = Unit {0}

abbrev OnArguments : ℕ → Result Arguments Refusal → Type 0
OnArguments work (Ok args) = All (All M) args.expanded × (work ≤ args.work) × (work ≤ most_work → args.work ≤ most_work)
OnArguments work (Err e) = Unit {0}

abbrev with_first : Expanded → Arguments → Result Arguments Refusal
with_first e es = Ok (record { expanded = e.tokens ∷ es.expanded; work = es.work })

kept_scan : (t : Marked) (work : ℕ) (rest : List Marked) (r : Result Expanded Refusal) → M t → OnScan work rest r → OnScan work (t ∷ rest) (kept t r)
kept_scan t work rest (Ok e) m h = (All-cons M t e.tokens m h.0, omega (arith, h.1), h.2, h.3)
kept_scan t work rest (Err e) m h = tt

pick_scan : (b : Bool) (work : ℕ) (tokens : List Marked) (x y : Result Expanded Refusal) → OnScan work tokens x → OnScan work tokens y → OnScan work tokens (cond b x y)
pick_scan true work tokens x y hx hy = hx
pick_scan false work tokens x y hx hy = hy

module _ (f : Scanning) (scans : (work : ℕ) (tokens : List Marked) → All M tokens → OnScan work tokens (f work tokens)) where
  put_more : (before after : ℕ) (tokens rest all : List Marked) (r : Result Expanded Refusal) → before ≤ after → after + 1 + length tokens ≤ most_work → length rest ≤ length all → OnScan (after + 1 + length tokens) (tokens ++ rest) r → OnScan before all r
  put_more before after tokens rest all (Err e) low most short h = tt
  put_more before after tokens rest all (Ok e) low most short h = (
    h.0,
    omega (arith, h.1, low, short, length-append tokens rest),
    omega (arith, h.2, low),
    λ k. h.3 most,
  )

  put_by : (b : Bool) (line before after : ℕ) (tokens rest all : List Marked) → nat_lt most_work (after + 1 + length tokens) ≡ b → before ≤ after → length rest ≤ length all → All M tokens → All M rest → OnScan before all (cond b (Err (Bad Work line)) (f (after + 1 + length tokens) (tokens ++ rest)))
  put_by true line before after tokens rest all is low short t h = tt
  put_by false line before after tokens rest all is low short t h =
      put_more before after tokens rest all (f (after + 1 + length tokens) (tokens ++ rest)) low (ltb-false most_work (after + 1 + length tokens) is) short
      (scans (after + 1 + length tokens) (tokens ++ rest) (All-append M tokens rest t h))

  put_scan : (line before after : ℕ) (tokens rest all : List Marked) → before ≤ after → length rest ≤ length all → All M tokens → All M rest → OnScan before all (goes_on f line after tokens rest)
  put_scan line before after tokens rest all low short t h =
      put_by (nat_lt most_work (after + 1 + length tokens)) line before after tokens rest all refl low short t h

  arguments_by : (work : ℕ) (arg : List Marked) (args : List (List Marked)) (r : Result Expanded Refusal) → OnScan work arg r → ((w : ℕ) → OnArguments w (arguments_scanned f w args)) → OnArguments work (and_then r (λ e. and_then (arguments_scanned f e.work args) (with_first e)))
  arguments_by work arg args (Err e) h rest = tt
  arguments_by work arg args (Ok e) h rest = behind work e (arguments_scanned f e.work args) h.0 h.2 h.3 (rest e.work)
    where
      behind : (work : ℕ) (e : Expanded) (q : Result Arguments Refusal) → All M e.tokens → work ≤ e.work → (work ≤ most_work → e.work ≤ most_work) → OnArguments e.work q → OnArguments work (and_then q (with_first e))
      behind work e (Err r) m low most h = tt
      behind work e (Ok es) m low most h = (All-cons (All M) e.tokens es.expanded m h.0, omega (arith, low, h.1), λ k. h.2 (most k))

  arguments_scan : (work : ℕ) (args : List (List Marked)) → All (All M) args → OnArguments work (arguments_scanned f work args)
  arguments_scan work [] h = (All-nil (All M), omega arith, λ k. k)
  arguments_scan work (arg ∷ args) h =
      arguments_by work arg args (f work arg) (scans work arg (All-head (All M) arg args h)) (λ w. arguments_scan w args (All-tail (All M) arg args h))

  applied_by : (t : Marked) (m : Defined) (split : Split) (work : ℕ) (all : List Marked) (r : Result Arguments Refusal) → M t → N m → OnArguments work r → length split.rest ≤ length all → All M split.rest → OnScan work all (and_then r (λ args. goes_on f t.token.line args.work (replaced t.token.line (function_hides t m.number split) args.expanded m.it) split.rest))
  applied_by t m split work all (Err e) mt nm a short h = tt
  applied_by t m split work all (Ok args) mt nm a short h =
      put_scan t.token.line work args.work _ split.rest all a.1 short
      (substituted_formed t.token.line (function_hides t m.number split) (parameters_of m.it.parameters) args.expanded m.it.replacement mt.0.1 a.0 nm) h

  called_scan : (t : Marked) (m : Defined) (parameters : List (List ℕ)) (o : Option Split) (work n : ℕ) (all : List Marked) → M t → N m → OnSplit o → Conserves n o → n ≤ length all → OnScan work all (called f work t m parameters o)
  called_scan t m parameters None work n all mt nm p c short = tt
  called_scan t m parameters (Some split) work n all mt nm p c short =
      pick_scan (fits m.it.variadic parameters split.args) work all _ _
      (applied_by t m split work all (arguments_scanned f work split.args) mt nm (arguments_scan work split.args p.0) (omega (arith, c, short)) p.1)
      tt

  at_macro_scan : (t : Marked) (m : Defined) (o : Option (List (List ℕ))) (work : ℕ) (rest : List Marked) → M t → N m → All M rest → OnScan work (t ∷ rest) (at_macro f work t rest m o)
  at_macro_scan t m None work rest mt nm h =
      put_scan t.token.line work work _ rest (t ∷ rest) (omega arith) (omega arith)
      (substituted_formed t.token.line (object_hides t m.number) (parameters_of m.it.parameters) [] m.it.replacement mt.0.1 (All-nil (All M)) nm) h
  at_macro_scan t m (Some parameters) work rest mt nm h =
      pick_scan (is_open rest) work (t ∷ rest) _ _
      (called_scan t m parameters (split_from (keeps_commas m.it.variadic parameters) 0 [] [] (drop 1 rest)) work (whole [] [] (drop 1 rest)) (t ∷ rest) mt nm
      (split_formed (keeps_commas m.it.variadic parameters) 0 [] [] (drop 1 rest) (All-nil (All M)) (All-nil M) (All-drop M 1 rest h))
      (split_conserves (keeps_commas m.it.variadic parameters) 0 [] [] (drop 1 rest)) (omega (arith, length-drop 1 rest)))
      (kept_scan t work rest (f work rest) mt (scans work rest h))

  at_token_scan : (t : Marked) (o : Option Defined) (work : ℕ) (rest : List Marked) → M t → OnMacro o → All M rest → OnScan work (t ∷ rest) (at_token f work t rest o)
  at_token_scan t None work rest mt nm h = kept_scan t work rest (f work rest) mt (scans work rest h)
  at_token_scan t (Some m) work rest mt nm h = at_macro_scan t m m.it.parameters work rest mt nm h

scanned_scan : (macros : Table) (n work : ℕ) (tokens : List Marked) → All IsFormedEntry macros.names → All M tokens → OnScan work tokens (scanned macros n work tokens)
unfolding scanned
scanned_scan macros zero work [] m h = (All-nil M, omega arith, omega arith, λ k. k)
scanned_scan macros zero work (t ∷ rest) m h = tt
scanned_scan macros (suc n) work [] m h = (All-nil M, omega arith, omega arith, λ k. k)
scanned_scan macros (suc n) work (t ∷ rest) m h =
    at_token_scan (scanned macros n) (λ w ts k. scanned_scan macros n w ts m k) t (macro_for macros t) work rest (All-head M t rest h)
    (pick_macro (is_name t.token) (unhidden t.hidden (found_in t.token.bytes macros.names)) None (unhidden_formed t.hidden (found_in t.token.bytes macros.names) (found_formed t.token.bytes macros.names m)) tt)
    (All-tail M t rest h)

pub expanded_scan : (macros : Table) (tokens : List Token) (work : ℕ) → All IsFormedEntry macros.names → All IsFormed tokens → OnScan work (map fresh tokens) (expanded macros tokens work)
unfolding expanded
expanded_scan macros tokens work n l =
    scanned_scan macros (enough (map fresh tokens) work) work (map fresh tokens) n (All-map M fresh tokens l)
