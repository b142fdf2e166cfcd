-- What the steps of the code come to is what the rule of replacement says.
use Rattle.std.proofs.Common.{◌≡◌, ◌∙◌, ℕ, zero, suc, ◌+◌, ◌-◌, ◌==◌, ◌||◌, ◌&&◌, Bool, true, false, cond, nat_lt, List, [], ◌∷◌, ◌++◌, length, map, take, drop, Option, Some, None, Result, Ok, Err, refl, sym, ap, subst, arith, append_assoc, append-nil}
use Rattle.std.specs.FinSet as set
use Rattle.std.specs.Prelude.{slice_get}
use Rattle.std.proofs.lemmas.Bool.{ne_eqb}
use Rattle.c_lexer.specs.declared.token.Token.{Token}
use Rattle.c_pre.specs.After.{and_then}
use Rattle.c_pre.specs.Answering.{Answers}
use Rattle.c_pre.specs.Directives.{is_name}
use Rattle.c_pre.specs.Expansion.{Arguments, Scanning, most_work, enough, fresh, unhidden, macro_for, replaced, keeps_commas, split_from, is_open, fits, kept, goes_on, arguments_scanned, object_hides, function_hides, applied, called, at_macro, at_token, scanned, expanded}
use Rattle.c_pre.specs.Macros.{found}
use Rattle.c_pre.specs.Steps.{Next, Goes, Ends, Stops, first_of, behind_first, begun, ended, argument_done, rest_done, step_by, step, scan_of, expanded_by_steps}
use Rattle.c_pre.specs.Steps as steps
use Rattle.c_pre.specs.declared.answer.PreKind.TheVariants as kind
use Rattle.c_pre.specs.declared.answer.Refusal.{Refusal}
use Rattle.c_pre.specs.declared.answer.Refusal.TheVariants.{Bad, Lex, NoMemory}
use Rattle.c_pre.specs.declared.calls.Call.{Call}
use Rattle.c_pre.specs.declared.calls.Split.{Split}
use Rattle.c_pre.specs.Table.{Table, Numbers}
use Rattle.c_pre.specs.declared.macros.Defined.{Defined}
use Rattle.c_pre.specs.declared.marked.Marked.{Marked}
use Rattle.c_pre.specs.declared.scan.Expanded.{Expanded}
use Rattle.c_pre.specs.declared.scan.Scan.{Scan}

-- Answers of which the first is the second, or want of memory

-- three of them
pub through : {S : Type 0} (x y z : Result S Refusal) → Answers z y → Answers y x → Answers z x
through (Ok s) y z zy yx = subst (Answers z) yx zy
through (Err (Bad kind line)) y z zy yx = subst (Answers z) yx zy
through (Err (Lex kind line)) y z zy yx = subst (Answers z) yx zy
through (Err NoMemory) y z zy yx = tt

same : {S : Type 0} (x y : Result S Refusal) → y ≡ x → Answers y x
same (Ok s) y is = is
same (Err (Bad kind line)) y is = is
same (Err (Lex kind line)) y is = is
same (Err NoMemory) y is = tt

then_more : {S T : Type 0} (a b : Result S Refusal) (k l : S → Result T Refusal) → Answers b a → ((s : S) → Answers (l s) (k s)) → Answers (and_then b l) (and_then a k)
then_more (Ok s) b k l ab kl = subst (λ r. Answers (and_then r l) (k s)) (sym ab) (kl s)
then_more (Err (Bad kind line)) b k l ab kl = ap (λ r. and_then r l) ab
then_more (Err (Lex kind line)) b k l ab kl = ap (λ r. and_then r l) ab
then_more (Err NoMemory) b k l ab kl = tt

pick_more : {S : Type 0} (b : Bool) (x y x' y' : Result S Refusal) → Answers x' x → Answers y' y → Answers (cond b x' y') (cond b x y)
pick_more true x y x' y' hx hy = hx
pick_more false x y x' y' hx hy = hy

kept_more : (t : Marked) (a b : Result Expanded Refusal) → Answers b a → Answers (kept t b) (kept t a)
kept_more t (Ok e) b is = ap (kept t) is
kept_more t (Err (Bad kind line)) b is = ap (kept t) is
kept_more t (Err (Lex kind line)) b is = ap (kept t) is
kept_more t (Err NoMemory) b is = tt

-- what one scan answers, the other answers too
abbrev More : Scanning → Scanning → Type 0
More f g = (work : ℕ) (tokens : List Marked) → Answers (g work tokens) (f work tokens)

goes_more : (f g : Scanning) → More f g → (line work : ℕ) (replacement rest : List Marked) → Answers (goes_on g line work replacement rest) (goes_on f line work replacement rest)
goes_more f g more line work replacement rest =
    pick_more (nat_lt most_work (work + 1 + length replacement)) _ _ _ _ refl (more (work + 1 + length replacement) (replacement ++ rest))

arguments_more : (f g : Scanning) → More f g → (work : ℕ) (args : List (List Marked)) → Answers (arguments_scanned g work args) (arguments_scanned f work args)
arguments_more f g more work [] = refl
arguments_more f g more work (arg ∷ args) =
    then_more (f work arg) (g work arg) _ _ (more work arg) (λ e. then_more (arguments_scanned f e.work args) (arguments_scanned g e.work args) _ _ (arguments_more f g more e.work args) (λ es. refl))

applied_more : (f g : Scanning) → More f g → (work : ℕ) (t : Marked) (m : Defined) (split : Split) → Answers (applied g work t m split) (applied f work t m split)
applied_more f g more work t m split =
    then_more (arguments_scanned f work split.args) (arguments_scanned g work split.args) _ _ (arguments_more f g more work split.args) (λ args. goes_more f g more t.token.line args.work (replaced t.token.line (function_hides t m.number split) args.expanded m.it) split.rest)

called_more : (f g : Scanning) → More f g → (work : ℕ) (t : Marked) (m : Defined) (parameters : List (List ℕ)) (o : Option Split) → Answers (called g work t m parameters o) (called f work t m parameters o)
called_more f g more work t m parameters None = refl
called_more f g more work t m parameters (Some split) =
    pick_more (fits m.it.variadic parameters split.args) _ _ _ _ (applied_more f g more work t m split) refl

at_macro_more : (f g : Scanning) → More f g → (work : ℕ) (t : Marked) (rest : List Marked) (m : Defined) (o : Option (List (List ℕ))) → Answers (at_macro g work t rest m o) (at_macro f work t rest m o)
at_macro_more f g more work t rest m None = goes_more f g more t.token.line work (replaced t.token.line (object_hides t m.number) [] m.it) rest
at_macro_more f g more work t rest m (Some parameters) =
    pick_more (is_open rest) _ _ _ _ (called_more f g more work t m parameters (split_from (keeps_commas m.it.variadic parameters) 0 [] [] (drop 1 rest))) (kept_more t (f work rest) (g work rest) (more work rest))

at_token_more : (f g : Scanning) → More f g → (work : ℕ) (t : Marked) (rest : List Marked) (o : Option Defined) → Answers (at_token g work t rest o) (at_token f work t rest o)
at_token_more f g more work t rest None = kept_more t (f work rest) (g work rest) (more work rest)
at_token_more f g more work t rest (Some m) = at_macro_more f g more work t rest m m.it.parameters

-- a scan that may look at one token more
scanned_more : (macros : Table) (n work : ℕ) (tokens : List Marked) → Answers (scanned macros (suc n) work tokens) (scanned macros n work tokens)
unfolding scanned
scanned_more macros zero work [] = refl
scanned_more macros zero work (t ∷ rest) = tt
scanned_more macros (suc n) work [] = refl
scanned_more macros (suc n) work (t ∷ rest) =
    at_token_more (scanned macros n) (scanned macros (suc n)) (λ w ts. scanned_more macros n w ts) work t rest (macro_for macros t)

-- What comes behind some tokens that are done

abbrev Behind : Type 0
Behind = List Marked → ℕ → Result Expanded Refusal

abbrev all_done : Behind
all_done done work = Ok (record { tokens = done; work = work })

-- a call whose arguments are expanded
abbrev call_ended : Scanning → Call → Option Defined → List (List Marked) → ℕ → Result Expanded Refusal
call_ended f call None expanded work = Err NoMemory
call_ended f call (Some m) expanded work =
    goes_on f call.line work (replaced call.line call.hidden expanded m.it) call.rest

-- behind a call, what was done before it and the tokens that it gives
abbrev before_call : Behind → Call → Expanded → Result Expanded Refusal
before_call k call e = k (call.done ++ e.tokens) e.work

-- behind an argument of a call, and those that are left of it
abbrev behind_call : Table → Scanning → Call → Behind → Behind
behind_call macros f call k done work =
    and_then (arguments_scanned f work call.left) (λ args.
    and_then (call_ended f call (found call.name macros) (call.expanded ++ done ∷ args.expanded) args.work) (before_call k call))

-- behind an argument of the last of some calls
abbrev behind_calls : Table → Scanning → List Call → Behind → Behind
behind_calls macros f [] k = k
behind_calls macros f (call ∷ calls) k = behind_calls macros f calls (behind_call macros f call k)

-- the answer of the tokens that are left, and all that waits for it
abbrev resumed_by : Table → Scanning → List Marked → List Call → Result Expanded Refusal → Result Expanded Refusal
resumed_by macros f done calls r = and_then r (λ e. behind_calls macros f calls all_done (done ++ e.tokens) e.work)

abbrev resumed : Table → Scanning → Scan → Result Expanded Refusal
resumed macros f s = resumed_by macros f s.done s.calls (f s.work s.rest)

call_ended_more : (f g : Scanning) → More f g → (call : Call) (o : Option Defined) (expanded : List (List Marked)) (work : ℕ) → Answers (call_ended g call o expanded work) (call_ended f call o expanded work)
call_ended_more f g more call None expanded work = tt
call_ended_more f g more call (Some m) expanded work =
    goes_more f g more call.line work (replaced call.line call.hidden expanded m.it) call.rest

behind_call_more : (macros : Table) (f g : Scanning) → More f g → (call : Call) (k l : Behind) → ((done : List Marked) (work : ℕ) → Answers (l done work) (k done work)) → (done : List Marked) (work : ℕ) → Answers (behind_call macros g call l done work) (behind_call macros f call k done work)
behind_call_more macros f g more call k l kl done work =
    then_more (arguments_scanned f work call.left) (arguments_scanned g work call.left) _ _ (arguments_more f g more work call.left)
    (λ args. then_more (call_ended f call (found call.name macros) (call.expanded ++ done ∷ args.expanded) args.work) (call_ended g call (found call.name macros) (call.expanded ++ done ∷ args.expanded) args.work) _ _
    (call_ended_more f g more call (found call.name macros) (call.expanded ++ done ∷ args.expanded) args.work) (λ e. kl (call.done ++ e.tokens) e.work))

behind_calls_more : (macros : Table) (f g : Scanning) → More f g → (calls : List Call) (k l : Behind) → ((done : List Marked) (work : ℕ) → Answers (l done work) (k done work)) → (done : List Marked) (work : ℕ) → Answers (behind_calls macros g calls l done work) (behind_calls macros f calls k done work)
behind_calls_more macros f g more [] k l kl done work = kl done work
behind_calls_more macros f g more (call ∷ calls) k l kl done work =
    behind_calls_more macros f g more calls (behind_call macros f call k) (behind_call macros g call l) (λ d w. behind_call_more macros f g more call k l kl d w) done work

-- one call more, inside the others
behind_push : (macros : Table) (f : Scanning) (calls : List Call) (call : Call) (k : Behind) → behind_calls macros f (calls ++ call ∷ []) k ≡ behind_call macros f call (behind_calls macros f calls k)
behind_push macros f [] call k = refl
behind_push macros f (c ∷ calls) call k = behind_push macros f calls call (behind_call macros f c k)

-- an argument before others that are expanded
abbrev with_first : Expanded → Arguments → Result Arguments Refusal
with_first e es = Ok (record { expanded = e.tokens ∷ es.expanded; work = es.work })

abbrev with_rest : Scanning → List (List Marked) → Expanded → Result Arguments Refusal
with_rest f args e = and_then (arguments_scanned f e.work args) (with_first e)

-- The innermost call is the last

last_at : (calls : List Call) (i : ℕ) (call : Call) → suc i ≡ length calls → slice_get calls i ≡ Some call → calls ≡ take i calls ++ call ∷ []
last_at [] i call long is = absurd (omega (arith, long))
last_at (c ∷ []) zero call long is = let e : c ≡ call = cc in ap (λ x. x ∷ []) e
last_at (c ∷ d ∷ calls) zero call long is = absurd (omega (arith, long))
last_at (c ∷ calls) (suc i) call long is = ap (λ l. c ∷ l) (last_at calls i call (omega (arith, long)) is)

last_call : (calls : List Call) (call : Call) → slice_get calls (length calls - 1) ≡ Some call → calls ≡ take (length calls - 1) calls ++ call ∷ []
last_call [] call is = cc
last_call (c ∷ calls) call is = last_at (c ∷ calls) (length (c ∷ calls) - 1) call (omega arith) is

is_last : (calls : List Call) (i : ℕ) → suc i ≡ length calls → slice_get calls i ≡ None → ⊥
is_last [] i long is = omega (arith, long)
is_last (c ∷ calls) zero long is = cc
is_last (c ∷ calls) (suc i) long is = is_last calls i (omega (arith, long)) is

no_call : (calls : List Call) → slice_get calls (length calls - 1) ≡ None → calls ≡ []
no_call [] is = refl
no_call (c ∷ calls) is = absurd (is_last (c ∷ calls) (length (c ∷ calls) - 1) (omega arith) is)

-- A step that goes on keeps what the whole comes to

abbrev OnNext : Table → Scanning → Result Expanded Refusal → Next → Type 0
OnNext macros f whole (Goes t) = whole ≡ resumed macros f t
OnNext macros f whole (Ends tokens work) = whole ≡ Ok (record { tokens = tokens; work = work })
OnNext macros f whole (Stops e) = Answers whole (Err e)

no_match : false ≡ true → ⊥
no_match is = cc

-- no argument at all is never enough
no_fit : (variadic : Bool) (count : ℕ) → (suc count == 0 || variadic && nat_lt 0 0 && count == 0) ≡ false
no_fit true count = ap (λ b. b || true && nat_lt 0 0 && count == 0) (ne_eqb (suc count) 0 (λ e. omega (arith, e)))
no_fit false count = ap (λ b. b || false && nat_lt 0 0 && count == 0) (ne_eqb (suc count) 0 (λ e. omega (arith, e)))

module _ (macros : Table) (f : Scanning) where
  -- a token is done
  kept_then : (t : Marked) (done : List Marked) (calls : List Call) (r : Result Expanded Refusal) → resumed_by macros f done calls (kept t r) ≡ resumed_by macros f (done ++ t ∷ []) calls r
  kept_then t done calls (Ok e) = ap (λ ts. behind_calls macros f calls all_done ts e.work) (sym (append_assoc done (t ∷ []) e.tokens))
  kept_then t done calls (Err e) = refl

  -- a replacement is put in
  put_by : (b : Bool) (line work : ℕ) (tokens rest done : List Marked) (calls : List Call) → OnNext macros f (resumed_by macros f done calls (cond b (Err (Bad kind.Work line)) (f (work + 1 + length tokens) (tokens ++ rest)))) (cond b (Stops (Bad kind.Work line)) (Goes (record { done = done; rest = tokens ++ rest; calls = calls; work = work + 1 + length tokens })))
  put_by true line work tokens rest done calls = refl
  put_by false line work tokens rest done calls = refl

  put_is : (line : ℕ) (tokens : List Marked) (s : Scan) → OnNext macros f (resumed_by macros f s.done s.calls (goes_on f line s.work tokens s.rest)) (steps.put_in line tokens s)
  put_is line tokens s = put_by (nat_lt most_work (s.work + 1 + length tokens)) line s.work tokens s.rest s.done s.calls

  -- behind an argument that was scanned, those that are left of a call are what waits
  behind_by : (call : Call) (k : Behind) (before : List (List Marked)) (e : Expanded) (q : Result Arguments Refusal) → and_then (and_then q (with_first e)) (λ us. and_then (call_ended f call (found call.name macros) (before ++ us.expanded) us.work) (before_call k call)) ≡ and_then q (λ es. and_then (call_ended f call (found call.name macros) (before ++ e.tokens ∷ es.expanded) es.work) (before_call k call))
  behind_by call k before e (Ok es) = refl
  behind_by call k before e (Err r) = refl

  -- an argument of a call is scanned, and the call waits with those behind it
  begins_by : (call : Call) (calls : List Call) (before args : List (List Marked)) (r : Result Expanded Refusal) → and_then (and_then r (with_rest f args)) (λ us. and_then (call_ended f call (found call.name macros) (before ++ us.expanded) us.work) (before_call (behind_calls macros f calls all_done) call)) ≡ resumed_by macros f [] (calls ++ record call { expanded = before; left = args } ∷ []) r
  begins_by call calls before args (Err e) = refl
  begins_by call calls before args (Ok e) =
      behind_by call (behind_calls macros f calls all_done) before e (arguments_scanned f e.work args)
      ∙ sym (ap (λ (k : Behind). k e.tokens e.work) (behind_push macros f calls (record call { expanded = before; left = args }) all_done))

  -- a call whose arguments are expanded is replaced by its macro
  call_at : (call : Call) (m : Defined) (k : Behind) (x : Result Arguments Refusal) → found call.name macros ≡ Some m → and_then (and_then x (λ us. goes_on f call.line us.work (replaced call.line call.hidden us.expanded m.it) call.rest)) (before_call k call) ≡ and_then x (λ us. and_then (call_ended f call (found call.name macros) us.expanded us.work) (before_call k call))
  call_at call m k (Err e) is = refl
  call_at call m k (Ok us) is = ap (λ o. and_then (call_ended f call o us.expanded us.work) (before_call k call)) (sym is)

  -- a call begins
  begun_is : (t : Marked) (m : Defined) (parameters : List (List ℕ)) (args : List (List Marked)) (hidden : Numbers) (rest : List Marked) (s : Scan) → fits m.it.variadic parameters args ≡ true → found t.token.bytes macros ≡ Some m → resumed_by macros f s.done s.calls (applied f s.work t m (record { args = args; hidden = hidden; rest = rest })) ≡ resumed macros f (begun t (function_hides t m.number (record { args = args; hidden = hidden; rest = rest })) (record { args = args; hidden = hidden; rest = rest }) s)
  begun_is t m [] [] hidden rest s fit is = absurd (no_match fit)
  begun_is t m (name ∷ names) [] hidden rest s fit is =
      absurd (no_match (sym (no_fit m.it.variadic (length names)) ∙ fit))
  begun_is t m parameters (arg ∷ args) hidden rest s fit is =
      let split : Split = record { args = arg ∷ args; hidden = hidden; rest = rest } in
      let call : Call = record { name = t.token.bytes; line = t.token.line; hidden = function_hides t m.number split; expanded = []; left = args; done = s.done; rest = rest } in
      call_at call m (behind_calls macros f s.calls all_done) (and_then (f s.work arg) (with_rest f args)) is
      ∙ begins_by call s.calls [] args (f s.work arg)

  called_by : (b : Bool) (t : Marked) (m : Defined) (parameters : List (List ℕ)) (split : Split) (s : Scan) → fits m.it.variadic parameters split.args ≡ b → found t.token.bytes macros ≡ Some m → OnNext macros f (resumed_by macros f s.done s.calls (cond b (applied f s.work t m split) (Err (Bad kind.Arguments t.token.line)))) (cond b (Goes (begun t (function_hides t m.number split) split s)) (Stops (Bad kind.Arguments t.token.line)))
  called_by true t m parameters split s fit is = begun_is t m parameters split.args split.hidden split.rest s fit is
  called_by false t m parameters split s fit is = refl

  called_is : (t : Marked) (m : Defined) (parameters : List (List ℕ)) (o : Option Split) (s : Scan) → found t.token.bytes macros ≡ Some m → OnNext macros f (resumed_by macros f s.done s.calls (called f s.work t m parameters o)) (steps.called t m parameters o s)
  called_is t m parameters None s is = refl
  called_is t m parameters (Some split) s is = called_by (fits m.it.variadic parameters split.args) t m parameters split s refl is

  open_by : (b : Bool) (t : Marked) (m : Defined) (parameters : List (List ℕ)) (s : Scan) → found t.token.bytes macros ≡ Some m → OnNext macros f (resumed_by macros f s.done s.calls (cond b (called f s.work t m parameters (split_from (keeps_commas m.it.variadic parameters) 0 [] [] (drop 1 s.rest))) (kept t (f s.work s.rest)))) (cond b (steps.called t m parameters (split_from (keeps_commas m.it.variadic parameters) 0 [] [] (drop 1 s.rest)) s) (steps.kept t s))
  open_by true t m parameters s is = called_is t m parameters (split_from (keeps_commas m.it.variadic parameters) 0 [] [] (drop 1 s.rest)) s is
  open_by false t m parameters s is = kept_then t s.done s.calls (f s.work s.rest)

  at_macro_is : (t : Marked) (m : Defined) (o : Option (List (List ℕ))) (s : Scan) → found t.token.bytes macros ≡ Some m → OnNext macros f (resumed_by macros f s.done s.calls (at_macro f s.work t s.rest m o)) (steps.at_macro t m o s)
  at_macro_is t m None s is = put_is t.token.line (replaced t.token.line (object_hides t m.number) [] m.it) s
  at_macro_is t m (Some parameters) s is = open_by (is_open s.rest) t m parameters s is

  at_token_is : (t : Marked) (o : Option Defined) (s : Scan) → ((m : Defined) → o ≡ Some m → found t.token.bytes macros ≡ Some m) → OnNext macros f (resumed_by macros f s.done s.calls (at_token f s.work t s.rest o)) (steps.at_token t o s)
  at_token_is t None s is = kept_then t s.done s.calls (f s.work s.rest)
  at_token_is t (Some m) s is = at_macro_is t m m.it.parameters s (is m refl)

  -- behind the last argument of a call
  ended_is : (call : Call) (o : Option Defined) (s : Scan) → OnNext macros f (and_then (call_ended f call o call.expanded s.work) (before_call (behind_calls macros f s.calls all_done) call)) (ended call o s)
  ended_is call None s = tt
  ended_is call (Some m) s =
      put_is call.line (replaced call.line call.hidden call.expanded m.it) (record s { done = call.done; rest = call.rest })

  regrouped : (w : List (List Marked) → ℕ → Result Expanded Refusal) (xs : List (List Marked)) (x : List Marked) (r : Result Arguments Refusal) → and_then r (λ us. w (xs ++ x ∷ us.expanded) us.work) ≡ and_then r (λ us. w ((xs ++ x ∷ []) ++ us.expanded) us.work)
  regrouped w xs x (Ok us) = ap (λ l. w l us.work) (sym (append_assoc xs (x ∷ []) us.expanded))
  regrouped w xs x (Err e) = refl

  -- behind an argument of a call
  argument_is : (call : Call) (args : List (List Marked)) (s : Scan) → OnNext macros f (behind_call macros f (record call { left = args }) (behind_calls macros f s.calls all_done) s.done s.work) (argument_done macros (record call { expanded = call.expanded ++ s.done ∷ [] }) args s)
  argument_is call [] s = ended_is (record call { expanded = call.expanded ++ s.done ∷ [] }) (found call.name macros) s
  argument_is call (arg ∷ args) s =
      regrouped (λ l w. and_then (call_ended f call (found call.name macros) l w) (before_call (behind_calls macros f s.calls all_done) call)) call.expanded s.done (and_then (f s.work arg) (with_rest f args))
      ∙ begins_by call s.calls (call.expanded ++ s.done ∷ []) args (f s.work arg)

  on_same : (whole other : Result Expanded Refusal) (next : Next) → whole ≡ other → OnNext macros f other next → OnNext macros f whole next
  on_same whole other next is h = subst (λ w. OnNext macros f w next) (sym is) h

  rest_is : (o : Option Call) (s : Scan) → slice_get s.calls (length s.calls - 1) ≡ o → OnNext macros f (behind_calls macros f s.calls all_done (s.done ++ []) s.work) (rest_done macros o s)
  rest_is None s is =
      subst (λ cs. behind_calls macros f cs all_done (s.done ++ []) s.work ≡ Ok (record { tokens = s.done; work = s.work })) (sym (no_call s.calls is))
      (ap (λ ts. all_done ts s.work) (append-nil s.done))
  rest_is (Some call) s is =
      let before = take (length s.calls - 1) s.calls in
      on_same _ _ (rest_done macros (Some call) s)
      (ap (λ cs. behind_calls macros f cs all_done (s.done ++ []) s.work) (last_call s.calls call is)
      ∙ ap (λ (k : Behind). k (s.done ++ []) s.work) (behind_push macros f before call all_done)
      ∙ ap (λ ts. behind_call macros f call (behind_calls macros f before all_done) ts s.work) (append-nil s.done))
      (argument_is call call.left (record s { calls = before }))

-- a name that is replaced has its macro
unhidden_by : (b : Bool) (x m : Defined) → cond b None (Some x) ≡ Some m → Some x ≡ Some m
unhidden_by true x m is = cc
unhidden_by false x m is = is

unhidden_is : (hidden : Numbers) (o : Option Defined) (m : Defined) → unhidden hidden o ≡ Some m → o ≡ Some m
unhidden_is hidden None m is = is
unhidden_is hidden (Some x) m is = unhidden_by (set.contains hidden x.number) x m is

macro_found : (b : Bool) (hidden : Numbers) (x : Option Defined) (m : Defined) → cond b (unhidden hidden x) None ≡ Some m → x ≡ Some m
macro_found true hidden x m is = unhidden_is hidden x m is
macro_found false hidden x m is = cc

-- one step
by_rest : (macros : Table) (n : ℕ) (rest : List Marked) (s : Scan) → OnNext macros (scanned macros n) (resumed_by macros (scanned macros n) s.done s.calls (scanned macros (suc n) s.work rest)) (step_by macros rest s)
unfolding scanned
by_rest macros n [] s = rest_is macros (scanned macros n) (slice_get s.calls (length s.calls - 1)) s refl
by_rest macros n (t ∷ rest) s =
    at_token_is macros (scanned macros n) t (macro_for macros t) (record s { rest = rest })
    (λ m is. macro_found (is_name t.token) t.hidden (found t.token.bytes macros) m is)

-- a step, where one token more may be looked at
on_next : (macros : Table) (n : ℕ) (s : Scan) (next : Next) → OnNext macros (scanned macros n) (resumed_by macros (scanned macros n) s.done s.calls (scanned macros (suc n) s.work s.rest)) next → ((t : Scan) → Answers (resumed macros (scanned macros n) t) (steps.scanned macros n t)) → Answers (resumed macros (scanned macros (suc n)) s) (steps.goes_on (steps.scanned macros n) next)
on_next macros n s next is rest =
    let whole = resumed_by macros (scanned macros n) s.done s.calls (scanned macros (suc n) s.work s.rest) in
    let more : Answers (resumed macros (scanned macros (suc n)) s) whole =
    then_more (scanned macros (suc n) s.work s.rest) (scanned macros (suc n) s.work s.rest) _ _ (same (scanned macros (suc n) s.work s.rest) _ refl)
    (λ e. behind_calls_more macros (scanned macros n) (scanned macros (suc n)) (λ w ts. scanned_more macros n w ts) s.calls all_done all_done (λ d w. refl) (s.done ++ e.tokens) e.work) in
    through (steps.goes_on (steps.scanned macros n) next) whole (resumed macros (scanned macros (suc n)) s) more (comes macros n whole next is rest)
  where
    comes : (macros : Table) (n : ℕ) (whole : Result Expanded Refusal) (next : Next) → OnNext macros (scanned macros n) whole next → ((t : Scan) → Answers (resumed macros (scanned macros n) t) (steps.scanned macros n t)) → Answers whole (steps.goes_on (steps.scanned macros n) next)
    comes macros n whole (Goes t) is rest = subst (λ w. Answers w (steps.scanned macros n t)) (sym is) (rest t)
    comes macros n whole (Ends tokens work) is rest = is
    comes macros n whole (Stops e) is rest = is

scans : (macros : Table) (n : ℕ) (s : Scan) → Answers (resumed macros (scanned macros n) s) (steps.scanned macros n s)
unfolding steps.scanned step
scans macros zero s = tt
scans macros (suc n) s = on_next macros n s (step macros s) (by_rest macros n s.rest s) (λ t. scans macros n t)

-- nothing was done before a run
alone : (r : Result Expanded Refusal) → and_then r (λ e. all_done ([] ++ e.tokens) e.work) ≡ r
alone (Ok e) = refl
alone (Err e) = refl

steps_answer : (macros : Table) (tokens : List Token) (work : ℕ) → Answers (expanded macros tokens work) (expanded_by_steps macros tokens work)
unfolding expanded expanded_by_steps
steps_answer macros tokens work =
    let all = scanned macros (enough (map fresh tokens) work) work (map fresh tokens) in
    subst (λ r. Answers r (expanded_by_steps macros tokens work)) (alone all) (scans macros (enough (map fresh tokens) work) (scan_of (map fresh tokens) work))

pub steps_refused : (macros : Table) (tokens : List Token) (work : ℕ) (e : Refusal) → Answers (expanded_by_steps macros tokens work) (Err e) → Answers (expanded macros tokens work) (Err e)
steps_refused macros tokens work e is = through (Err e) (expanded_by_steps macros tokens work) (expanded macros tokens work) (steps_answer macros tokens work) is

pub steps_ended : (macros : Table) (tokens : List Token) (work : ℕ) (e : Expanded) → expanded_by_steps macros tokens work ≡ Ok e → expanded macros tokens work ≡ Ok e
steps_ended macros tokens work e is = through (Ok e) (expanded_by_steps macros tokens work) (expanded macros tokens work) (steps_answer macros tokens work) is
