-- A scan comes to its end: no more tokens are looked at in turn than are enough for it.
use Rattle.std.proofs.Common.{◌≡◌, ℕ, zero, suc, ◌+◌, ◌-◌, ◌*◌, ◌<◌, ◌≤◌, Bool, true, false, cond, nat_lt, List, [], ◌∷◌, ◌++◌, length, map, drop, Option, Some, None, Result, Ok, Err, refl, arith, length-append, length-drop}
use Rattle.std.specs.List.{sum_by}
use Rattle.std.proofs.lemmas.Bool.{ltb-false}
use Rattle.std.proofs.lemmas.List.Sums.{sum_by-append}
use Rattle.c_lexer.specs.declared.token.Token.{Token}
use Rattle.c_pre.specs.After.{and_then}
use Rattle.c_pre.specs.Expansion.{Arguments, Scanning, most_work, enough, fresh, macro_for, replaced, keeps_commas, split_from, is_open, fits, kept, goes_on, arguments_scanned, object_hides, function_hides, called, at_macro, at_token, scanned, expanded}
use Rattle.c_pre.specs.declared.answer.PreKind.TheVariants as kind
use Rattle.c_pre.specs.declared.answer.Refusal.{Refusal}
use Rattle.c_pre.specs.declared.answer.Refusal.TheVariants.{Bad, Lex, NoMemory}
use Rattle.c_pre.specs.declared.calls.Split.{Split}
use Rattle.c_pre.specs.Table.{Table}
use Rattle.c_pre.specs.declared.macros.Defined.{Defined}
use Rattle.c_pre.specs.declared.marked.Marked.{Marked}
use Rattle.c_pre.specs.declared.scan.Expanded.{Expanded}
use Rattle.c_pre.proofs.Left.{Conserves, split_conserves, whole}

-- a scan ends behind no less work, by its tokens or by a refusal
abbrev Ends : ℕ → Result Expanded Refusal → Type 0
Ends work (Ok e) = work ≤ e.work
Ends work (Err (Bad kind line)) = Unit {0}
Ends work (Err (Lex kind line)) = Unit {0}
Ends work (Err NoMemory) = ⊥

abbrev EndsAll : ℕ → Result Arguments Refusal → Type 0
EndsAll work (Ok args) = work ≤ args.work
EndsAll work (Err (Bad kind line)) = Unit {0}
EndsAll work (Err (Lex kind line)) = Unit {0}
EndsAll work (Err NoMemory) = ⊥

-- what a scan of so many tokens has before it
abbrev before : ℕ → ℕ → ℕ
before work count = 3 * (most_work + 1 - work) + 3 * count

kept_ends : (t : Marked) (work : ℕ) (r : Result Expanded Refusal) → Ends work r → Ends work (kept t r)
kept_ends t work (Ok e) h = h
kept_ends t work (Err (Bad kind line)) h = tt
kept_ends t work (Err (Lex kind line)) h = tt
kept_ends t work (Err NoMemory) h = absurd h

pick_ends : (b : Bool) (work : ℕ) (x y : Result Expanded Refusal) → Ends work x → Ends work y → Ends work (cond b x y)
pick_ends true work x y hx hy = hx
pick_ends false work x y hx hy = hy

later : (low work : ℕ) (r : Result Expanded Refusal) → low ≤ work → Ends work r → Ends low r
later low work (Ok e) less h = omega (arith, less, h)
later low work (Err (Bad kind line)) less h = tt
later low work (Err (Lex kind line)) less h = tt
later low work (Err NoMemory) less h = absurd h

module _ (f : Scanning) (n : ℕ) (scans : (work : ℕ) (tokens : List Marked) → before work (length tokens) < n → Ends work (f work tokens)) where
  put_by : (b : Bool) (line low work : ℕ) (tokens rest : List Marked) → nat_lt most_work (work + 1 + length tokens) ≡ b → low ≤ work → before work (length rest) < n → Ends low (cond b (Err (Bad kind.Work line)) (f (work + 1 + length tokens) (tokens ++ rest)))
  put_by true line low work tokens rest is less room = tt
  put_by false line low work tokens rest is less room =
      later low (work + 1 + length tokens) (f (work + 1 + length tokens) (tokens ++ rest)) (omega (arith, less))
      (scans (work + 1 + length tokens) (tokens ++ rest) (omega (arith, room, ltb-false most_work (work + 1 + length tokens) is, length-append tokens rest)))

  put_ends : (line low work : ℕ) (tokens rest : List Marked) → low ≤ work → before work (length rest) < n → Ends low (goes_on f line work tokens rest)
  put_ends line low work tokens rest less room =
      put_by (nat_lt most_work (work + 1 + length tokens)) line low work tokens rest refl less room

  abbrev with_first : Expanded → Arguments → Result Arguments Refusal
  with_first e es = Ok (record { expanded = e.tokens ∷ es.expanded; work = es.work })

  first_ends : (low work : ℕ) (e : Expanded) (q : Result Arguments Refusal) → low ≤ work → EndsAll work q → EndsAll low (and_then q (with_first e))
  first_ends low work e (Ok es) less h = omega (arith, less, h)
  first_ends low work e (Err (Bad kind line)) less h = tt
  first_ends low work e (Err (Lex kind line)) less h = tt
  first_ends low work e (Err NoMemory) less h = absurd h

  arguments_by : (work : ℕ) (args : List (List Marked)) (r : Result Expanded Refusal) → Ends work r → ((w : ℕ) → work ≤ w → EndsAll w (arguments_scanned f w args)) → EndsAll work (and_then r (λ e. and_then (arguments_scanned f e.work args) (with_first e)))
  arguments_by work args (Ok e) h rest = first_ends work e.work e (arguments_scanned f e.work args) h (rest e.work h)
  arguments_by work args (Err (Bad kind line)) h rest = tt
  arguments_by work args (Err (Lex kind line)) h rest = tt
  arguments_by work args (Err NoMemory) h rest = absurd h

  sum_cons : (arg : List Marked) (args : List (List Marked)) → sum_by length (arg ∷ args) ≡ length arg + sum_by length args
  sum_cons arg args = omega (arith, sum_by-append length (arg ∷ []) args)

  arguments_end : (work : ℕ) (args : List (List Marked)) → before work (sum_by length args) < n → EndsAll work (arguments_scanned f work args)
  arguments_end work [] room = omega arith
  arguments_end work (arg ∷ args) room =
      arguments_by work args (f work arg) (scans work arg (omega (arith, room, sum_cons arg args)))
      (λ w less. arguments_end w args (omega (arith, room, less, sum_cons arg args)))

  applied_by : (t : Marked) (m : Defined) (split : Split) (work : ℕ) (r : Result Arguments Refusal) → EndsAll work r → before work (length split.rest) < n → Ends work (and_then r (λ args. goes_on f t.token.line args.work (replaced t.token.line (function_hides t m.number split) args.expanded m.it) split.rest))
  applied_by t m split work (Ok args) h room =
      put_ends t.token.line work args.work (replaced t.token.line (function_hides t m.number split) args.expanded m.it) split.rest h (omega (arith, room, h))
  applied_by t m split work (Err (Bad kind line)) h room = tt
  applied_by t m split work (Err (Lex kind line)) h room = tt
  applied_by t m split work (Err NoMemory) h room = absurd h

  called_ends : (t : Marked) (m : Defined) (parameters : List (List ℕ)) (o : Option Split) (work k : ℕ) → Conserves k o → before work k < n → Ends work (called f work t m parameters o)
  called_ends t m parameters None work k c room = tt
  called_ends t m parameters (Some split) work k c room =
      pick_ends (fits m.it.variadic parameters split.args) work _ _
      (applied_by t m split work (arguments_scanned f work split.args) (arguments_end work split.args (omega (arith, c, room))) (omega (arith, c, room)))
      tt

  at_macro_ends : (t : Marked) (m : Defined) (o : Option (List (List ℕ))) (work : ℕ) (rest : List Marked) → before work (length rest) < n → Ends work (at_macro f work t rest m o)
  at_macro_ends t m None work rest room =
      put_ends t.token.line work work (replaced t.token.line (object_hides t m.number) [] m.it) rest (omega arith) room
  at_macro_ends t m (Some parameters) work rest room =
      pick_ends (is_open rest) work _ _
      (called_ends t m parameters (split_from (keeps_commas m.it.variadic parameters) 0 [] [] (drop 1 rest)) work (whole [] [] (drop 1 rest)) (split_conserves (keeps_commas m.it.variadic parameters) 0 [] [] (drop 1 rest)) (omega (arith, room, length-drop 1 rest)))
      (kept_ends t work (f work rest) (scans work rest room))

  at_token_ends : (t : Marked) (o : Option Defined) (work : ℕ) (rest : List Marked) → before work (length rest) < n → Ends work (at_token f work t rest o)
  at_token_ends t None work rest room = kept_ends t work (f work rest) (scans work rest room)
  at_token_ends t (Some m) work rest room = at_macro_ends t m m.it.parameters work rest room

scanned_ends : (macros : Table) (n work : ℕ) (tokens : List Marked) → before work (length tokens) < n → Ends work (scanned macros n work tokens)
unfolding scanned
scanned_ends macros zero work [] room = omega arith
scanned_ends macros zero work (t ∷ rest) room = absurd (omega (arith, room))
scanned_ends macros (suc n) work [] room = omega arith
scanned_ends macros (suc n) work (t ∷ rest) room =
    at_token_ends (scanned macros n) n (λ w ts less. scanned_ends macros n w ts less) t (macro_for macros t) work rest (omega (arith, room))

no_want : (work : ℕ) (r : Result Expanded Refusal) → Ends work r → r ≡ Err NoMemory → ⊥
no_want work (Ok e) h is = cc
no_want work (Err (Bad kind line)) h is = cc
no_want work (Err (Lex kind line)) h is = cc
no_want work (Err NoMemory) h is = h

pub expanded_ends : (macros : Table) (tokens : List Token) (work : ℕ) → expanded macros tokens work ≡ Err NoMemory → ⊥
unfolding expanded
expanded_ends macros tokens work =
    no_want work (expanded macros tokens work) (scanned_ends macros (enough (map fresh tokens) work) work (map fresh tokens) (omega arith))
