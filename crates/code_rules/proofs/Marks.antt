-- Marks of live registers.
use Rattle.std.proofs.Common.{◌≡◌, ◌≢◌, ◌⊎◌, ◌<◌, ◌≤◌, ◌+◌, ◌&&◌, ◌||◌, ℕ, zero, suc, Bool, true, false, not, cond, List, [], ◌∷◌, ◌++◌, Option, Some, None, length, get_or, set, refl, sym, ap, ◌∙◌, subst, inl, inr, ⊎_elim, arith, count_by, replicate, take, drop}
use Rattle.std.specs.List.{All, Contains, list_any, slice_get}
use Rattle.std.specs.Option.{option_map_or}
use Rattle.std.proofs.lemmas.Bool.{cases_Bool, cases_eq, cases_lt}
use Rattle.std.proofs.lemmas.List.{append-nil, get_or-set_other, get_or_past, length-set}
use Rattle.std.proofs.lemmas.List.Elements.{All-cons, All-head, All-nil, All-tail}
use Rattle.std.proofs.lemmas.List.Folds.{list_any-append, list_any_at}
use Rattle.std.proofs.lemmas.List.Sums.{sum_by-set}
use Rattle.std.proofs.lemmas.Option.{slice_get_cases, slice_get_past}
use Rattle.core_tree.specs.declared.flow.Edges.{Edges}
use Rattle.core_tree.specs.Statements.{given_target, leads_to}
use Rattle.flat_code.specs.declared.instructions.Instr.{Instr}
use Rattle.flat_code.specs.declared.program.Code.{Code}
use Rattle.flat_code.specs.Lives.{IsLive, IsPath, edges_at, reads, reads_at, writes, writes_at}
use Rattle.flat_code.specs.Table.{edges}
use Rattle.code_rules.specs.Lively.{AreLive, AreMarked, Sweeps, Visits, is_wanted, leads_to_wanted, marked}

-- Tests on lists

contains_any : {X : Type 0} (p : X → Bool) (xs : List X) (x : X) → Contains xs x → p x ≡ true → list_any p xs ≡ true
contains_any p xs x there holds = list_any_at p xs there.0 x there.1 (ap p there.2 ∙ holds)

-- an element that passes
record Passes {X : Type 0} (p : X → Bool) (xs : List X) : Type 0 where
  item : X
  there : Contains xs item
  holds : p item ≡ true

passes_first : {X : Type 0} (p : X → Bool) (x : X) (xs : List X) → (list_any p xs ≡ true → Passes p xs) → (b : Bool) → p x ≡ b → (b || list_any p xs) ≡ true → Passes p (x ∷ xs)
passes_first p x xs rest true is any = record { item = x; there = (0, omega arith, refl); holds = is }
passes_first p x xs rest false is any =
    let one = rest any in
    record { item = one.item; there = (suc one.there.0, omega arith, one.there.2); holds = one.holds }

any_passes : {X : Type 0} (p : X → Bool) (xs : List X) → list_any p xs ≡ true → Passes p xs
any_passes p [] any = absurd (cc)
any_passes p (x ∷ xs) any = passes_first p x xs (any_passes p xs) (p x) refl any

-- What is wanted

past_code : (code : Code) (point : ℕ) → slice_get code.instrs point ≡ None → length code.instrs ≤ point
past_code code point none =
    ⊎_elim (λ (some : (i : Instr) × (point < length code.instrs) × (slice_get code.instrs point ≡ Some i) × (get_or code.instrs point i ≡ i)). absurd (cc (some.2, none)))
    (λ (past : (length code.instrs ≤ point) × (slice_get code.instrs point ≡ None)). past.0) (slice_get_cases code.instrs point).1

pub wanted_past : (code : Code) (marks : List Bool) (r point : ℕ) → slice_get code.instrs point ≡ None → length marks ≡ length code.instrs → is_wanted code marks r point ≡ false
wanted_past code marks r point none long =
    let past = past_code code point none in
    ap (λ (o : Option Instr). option_map_or (λ (i : Instr). reads i i.op r) o false || (not (option_map_or (λ (i : Instr). writes i i.op r) o false) && marked marks point)) none
    ∙ get_or_past marks point false (omega arith)

pub leads_nowhere : (code : Code) (marks : List Bool) (r point : ℕ) → slice_get code.instrs point ≡ None → leads_to_wanted code marks r point ≡ false
unfolding leads_to_wanted
leads_nowhere code marks r point none =
    ap (λ (o : Option Instr). list_any (is_wanted code marks r) (option_map_or (λ (i : Instr). edges i i.op point) o [])) none

pub leads_on : (code : Code) (marks : List Bool) (r point : ℕ) (i : Instr) (e : Edges) → slice_get code.instrs point ≡ Some i → edges i i.op point ≡ leads_to e point →
    leads_to_wanted code marks r point ≡ (list_any (is_wanted code marks r) (cond e.next ((point + 1) ∷ []) []) || list_any (is_wanted code marks r) (given_target e.target))
unfolding leads_to_wanted
leads_on code marks r point i e here is =
    ap (λ (o : Option Instr). list_any (is_wanted code marks r) (option_map_or (λ (i : Instr). edges i i.op point) o [])) here
    ∙ ap (list_any (is_wanted code marks r)) is
    ∙ list_any-append (is_wanted code marks r) (cond e.next ((point + 1) ∷ []) []) (given_target e.target)

-- Live registers

unread : (a b c : Bool) → a ≡ false → (a || (not b && c)) ≡ true → (b ≡ false) × (c ≡ true)
unread true b c is any = absurd (cc)
unread false true c is any = absurd (cc)
unread false false c is any = (refl, any)

live_through : (code : Code) (marks : List Bool) (r point next : ℕ) → AreLive code r marks → Contains (edges_at code point) next → is_wanted code marks r next ≡ true → IsLive code point r
live_through code marks r point next live there wanted =
    ⊎_elim
    (λ (read : reads_at code next r ≡ true). record { before = []; read = next; path = (there, tt); unwritten = All-nil (λ p. writes_at code p r ≡ false); is_read = read })
    (λ (other : reads_at code next r ≡ false).
    let behind = unread (reads_at code next r) (writes_at code next r) (marked marks next) other wanted in
    let rest = live next behind.1 in
    record {
      before = next ∷ rest.before;
      read = rest.read;
      path = (there, rest.path);
      unwritten = All-cons (λ p. writes_at code p r ≡ false) next rest.before behind.0 rest.unwritten;
      is_read = rest.is_read;
    })
    (cases_Bool (reads_at code next r))

pub leads_live : (code : Code) (marks : List Bool) (r point : ℕ) → AreLive code r marks → leads_to_wanted code marks r point ≡ true → IsLive code point r
unfolding leads_to_wanted
leads_live code marks r point live leads =
    let one = any_passes (is_wanted code marks r) (edges_at code point) leads in
    live_through code marks r point one.item live one.there one.holds

-- Steps

pub visits_none : (code : Code) (r point : ℕ) (marks : List Bool) → (leads_to_wanted code marks r point ≡ true → marked marks point ≡ true) → Visits code r point marks marks false
visits_none code r point marks was = record {
  long = refl;
  kept = λ _. refl;
  was = λ _. was;
  live = λ live. live;
  fewer = omega arith;
  less = λ more. absurd (cc);
}

pub visits_more : (code : Code) (r point : ℕ) (marks : List Bool) → point < length marks → marked marks point ≡ false → leads_to_wanted code marks r point ≡ true → Visits code r point marks (set marks point true) true
visits_more code r point marks inside unmarked leads =
    let one : cond {A = ℕ} (not (get_or marks point false)) 1 0 ≡ 1 = ap (λ b. cond {A = ℕ} (not b) 1 0) unmarked in
    let sums : count_by not (set marks point true) + 1 ≡ count_by not marks + 0 =
    ap (λ n. count_by not (set marks point true) + n) (sym one) ∙ sum_by-set (λ (b : Bool). cond {A = ℕ} (not b) 1 0) marks point true false inside in
    record {
      long = length-set marks point true;
      kept = λ more. absurd (cc);
      was = λ more. absurd (cc);
      live = λ live p is.
          ⊎_elim
          (λ (same : p ≡ point). subst (λ q. IsLive code q r) (sym same) (leads_live code marks r point live leads))
          (λ (other : p ≢ point). live p (sym (get_or-set_other marks point p true false other) ∙ is))
          (cases_eq p point);
      fewer = omega arith;
      less = λ _. omega arith;
    }

pub sweeps_none : (code : Code) (r : ℕ) (marks : List Bool) → Sweeps code r (length marks) marks marks false
sweeps_none code r marks = record {
  long = refl;
  kept = λ _. refl;
  was = λ _ p first inside leads. absurd (omega arith);
  live = λ live. live;
  fewer = omega arith;
  less = λ more. absurd (cc);
}

either : (a b : Bool) → (a || b) ≡ false → (a ≡ false) × (b ≡ false)
either true b is = absurd (cc)
either false b is = (refl, is)

one_is : (a b : Bool) → (a || b) ≡ true → (a ≡ true) ⊎ (b ≡ true)
one_is true b is = inl refl
one_is false b is = inr is

pub sweeps_more : (code : Code) (r point : ℕ) (old middle new : List Bool) (before more : Bool) → Sweeps code r (point + 1) old middle before → Visits code r point middle new more → Sweeps code r point old new (before || more)
sweeps_more code r point old middle new before more sweeps visits = record {
  long = visits.long ∙ sweeps.long;
  kept = λ none. let both = either before more none in visits.kept both.1 ∙ sweeps.kept both.0;
  was = λ none p first inside leads.
      let both = either before more none in
      let same = sweeps.kept both.0 in
      ⊎_elim
      (λ (here : p ≡ point).
      subst (λ (m : List Bool). marked m p ≡ true) same
      (subst (λ q. marked middle q ≡ true) (sym here)
      (visits.was both.1 (subst (λ q. leads_to_wanted code middle r q ≡ true) here (subst (λ (m : List Bool). leads_to_wanted code m r p ≡ true) (sym same) leads)))))
      (λ (other : p ≢ point). sweeps.was both.0 p (omega arith) inside leads)
      (cases_eq p point);
  live = λ live. visits.live (sweeps.live live);
  fewer = let a = sweeps.fewer in let b = visits.fewer in omega arith;
  less = λ any.
      let a = sweeps.fewer in let b = visits.fewer in
      ⊎_elim (λ (one : before ≡ true). let c = sweeps.less one in omega arith) (λ (one : more ≡ true). let c = visits.less one in omega arith) (one_is before more any);
}

-- All marks

all_false : (n p : ℕ) → get_or (replicate n false) p false ≡ false
all_false zero p = refl
all_false (suc n) zero = refl
all_false (suc n) (suc p) = all_false n p

pub none_marked : (code : Code) (r n : ℕ) → AreLive code r (replicate n false)
none_marked code r n p is = let none = all_false n p in absurd (cc (none, is))

or_true : (b : Bool) → (b || true) ≡ true
or_true true = refl
or_true false = refl

-- an instruction that leads somewhere is inside
leads_inside : (code : Code) (point next : ℕ) → Contains (edges_at code point) next → point < length code.instrs
leads_inside code point next there =
    ⊎_elim (λ (less : point < length code.instrs). less)
    (λ (past : length code.instrs ≤ point).
    let none : edges_at code point ≡ [] = ap (λ (o : Option Instr). option_map_or (λ (i : Instr). edges i i.op point) o []) (slice_get_past code.instrs point past) in
    let inside : there.0 < 0 = subst (λ (l : List ℕ). there.0 < length l) none there.1 in
    absurd (omega arith))
    (cases_lt point (length code.instrs))

-- where no more is wanted, all that is live is marked
closed : (code : Code) (r : ℕ) (marks : List Bool) → ((p : ℕ) → p < length marks → leads_to_wanted code marks r p ≡ true → marked marks p ≡ true) → length marks ≡ length code.instrs →
    (before : List ℕ) (read point : ℕ) → IsPath code point (before ++ read ∷ []) → All (λ p. writes_at code p r ≡ false) before → reads_at code read r ≡ true → marked marks point ≡ true
unfolding leads_to_wanted
closed code r marks all long [] read point path unwritten is_read =
    let inside = leads_inside code point read path.0 in
    all point (omega arith)
    (contains_any (is_wanted code marks r) (edges_at code point) read path.0 (ap (λ b. b || (not (writes_at code read r) && marked marks read)) is_read))
closed code r marks all long (next ∷ before) read point path unwritten is_read =
    let inside = leads_inside code point next path.0 in
    let mark = closed code r marks all long before read next path.1 (All-tail (λ p. writes_at code p r ≡ false) next before unwritten) is_read in
    let free = All-head (λ p. writes_at code p r ≡ false) next before unwritten in
    all point (omega arith)
    (contains_any (is_wanted code marks r) (edges_at code point) next path.0
    (ap (λ b. reads_at code next r || (not b && marked marks next)) free ∙ ap (λ b. reads_at code next r || b) mark ∙ or_true (reads_at code next r)))

pub are_marked : (code : Code) (r : ℕ) (old new : List Bool) → length old ≡ length code.instrs → AreLive code r old → Sweeps code r 0 old new false → AreMarked code r new
are_marked code r old new long live sweeps =
    let same = sweeps.kept refl in
    subst (λ (m : List Bool). AreMarked code r m) (sym same) (record {
      long = long;
      exact = λ p. (live p, λ l. closed code r old (λ q inside leads. sweeps.was refl q (omega arith) inside leads) long l.before l.read p l.path l.unwritten l.is_read);
    })

pub drop_past : {X : Type 0} (xs : List X) (n : ℕ) → length xs ≤ n → drop n xs ≡ []
drop_past [] zero past = refl
drop_past [] (suc n) past = refl
drop_past (x ∷ xs) zero past = absurd (omega arith)
drop_past (x ∷ xs) (suc n) past = drop_past xs n (omega arith)

pub take_all : {X : Type 0} (xs : List X) (n : ℕ) → length xs ≤ n → take n xs ≡ xs
take_all [] zero past = refl
take_all [] (suc n) past = refl
take_all (x ∷ xs) zero past = absurd (omega arith)
take_all (x ∷ xs) (suc n) past = ap (λ (ys : List _). x ∷ ys) (take_all xs n (omega arith))

-- a slice that is written back whole
pub written_back : (old new : List Bool) (n : ℕ) → n ≡ length old → length new ≡ length old → take n (new ++ drop (length new) old) ≡ new
written_back old new n all long =
    let none : drop (length new) old ≡ [] = drop_past old (length new) (omega arith) in
    ap (λ (s : List Bool). take n (new ++ s)) none ∙ ap (take n) (append-nil new) ∙ take_all new n (omega arith)
