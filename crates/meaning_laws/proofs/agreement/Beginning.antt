-- The first instruction calls main, as the run of the core begins.
use Rattle.meaning_laws.proofs.Words.Core.{Code, Core, Dangling, Ending, Enter, Event, Frame, Func, IsSound, Object, State, StmKind, after_stays, after_zero, has_place, main_of}
use Rattle.meaning_laws.proofs.Words.Meaning.{AreAscending, AreExact, CodeMeansCore, CodeState, IsCompiled, Next, Pins, SameRun, SameState, TestedCodeMeansCore, counts_at, enough, first_numbers, holds_on, holds_pointer, is_among, line_of, main_in, pins_of, static_objects, tested_code, tested_core, testing}
use Rattle.meaning_laws.proofs.Words.Std.{AllPairs, Bool, List, Option, Some, [], and_parts, ap, arith, cond, eq-eqb, eqb-false, eqb-true, false, false≢true, filter, get_or, get_or_from_slice_get, length, nat_eq, ne_eqb, or_cases, or_from, or_left, or_parts, range_with_len, refl, slice_get, subst, suc, sym, true, true≢false, zero, ℕ, ⊎_elim, ◌+◌, ◌-◌, ◌<◌, ◌||◌, ◌∙◌, ◌∷◌, ◌≡◌, ◌≢◌, ◌≤◌}
use Rattle.meaning_laws.proofs.counts.Sorting.{those_among}
use Rattle.meaning_laws.proofs.counts.Listed.{AreListed, holder_within}
use Rattle.meaning_laws.proofs.dangling.Standing.{begins}
use Rattle.meaning_laws.proofs.counts.Running.{Agree}
use Rattle.meaning_laws.proofs.counts.Runs.{first_agrees, tested_runs_are_counted}
use Rattle.object_meaning.specs.code.CodeState.{kept}
use Rattle.meaning_laws.proofs.agreement.Following.{Tied, TiedAt, after_add, after_first, run_follows}
use Rattle.meaning_laws.proofs.agreement.Keeping.{frame_same, cost_same, entered_same, Matches}
use Rattle.meaning_laws.proofs.agreement.FirstPointers.{statics_same}
use Rattle.meaning_laws.proofs.agreement.Testing.{tested_ends, untested}
use Rattle.meaning_laws.proofs.agreement.Acting.{keeps_from, Stands, left, Within, tied, one_follows}
use Rattle.core_tree.specs.declared.statements.StmKind.TheVariants as stm
use Rattle.hs_base.specs.Runs as runs
use Rattle.object_meaning.specs.objects.Meaning as meaning
use Rattle.object_meaning.specs.counted.CountedMeaning as counted_meaning
use Rattle.object_meaning.specs.code.CodeMeaning as code_meaning
use Rattle.object_meaning.specs.code.Entering as entering

-- Exact pins that ascend are the registers that count, in the order of their numbers.

-- each number is above the one before it, and the first is not below a bound
abbrev Ascends : ℕ → List ℕ → Type 0
Ascends a [] = Unit {0}
Ascends a (r ∷ registers) = (a ≤ r) × Ascends (r + 1) registers

ascends_from : (a : ℕ) (registers : List ℕ) → AllPairs (λ one other. one < other) registers → ((k : ℕ) → k < length registers → a ≤ get_or registers k 0) → Ascends a registers
ascends_from a [] pairs h = tt
ascends_from a (r ∷ registers) pairs h =
    let first : a ≤ r = h 0 (omega arith) in
    (first, ascends_from (r + 1) registers (λ i j d lt within. pairs (suc i) (suc j) d (omega (arith, lt)) (omega (arith, within))) (λ k lt. let more : r < get_or registers k 0 = pairs 0 (suc k) 0 (omega arith) (omega (arith, lt)) in omega (arith, more)))

-- none is below the bound
none_below : (a : ℕ) (registers : List ℕ) (q : ℕ) → Ascends a registers → q < a → is_among registers q ≡ false
none_below a [] q up lt = refl
none_below a (r ∷ registers) q up lt =
    or_from (nat_eq r q) (is_among registers q) (ne_eqb r q (λ e. omega (arith, e, up.0, lt))) (none_below (r + 1) registers q up.1 (omega (arith, up.0, lt)))

-- the bound is the first or not among them
first_is : (a r : ℕ) (registers : List ℕ) → Ascends a (r ∷ registers) → is_among (r ∷ registers) a ≡ true → r ≡ a
first_is a r registers up h =
    ⊎_elim
    (λ here. eqb-true r a here)
    (λ there. absurd (true≢false (sym there ∙ none_below (r + 1) registers a up.1 (omega (arith, up.0)))))
    (or_cases (nat_eq r a) (is_among registers a) h)

all_above : (a : ℕ) (registers : List ℕ) → Ascends a registers → is_among registers a ≡ false → Ascends (a + 1) registers
all_above a [] up h = tt
all_above a (r ∷ registers) up h =
    let other : r ≢ a = eqb-false r a (or_parts (nat_eq r a) (is_among registers a) h).0 in
    (omega (arith, up.0, other), up.1)

module _ (test : ℕ → Bool) where
  -- a list has those from a bound on that pass the test
  abbrev HasThose : ℕ → List ℕ → Type 0
  HasThose a registers = (r : ℕ) → a ≤ r → is_among registers r ≡ test r

  from_first : (a n : ℕ) (passes : Bool) → test a ≡ passes → (registers : List ℕ) → Ascends a registers → HasThose a registers → ((others : List ℕ) → Ascends (a + 1) others → HasThose (a + 1) others → others ≡ filter test (range_with_len (a + 1) n)) → registers ≡ cond passes (a ∷ filter test (range_with_len (a + 1) n)) (filter test (range_with_len (a + 1) n))
  from_first a n true e [] up has rest = absurd (false≢true (has a (omega arith) ∙ e))
  from_first a n true e (r ∷ registers) up has rest =
      let is : r ≡ a = first_is a r registers up (has a (omega arith) ∙ e) in
      let behind = rest registers (subst (λ i. Ascends (i + 1) registers) is up.1) (λ q le. sym (ap (λ b. b || is_among registers q) (ne_eqb r q (λ i. omega (arith, i, is, le)))) ∙ has q (omega (arith, le))) in
      ap (λ i. i ∷ registers) is ∙ ap (λ rs. a ∷ rs) behind
  from_first a n false e registers up has rest =
      rest registers (all_above a registers up (has a (omega arith) ∙ e)) (λ q le. has q (omega (arith, le)))

  listed_from : (a n : ℕ) (registers : List ℕ) → Ascends a registers → HasThose a registers → ((r : ℕ) → test r ≡ true → r < a + n) → registers ≡ filter test (range_with_len a n)
  listed_from a zero [] up has within = refl
  listed_from a zero (r ∷ registers) up has within =
      let passes : test r ≡ true = sym (has r up.0) ∙ or_left (nat_eq r r) (is_among registers r) (eq-eqb r r refl) in
      absurd (omega (arith, up.0, within r passes))
  listed_from a (suc n) registers up has within =
      from_first a n (test a) refl registers up has (λ others more those. listed_from (a + 1) n others more those (λ r passes. omega (arith, within r passes)))

-- a register that counts is one of its function
holds_within : (func : Func) (point r : ℕ) → holds_on func point r ≡ true → r < length func.regs
holds_within func point r h = holder_within func r (and_parts (holds_pointer func r) _ h).0

counts_within : (func : Func) (point : ℕ) (kind : StmKind) (r : ℕ) → counts_at func point kind r ≡ true → r < length func.regs
counts_within func point (stm.Call f answer args) r h =
    holds_within func point r (and_parts (holds_on func point r) _ h).0
counts_within func point (stm.Realloc q p n t) r h = holds_within func point r h
counts_within func point (stm.Free p) r h = holds_within func point r h
counts_within func point stm.Leave r h = holds_within func point r h
counts_within func point kind r h = absurd (false≢true h)

pub are_listed : (core : Core) (pins : Pins) → AreExact core pins → AreAscending pins → AreListed core pins
are_listed core pins exact ascending f func here point stm at =
    let pinned = pins_of pins f point in
    listed_from (counts_at func point stm.kind) 0 (length func.regs) pinned (ascends_from 0 pinned (ascending f point) (λ k lt. omega arith)) (λ r le. those_among _ pinned (exact f func here point stm at) r) (λ r h. let within = counts_within func point stm.kind r h in omega (arith, within))

-- The first instruction calls main, as the run of the core begins.

module _ (core : Core) (pins : Pins) (code : Code) (sound : IsSound core) (exact : AreExact core pins) (ascending : AreAscending pins) (compiled : IsCompiled core pins code) (fits : List Event → Event → Bool) (refused : Event → Ending) (heap : ℕ) (input : List ℕ) where
  -- before the first instruction, from the statics and the number of main
  abbrev before : List Object → ℕ → ℕ → CodeState
  before statics main n =
      let frame : Frame = record (entering.new_frame code main [] (length statics)) { point = 0 } in
      kept (first_numbers statics) (record { objects = statics; running = frame; waiting = []; queue = []; scopes = 0; input = input; steps = n })

  abbrev statics : List Object
  statics = static_objects core.statics

  start_is : (n : ℕ) → code_meaning.start code input n ≡ before statics (main_of core) n
  start_is n =
      ap (λ os. before os (main_in (slice_get code.instrs 0)) n) (statics_same code core pins sound compiled)
      ∙ ap (λ o. before statics (main_in o) n) compiled.start

  abbrev numbers : ℕ → ℕ
  numbers = first_numbers statics

  -- the first instruction
  first_step : (n : ℕ) → code_meaning.step code heap [] (before statics (main_of core) n) ≡ entering.with_step n numbers (before statics (main_of core) n).state (entering.begin code (line_of (slice_get core.funcs (main_of core))) (main_of core) numbers)
  first_step n =
      let c = before statics (main_of core) n in
      let line = get_or_from_slice_get code.lines 0 _ 0 compiled.start_line in
      ap (λ o. code_meaning.act_at code (has_place heap []) o c) compiled.start
      ∙ ap (λ l. entering.with_step n numbers c.state (entering.begin code l (main_of core) numbers)) line

  -- the same before main is called
  start_same : (n : ℕ) → SameState (meaning.start core input n) (before statics (main_of core) n).state
  start_same n =
      let there = begins core sound input 1 in
      let frame = frame_same core pins code compiled (main_of core) there.0 there.1.here [] (length statics) in
      record {
        objects = refl;
        running = record { func = refl; regs = sym (ap (λ (f : Frame). f.regs) frame); first_local = refl };
        waiting = tt;
        queue = refl;
        scopes = refl;
        input = refl;
        steps = refl;
      }

  first_agree : (n : ℕ) → Agree (Within core pins code (enough code (before statics (main_of core) n).state) 1) Matches (counted_meaning.first_call core input n) (entering.with_step n numbers (before statics (main_of core) n).state (entering.begin code (line_of (slice_get core.funcs (main_of core))) (main_of core) numbers))
  first_agree zero = ((start_same 0, refl), refl, (start_same 0, refl), refl)
  first_agree (suc n) =
      let there = begins core sound input (suc n) in
      let line = line_of (slice_get core.funcs (main_of core)) in
      let entered = entered_same core pins code compiled (main_of core) there.0 there.1.here (meaning.start core input n) [] [] in
      let counts = keeps_from core pins (meaning.first_call core input (suc n)) (counted_meaning.first_call core input (suc n)) there (first_agrees core pins input (suc n)) in
      ((start_same n, refl), ap (λ cost. Enter cost line ∷ []) (cost_same core pins code compiled (main_of core) there.0 there.1.here), ((counts, entered, refl, refl), omega arith))

  -- the run of the core once main was called, or refused
  abbrev begun : ℕ → counted_meaning.Run
  begun n = runs.led [] (runs.tested fits refused [] (counted_meaning.first_call core input n))

  abbrev code_step : List Event → CodeState → Next
  code_step = testing fits refused (code_meaning.step code heap)

  -- the code's run after so many instructions is tied to one of the core
  abbrev Both : CodeState → ℕ → counted_meaning.Run → code_meaning.Run → Type 0
  Both c j r q = Tied (Stands core pins code) Matches (left core pins code) (enough code c.state) j r q

  -- after the first
  begins_tied : (n : ℕ) → Both (code_meaning.start code input n) 1 (begun n) (runs.after code_step (runs.fresh (code_meaning.start code input n)) 1)
  begins_tied n =
      let c = before statics (main_of core) n in
      let total = enough code c.state in
      let moved_on : runs.after code_step (runs.fresh c) 1 ≡ runs.led [] (code_step [] c) = after_first code_step (runs.fresh c) 0 ∙ after_zero code_step (runs.led [] (code_step [] c)) in
      let made = moved_on ∙ ap (λ n. runs.led [] (runs.tested fits refused [] n)) (first_step n) in
      let first = tied core pins code fits refused total 1 [] _ _ (omega arith) (first_agree n) in
      subst (λ (d : CodeState). Both d 1 (begun n) (runs.after code_step (runs.fresh d) 1)) (sym (start_is n)) (subst (λ (q : code_meaning.Run). Both c 1 (begun n) q) (sym made) first)

  -- the code's run has ended within the moves of its meaning
  same_at : (n : ℕ) (r : counted_meaning.Run) (j : ℕ) (e : Ending) → r.ended ≡ Some e → Both (code_meaning.start code input n) j r (runs.after code_step (runs.fresh (code_meaning.start code input n)) j) → SameRun r (tested_code code fits refused input n heap)
  same_at n r j e ended t =
      let c = code_meaning.start code input n in
      let total = enough code c.state in
      let q = runs.after code_step (runs.fresh c) j in
      let last = subst (λ (o : Option Ending). TiedAt (Stands core pins code) Matches (left core pins code) total j o r q) ended t.1 in
      let sum : j + (total - j) ≡ total = omega (arith, last.2) in
      let same : q ≡ tested_code code fits refused input n heap = sym (after_stays code_step (runs.fresh c) e j (total - j) last.0) ∙ ap (runs.after code_step (runs.fresh c)) sum in
      let run : SameRun r q = record { trace = sym t.0; ended = ended ∙ sym last.0; state = last.1.0; numbers = λ birth. sym (ap (λ (n : ℕ → ℕ). n birth) last.1.1) } in
      subst (SameRun r) same run

  -- the core's run has ended, as that of the object meaning
  pub core_ends : (n : ℕ) → (e : Ending) × ((tested_core core pins fits refused input n heap).ended ≡ Some e)
  core_ends n =
      let r = runs.led [] (runs.tested fits refused [] (meaning.first_call core input n)) in
      let k = meaning.enough core (begun n).state.state in
      let first = (tested_runs_are_counted core pins sound exact fits refused input n heap 0).state in
      let at_zero = after_zero (testing fits refused (counted_meaning.step core pins heap)) (begun n) in
      let of_object = after_zero (testing fits refused (meaning.step core heap)) r in
      let state : (begun n).state.state ≡ r.state = sym (ap (λ (q : counted_meaning.Run). q.state.state) at_zero) ∙ first ∙ ap (λ (q : meaning.Run). q.state) of_object in
      let ended = tested_ends core sound fits refused heap r in
      let there = subst (λ (t : State). (runs.after (testing fits refused (meaning.step core heap)) r (meaning.enough core t)).ended ≡ Some ended.0) (sym state) ended.1 in
      (ended.0, (tested_runs_are_counted core pins sound exact fits refused input n heap k).ended ∙ there)

  pub same_tested : (n : ℕ) → SameRun (tested_core core pins fits refused input n heap) (tested_code code fits refused input n heap)
  same_tested n =
      let c = code_meaning.start code input n in
      let total = enough code c.state in
      let one = one_follows core pins code sound exact (are_listed core pins exact ascending) compiled fits refused heap in
      let k = meaning.enough core (begun n).state.state in
      let follows = run_follows (Stands core pins code) Matches (left core pins code) (testing fits refused (counted_meaning.step core pins heap)) code_step one total 1 (begun n) (runs.after code_step (runs.fresh c) 1) (begins_tied n) k in
      let ended = core_ends n in
      same_at n (tested_core core pins fits refused input n heap) (1 + follows.0) ended.0 ended.1 (subst (λ (q : code_meaning.Run). Both c (1 + follows.0) (tested_core core pins fits refused input n heap) q) (after_add code_step (runs.fresh c) 1 follows.0) follows.1)

-- The meanings are the runs whose events are all let through.

abbrev all_fit : List Event → Event → Bool
all_fit trace e = true

abbrev refused : Event → Ending
refused e = Dangling

untested_step : {S : Type 0} (step : List Event → S → runs.Next S Event Ending) → testing all_fit refused step ≡ step
untested_step step = λ i trace s. untested refused trace (step trace s) i

core_is : (core : Core) (pins : Pins) (input : List ℕ) (n heap : ℕ) → tested_core core pins all_fit refused input n heap ≡ counted_meaning.meaning core pins input n heap
core_is core pins input n heap =
    let run : counted_meaning.Run → counted_meaning.Run = λ r. runs.after (testing all_fit refused (counted_meaning.step core pins heap)) r (meaning.enough core r.state.state) in
    let r = counted_meaning.begun core input n in
    ap (λ next. run (runs.led [] next)) (untested refused [] (counted_meaning.first_call core input n))
    ∙ ap (λ step. runs.after step r (meaning.enough core r.state.state)) (untested_step (counted_meaning.step core pins heap))

code_is : (code : Code) (input : List ℕ) (n heap : ℕ) → tested_code code all_fit refused input n heap ≡ code_meaning.meaning code input n heap
code_is code input n heap =
    let c = code_meaning.start code input n in
    ap (λ step. runs.after step (runs.fresh c) (code_meaning.enough code c.state)) (untested_step (code_meaning.step code heap))

pub tested_means_core : TestedCodeMeansCore
tested_means_core core pins code sound exact ascending compiled fits refused input n heap =
    let ended = core_ends core pins code sound exact ascending compiled fits refused heap input n in
    (ended.0, ended.1, same_tested core pins code sound exact ascending compiled fits refused heap input n)

pub means_core : CodeMeansCore
means_core core pins code sound exact ascending compiled input n heap =
    let same = same_tested core pins code sound exact ascending compiled all_fit refused heap input n in
    subst (λ (r : counted_meaning.Run). SameRun r (code_meaning.meaning code input n heap)) (core_is core pins input n heap) (subst (SameRun (tested_core core pins all_fit refused input n heap)) (code_is code input n heap) same)
