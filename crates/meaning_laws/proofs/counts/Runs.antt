-- The two meanings have the same runs.
use Rattle.meaning_laws.proofs.Words.Core.{Core, Ending, Event, Func, IsSound, Object, State, main_of, pointers_inside, pointers_to}
use Rattle.meaning_laws.proofs.Words.Meaning.{AreCounts, AreExact, CountedState, CountsAreHolders, EachStateIsCounted, Good, Pins, TestedRunsAreCounted, first_value, inside_living, kept, living, locals_of, registers_of, static_object, static_objects, testing}
use Rattle.meaning_laws.proofs.Words.Std.{Bool, List, None, Option, Some, [], arith, enumerate_from, map, refl, slice_get, subst, suc, sum_by-cons, sym, zero, ℕ, ◌+◌, ◌∷◌, ◌≡◌}
use Rattle.hs_base.specs.Runs as runs
use Rattle.core_tree.specs.declared.program.Static as program
use Rattle.object_meaning.specs.objects.Going as going
use Rattle.object_meaning.specs.objects.Meaning as object
use Rattle.meaning_laws.specs.objects.Laws.{StaysGood}
use Rattle.meaning_laws.proofs.dangling.Standing.{step_stays_at, begins}
use Rattle.object_meaning.specs.counted.CountedState.{Next}
use Rattle.object_meaning.specs.counted.CountedMeaning as counted
use Rattle.meaning_laws.specs.counted.Counts.{SameRun}
use Rattle.meaning_laws.proofs.counts.Objects.{locals_living}
use Rattle.meaning_laws.proofs.counts.Sorting.{HasSorts, InOrder, first_sorts, Counted, Agrees, Alters, alters_agree}
use Rattle.meaning_laws.proofs.counts.Acting.{step_agrees}
use Rattle.meaning_laws.proofs.counts.Running.{Agree, StatesAgree, RunsAgree, led_agree, tested_agree, after_agree}

-- The first call of main

statics_living : (x : ℕ) (statics : List (ℕ × program.Static)) → pointers_inside x (map static_object statics) ≡ inside_living x (map static_object statics)
statics_living x [] = refl
statics_living x (static ∷ statics) =
    omega (arith, sum_by-cons (λ (o : Object). pointers_to x o.pointers) (static_object static) (map static_object statics), sum_by-cons (living x) (static_object static) (map static_object statics), statics_living x statics)

module _ (core : Core) (pins : Pins) where
  main_sorts : (func : Func) → slice_get core.funcs (main_of core) ≡ Some func → HasSorts func (map first_value (registers_of (slice_get core.funcs (main_of core))))
  main_sorts func h =
      subst (λ o. HasSorts func (map first_value (registers_of o))) (sym h) (λ r n. first_sorts func.regs r n)

  first_alters : (input : List ℕ) (n : ℕ) → Alters core pins (counted.first_numbers (static_objects core.statics)) (λ before after. counted.first_numbers (static_objects core.statics)) (counted.first_numbers (static_objects core.statics)) (object.first_call core input n)
  first_alters input zero =
      let start_counts = λ (x : ℕ). let statics = statics_living x (enumerate_from 0 core.statics) in let e : counted.first_numbers (static_objects core.statics) x ≡ inside_living x (static_objects core.statics) + 0 = omega (arith, statics) in e in
      (start_counts, start_counts)
  first_alters input (suc n) =
      let start_counts = λ (x : ℕ). let statics = statics_living x (enumerate_from 0 core.statics) in let e : counted.first_numbers (static_objects core.statics) x ≡ inside_living x (static_objects core.statics) + 0 = omega (arith, statics) in e in
      (start_counts, λ x. omega (arith, start_counts x, locals_living (static_objects core.statics) (main_of core) x (locals_of (slice_get core.funcs (main_of core)))), record { sorts = main_sorts; calls = tt; once = tt })

  pub first_agrees : (input : List ℕ) (n : ℕ) → Agrees core pins (object.first_call core input n) (counted.first_call core input n)
  first_agrees input n =
      let numbers = counted.first_numbers (static_objects core.statics) in
      alters_agree core pins numbers (λ before after. numbers) numbers (object.first_call core input n) (first_alters input n)

  -- Whole runs

  -- a good state, in order, and a state with numbers that count
  abbrev Goes : State → CountedState → Type 0
  Goes s c = Good core s × InOrder core s × Counted pins s c

  both_agree : (n : going.Next) (m : Next) → StaysGood core n → Agrees core pins n m → Agree Goes (Counted pins) n m
  both_agree (runs.Goes b e t) (runs.Goes c f u) stays h = (h.0, h.1, (stays, h.3, h.2))
  both_agree (runs.Stops b e t x) (runs.Stops c f u y) stays h = h
  both_agree (runs.Goes b e t) (runs.Stops c f u y) stays h = absurd h
  both_agree (runs.Stops b e t x) (runs.Goes c f u) stays h = absurd h

  counted_in : (o : Option Ending) (s : State) (c : CountedState) → StatesAgree Goes (Counted pins) o s c → Counted pins s c
  counted_in None s c h = h.2
  counted_in (Some e) s c h = h

  same_run : (r : object.Run) (q : counted.Run) → RunsAgree Goes (Counted pins) r q → SameRun pins r q
  same_run r q h =
      let c = counted_in r.ended r.state q.state h.2 in
      record { trace = h.0; ended = h.1; state = c.state; numbers = c.counts }

  module _ (sound : IsSound core) (exact : AreExact core pins) where
    first_both : (input : List ℕ) (n : ℕ) → Agree Goes (Counted pins) (object.first_call core input n) (counted.first_call core input n)
    first_both input n = both_agree _ _ (begins core sound input n) (first_agrees input n)

    step_both : (heap : ℕ) (trace : List Event) (s : State) (c : CountedState) → Goes s c → Agree Goes (Counted pins) (object.step core heap trace s) (counted.step core pins heap trace c)
    step_both heap trace s c h =
        let counts = subst (λ t. AreCounts pins (kept c.numbers t)) h.2.state h.2.counts in
        let agrees = step_agrees core sound pins exact heap trace s h.0 h.1 c.numbers counts in
        subst (λ t. Agree Goes (Counted pins) (object.step core heap trace s) (counted.step core pins heap trace (kept c.numbers t))) (sym h.2.state) (both_agree _ _ (step_stays_at core sound heap trace s h.0) agrees)

    begun_agree : (input : List ℕ) (n : ℕ) → RunsAgree Goes (Counted pins) (object.begun core input n) (counted.begun core input n)
    begun_agree input n = led_agree Goes (Counted pins) [] _ _ (first_both input n)

    each_agrees : (input : List ℕ) (n heap k : ℕ) → SameRun pins (runs.after (object.step core heap) (object.begun core input n) k) (runs.after (counted.step core pins heap) (counted.begun core input n) k)
    each_agrees input n heap k =
        same_run _ _ (after_agree Goes (Counted pins) (object.step core heap) (counted.step core pins heap) (step_both heap) _ _ (begun_agree input n) k)

    meaning_agrees : (input : List ℕ) (n heap : ℕ) → SameRun pins (object.meaning core input n heap) (counted.meaning core pins input n heap)
    meaning_agrees input n heap =
        let r = object.begun core input n in
        let q = counted.begun core input n in
        let same : q.state.state ≡ r.state = (same_run r q (begun_agree input n)).state in
        subst (λ t. SameRun pins (object.meaning core input n heap) (runs.after (counted.step core pins heap) q (object.enough core t))) (sym same) (each_agrees input n heap (object.enough core r.state))

    tests_agree : (fits : List Event → Event → Bool) (refused : Event → Ending) (input : List ℕ) (n heap k : ℕ) → SameRun pins (runs.after (testing fits refused (object.step core heap)) (runs.led [] (runs.tested fits refused [] (object.first_call core input n))) k) (runs.after (testing fits refused (counted.step core pins heap)) (runs.led [] (runs.tested fits refused [] (counted.first_call core input n))) k)
    tests_agree fits refused input n heap k =
        same_run _ _ (after_agree Goes (Counted pins) (testing fits refused (object.step core heap)) (testing fits refused (counted.step core pins heap)) (λ trace s c h. tested_agree Goes (Counted pins) fits refused trace _ _ (step_both heap trace s c h)) _ _ (led_agree Goes (Counted pins) [] _ _ (tested_agree Goes (Counted pins) fits refused [] _ _ (first_both input n))) k)

pub counts_are_holders : CountsAreHolders
counts_are_holders core pins sound exact input n heap = meaning_agrees core pins sound exact input n heap

pub each_state_is_counted : EachStateIsCounted
each_state_is_counted core pins sound exact input n heap k = each_agrees core pins sound exact input n heap k

pub tested_runs_are_counted : TestedRunsAreCounted
tested_runs_are_counted core pins sound exact fits refused input n heap k = tests_agree core pins sound exact fits refused input n heap k
