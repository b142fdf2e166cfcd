-- The run that stops before its first call without room is the cut of the finished run.
use Rattle.std.proofs.Common.{◌≡◌, ℕ, zero, suc, Bool, true, false, cond, List, [], ◌∷◌, ◌++◌, Option, Some, None, refl, sym, ap, ◌∙◌, subst}
use Rattle.std.proofs.lemmas.List.{append-nil, append_assoc}
use Rattle.hs_base.specs.State.{State}
use Rattle.hs_base.specs.Trace.{Event, Out, In, New, Gone, Enter, Leave, Ending}
use Rattle.hs_base.specs.Cut.{Cut, fits, cut_from, cut, refused_ending, ending_of}
use Rattle.hs_base.specs.declared.ends.Limits.{Limits}
use Rattle.hs_base.specs.Runs as runs
use Rattle.hs_base.specs.Runs.{led, moved, after}
use Rattle.hs_base.specs.RunsEquations.{moved_stays, one_end}
use Rattle.core_tree.specs.declared.program.Core.{Core}
use Rattle.core_tree.specs.Sound.{IsSound}
use Rattle.object_meaning.specs.objects.Going.{Next}
use Rattle.object_meaning.specs.objects.Meaning.{Run, first_call, begun, step, enough, meaning}
use Rattle.meaning_laws.specs.counted.Laws.{TestedRunsEnd}
use Rattle.meaning_laws.specs.objects.Laws.{RunsEnd}
use Rattle.flat_codegen.specs.Lasting.{no_room, cut_next, cut_run}
use Rattle.flat_codegen.specs.Laws.{IsCutRun}
use Rattle.flat_codegen.proofs.FirstEvents.{NeedsNoRoom, NeedNoRoom, FirstNeeds, step_first, main_first}
use Rattle.flat_codegen.proofs.Cuts.{whole, IsWhole, goes_on, at_event, joined, cut_behind}

-- One event

has_room : (stack : ℕ) (trace : List Event) (e : Event) → NeedsNoRoom e → fits stack trace e ≡ true
has_room stack trace (Out byte) h = refl
has_room stack trace (In byte) h = refl
has_room stack trace (New birth size line) h = refl
has_room stack trace (Gone birth) h = refl
has_room stack trace (Enter cost line) h = absurd h
has_room stack trace Leave h = refl

-- what is refused has an end
named : (stack : ℕ) (trace : List Event) (e : Event) → fits stack trace e ≡ false → refused_ending e ≡ Some (no_room e)
named stack trace (Out byte) h = absurd (cc)
named stack trace (In byte) h = absurd (cc)
named stack trace (New birth size line) h = absurd (cc)
named stack trace (Gone birth) h = absurd (cc)
named stack trace (Enter cost line) h = refl
named stack trace Leave h = absurd (cc)

-- a run that stops where there is no room, and the run that goes on: they are the same as long as nothing is cut off
data IsCutOf (stack : ℕ) (t r : Run) : Type 0 where
  Same : (w : IsWhole stack r.trace) (is : t ≡ r) → IsCutOf stack t r
  Less : (e : Event) (is : cut stack r.trace ≡ record { kept = t.trace; refused = Some e }) (ended : t.ended ≡ Some (no_room e)) (name : refused_ending e ≡ Some (no_room e)) → IsCutOf stack t r

module _ (stack : ℕ) where
  -- Events behind a trace of which nothing is cut off

  plain : (before events : List Event) → NeedNoRoom events → cut_from stack before events ≡ whole (before ++ events)
  plain before [] h = ap whole (sym (append-nil before))
  plain before (e ∷ events) h =
      ap (λ test. at_event stack test before e events) (has_room stack before e h.0)
      ∙ plain (before ++ e ∷ []) events h.1
      ∙ ap whole (append_assoc before (e ∷ []) events)

  module _ (trace : List Event) (w : IsWhole stack trace) where
    first_kept : (e : Event) (events : List Event) → fits stack trace e ≡ true → NeedNoRoom events → IsWhole stack (trace ++ e ∷ events)
    first_kept e events h i =
        cut_behind stack trace (e ∷ events) w
        ∙ ap (λ test. at_event stack test trace e events) h
        ∙ plain (trace ++ e ∷ []) events i
        ∙ ap whole (append_assoc trace (e ∷ []) events)

    first_refused : (e : Event) (events : List Event) → fits stack trace e ≡ false → cut stack (trace ++ e ∷ events) ≡ record { kept = trace ++ []; refused = Some e }
    first_refused e events h =
        cut_behind stack trace (e ∷ events) w
        ∙ ap (λ test. at_event stack test trace e events) h
        ∙ ap (λ (kept : List Event). let c : Cut = record { kept = kept; refused = Some e } in c) (sym (append-nil trace))

    by_test : (test : Bool) (b : State) (e : Event) (events : List Event) (next : Next) → fits stack trace e ≡ test → NeedNoRoom events → (led trace next).trace ≡ trace ++ e ∷ events → IsCutOf stack (led trace (cond test next (runs.Stops b [] b (no_room e)))) (led trace next)
    by_test true b e events next h i is =
        Same (subst (IsWhole stack) (sym is) (first_kept e events h i)) refl
    by_test false b e events next h i is =
        Less e (ap (cut stack) is ∙ first_refused e events h) refl (named stack trace e h)

    led_cut : (next : Next) → FirstNeeds next → IsCutOf stack (led trace (cut_next stack trace next)) (led trace next)
    led_cut (runs.Goes b [] t) h = Same (subst (IsWhole stack) (sym (append-nil trace)) w) refl
    led_cut (runs.Goes b (e ∷ events) t) h =
        by_test (fits stack trace e) b e events (runs.Goes b (e ∷ events) t) refl h refl
    led_cut (runs.Stops b [] t x) h = Same (subst (IsWhole stack) (sym (append-nil trace)) w) refl
    led_cut (runs.Stops b (e ∷ events) t x) h =
        by_test (fits stack trace e) b e events (runs.Stops b (e ∷ events) t x) refl h refl

-- Runs

module _ (room : Limits) (core : Core) where
  abbrev cut_step : List Event → State → Next
  cut_step trace s = cut_next room.stack trace (step core room.heap trace s)

  led_grows : (trace : List Event) (next : Next) → (more : List Event) × ((led trace next).trace ≡ trace ++ more)
  led_grows trace (runs.Goes b events t) = (events, refl)
  led_grows trace (runs.Stops b events t x) = (events, refl)

  moved_grows : (r : Run) (o : Option Ending) → (more : List Event) × ((moved (step core room.heap) r o).trace ≡ r.trace ++ more)
  moved_grows r (Some x) = ([], sym (append-nil r.trace))
  moved_grows r None = led_grows r.trace (step core room.heap r.trace r.state)

  same_moved : (r : Run) (o : Option Ending) → IsWhole room.stack r.trace → IsCutOf room.stack (moved cut_step r o) (moved (step core room.heap) r o)
  same_moved r (Some x) w = Same w refl
  same_moved r None w = led_cut room.stack r.trace w (step core room.heap r.trace r.state) (step_first core room.heap r.trace r.state)

  moved_cut : (t r : Run) → IsCutOf room.stack t r → IsCutOf room.stack (moved cut_step t t.ended) (moved (step core room.heap) r r.ended)
  moved_cut t r (Same w is) =
      subst (λ (q : Run). IsCutOf room.stack (moved cut_step q q.ended) (moved (step core room.heap) r r.ended)) (sym is) (same_moved r r.ended w)
  moved_cut t r (Less e is ended name) =
      let more = moved_grows r r.ended in
      let left : cut room.stack (moved (step core room.heap) r r.ended).trace ≡ record { kept = t.trace; refused = Some e } = ap (cut room.stack) more.1 ∙ joined room.stack [] r.trace more.0 ∙ ap (λ (c : Cut). goes_on room.stack c c.refused more.0) is in
      subst (λ (q : Run). IsCutOf room.stack q (moved (step core room.heap) r r.ended)) (sym (moved_stays cut_step t (no_room e) ended)) (Less e left ended name)

  after_cut : (t r : Run) → IsCutOf room.stack t r → (k : ℕ) → IsCutOf room.stack (after cut_step t k) (after (step core room.heap) r k)
  unfolding after
  after_cut t r h zero = h
  after_cut t r h (suc k) = moved_cut (after cut_step t k) (after (step core room.heap) r k) (after_cut t r h k)

  -- where the run that goes on has ended
  ended_too : (t r : Run) (x : Ending) → r.ended ≡ Some x → IsCutOf room.stack t r → (y : Ending) × (t.ended ≡ Some y)
  ended_too t r x h (Same w is) = (x, ap (λ (q : Run). q.ended) is ∙ h)
  ended_too t r x h (Less e is ended name) = (no_room e, ended)

  module _ (ends : RunsEnd) (tested_ends : TestedRunsEnd) (sound : IsSound core) (input : List ℕ) (n : ℕ) where
    abbrev first : Run
    first = led [] (cut_next room.stack [] (first_call core input n))

    cut_is : IsCutOf room.stack (cut_run core input n room) (meaning core input n room.heap)
    cut_is =
        let many = enough core (begun core input n).state in
        let there = after_cut first (begun core input n) (led_cut room.stack [] refl (first_call core input n) (main_first core input n)) many in
        let end = ends core sound input n room.heap in
        let stopped = ended_too (after cut_step first many) (meaning core input n room.heap) end.0 end.1 there in
        let ended = tested_ends core sound (fits room.stack) no_room room.heap first in
        let same = one_end cut_step first stopped.0 ended.0 many (enough core first.state) stopped.1 ended.1 in
        subst (λ (q : Run). IsCutOf room.stack q (meaning core input n room.heap)) same there

    of_cut : (t r : Run) → IsCutOf room.stack t r → (t.trace ≡ (cut room.stack r.trace).kept) × (t.ended ≡ ending_of (cut room.stack r.trace).refused r.ended) × ((cut room.stack r.trace).refused ≡ None → t ≡ r)
    of_cut t r (Same w is) = (
      ap (λ (q : Run). q.trace) is ∙ sym (ap (λ (c : Cut). c.kept) w),
      ap (λ (q : Run). q.ended) is ∙ sym (ap (λ (c : Cut). ending_of c.refused r.ended) w),
      λ none. is,
    )
    of_cut t r (Less e is ended name) = (
      sym (ap (λ (c : Cut). c.kept) is),
      ended ∙ sym name ∙ sym (ap (λ (c : Cut). ending_of c.refused r.ended) is),
      λ none. absurd (let no : Some e ≡ None = sym (ap (λ (c : Cut). c.refused) is) ∙ none in (cc)),
    )

-- the runs of sound cores end: the laws `run_ends` and `tested_runs_end` of `meaning_laws`
pub cut_runs_are_cut : RunsEnd → TestedRunsEnd → (core : Core) → IsSound core → (input : List ℕ) (n : ℕ) (room : Limits) → IsCutRun core input n room
cut_runs_are_cut ends tested_ends core sound input n room =
    let h = of_cut room core ends tested_ends sound input n (cut_run core input n room) (meaning core input n room.heap) (cut_is room core ends tested_ends sound input n) in
    record { trace = h.0; ended = h.1; whole = h.2 }
