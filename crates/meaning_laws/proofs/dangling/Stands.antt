-- A run of a sound core stays good until it ends, and so it never ends for want of life or of a statement.
use Rattle.meaning_laws.proofs.Words.Core.{Core, Dangling, Ending, Event, Frame, Func, IsSound, Object, State}
use Rattle.meaning_laws.proofs.Words.Meaning.{Good, HoldsFresh, NothingDangles, Run, Waits, WaitsAt, answer_register, begun, counts_waiting, first_call, is_live_in, meaning, needed_in, register, statement_in, step, takes_answer}
use Rattle.meaning_laws.proofs.Words.Std.{List, None, Option, Some, [], and_parts, ap, not-true, refl, slice_get, subst, suc, sym, true, zero, ℕ, ◌∙◌, ◌∷◌, ◌≡◌, ◌≢◌}
use Rattle.object_meaning.specs.objects.Going.{Next}
use Rattle.object_meaning.specs.objects.Meaning.{enough}
use Rattle.meaning_laws.specs.objects.Laws.{StaysGood}
use Rattle.meaning_laws.proofs.dangling.Standing.{step_stays_at, begins}
use Rattle.hs_base.specs.Runs as runs

module _ (core : Core) (sound : IsSound core) (heap : ℕ) where
  -- a run so far is good, or has ended for another reason than want of life
  abbrev pub Going : Option Ending → State → Type 0
  Going None s = Good core s
  Going (Some e) s = e ≢ Dangling

  going_next : (trace : List Event) (n : Next) → StaysGood core n → Going (runs.led trace n).ended (runs.led trace n).state
  going_next trace (runs.Goes before events after) h = h
  going_next trace (runs.Stops before events after e) h = h

  going_moved : (r : Run) (o : Option Ending) → r.ended ≡ o → Going o r.state → Going (runs.moved (step core heap) r o).ended (runs.moved (step core heap) r o).state
  going_moved r (Some e) i h = subst (λ (o : Option Ending). Going o r.state) (sym i) h
  going_moved r None i h =
      going_next r.trace (step core heap r.trace r.state) (step_stays_at core sound heap r.trace r.state h)

  pub going_after : (r : Run) → Going r.ended r.state → (k : ℕ) → Going (runs.after (step core heap) r k).ended (runs.after (step core heap) r k).state
  unfolding runs.after
  going_after r h zero = h
  going_after r h (suc k) =
      going_moved (runs.after (step core heap) r k) (runs.after (step core heap) r k).ended refl (going_after r h k)

  pub going_first : (input : List ℕ) (n : ℕ) → Going (begun core input n).ended (begun core input n).state
  going_first input n = going_next [] (first_call core input n) (begins core sound input n)

  not_dangling : (s : State) (o : Option Ending) (e : Ending) → o ≡ Some e → Going o s → e ≢ Dangling
  not_dangling s None e i h = absurd (cc)
  not_dangling s (Some d) e i h = λ j. h (cc)

  -- the meaning does not end for want of life
  pub never_dangles : (input : List ℕ) (n : ℕ) (e : Ending) → (meaning core input n heap).ended ≡ Some e → e ≢ Dangling
  never_dangles input n e h =
      let r = begun core input n in
      not_dangling (meaning core input n heap).state (meaning core input n heap).ended e h (going_after r (going_first input n) (enough core r.state))

-- A good state has no pointer to a dead object that counts or is still read.

module _ (core : Core) (objects : List Object) where
  at_frame : (top depth : ℕ) (frame : Frame) → WaitsAt core objects top depth frame → (r : ℕ) → counts_waiting core frame r ≡ true → HoldsFresh objects (register frame r)
  at_frame top depth frame w r h =
      let both = and_parts _ _ h in
      let answer : answer_register (statement_in (slice_get core.funcs frame.func) frame.point) ≡ w.answer =
      ap (λ (o : Option Func). answer_register (statement_in o frame.point)) w.here ∙ ap answer_register w.at in
      w.fresh
      r
      (sym (ap (λ (o : Option Func). is_live_in o frame.point r) w.here) ∙ both.0)
      (sym (ap (λ (o : Option ℕ). takes_answer o r) answer) ∙ not-true _ both.1)

  each_frame : (top total : ℕ) (waiting : List Frame) → Waits core objects top total waiting → (k r : ℕ) (frame : Frame) → slice_get waiting k ≡ Some frame → counts_waiting core frame r ≡ true → HoldsFresh objects (register frame r)
  each_frame top total [] w k r frame at h = absurd (cc)
  each_frame top total (first ∷ waiting) w zero r frame at h =
      let e : first ≡ frame = cc in
      subst (λ (f : Frame). HoldsFresh objects (register f r)) e (at_frame top w.0 first w.3 r (subst (λ (f : Frame). counts_waiting core f r ≡ true) (sym e) h))
  each_frame top total (first ∷ waiting) w (suc k) r frame at h = each_frame first.first_local w.1 waiting w.4 k r frame at h

pub nothing : (core : Core) (s : State) → Good core s → NothingDangles core s
nothing core s g = record {
  slots = λ b k alive. g.1.sane.slots b alive k;
  running = λ r h. g.1.fresh r (sym (ap (λ (o : Option Func). needed_in o s.running.point r) g.1.here) ∙ h);
  waiting = λ k r frame at h. each_frame core s.objects s.running.first_local g.1.others s.waiting g.1.waits k r frame at h;
}

module _ (core : Core) (sound : IsSound core) (heap : ℕ) where
  on_the_way : (s : State) (o : Option Ending) → o ≡ None → Going core sound heap o s → Good core s
  on_the_way s None e h = h
  on_the_way s (Some end) e h = absurd (cc)

  pub kept : (input : List ℕ) (n k : ℕ) → let run = runs.after (step core heap) (begun core input n) k in run.ended ≡ None → NothingDangles core run.state
  kept input n k e =
      let run = runs.after (step core heap) (begun core input n) k in
      nothing core run.state (on_the_way run.state run.ended e (going_after core sound heap (begun core input n) (going_first core sound heap input n) k))
