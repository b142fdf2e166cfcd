-- How far a run has come.
use Rattle.std.proofs.Common.{◌≡◌, ◌≢◌, ℕ, zero, suc, ◌+◌, List, [], ◌∷◌, ◌++◌, Option, Some, None, Result, Ok, Err, refl, sym, ap, ◌∙◌, subst, arith, append_assoc}
use Rattle.std.proofs.lemmas.List.{append-nil}
use Rattle.hs_base.specs.declared.ends.End.{End}
use Rattle.hs_base.specs.declared.ends.End.TheVariants as end
use Rattle.hs_base.specs.Place.{Block}
use Rattle.hs_base.specs.State.{State}
use Rattle.hs_base.specs.Trace.{Event, Out, In, New, Gone, Enter, Leave, Ending, bytes_out, bytes_in, end_of}
use Rattle.hs_base.specs.Trace as meant
use Rattle.hs_base.specs.Runs as runs
use Rattle.hs_base.specs.RunsEquations.{after_zero, after_more, after_stays, one_end}
use Rattle.core_tree.specs.declared.program.Core.{Core}
use Rattle.core_tree.specs.Sound.{IsSound}
use Rattle.object_meaning.specs.objects.Going.{Next}
use Rattle.object_meaning.specs.objects.Meaning.{Run, step, begun, meaning, enough, step_by}
use Rattle.meaning_laws.specs.objects.Laws.{RunsEnd}
use Rattle.meaning_state.specs.Fitting.{Held, none_held, held_after, fits_in}
use Rattle.meaning_run.specs.declared.halt.Halt.{Halt}
use Rattle.meaning_run.specs.declared.halt.Halt.TheVariants as halt
use Rattle.meaning_run.specs.Leading.{with_input, AsksByte, events_of, PutsPart, SeenEnd, Seen}
use Rattle.meaning_run.proofs.Quiet.{held_append}
use Rattle.meaning_run.specs.Meant.{end_in, StopsAtIn, Stopped, Whole, MeanAnswers, Begins, answer_of}
use Rattle.hs_base.specs.TraceEquations.{out_append, in_append}

-- A trace is only added to

pub led_more : (trace : List Event) (n : Next) → (runs.led trace n).trace ≡ trace ++ events_of n
led_more trace (runs.Goes before events after) = refl
led_more trace (runs.Stops before events after e) = refl

module _ (core : Core) (heap : ℕ) where
  moved_more : (r : Run) (o : Option Ending) → (more : List Event) × ((runs.moved (step core heap) r o).trace ≡ r.trace ++ more)
  moved_more r (Some e) = ([], sym (append-nil r.trace))
  moved_more r None = (events_of (step core heap r.trace r.state), led_more r.trace (step core heap r.trace r.state))

  grows : (r : Run) (k j : ℕ) → (more : List Event) × ((runs.after (step core heap) r (k + j)).trace ≡ (runs.after (step core heap) r k).trace ++ more)
  grows r k zero = let e : k + 0 ≡ k = omega arith in ([], rw e (sym (append-nil (runs.after (step core heap) r k).trace)))
  grows r k (suc j) =
      let e : k + suc j ≡ k + j + 1 = omega arith in
      let so_far = grows r k j in
      let next = moved_more (runs.after (step core heap) r (k + j)) (runs.after (step core heap) r (k + j)).ended in
      (so_far.0 ++ next.0, rw (e, after_more (step core heap) r (k + j)) (next.1 ∙ ap (λ t. t ++ next.0) so_far.1 ∙ append_assoc (runs.after (step core heap) r k).trace so_far.0 next.0))

module _ (ends : RunsEnd) (core : Core) (sound : IsSound core) (input : List ℕ) (n heap : ℕ) where
  -- what is made so far stands at the front of the whole trace
  pub in_front : (k : ℕ) → (more : List Event) × ((meaning core input n heap).trace ≡ (runs.after (step core heap) (begun core input n) k).trace ++ more)
  in_front k =
      let r = begun core input n in
      let total = enough core r.state in
      let ended = ends core sound input n heap in
      let stays = after_stays (step core heap) r ended.0 total k ended.1 in
      let more = grows core heap r k total in
      let e : k + total ≡ total + k = omega arith in
      (more.0, sym (ap (λ (x : Run). x.trace) (ap (runs.after (step core heap) r) e ∙ stays)) ∙ more.1)

-- after k statements the run is at this state, with these blocks held, these bytes left and these taken
pub record Reached (core : Core) (input : List ℕ) (n heap : ℕ) (bytes : List ℕ) (now : State) (held : Held) (left' taken' : Option (List ℕ)) : Type 0 where
  pub k : ℕ
  pub left : List ℕ
  pub trace : List Event
  pub is_left : left' ≡ Some left
  pub is_taken : taken' ≡ Some (bytes ++ bytes_out trace)
  pub is_read : bytes_in trace ++ left ≡ input
  pub holds : held ≡ held_after (none_held heap) trace
  pub run : runs.after (step core heap) (begun core input n) k ≡ record { trace = trace; ended = None; state = with_input left now }

run_is : (r : Run) (s : State) → r.ended ≡ None → r.state ≡ s → r ≡ record { trace = r.trace; ended = None; state = s }
run_is r s e h =
    ap (λ (o : Option Ending). let x : Run = record { trace = r.trace; ended = o; state = r.state } in x) e
    ∙ ap (λ (t : State). let x : Run = record { trace = r.trace; ended = None; state = t } in x) h

pub reached_first : (core : Core) (input : List ℕ) (n : ℕ) (bytes : List ℕ) (now : State) (held : Held) (left' taken' : Option (List ℕ)) → held.blocks ≡ [] → Begins core input n now → left' ≡ Some input → taken' ≡ Some bytes → Reached core input n held.heap bytes now held left' taken'
reached_first core input n bytes now held left' taken' none h left taken =
    let r = begun core input n in
    record {
      k = 0;
      left = input;
      trace = r.trace;
      is_left = left;
      is_taken = taken ∙ ap Some (sym (ap (λ b. bytes ++ b) h.writes ∙ append-nil bytes));
      is_read = ap (λ b. b ++ input) h.reads;
      holds = ap (λ (bs : List Block). let x : Held = record { heap = held.heap; blocks = bs } in x) (none ∙ sym (h.places held.heap));
      run = after_zero (step core held.heap) r ∙ run_is r (with_input input now) h.goes h.state;
    }

module _ (core : Core) (input : List ℕ) (n heap : ℕ) (bytes : List ℕ) (old new : State) (k : ℕ) (left : List ℕ) (trace : List Event) (left' taken' : Option (List ℕ)) (is_read : bytes_in trace ++ left ≡ input) (run : runs.after (step core heap) (begun core input n) k ≡ record { trace = trace; ended = None; state = with_input left old }) where
  next_run : (next : Next) → step core heap trace (with_input left old) ≡ next → runs.after (step core heap) (begun core input n) (k + 1) ≡ runs.led trace next
  next_run next is = rw (after_more (step core heap) (begun core input n) k, run, is) refl

  reads_more : (events : List Event) (rest : List ℕ) → bytes_in events ++ rest ≡ left → bytes_in (trace ++ events) ++ rest ≡ input
  reads_more events rest e =
      ap (λ b. b ++ rest) (in_append trace events) ∙ append_assoc (bytes_in trace) (bytes_in events) rest ∙ ap (λ b. bytes_in trace ++ b) e ∙ is_read

  writes_more : (events : List Event) → taken' ≡ Some ((bytes ++ bytes_out trace) ++ bytes_out events) → taken' ≡ Some (bytes ++ bytes_out (trace ++ events))
  writes_more events e = rw (out_append trace events, ← append_assoc bytes (bytes_out trace) (bytes_out events)) e

  pub more : (next : Next) → step core heap trace (with_input left old) ≡ next → Seen next left (bytes ++ bytes_out trace) (Ok tt) new left' taken' → (held : Held) → held ≡ held_after (none_held heap) (trace ++ events_of next) → Reached core input n heap bytes new held left' taken'
  more (runs.Goes before events after) is h held holds = record {
    k = k + 1;
    left = after.input;
    trace = trace ++ events;
    is_left = h.1;
    is_taken = writes_more events h.2;
    is_read = reads_more events after.input h.0;
    holds = holds;
    run = next_run (runs.Goes before events after) is ∙ ap (λ (t : State). let r : Run = record { trace = trace ++ events; ended = None; state = t } in r) h.3;
  }
  more (runs.Stops before events after e) is h held holds = absurd h

  module _ (ends : RunsEnd) (sound : IsSound core) where
    -- the run so far and the events of the next statement stand at the front of the whole trace
    front : (next : Next) → step core heap trace (with_input left old) ≡ next → (rest : List Event) × ((meaning core input n heap).trace ≡ (trace ++ events_of next) ++ rest)
    front next is =
        let f = in_front ends core sound input n heap (k + 1) in
        (f.0, f.1 ∙ ap (λ t. t ++ f.0) (ap (λ (r : Run). r.trace) (next_run next is) ∙ led_more trace next))

    pub stopped : (next : Next) → step core heap trace (with_input left old) ≡ next → left' ≡ Some left → taken' ≡ Some (bytes ++ bytes_out trace) → Stopped (meaning core input n heap).trace input bytes left' taken'
    stopped next is l t =
        let f = front next is in
        record {
          before = trace;
          rest = events_of next ++ f.0;
          is = f.1 ∙ append_assoc trace (events_of next) f.0;
          is_taken = t;
          left = left;
          is_left = l;
          is_read = is_read;
        }

    pub asked : (next : Next) → step core heap trace (with_input left old) ≡ next → AsksByte next → left' ≡ Some left → taken' ≡ Some (bytes ++ bytes_out trace) → StopsAtIn (meaning core input n heap).trace input bytes left' taken'
    asked (runs.Goes before [] after) is asks l t = absurd asks
    asked (runs.Goes before (In byte ∷ events) after) is asks l t =
        let f = front (runs.Goes before (In byte ∷ events) after) is in
        record {
          before = trace;
          byte = byte;
          rest = events ++ f.0;
          is = f.1 ∙ append_assoc trace (In byte ∷ events) f.0;
          is_taken = t;
          left = left;
          is_left = l;
          is_read = is_read;
        }
    asked (runs.Goes before (Out byte ∷ events) after) is asks l t = absurd asks
    asked (runs.Goes before (New birth size line ∷ events) after) is asks l t = absurd asks
    asked (runs.Goes before (Gone birth ∷ events) after) is asks l t = absurd asks
    asked (runs.Goes before (Enter cost line ∷ events) after) is asks l t = absurd asks
    asked (runs.Goes before (Leave ∷ events) after) is asks l t = absurd asks
    asked (runs.Stops before events after e) is asks l t = absurd asks

    pub put_part : (next : Next) → step core heap trace (with_input left old) ≡ next → PutsPart next (bytes ++ bytes_out trace) taken' → left' ≡ Some left → Stopped (meaning core input n heap).trace input bytes left' taken'
    put_part next is p l =
        let f = front next is in
        record {
          before = trace ++ p.put;
          rest = p.rest ++ f.0;
          is = f.1 ∙ ap (λ es. (trace ++ es) ++ f.0) p.events ∙ ap (λ t. t ++ f.0) (sym (append_assoc trace p.put p.rest)) ∙ append_assoc (trace ++ p.put) p.rest f.0;
          is_taken = writes_more p.put p.is_taken;
          left = left;
          is_left = l;
          is_read = reads_more p.put left (ap (λ b. b ++ left) p.reads);
        }

    -- the meaning is the run after the statement with which it ends
    is_all : (d : Ending) → (runs.after (step core heap) (begun core input n) (k + 1)).ended ≡ Some d → meaning core input n heap ≡ runs.after (step core heap) (begun core input n) (k + 1)
    is_all d h =
        let r = begun core input n in
        let e = ends core sound input n heap in
        one_end (step core heap) r e.0 d (enough core r.state) (k + 1) e.1 h

    pub whole : (next : Next) → step core heap trace (with_input left old) ≡ next → (h : Halt) (e : End) (d : Ending) → end_of d ≡ Some e → (before : State) (events : List Event) (after : State) → next ≡ runs.Stops before events after d → bytes_in events ≡ [] → left' ≡ Some left → taken' ≡ Some ((bytes ++ bytes_out trace) ++ bytes_out events) → Whole core input n heap bytes e left' taken'
    whole next is h e d same before events after stops none l t =
        let last : Run = record { trace = trace ++ events; ended = Some d; state = after } in
        let end_is : runs.after (step core heap) (begun core input n) (k + 1) ≡ last = next_run (runs.Stops before events after d) (is ∙ stops) in
        let all : meaning core input n heap ≡ last = is_all d (ap (λ (r : Run). r.ended) end_is) ∙ end_is in
        record {
          end = ap (λ (r : Run). end_in r.ended) all ∙ same;
          is_taken = rw all (writes_more events t);
          left = left;
          is_left = l;
          is_read = rw all (reads_more events left (ap (λ b. b ++ left) none));
        }

module _ (core : Core) (input : List ℕ) (n heap : ℕ) (bytes : List ℕ) (old new : State) (held : Held) (left_old taken_old left' taken' : Option (List ℕ)) (r : Reached core input n heap bytes old held left_old taken_old) where
  -- what the statement leads to where these blocks are held
  abbrev pub leads : Held → Next
  leads h = step_by core (fits_in h) (with_input r.left old)

  abbrev now : Held
  now = held_after (none_held heap) r.trace

  seen_so : (result : Result Unit Halt) → ((left taken : List ℕ) → left_old ≡ Some left → taken_old ≡ Some taken → Seen (step_by core (fits_in held) (with_input left old)) left taken result new left' taken') → Seen (step core heap r.trace (with_input r.left old)) r.left (bytes ++ bytes_out r.trace) result new left' taken'
  seen_so result told =
      subst (λ (h : Held). Seen (leads h) r.left (bytes ++ bytes_out r.trace) result new left' taken') r.holds (told r.left (bytes ++ bytes_out r.trace) r.is_left r.is_taken)

  pub reached_more : ((left taken : List ℕ) → left_old ≡ Some left → taken_old ≡ Some taken → Seen (step_by core (fits_in held) (with_input left old)) left taken (Ok tt) new left' taken') → (held' : Held) → ((left : List ℕ) → held' ≡ held_after held (events_of (step_by core (fits_in held) (with_input left old)))) → Reached core input n heap bytes new held' left' taken'
  reached_more told held' placed =
      let there : held' ≡ held_after now (events_of (leads now)) = subst (λ (h : Held). held' ≡ held_after h (events_of (leads h))) r.holds (placed r.left) in
      more core input n heap bytes old new r.k r.left r.trace left' taken' r.is_read r.run (step core heap r.trace (with_input r.left old)) refl (seen_so (Ok tt) told) held' (there ∙ held_append (none_held heap) r.trace (events_of (leads now)))

  module _ (ends : RunsEnd) (sound : IsSound core) where
    -- an end of the meaning
    ended : (next : Next) → step core heap r.trace (with_input r.left old) ≡ next → (h : Halt) (e : End) (d : Ending) → end_of d ≡ Some e → (before : State) (events : List Event) (after : State) → next ≡ runs.Stops before events after d → bytes_in events ≡ [] → left' ≡ Some r.left → taken' ≡ Some ((bytes ++ bytes_out r.trace) ++ bytes_out events) → Whole core input n heap bytes e left' taken'
    ended next is = whole core input n heap bytes old new r.k r.left r.trace left' taken' r.is_read r.run ends sound next is

    answered : (next : Next) → step core heap r.trace (with_input r.left old) ≡ next → (h : Halt) → h ≢ halt.Dangling → SeenEnd next r.left (bytes ++ bytes_out r.trace) h left' taken' → MeanAnswers core input n heap bytes (answer_of h) left' taken'
    answered next is halt.NoMemory alive e = stopped core input n heap bytes old new r.k r.left r.trace left' taken' r.is_read r.run ends sound next is e.0 e.1
    answered next is halt.InputFault alive e = asked core input n heap bytes old new r.k r.left r.trace left' taken' r.is_read r.run ends sound next is e.0 e.1 e.2
    answered next is halt.OutputFault alive e = put_part core input n heap bytes old new r.k r.left r.trace left' taken' r.is_read r.run ends sound next is e.0 e.1
    answered next is halt.Dangling alive e = absurd (alive refl)
    answered (runs.Goes before events after) is (halt.Exit code) alive e = absurd e
    answered (runs.Goes before events after) is (halt.Trap kind line) alive e = absurd e
    answered (runs.Goes before events after) is (halt.BadFree why holder) alive e = absurd e
    answered (runs.Goes before events after) is (halt.Escape func local line) alive e = absurd e
    answered (runs.Goes before events after) is halt.Spent alive e = absurd e
    answered (runs.Stops before events after d) is (halt.Exit code) alive e =
        ended (runs.Stops before events after d) is (halt.Exit code) (end.Exit code) d (ap end_of e.0) before events after refl e.1 e.2 e.3
    answered (runs.Stops before events after d) is (halt.Trap kind line) alive e =
        ended (runs.Stops before events after d) is (halt.Trap kind line) (end.Trap kind line) d (ap end_of e.0) before events after refl e.1 e.2 e.3
    answered (runs.Stops before events after d) is (halt.BadFree why holder) alive e =
        ended (runs.Stops before events after d) is (halt.BadFree why holder) (end.BadFree why holder) d (ap end_of e.0) before events after refl e.1 e.2 e.3
    answered (runs.Stops before events after d) is (halt.Escape func local line) alive e =
        ended (runs.Stops before events after d) is (halt.Escape func local line) (end.Escape func local line) d (ap end_of e.0) before events after refl e.1 e.2 e.3
    answered (runs.Stops before events after d) is halt.Spent alive e =
        ended (runs.Stops before events after d) is halt.Spent end.Spent d (ap end_of e.0) before events after refl e.1 e.2 e.3

    pub reached_end : (h : Halt) → h ≢ halt.Dangling → ((left taken : List ℕ) → left_old ≡ Some left → taken_old ≡ Some taken → Seen (step_by core (fits_in held) (with_input left old)) left taken (Err h) new left' taken') → MeanAnswers core input n heap bytes (answer_of h) left' taken'
    reached_end h alive seen =
        answered (step core heap r.trace (with_input r.left old)) refl h alive (seen_so (Err h) seen)

-- Before the first statement

-- with alive step the run ends at once
pub spent : (core : Core) (input bytes : List ℕ) (n heap : ℕ) (left' taken' : Option (List ℕ)) → n ≡ 0 → left' ≡ Some input → taken' ≡ Some bytes → MeanAnswers core input n heap bytes (Ok end.Spent) left' taken'
spent core input bytes n heap left' taken' none l t =
    let r = begun core input 0 in
    let k = enough core r.state in
    let zero_k : 0 + k ≡ k = omega arith in
    let ended : (runs.after (step core heap) r 0).ended ≡ Some meant.Spent = ap (λ (x : Run). x.ended) (after_zero (step core heap) r) in
    let same : meaning core input 0 heap ≡ r = ap (runs.after (step core heap) r) (sym zero_k) ∙ after_stays (step core heap) r meant.Spent 0 k ended ∙ after_zero (step core heap) r in
    rw none (record {
      end = ap (λ (x : Run). end_in x.ended) same;
      is_taken = t ∙ ap Some (sym (ap (λ (x : Run). bytes ++ bytes_out x.trace) same ∙ append-nil bytes));
      left = input;
      is_left = l;
      is_read = ap (λ (x : Run). bytes_in x.trace ++ input) same;
    })

-- nothing was written or read
pub nothing : (core : Core) (input bytes : List ℕ) (n heap : ℕ) (left' taken' : Option (List ℕ)) → left' ≡ Some input → taken' ≡ Some bytes → Stopped (meaning core input n heap).trace input bytes left' taken'
nothing core input bytes n heap left' taken' l t = record {
  before = [];
  rest = (meaning core input n heap).trace;
  is = refl;
  is_taken = t ∙ ap Some (sym (append-nil bytes));
  left = input;
  is_left = l;
  is_read = refl;
}
