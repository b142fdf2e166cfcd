-- Events that write and read bytes.
use Rattle.std.proofs.Common.{◌≡◌, ℕ, List, [], ◌∷◌, ◌++◌, map, Option, Some, Result, Ok, Err, refl, sym, ap, ◌∙◌}
use Rattle.std.proofs.lemmas.List.{append-nil, map-append}
use Rattle.hs_base.specs.State.{State}
use Rattle.hs_base.specs.Trace.{Out}
use Rattle.hs_base.specs.Runs as runs
use Rattle.object_meaning.specs.objects.Going.{Next}
use Rattle.object_meaning.specs.objects.Builtins.{get_byte}
use Rattle.meaning_run.specs.declared.halt.Halt.{Halt}
use Rattle.meaning_run.specs.declared.halt.Halt.TheVariants as halt
use Rattle.hs_base.specs.Access as access
use Rattle.object_meaning.specs.objects.Going.{stops_after, ended_by}
use Rattle.meaning_state.specs.declared.refusal.Refusal.{Refusal}
use Rattle.meaning_state.specs.declared.refusal.Refusal.TheVariants as refusal
use Rattle.meaning_state.specs.Printing.{IsRefused}
use Rattle.meaning_run.specs.Ending.{halt_of}
use Rattle.meaning_run.specs.Leading.{Counted, with_input, AsksByte, events_of, PutsPart, StopsAlone, Alone, StopsSo, Moves, SeenEnd, Seen}
use Rattle.hs_base.specs.TraceEquations.{out_bytes, in_bytes}

-- a first part of the bytes was taken
pub part : (next : Next) (taken put rest bytes : List ℕ) (taken' : Option (List ℕ)) → events_of next ≡ map Out bytes → put ++ rest ≡ bytes → taken' ≡ Some (taken ++ put) → PutsPart next taken taken'
part next taken put rest bytes taken' events is h = record {
  put = map Out put;
  rest = map Out rest;
  events = events ∙ ap (map Out) (sym is) ∙ map-append Out put rest;
  reads = in_bytes put;
  is_taken = h ∙ ap (λ bs. Some (taken ++ bs)) (sym (out_bytes put));
}

-- a statement that reads asks for a byte, whatever is left
pub asks : (r : Option ℕ) (left : List ℕ) (s : State) → AsksByte (get_byte r left s)
asks r [] s = tt
asks r (byte ∷ rest) s = tt

-- A statement that neither writes nor reads a byte, as the others are seen

stops_seen : (next : Next) (left taken : List ℕ) (h : Halt) → StopsAlone next h → SeenEnd next left taken h (Some left) (Some taken)
stops_seen next left taken halt.NoMemory e = (refl, refl)
stops_seen (runs.Goes before events after) left taken (halt.Exit code) e = absurd e
stops_seen (runs.Goes before events after) left taken (halt.Trap kind line) e = absurd e
stops_seen (runs.Goes before events after) left taken (halt.BadFree why holder) e = absurd e
stops_seen (runs.Goes before events after) left taken (halt.Escape func local line) e = absurd e
stops_seen (runs.Goes before events after) left taken halt.Spent e = absurd e
stops_seen (runs.Goes before events after) left taken halt.Dangling e = absurd e
stops_seen (runs.Goes before events after) left taken halt.InputFault e = absurd e
stops_seen (runs.Goes before events after) left taken halt.OutputFault e = absurd e
stops_seen (runs.Stops before events after ending) left taken (halt.Exit code) e = (e.1, e.0.1, refl, ap Some (sym (ap (λ b. taken ++ b) e.0.0 ∙ append-nil taken)))
stops_seen (runs.Stops before events after ending) left taken (halt.Trap kind line) e = (e.1, e.0.1, refl, ap Some (sym (ap (λ b. taken ++ b) e.0.0 ∙ append-nil taken)))
stops_seen (runs.Stops before events after ending) left taken (halt.BadFree why holder) e = (e.1, e.0.1, refl, ap Some (sym (ap (λ b. taken ++ b) e.0.0 ∙ append-nil taken)))
stops_seen (runs.Stops before events after ending) left taken (halt.Escape func local line) e = (e.1, e.0.1, refl, ap Some (sym (ap (λ b. taken ++ b) e.0.0 ∙ append-nil taken)))
stops_seen (runs.Stops before events after ending) left taken halt.Spent e = (e.1, e.0.1, refl, ap Some (sym (ap (λ b. taken ++ b) e.0.0 ∙ append-nil taken)))
stops_seen (runs.Stops before events after ending) left taken halt.Dangling e = (e.1, e.0.1, refl, ap Some (sym (ap (λ b. taken ++ b) e.0.0 ∙ append-nil taken)))
stops_seen (runs.Stops before events after ending) left taken halt.InputFault e = absurd e.1
stops_seen (runs.Stops before events after ending) left taken halt.OutputFault e = absurd e.1

pub seen_alone : (next : Next) (left taken : List ℕ) (new : State) (result : Result Unit Halt) → Alone left next new result → Seen next left taken result new (Some left) (Some taken)
seen_alone next left taken new (Err h) e = stops_seen next left taken h e
seen_alone (runs.Goes before events after) left taken new (Ok u) e =
    let input : after.input ≡ left = ap (λ (s : State). s.input) e.1 in (
      ap (λ b. b ++ after.input) e.0.1 ∙ input,
      ap Some (sym input),
      ap Some (sym (ap (λ b. taken ++ b) e.0.0 ∙ append-nil taken)),
      e.1 ∙ ap (λ i. with_input i new) (sym input),
    )
seen_alone (runs.Stops before events after ending) left taken new (Ok u) e = absurd e

stops_moves : (next : Next) (h : Halt) → StopsAlone next h → StopsSo next h
stops_moves next halt.NoMemory e = tt
stops_moves next halt.InputFault e = tt
stops_moves next halt.OutputFault e = tt
stops_moves (runs.Goes before events after) (halt.Exit code) e = absurd e
stops_moves (runs.Goes before events after) (halt.Trap kind line) e = absurd e
stops_moves (runs.Goes before events after) (halt.BadFree why holder) e = absurd e
stops_moves (runs.Goes before events after) (halt.Escape func local line) e = absurd e
stops_moves (runs.Goes before events after) halt.Spent e = absurd e
stops_moves (runs.Goes before events after) halt.Dangling e = absurd e
stops_moves (runs.Stops before events after ending) (halt.Exit code) e = e.1
stops_moves (runs.Stops before events after ending) (halt.Trap kind line) e = e.1
stops_moves (runs.Stops before events after ending) (halt.BadFree why holder) e = e.1
stops_moves (runs.Stops before events after ending) (halt.Escape func local line) e = e.1
stops_moves (runs.Stops before events after ending) halt.Spent e = e.1
stops_moves (runs.Stops before events after ending) halt.Dangling e = e.1

pub moves_alone : (next : Next) (left : List ℕ) (new : State) (result : Result Unit Halt) → Alone left next new result → Moves next new result
moves_alone next left new (Err h) e = stops_moves next h e
moves_alone (runs.Goes before events after) left new (Ok u) e =
    e.1 ∙ ap (λ i. with_input i new) (sym (ap (λ (s : State). s.input) e.1))
moves_alone (runs.Stops before events after ending) left new (Ok u) e = absurd e

-- the end for a refusal, behind bytes that were written
pub refused_seen : (refusal : Refusal) (e : access.Refusal) → IsRefused (Some refusal) (Some e) → (line : ℕ) (s : State) (bytes left taken : List ℕ) (taken' : Option (List ℕ)) → taken' ≡ Some (taken ++ bytes) → SeenEnd (stops_after s (map Out bytes) s (ended_by line e)) left taken (halt_of line refusal) (Some left) taken'
refused_seen (refusal.Trapped kind) e is line s bytes left taken taken' h =
    let same : e ≡ access.Trapped kind = cc in
    rw same (refl, in_bytes bytes, refl, h ∙ ap (λ bs. Some (taken ++ bs)) (sym (out_bytes bytes)))
refused_seen refusal.ReadsDead e is line s bytes left taken taken' h =
    let same : e ≡ access.ReadsDead = cc in
    rw same (refl, in_bytes bytes, refl, h ∙ ap (λ bs. Some (taken ++ bs)) (sym (out_bytes bytes)))
refused_seen refusal.NoMemory e is line s bytes left taken taken' h = absurd is

stops_counted : (next : Next) (h : Halt) (i o : ℕ) → StopsAlone next h → Counted (Err h) i i o o
stops_counted next (halt.Exit code) i o e = (refl, refl)
stops_counted next (halt.Trap kind line) i o e = (refl, refl)
stops_counted next (halt.BadFree why holder) i o e = (refl, refl)
stops_counted next (halt.Escape func local line) i o e = (refl, refl)
stops_counted next halt.Spent i o e = (refl, refl)
stops_counted next halt.Dangling i o e = (refl, refl)
stops_counted next halt.NoMemory i o e = (refl, refl)
stops_counted (runs.Goes before events after) halt.InputFault i o e = absurd e
stops_counted (runs.Stops before events after ending) halt.InputFault i o e = absurd e.1
stops_counted (runs.Goes before events after) halt.OutputFault i o e = absurd e
stops_counted (runs.Stops before events after ending) halt.OutputFault i o e = absurd e.1

-- no count of faults rises
pub alone_counted : (next : Next) (left : List ℕ) (new : State) (result : Result Unit Halt) (i o : ℕ) → Alone left next new result → Counted result i i o o
alone_counted next left new (Ok u) i o e = (refl, refl)
alone_counted next left new (Err h) i o e = stops_counted next h i o e
