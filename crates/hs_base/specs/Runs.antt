-- Runs of a machine whose step sees the trace so far. The meaning, the counted meaning, the meaning of flat code and
-- the machine itself are such machines.
use Rattle.std.specs.Prelude.{ℕ, zero, suc, Bool, cond, List, [], ◌∷◌, ◌++◌, Option, Some, None}

-- what one step leads to: some events and the state after them, and whether the run ends there; before is the state that
-- a cut at the first of the events keeps
pub data Next (S E X : Type 0) : Type 0 where
  Goes : (before : S) (events : List E) (after : S) → Next S E X
  Stops : (before : S) (events : List E) (after : S) (end : X) → Next S E X

-- a run so far: its trace, its end where it has ended, and its state
pub record Ran (S E X : Type 0) : Type 0 where
  pub trace : List E
  pub ended : Option X
  pub state : S

module _ {S E X : Type 0} where
  abbrev pub fresh : S → Ran S E X
  fresh s = record { trace = []; ended = None; state = s }

  abbrev pub led : List E → Next S E X → Ran S E X
  led trace (Goes before events after) = record { trace = trace ++ events; ended = None; state = after }
  led trace (Stops before events after end) = record { trace = trace ++ events; ended = Some end; state = after }

  -- one step more; an ended run stays as it is
  abbrev pub moved : (List E → S → Next S E X) → Ran S E X → Option X → Ran S E X
  moved step r (Some end) = r
  moved step r None = led r.trace (step r.trace r.state)

  -- a run after so many steps more
  unfoldable pub after : (List E → S → Next S E X) → Ran S E X → ℕ → Ran S E X
  after step r zero = r
  after step r (suc k) = let so_far = after step r k in moved step so_far so_far.ended

  -- a step that stops before its first event where that does not fit: the run that tests each event as it comes
  abbrev pub tested : (List E → E → Bool) → (E → X) → List E → Next S E X → Next S E X
  tested fits refused trace (Goes before [] after) = Goes before [] after
  tested fits refused trace (Goes before (e ∷ events) after) =
      cond (fits trace e) (Goes before (e ∷ events) after) (Stops before [] before (refused e))
  tested fits refused trace (Stops before [] after end) = Stops before [] after end
  tested fits refused trace (Stops before (e ∷ events) after end) =
      cond (fits trace e) (Stops before (e ∷ events) after end) (Stops before [] before (refused e))
