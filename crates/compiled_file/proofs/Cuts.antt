-- A trace that goes on behind an event for which the stack has no room.
use Rattle.std.proofs.Common.{◌≡◌, ℕ, Bool, true, false, cond, List, [], ◌∷◌, ◌++◌, Option, Some, None, refl, ap, ◌∙◌}
use Rattle.hs_base.specs.Trace.{Event}
use Rattle.hs_base.specs.Cut.{Cut, fits, cut_from, cut}

module _ (stack : ℕ) where
  -- what is cut at an event
  abbrev at_event : Bool → List Event → Event → List Event → Cut
  at_event test before e events =
      cond test (cut_from stack (before ++ e ∷ []) events) (let c : Cut = record { kept = before; refused = Some e } in c)

  -- a cut goes on where it left nothing out, and else stays
  abbrev goes_on : Cut → Option Event → List Event → Cut
  goes_on c (Some e) events = c
  goes_on c None events = cut_from stack c.kept events

  joined_at : (test : Bool) (before : List Event) (e : Event) (events more : List Event) → (cut_from stack (before ++ e ∷ []) (events ++ more) ≡ goes_on (cut_from stack (before ++ e ∷ []) events) (cut_from stack (before ++ e ∷ []) events).refused more) → at_event test before e (events ++ more) ≡ goes_on (at_event test before e events) (at_event test before e events).refused more
  joined_at true before e events more h = h
  joined_at false before e events more h = refl

  joined : (before events more : List Event) → cut_from stack before (events ++ more) ≡ goes_on (cut_from stack before events) (cut_from stack before events).refused more
  joined before [] more = refl
  joined before (e ∷ events) more =
      joined_at (fits stack before e) before e events more (joined (before ++ e ∷ []) events more)

  -- the event is refused
  pub refused_at : (trace : List Event) (e : Event) (events : List Event) → cut stack trace ≡ record { kept = trace; refused = None } → fits stack trace e ≡ false → (cut stack (trace ++ e ∷ events)).refused ≡ Some e
  refused_at trace e events whole none =
      ap (λ (c : Cut). c.refused)
      (joined [] trace (e ∷ events) ∙ ap (λ (c : Cut). goes_on c c.refused (e ∷ events)) whole ∙ ap (λ test. at_event test trace e events) none)
