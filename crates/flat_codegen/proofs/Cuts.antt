-- Traces of which nothing is cut off.
use Rattle.std.proofs.Common.{◌≡◌, ℕ, Bool, true, false, cond, List, [], ◌∷◌, ◌++◌, Option, Some, None, refl, sym, ap, ◌∙◌}
use Rattle.std.proofs.lemmas.List.{append-nil, append_assoc}
use Rattle.hs_base.specs.Trace.{Event}
use Rattle.hs_base.specs.Cut.{Cut, fits, cut_from, cut}

abbrev pub whole : List Event → Cut
whole trace = record { kept = trace; refused = None }

abbrev pub IsWhole : ℕ → List Event → Type 0
IsWhole stack trace = cut stack trace ≡ whole trace

-- a cut goes on where it left nothing out, and else stays
abbrev pub goes_on : ℕ → Cut → Option Event → List Event → Cut
goes_on stack c (Some e) events = c
goes_on stack c None events = cut_from stack c.kept events

module _ (stack : ℕ) where
  -- what is cut at an event
  abbrev pub at_event : Bool → List Event → Event → List Event → Cut
  at_event test before e events =
      cond test (cut_from stack (before ++ e ∷ []) events) (let c : Cut = record { kept = before; refused = Some e } in c)

  joined_at : (test : Bool) (before : List Event) (e : Event) (events more : List Event) → (cut_from stack (before ++ e ∷ []) (events ++ more) ≡ goes_on stack (cut_from stack (before ++ e ∷ []) events) (cut_from stack (before ++ e ∷ []) events).refused more) → at_event test before e (events ++ more) ≡ goes_on stack (at_event test before e events) (at_event test before e events).refused more
  joined_at true before e events more h = h
  joined_at false before e events more h = refl

  pub joined : (before events more : List Event) → cut_from stack before (events ++ more) ≡ goes_on stack (cut_from stack before events) (cut_from stack before events).refused more
  joined before [] more = refl
  joined before (e ∷ events) more =
      joined_at (fits stack before e) before e events more (joined (before ++ e ∷ []) events more)

  -- what is kept where nothing is refused
  kept_at : (test : Bool) (before : List Event) (e : Event) (events : List Event) → ((cut_from stack (before ++ e ∷ []) events).refused ≡ None → cut_from stack (before ++ e ∷ []) events ≡ whole ((before ++ e ∷ []) ++ events)) → (at_event test before e events).refused ≡ None → at_event test before e events ≡ whole (before ++ e ∷ events)
  kept_at true before e events h i = h i ∙ ap whole (append_assoc before (e ∷ []) events)
  kept_at false before e events h i = absurd (cc)

  all_kept : (before events : List Event) → (cut_from stack before events).refused ≡ None → cut_from stack before events ≡ whole (before ++ events)
  all_kept before [] h = ap whole (sym (append-nil before))
  all_kept before (e ∷ events) h =
      kept_at (fits stack before e) before e events (λ i. all_kept (before ++ e ∷ []) events i) h

  -- behind a trace that is whole
  pub cut_behind : (trace more : List Event) → IsWhole stack trace → cut stack (trace ++ more) ≡ cut_from stack trace more
  cut_behind trace more h = joined [] trace more ∙ ap (λ (c : Cut). goes_on stack c c.refused more) h

  -- each first part of a trace that is whole is whole
  first_part_at : (o : Option Event) (trace more : List Event) → (cut stack trace).refused ≡ o → cut stack (trace ++ more) ≡ goes_on stack (cut stack trace) o more → IsWhole stack (trace ++ more) → (cut stack trace).refused ≡ None
  first_part_at None trace more i h w = i
  first_part_at (Some e) trace more i h w =
      absurd (let same : (cut stack trace).refused ≡ None = ap (λ (c : Cut). c.refused) (sym h ∙ w) in let no : Some e ≡ None = sym i ∙ same in (cc))

  pub first_part : (trace more : List Event) → IsWhole stack (trace ++ more) → IsWhole stack trace
  first_part trace more w =
      all_kept [] trace (first_part_at (cut stack trace).refused trace more refl (joined [] trace more) w)

  -- the next event of a trace that is whole has room
  fits_at : (test : Bool) (trace : List Event) (e : Event) (more : List Event) → at_event test trace e more ≡ whole (trace ++ e ∷ more) → test ≡ true
  fits_at true trace e more h = refl
  fits_at false trace e more h =
      absurd (let no : Some e ≡ None = ap (λ (c : Cut). c.refused) h in (cc))

  pub next_fits : (trace : List Event) (e : Event) (more : List Event) → IsWhole stack (trace ++ e ∷ more) → fits stack trace e ≡ true
  next_fits trace e more w =
      fits_at (fits stack trace e) trace e more (sym (cut_behind trace (e ∷ more) (first_part trace (e ∷ more) w)) ∙ w)
