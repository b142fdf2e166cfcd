-- A run of code of which the stack cuts nothing off ends in the last state of the meaning.
use Rattle.std.proofs.Common.{◌≡◌, ℕ, zero, suc, ◌+◌, ◌-◌, ◌<◌, ◌≤◌, Bool, true, false, cond, List, [], ◌∷◌, ◌++◌, Option, Some, None, refl, sym, ap, ◌∙◌, subst, arith, ⊎_elim, append_assoc}
use Rattle.std.specs.Prelude.{unwrap_or}
use Rattle.std.proofs.lemmas.Bool.{cases_lt}
use Rattle.hs_base.specs.declared.ends.Limits.{Limits}
use Rattle.hs_base.specs.Trace.{Event, Ending, Dangling}
use Rattle.hs_base.specs.Cut.{cut, fits, refused_ending}
use Rattle.hs_base.specs.Runs.{Next, Goes, Stops, Ran, after, fresh, led, moved}
use Rattle.hs_base.specs.RunsEquations.{after_grows, after_more, after_stays, one_end}
use Rattle.flat_code.specs.declared.program.Code.{Code}
use Rattle.object_meaning.specs.code.CodeState.{CodeState}
use Rattle.object_meaning.specs.code.CodeMeaning.{enough, meaning, start, step}
use Rattle.flat_machine.specs.Lasting.{EndsIn, cut_next}
use Rattle.compiled_file.proofs.Cuts.{refused_at}

module _ {S : Type 0} (make : List Event → S → Next S Event Ending) where
  abbrev pub going : List Event → S → Ran S Event Ending
  going trace s = record { trace = trace; ended = None; state = s }

  -- so many steps, and then so many more
  in_turn : (r : Ran S Event Ending) (j k : ℕ) → after make r (j + k) ≡ after make (after make r j) k
  unfolding after
  in_turn r j zero = let i : j + 0 ≡ j = omega arith in rw i
  in_turn r j (suc k) =
      let i : j + suc k ≡ suc (j + k) = omega arith in
      ap (after make r) i ∙ ap (λ (q : Ran S Event Ending). moved make q q.ended) (in_turn r j k)

  -- the step from a state before the end
  pub next_step : (r : Ran S Event Ending) (j : ℕ) (trace : List Event) (now : S) → after make r j ≡ going trace now → after make r (j + 1) ≡ led trace (make trace now)
  next_step r j trace now h = after_more make r j ∙ ap (λ (q : Ran S Event Ending). moved make q q.ended) h

  -- the trace of a run that has ended has what that step adds
  pub grown : (r : Ran S Event Ending) (j k : ℕ) (trace : List Event) (now : S) (ending : Ending) → after make r j ≡ going trace now → (after make r k).ended ≡ Some ending →
      (more : List Event) × ((after make r k).trace ≡ (led trace (make trace now)).trace ++ more)
  grown r j k trace now ending h end =
      ⊎_elim
      (λ lt.
      let n : (j + 1) + (k - (j + 1)) ≡ k = omega arith in
      let more = after_grows make (after make r (j + 1)) (k - (j + 1)) in
      let there = sym (ap (after make r) n) ∙ in_turn r (j + 1) (k - (j + 1)) in
      (more.0, ap (λ (q : Ran S Event Ending). q.trace) there ∙ more.1 ∙ ap (λ (q : Ran S Event Ending). q.trace ++ more.0) (next_step r j trace now h)))
      (λ le.
      let n : k + (j - k) ≡ j = omega arith in
      let stays = sym (ap (after make r) n) ∙ after_stays make r ending k (j - k) end in
      absurd (let no : None ≡ Some ending = sym (ap (λ (q : Ran S Event Ending). q.ended) h) ∙ ap (λ (q : Ran S Event Ending). q.ended) stays ∙ end in (cc)))
      (cases_lt j k)

module _ (code : Code) (input : List ℕ) (n : ℕ) (limits : Limits) (last : CodeState) (ending : Ending) (ends : EndsIn code input n limits last) (none : (cut limits.stack (meaning code input n limits.heap).trace).refused ≡ None) (ended : (meaning code input n limits.heap).ended ≡ Some ending) where
  abbrev make : List Event → CodeState → Next CodeState Event Ending
  make = step code limits.heap

  abbrev begun : Ran CodeState Event Ending
  begun = fresh (start code input n)

  abbrev many : ℕ
  many = enough code (start code input n).state

  abbrev no_room : Event → Ending
  no_room e = unwrap_or (refused_ending e) Dangling

  abbrev IsStop : Next CodeState Event Ending → Type 0
  IsStop next = next ≡ Stops ends.before ends.events last ends.ending

  -- the last step is the one of the run that is not cut
  stopped : (b t : CodeState) (events : List Event) (x : Ending) → make ends.trace ends.now ≡ Stops b events t x → t ≡ last → (meaning code input n limits.heap).state ≡ last
  stopped b t events x is same =
      let there = next_step make begun ends.count ends.trace ends.now ends.run ∙ ap (led ends.trace) is in
      ap (λ (r : Ran CodeState Event Ending). r.state) (one_end make begun ending x many (ends.count + 1) ended (ap (λ (r : Ran CodeState Event Ending). r.ended) there) ∙ there) ∙ same

  -- nothing is refused
  room : (next : Next CodeState Event Ending) (e : Event) (events : List Event) → make ends.trace ends.now ≡ next → (led ends.trace next).trace ≡ ends.trace ++ e ∷ events → fits limits.stack ends.trace e ≡ false → ⊥
  room next e events is adds fails =
      let more = grown make begun ends.count many ends.trace ends.now ending ends.run ended in
      let whole = more.1 ∙ ap (λ (s : Next CodeState Event Ending). (led ends.trace s).trace ++ more.0) is ∙ ap (λ (t : List Event). t ++ more.0) adds ∙ append_assoc ends.trace (e ∷ events) more.0 in
      let refused = refused_at limits.stack ends.trace e (events ++ more.0) ends.is_whole fails in
      let both : Some e ≡ None = sym refused ∙ ap (λ (t : List Event). (cut limits.stack t).refused) (sym whole) ∙ none in
      (cc)

  by_test : (test : Bool) (b : CodeState) (e : Event) (events : List Event) (next : Next CodeState Event Ending) → fits limits.stack ends.trace e ≡ test → make ends.trace ends.now ≡ next → (led ends.trace next).trace ≡ ends.trace ++ e ∷ events →
      IsStop (cond test next (Stops b [] b (no_room e))) → IsStop next
  by_test true b e events next fit is adds stop = stop
  by_test false b e events next fit is adds stop = absurd (room next e events is adds fit)

  ends_last : (next : Next CodeState Event Ending) → make ends.trace ends.now ≡ next → IsStop (cut_next limits.stack ends.trace next) → (meaning code input n limits.heap).state ≡ last
  ends_last (Goes b [] t) is stop = absurd (cc)
  ends_last (Goes b (e ∷ events) t) is stop =
      let goes : IsStop (Goes b (e ∷ events) t) = by_test (fits limits.stack ends.trace e) b e events (Goes b (e ∷ events) t) refl is refl stop in
      absurd (cc)
  ends_last (Stops b [] t x) is stop = stopped b t [] x is (cc)
  ends_last (Stops b (e ∷ events) t x) is stop =
      let stops : IsStop (Stops b (e ∷ events) t x) = by_test (fits limits.stack ends.trace e) b e events (Stops b (e ∷ events) t x) refl is refl stop in
      stopped b t (e ∷ events) x is (cc)

  pub whole_run : (meaning code input n limits.heap).state ≡ last
  whole_run = ends_last (make ends.trace ends.now) refl ends.stops
