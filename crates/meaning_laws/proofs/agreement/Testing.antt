-- Runs in which each event is tested before it comes.
use Rattle.meaning_laws.proofs.Words.Core.{Core, Ending, Event, Goes, IsSound, Ran, State, Stops, after, after_stays, after_zero, led, moved, tested}
use Rattle.meaning_laws.proofs.Words.Meaning.{LeavesLess, testing}
use Rattle.meaning_laws.proofs.Words.Std.{Bool, List, None, Option, Some, [], ap, arith, cond, false, refl, subst, suc, sym, true, zero, ℕ, ◌+◌, ◌<◌, ◌∙◌, ◌∷◌, ◌≡◌, ◌≤◌}
use Rattle.hs_base.specs.Runs.{Next}
use Rattle.object_meaning.specs.objects.Going as going
use Rattle.object_meaning.specs.objects.Meaning as meaning
use Rattle.object_meaning.specs.objects.Meaning.{enough}
use Rattle.meaning_laws.proofs.dangling.Falls.{step_falls_at, all_forward}
use Rattle.meaning_laws.proofs.agreement.Following.{after_first}

-- A test that lets every event through

module _ {S E X : Type 0} (refused : E → X) where
  pub untested : (trace : List E) (next : Next S E X) → tested (λ trace e. true) refused trace next ≡ next
  untested trace (Goes b [] t) = refl
  untested trace (Goes b (e ∷ es) t) = refl
  untested trace (Stops b [] t x) = refl
  untested trace (Stops b (e ∷ es) t x) = refl

-- Runs whose steps make something smaller end

module _ {S E X : Type 0} (much : S → ℕ) where
  -- where the run goes on, less is left
  abbrev pub Less : S → Next S E X → Type 0
  Less s (Goes b es t) = much t < much s
  Less s (Stops b es t x) = Unit {0}

  less_cond : (s : S) (test : Bool) (n m : Next S E X) → Less s n → Less s m → Less s (cond test n m)
  less_cond s true n m h i = h
  less_cond s false n m h i = i

  -- also where each event is tested
  pub less_tested : (fits : List E → E → Bool) (refused : E → X) (trace : List E) (s : S) (next : Next S E X) → Less s next → Less s (tested fits refused trace next)
  less_tested fits refused trace s (Goes b [] t) h = h
  less_tested fits refused trace s (Goes b (e ∷ es) t) h =
      less_cond s (fits trace e) (Goes b (e ∷ es) t) (Stops b [] b (refused e)) h tt
  less_tested fits refused trace s (Stops b [] t x) h = tt
  less_tested fits refused trace s (Stops b (e ∷ es) t x) h =
      less_cond s (fits trace e) (Stops b (e ∷ es) t x) (Stops b [] b (refused e)) tt tt

  module _ (step : List E → S → Next S E X) (falls : (trace : List E) (s : S) → Less s (step trace s)) (some : (s : S) → 0 < much s) where
    abbrev HasEnded : Ran S E X → Type 0
    HasEnded r = (x : X) × (r.ended ≡ Some x)

    stays_ended : (r : Ran S E X) (x : X) (k : ℕ) → r.ended ≡ Some x → HasEnded (after step r k)
    stays_ended r x k h =
        let begun : (after step r 0).ended ≡ Some x = ap (λ (q : Ran S E X). q.ended) (after_zero step r) ∙ h in
        let sum : 0 + k ≡ k = omega arith in
        let same : after step r k ≡ after step r 0 = ap (after step r) (sym sum) ∙ after_stays step r x 0 k begun in
        (x, ap (λ (q : Ran S E X). q.ended) same ∙ begun)

    behind : (k : ℕ) (s : S) (trace : List E) (next : Next S E X) → Less s next → much s ≤ suc k → ((r : Ran S E X) → much r.state ≤ k → HasEnded (after step r k)) → HasEnded (after step (led trace next) k)
    behind k s trace (Goes b es t) less le ends = ends (led trace (Goes b es t)) (omega (arith, less, le))
    behind k s trace (Stops b es t x) less le ends = stays_ended (led trace (Stops b es t x)) x k refl

    by_end : (k : ℕ) (r : Ran S E X) (o : Option X) → r.ended ≡ o → much r.state ≤ suc k → ((r : Ran S E X) → much r.state ≤ k → HasEnded (after step r k)) → HasEnded (after step (moved step r o) k)
    by_end k r (Some x) h le ends = stays_ended r x k h
    by_end k r None h le ends =
        behind k r.state r.trace (step r.trace r.state) (falls r.trace r.state) le ends

    -- after as many steps
    pub runs_end : (k : ℕ) (r : Ran S E X) → much r.state ≤ k → HasEnded (after step r k)
    runs_end zero r le = absurd (omega (arith, some r.state, le))
    runs_end (suc k) r le =
        let ends = by_end k r r.ended refl le (runs_end k) in
        subst HasEnded (sym (after_first step r k)) ends

-- The meaning of a core

module _ (core : Core) (sound : IsSound core) (fits : List Event → Event → Bool) (refused : Event → Ending) (heap : ℕ) where
  less_falls : (s : State) (next : going.Next) → LeavesLess core s next → Less (enough core) s next
  less_falls s (Goes b es t) h = h
  less_falls s (Stops b es t x) h = tt

  -- a run in which each event is tested has ended
  pub tested_ends : (r : meaning.Run) → (e : Ending) × ((after (testing fits refused (meaning.step core heap)) r (enough core r.state)).ended ≡ Some e)
  tested_ends r =
      let falls : (trace : List Event) (s : State) → Less (enough core) s (testing fits refused (meaning.step core heap) trace s) = λ trace s. less_tested (enough core) fits refused trace s (meaning.step core heap trace s) (less_falls s (meaning.step core heap trace s) (step_falls_at core (all_forward core sound) heap trace s)) in
      runs_end (enough core) (testing fits refused (meaning.step core heap)) falls (λ s. omega arith) (enough core r.state) r (omega arith)
