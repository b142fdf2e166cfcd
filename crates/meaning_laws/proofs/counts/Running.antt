-- Machines whose steps agree have runs that agree, also where each event is tested.
use Rattle.std.proofs.Common.{◌≡◌, ℕ, zero, suc, Bool, true, false, cond, List, [], ◌∷◌, ◌++◌, Option, Some, None, refl, sym, ap, subst}
use Rattle.hs_base.specs.Runs.{Next, Goes, Stops, Ran, led, moved, after, tested}

-- states that agree in one way where a run goes on, and in another where it has ended
abbrev pub StatesAgree : {S T X : Type 0} → (S → T → Type 0) → (S → T → Type 0) → Option X → S → T → Type 0
StatesAgree R L None s t = R s t
StatesAgree R L (Some x) s t = L s t

module _ {S T E X : Type 0} (R L : S → T → Type 0) where
  -- the same events and the same end
  abbrev pub Agree : Next S E X → Next T E X → Type 0
  Agree (Goes b e t) (Goes c f u) = L b c × (f ≡ e) × R t u
  Agree (Stops b e t x) (Stops c f u y) = L b c × (f ≡ e) × L t u × (y ≡ x)
  Agree (Goes b e t) (Stops c f u y) = ⊥
  Agree (Stops b e t x) (Goes c f u) = ⊥

  abbrev pub RunsAgree : Ran S E X → Ran T E X → Type 0
  RunsAgree r q = (q.trace ≡ r.trace) × (q.ended ≡ r.ended) × StatesAgree R L r.ended r.state q.state

  pub led_agree : (trace : List E) (n : Next S E X) (m : Next T E X) → Agree n m → RunsAgree (led trace n) (led trace m)
  led_agree trace (Goes b e t) (Goes c f u) h = (ap (λ es. trace ++ es) h.1, refl, h.2)
  led_agree trace (Stops b e t x) (Stops c f u y) h = (ap (λ es. trace ++ es) h.1, ap (λ z. Some z) h.3, h.2)
  led_agree trace (Goes b e t) (Stops c f u y) h = absurd h
  led_agree trace (Stops b e t x) (Goes c f u) h = absurd h

  module _ (fits : List E → E → Bool) (refused : E → X) (trace : List E) where
    cond_agree : (test : Bool) (n o : Next S E X) (m p : Next T E X) → Agree n m → Agree o p → Agree (cond test n o) (cond test m p)
    cond_agree true n o m p h i = h
    cond_agree false n o m p h i = i

    goes_tested : (b t : S) (c u : T) (e : List E) → L b c → R t u → Agree (tested fits refused trace (Goes b e t)) (tested fits refused trace (Goes c e u))
    goes_tested b t c u [] h i = (h, refl, i)
    goes_tested b t c u (x ∷ e) h i =
        cond_agree (fits trace x) (Goes b (x ∷ e) t) (Stops b [] b (refused x)) (Goes c (x ∷ e) u) (Stops c [] c (refused x)) (h, refl, i) (h, refl, h, refl)

    stops_tested : (b t : S) (c u : T) (e : List E) (x : X) → L b c → L t u → Agree (tested fits refused trace (Stops b e t x)) (tested fits refused trace (Stops c e u x))
    stops_tested b t c u [] x h i = (h, refl, i, refl)
    stops_tested b t c u (y ∷ e) x h i =
        cond_agree (fits trace y) (Stops b (y ∷ e) t x) (Stops b [] b (refused y)) (Stops c (y ∷ e) u x) (Stops c [] c (refused y)) (h, refl, i, refl) (h, refl, h, refl)

    pub tested_agree : (n : Next S E X) (m : Next T E X) → Agree n m → Agree (tested fits refused trace n) (tested fits refused trace m)
    tested_agree (Goes b e t) (Goes c f u) h =
        subst (λ es. Agree (tested fits refused trace (Goes b e t)) (tested fits refused trace (Goes c es u))) (sym h.1) (goes_tested b t c u e h.0 h.2)
    tested_agree (Stops b e t x) (Stops c f u y) h =
        subst (λ z. Agree (tested fits refused trace (Stops b e t x)) (tested fits refused trace (Stops c f u z))) (sym h.3) (subst (λ es. Agree (tested fits refused trace (Stops b e t x)) (tested fits refused trace (Stops c es u x))) (sym h.1) (stops_tested b t c u e x h.0 h.2))
    tested_agree (Goes b e t) (Stops c f u y) h = absurd h
    tested_agree (Stops b e t x) (Goes c f u) h = absurd h

  module _ (f : List E → S → Next S E X) (g : List E → T → Next T E X) (one : (trace : List E) (s : S) (t : T) → R s t → Agree (f trace s) (g trace t)) where
    moved_agree : (r : Ran S E X) (q : Ran T E X) (o : Option X) → r.ended ≡ o → RunsAgree r q → RunsAgree (moved f r o) (moved g q o)
    moved_agree r q (Some x) e h = h
    moved_agree r q None e h =
        let related : R r.state q.state = subst (λ o. StatesAgree R L o r.state q.state) e h.2 in
        subst (λ trace. RunsAgree (led r.trace (f r.trace r.state)) (led trace (g trace q.state))) (sym h.0) (led_agree r.trace (f r.trace r.state) (g r.trace q.state) (one r.trace r.state q.state related))

    pub after_agree : (r : Ran S E X) (q : Ran T E X) → RunsAgree r q → (k : ℕ) → RunsAgree (after f r k) (after g q k)
    unfolding after
    after_agree r q h zero = h
    after_agree r q h (suc k) =
        let so_far = after_agree r q h k in
        let p = after f r k in
        subst (λ o. RunsAgree (moved f p p.ended) (moved g (after g q k) o)) (sym so_far.1) (moved_agree p (after g q k) p.ended refl so_far)
