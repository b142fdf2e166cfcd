-- Where each move of one run is followed by some moves of another, the whole run is.
use Rattle.std.proofs.Common.{◌≡◌, ℕ, zero, suc, ◌+◌, ◌≤◌, List, Option, Some, None, refl, sym, ap, ◌∙◌, subst, arith}
use Rattle.hs_base.specs.Runs.{Next, Ran, led, moved, after}
use Rattle.meaning_laws.proofs.counts.Running.{StatesAgree}

-- a run that goes on from a trace and a state
abbrev pub going : {S E X : Type 0} → List E → S → Ran S E X
going trace s = record { trace = trace; ended = None; state = s }

pub after_add : {S E X : Type 0} (step : List E → S → Next S E X) (r : Ran S E X) (i j : ℕ) → after step (after step r i) j ≡ after step r (i + j)
unfolding after
after_add step r i zero = let e : i + 0 ≡ i = omega arith in rw e
after_add step r i (suc j) =
    let e : i + suc j ≡ suc (i + j) = omega arith in
    rw e (ap (λ q. moved step q q.ended) (after_add step r i j))

-- the first move of some
pub after_first : {S E X : Type 0} (step : List E → S → Next S E X) (r : Ran S E X) (k : ℕ) → after step r (suc k) ≡ after step (moved step r r.ended) k
unfolding after
after_first step r zero = refl
after_first step r (suc k) = ap (λ q. moved step q q.ended) (after_first step r k)

module _ {A B E X : Type 0} (R L : A → B → Type 0) (left : B → ℕ) where
  abbrev pub TiedAt : ℕ → ℕ → Option X → Ran A E X → Ran B E X → Type 0
  TiedAt total j (Some e) r q = (q.ended ≡ Some e) × L r.state q.state × (j ≤ total)
  TiedAt total j None r q = (q.ended ≡ None) × R r.state q.state × (left q.state + j ≤ total)

  -- a run and the run that follows it, which has made so many of its moves: the same trace, and either both have ended or none
  abbrev pub Tied : ℕ → ℕ → Ran A E X → Ran B E X → Type 0
  Tied total j r q = (q.trace ≡ r.trace) × TiedAt total j r.ended r q

  -- runs whose states agree so
  pub tied_at : (total j : ℕ) → j ≤ total → (o : Option X) (r : Ran A E X) (q : Ran B E X) → q.ended ≡ o → StatesAgree (λ a b. R a b × (left b + j ≤ total)) L o r.state q.state → TiedAt total j o r q
  tied_at total j le (Some e) r q h s = (h, s, le)
  tied_at total j le None r q h s = (h, s.0, s.1)

  module _ (f : List E → A → Next A E X) (g : List E → B → Next B E X) (one : (trace : List E) (a : A) (b : B) → R a b → (j : ℕ) × Tied (left b) j (led trace (f trace a)) (after g (going trace b) j)) where
    whole : (r : Ran A E X) (q : Ran B E X) → q.trace ≡ r.trace → q.ended ≡ None → q ≡ going r.trace q.state
    whole r q h i =
        ap (λ t. let p : Ran B E X = record { trace = t; ended = q.ended; state = q.state } in p) h
        ∙ ap (λ o. let p : Ran B E X = record { trace = r.trace; ended = o; state = q.state } in p) i

    later : (total i j : ℕ) (more : ℕ) (o : Option X) (r : Ran A E X) (q : Ran B E X) → more + i ≤ total → TiedAt more j o r q → TiedAt total (i + j) o r q
    later total i j more (Some e) r q h t = (t.0, t.1, omega (arith, t.2))
    later total i j more None r q h t = (t.0, t.1, omega (arith, t.2))

    follow : (total i : ℕ) (r : Ran A E X) (q : Ran B E X) (o : Option X) → r.ended ≡ o → q.trace ≡ r.trace → TiedAt total i o r q → (j : ℕ) × Tied total (i + j) (moved f r o) (after g q j)
    unfolding after
    follow total i r q (Some e) h tr t =
        let same : i + 0 ≡ i = omega arith in
        (0, (tr, subst (λ (k : ℕ). TiedAt total k r.ended r q) (sym same) (subst (λ (o : Option X). TiedAt total i o r q) (sym h) t)))
    follow total i r q None h tr t =
        let m = one r.trace r.state q.state t.1 in
        let n = subst (λ (p : Ran B E X). Tied (left q.state) m.0 (led r.trace (f r.trace r.state)) (after g p m.0)) (sym (whole r q tr t.0)) m.1 in
        (m.0, (n.0, later total i m.0 (left q.state) (led r.trace (f r.trace r.state)).ended (led r.trace (f r.trace r.state)) (after g q m.0) t.2 n.1))

    pub run_follows : (total i : ℕ) (r : Ran A E X) (q : Ran B E X) → Tied total i r q → (k : ℕ) → (j : ℕ) × Tied total (i + j) (after f r k) (after g q j)
    unfolding after
    run_follows total i r q t zero =
        let same : i + 0 ≡ i = omega arith in
        (0, subst (λ (n : ℕ). Tied total n r q) (sym same) t)
    run_follows total i r q t (suc k) =
        let m = run_follows total i r q t k in
        let p = after f r k in
        let n = follow total (i + m.0) p (after g q m.0) p.ended refl m.1.0 m.1.1 in
        let sum : i + m.0 + n.0 ≡ i + (m.0 + n.0) = omega arith in
        (m.0 + n.0, subst (λ (c : ℕ). Tied total c (moved f p p.ended) (after g q (m.0 + n.0))) sum (subst (λ (c : Ran B E X). Tied total (i + m.0 + n.0) (moved f p p.ended) c) (after_add g q m.0 n.0) n.1))
