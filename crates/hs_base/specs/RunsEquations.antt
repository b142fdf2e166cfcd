-- How runs go on. Equations, proved from `Runs`.
use Rattle.std.proofs.Common.{◌≡◌, ℕ, zero, suc, ◌+◌, ◌-◌, List, [], ◌++◌, Option, Some, None, refl, sym, ap, ◌∙◌, ⊎_elim, add-one, add-zero, add-suc, add-sub_of_le, le_of_lt}
use Rattle.std.proofs.lemmas.Bool.{cases_lt}
use Rattle.std.proofs.lemmas.List.{append-nil, append_assoc}
use Rattle.hs_base.specs.Runs.{Next, Goes, Stops, Ran, led, moved, after}

module _ {S E X : Type 0} (step : List E → S → Next S E X) where
  -- no step, and one step more
  pub after_zero : (r : Ran S E X) → after step r 0 ≡ r
  unfolding after
  after_zero r = refl

  pub after_more : (r : Ran S E X) (k : ℕ) → after step r (k + 1) ≡ moved step (after step r k) (after step r k).ended
  unfolding after
  after_more r k = ap (after step r) (add-one k)

  -- an ended run stays as it is
  pub moved_stays : (r : Ran S E X) (e : X) → r.ended ≡ Some e → moved step r r.ended ≡ r
  moved_stays r e h = ap (moved step r) h

  pub after_stays : (r : Ran S E X) (e : X) (j k : ℕ) → (after step r j).ended ≡ Some e → after step r (j + k) ≡ after step r j
  unfolding after
  after_stays r e j zero h = ap (after step r) (add-zero j)
  after_stays r e j (suc k) h =
      ap (after step r) (add-suc j k) ∙ ap (λ so_far. moved step so_far so_far.ended) (after_stays r e j k h)
      ∙ moved_stays (after step r j) e h

  -- so two ends of one run are the same
  pub one_end : (r : Ran S E X) (d e : X) (j k : ℕ) → (after step r j).ended ≡ Some d → (after step r k).ended ≡ Some e → after step r j ≡ after step r k
  one_end r d e j k h i =
      ⊎_elim
      (λ less. sym (after_stays r d j (k - j) h) ∙ ap (after step r) (add-sub_of_le (le_of_lt less)))
      (λ most. sym (ap (after step r) (add-sub_of_le most)) ∙ after_stays r e k (j - k) i)
      (cases_lt j k)

  -- a trace is only added to
  led_grows : (trace : List E) (n : Next S E X) → (more : List E) × ((led trace n).trace ≡ trace ++ more)
  led_grows trace (Goes before events after) = (events, refl)
  led_grows trace (Stops before events after end) = (events, refl)

  moved_grows : (r : Ran S E X) (o : Option X) → (more : List E) × ((moved step r o).trace ≡ r.trace ++ more)
  moved_grows r (Some e) = ([], sym (append-nil r.trace))
  moved_grows r None = led_grows r.trace (step r.trace r.state)

  pub after_grows : (r : Ran S E X) (k : ℕ) → (more : List E) × ((after step r k).trace ≡ r.trace ++ more)
  unfolding after
  after_grows r zero = ([], sym (append-nil r.trace))
  after_grows r (suc k) =
      let so_far = after_grows r k in
      let next = moved_grows (after step r k) (after step r k).ended in
      (so_far.0 ++ next.0, next.1 ∙ ap (λ t. t ++ next.0) so_far.1 ∙ append_assoc r.trace so_far.0 next.0)
