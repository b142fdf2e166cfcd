-- Sets of registers, one for each point.
use Rattle.std.proofs.Common.{◌≡◌, ◌<◌, ◌≤◌, ◌+◌, ◌-◌, ℕ, List, [], ◌∷◌, ◌++◌, length, reverse, refl, sym, ap, ◌∙◌, subst, arith, ⊎_elim, length-append}
use Rattle.std.proofs.lemmas.Bool.{cases_lt}
use Rattle.std.proofs.lemmas.List.{get_or_append_left, get_or-reverse, length-reverse}
use Rattle.core_tree.specs.declared.program.Func.{Func}
use Rattle.local_liveness.specs.Sets.{set_at}
use Rattle.local_liveness.specs.Tables.{HasLive}
use Rattle.live_list.specs.Listing.{AreSets}

-- the sets of the points from one on, from the last to the first, and the set of that one
pub record Walked (func : Func) (point : ℕ) (live : List ℕ) (sets : List (List ℕ)) : Type 0 where
  pub points : length sets + point ≡ length func.body
  pub here : HasLive live func point
  pub there : (k : ℕ) → k < length sets → HasLive (set_at sets k) func (length func.body - 1 - k)

pub walked_none :
    (func : Func) (live : List ℕ) (point : ℕ) (sets : List (List ℕ)) → point ≡ length func.body → HasLive live func (length func.body) → sets ≡ [] →
    Walked func point live sets
walked_none func live point sets end here empty =
    let none : length sets ≡ 0 = ap length empty in
    record {
      points = omega arith;
      here = subst (λ p. HasLive live func p) (sym end) here;
      there = λ k b. absurd (omega arith);
    }

pub walked_more :
    (func : Func) (i point : ℕ) (before live copy : List ℕ) (old new : List (List ℕ)) → i ≡ point + 1 → Walked func i before old → HasLive live func point →
    copy ≡ live → new ≡ old ++ copy ∷ [] → Walked func point live new
walked_more func i point before live copy old new next w here same is =
    let points = w.points in
    let long : length new ≡ length old + 1 = ap length is ∙ length-append old (copy ∷ []) in
    record {
      points = omega arith;
      here = here;
      there = λ k b.
          ⊎_elim
          (λ (less : k < length old).
          subst (λ (set : List ℕ). HasLive set func (length func.body - 1 - k)) (sym (ap (λ sets. set_at sets k) is ∙ get_or_append_left old (copy ∷ []) [] k less)) (w.there k less))
          (λ (last : length old ≤ k).
          let at : k ≡ length old = omega arith in
          let p : point ≡ length func.body - 1 - k = omega arith in
          subst (λ (set : List ℕ). HasLive set func (length func.body - 1 - k)) (sym (ap (λ sets. set_at sets k) is ∙ ap (set_at (old ++ copy ∷ [])) at ∙ last_is old copy ∙ same))
          (subst (λ n. HasLive live func n) p here))
          (cases_lt k (length old));
    }
  where
    last_is : (xs : List (List ℕ)) (x : List ℕ) → set_at (xs ++ x ∷ []) (length xs) ≡ x
    last_is [] x = refl
    last_is (y ∷ xs) x = last_is xs x

pub walked_all : (func : Func) (point : ℕ) (live : List ℕ) (sets new : List (List ℕ)) → point ≡ 0 → Walked func point live sets → new ≡ reverse sets → AreSets new func
walked_all func point live sets new first w is = record {
  points = ap length is ∙ length-reverse sets ∙ long;
  live = λ p b.
      let inside : p < length sets = omega arith in
      let back : length func.body - 1 - (length sets - 1 - p) ≡ p = omega arith in
      subst (λ (set : List ℕ). HasLive set func p) (sym (ap (λ xs. set_at xs p) is ∙ get_or-reverse sets p [] inside))
      (subst (λ n. HasLive (set_at sets (length sets - 1 - p)) func n) back (w.there (length sets - 1 - p) (omega arith)));
} where
  long : length sets ≡ length func.body
  long = let points = w.points in omega arith
