-- Empty sets for the points of a body.
use Rattle.std.proofs.Common.{◌≡◌, ◌<◌, ◌≤◌, ◌+◌, ℕ, false, List, [], Option, Some, None, length, get_or, replicate, refl, sym, ap, ◌∙◌, subst, arith, ⊎_elim, length-set}
use Rattle.std.specs.Prelude.{slice_set, slice_get}
use Rattle.std.proofs.lemmas.Bool.{cases_eq, cases_lt}
use Rattle.std.proofs.lemmas.List.{get_or-set_same, get_or-set_other, get_or-replicate, get_or_past, length-replicate}
use Rattle.std.proofs.lemmas.Option.{slice_get_past, slice_get_read}
use Rattle.core_tree.specs.declared.flow.Edges.{Edges}
use Rattle.core_tree.specs.declared.statements.Stm.{Stm}
use Rattle.core_tree.specs.Statements.{edges, leads_to}
use Rattle.local_liveness.specs.Sets.{has, set_at}
use Rattle.local_liveness.specs.Sweeps.{JumpsTo, GivesRoom, IsBlank}
use Rattle.local_liveness.proofs.Bits.{has_past, has_zeros}
use Rattle.local_liveness.proofs.Going.{target_of_jump}

pub room_kept : (target : Option ℕ) (words : ℕ) (sets : List (List ℕ)) → ((point : ℕ) → target ≡ Some point → point < length sets → length (set_at sets point) ≡ words) → GivesRoom target words sets sets
room_kept target words sets here = record { points = refl; here = here; kept = λ p h. h; none = λ h. h }

pub room_given :
    (target place words : ℕ) (sets : List (List ℕ)) (new : List ℕ) → place ≡ target → place < length sets → new ≡ replicate words 0 →
    GivesRoom (Some target) words sets (slice_set sets place new)
room_given target place words sets new same inside is = record {
  points = length-set sets place new;
  here = λ p e b.
      let at : p ≡ place = (let q : target ≡ p = some_is target p e in omega arith) in
      ap (λ q. length (set_at (slice_set sets place new) q)) at ∙ wide;
  kept = λ p h.
      ⊎_elim
      (λ (e : p ≡ place). ap (λ q. length (set_at (slice_set sets place new) q)) e ∙ wide)
      (λ (ne : p ≡ place → ⊥). ap length (get_or-set_other sets place p new [] ne) ∙ h)
      (cases_eq p place);
  none = λ h p r.
      ⊎_elim
      (λ (e : p ≡ place).
      ap (λ q. has (set_at (slice_set sets place new) q) r) e
      ∙ ap (λ x. has x r) (get_or-set_same sets place new [] inside ∙ is) ∙ has_zeros words r)
      (λ (ne : p ≡ place → ⊥). ap (λ x. has x r) (get_or-set_other sets place p new [] ne) ∙ h p r)
      (cases_eq p place);
} where
  some_is : (a b : ℕ) → Some a ≡ Some b → a ≡ b
  some_is a b e = cc

  wide : length (set_at (slice_set sets place new) place) ≡ words
  wide = ap length (get_or-set_same sets place new [] inside ∙ is) ∙ length-replicate words 0

-- so many statements have their targets
pub record Blanked (body : List Stm) (words n : ℕ) (sets : List (List ℕ)) : Type 0 where
  pub points : length sets ≡ length body
  pub room : (from target : ℕ) (stm : Stm) → from < n → slice_get body from ≡ Some stm → JumpsTo stm.kind target → target < length body → length (set_at sets target) ≡ words
  pub none : (point r : ℕ) → has (set_at sets point) r ≡ false

pub blanked_none : (body : List Stm) (words : ℕ) (sets : List (List ℕ)) → sets ≡ replicate (length body) [] → Blanked body words 0 sets
blanked_none body words sets is = record {
  points = ap length is ∙ length-replicate {A = List ℕ} (length body) [];
  room = λ from t stm b. absurd (omega arith);
  none = λ p r. ap (λ (xs : List (List ℕ)). has (set_at xs p) r) is ∙ empty p r;
} where
  empty : (p r : ℕ) → has (set_at (replicate (length body) []) p) r ≡ false
  empty p r =
      ⊎_elim
      (λ (less : p < length body). ap (λ (x : List ℕ). has x r) (get_or-replicate (length body) p [] [] less) ∙ has_past [] r (omega arith))
      (λ (past : length body ≤ p).
      let long : length (replicate {A = List ℕ} (length body) []) ≡ length body = length-replicate {A = List ℕ} (length body) [] in
      ap (λ (x : List ℕ). has x r) (get_or_past (replicate (length body) []) p [] (omega arith)) ∙ has_past [] r (omega arith))
      (cases_lt p (length body))

pub blanked_more :
    (body : List Stm) (words n : ℕ) (a b : List (List ℕ)) (stm : Stm) (e : Edges) → n < length body → stm ≡ get_or body n stm →
    ((p : ℕ) → edges stm.kind p ≡ leads_to e p) → Blanked body words n a → GivesRoom e.target words a b → Blanked body words (n + 1) b
blanked_more body words n a b stm e inside is edges_are one given = record {
  points = given.points ∙ one.points;
  room = λ from t other b stands jumps within.
      ⊎_elim
      (λ (same : from ≡ n).
      let here : slice_get body n ≡ Some stm = slice_get_read body (length body) n stm refl inside is in
      let twice : Some other ≡ Some stm = sym stands ∙ ap (slice_get body) same ∙ here in
      let alike : other ≡ stm = cc in
      let jumps_so : JumpsTo stm.kind t = subst (λ (s : Stm). JumpsTo s.kind t) alike jumps in
      given.here t (target_of_jump stm.kind e edges_are t jumps_so) (let long = one.points in omega arith))
      (λ (ne : from ≡ n → ⊥). given.kept t (one.room from t other (omega arith) stands jumps within))
      (cases_eq from n);
  none = given.none one.none;
}

pub blanked_all : (body : List Stm) (words n : ℕ) (sets : List (List ℕ)) → length body ≤ n → Blanked body words n sets → IsBlank body words sets
blanked_all body words n sets all b = record {
  points = b.points;
  room = λ t target. b.room target.from t target.stm (let less = stands_inside target.from target.stm target.stands in omega arith) target.stands target.jumps target.inside;
  none = b.none;
} where
  stands_inside : (p : ℕ) (stm : Stm) → slice_get body p ≡ Some stm → p < length body
  stands_inside p stm stands =
      ⊎_elim
      (λ (less : p < length body). less)
      (λ (past : length body ≤ p). let both : Some stm ≡ None = sym stands ∙ slice_get_past body p past in absurd cc)
      (cases_lt p (length body))
