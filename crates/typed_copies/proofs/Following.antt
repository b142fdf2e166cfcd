-- Counts that follow pointers one by one.
use Rattle.std.proofs.Common.{◌≡◌, ◌<◌, ◌≤◌, ◌+◌, ◌/◌, ℕ, Bool, cond, not, List, [], ◌∷◌, ◌++◌, length, get_or, take, sum, refl, sym, subst, arith}
use Rattle.std.specs.Prelude.{nat_eq, ◌&&◌}
use Rattle.std.proofs.lemmas.Bool.{and_from, cond-true, eq-eqb, ne_eqb, not_from_false}
use Rattle.std.proofs.lemmas.List.{take_more}
use Rattle.std.proofs.lemmas.List.Sums.{sum_by-append, sum_by_more_le}
use Rattle.count_table.specs.Table.{Table}
use Rattle.typed_copies.specs.Pointers.{Follow, HaveRoom, into_granule}

-- is the word an address in the granule?
abbrev pub points_into : ℕ → ℕ → Bool
points_into granule w = not (nat_eq w 0) && nat_eq (w / 16) granule

-- is the word an address?
abbrev pub is_address : ℕ → Bool
is_address w = not (nat_eq w 0)

-- 1 for true
abbrev pub one_if : Bool → ℕ
one_if b = cond b 1 0

-- an address counts in its granule
points_there : (w : ℕ) → 0 < w → one_if (points_into (w / 16) w) ≡ 1
points_there w some = cond-true (points_into (w / 16) w) 1 0 (and_from (is_address w) (nat_eq (w / 16) (w / 16)) (not_from_false (nat_eq w 0) (ne_eqb w 0 (λ e. omega arith))) (eq-eqb (w / 16) (w / 16) refl))

-- counts that follow some words and then others follow both
pub follow_both : (a b c : Table) (old new old' new' : List ℕ) → Follow a b old new → Follow b c old' new' → Follow a c (old ++ old') (new ++ new')
follow_both a b c old new old' new' first second = record {
  most = omega (arith, first.most, second.most);
  long = omega (arith, first.long, second.long);
  exact = λ granule. omega (arith, first.exact granule, second.exact granule, sum_by-append (λ w. one_if (points_into granule w)) old old', sum_by-append (λ w. one_if (points_into granule w)) new new');
  all = omega (arith, first.all, second.all, sum_by-append (λ w. one_if (is_address w)) old old', sum_by-append (λ w. one_if (is_address w)) new new');
}

-- the next of some words that go, and of some that come
pub next_goes : (a b c : Table) (ws : List ℕ) (k w : ℕ) → k < length ws → w ≡ get_or ws k 0 → Follow a b (take k ws) [] → Follow b c (w ∷ []) [] → Follow a c (take (k + 1) ws) []
next_goes a b c ws k w inside is first one =
    let one_here = subst (λ (x : ℕ). Follow b c (x ∷ []) []) is one in
    subst (λ (l : List ℕ). Follow a c l []) (sym (take_more ws k 0 inside)) (follow_both a b c (take k ws) [] (get_or ws k 0 ∷ []) [] first one_here)

pub next_comes : (a b c : Table) (ws : List ℕ) (k w : ℕ) → k < length ws → w ≡ get_or ws k 0 → Follow a b [] (take k ws) → Follow b c [] (w ∷ []) → Follow a c [] (take (k + 1) ws)
next_comes a b c ws k w inside is first one =
    let one_here = subst (λ (x : ℕ). Follow b c [] (x ∷ [])) is one in
    subst (λ (l : List ℕ). Follow a c [] l) (sym (take_more ws k 0 inside)) (follow_both a b c [] (take k ws) [] (get_or ws k 0 ∷ []) first one_here)

-- a pointer that is still to go still counts
pub still_counted : (a b : Table) (ws : List ℕ) (k : ℕ) → k < length ws → Follow a b (take k ws) [] → ((granule : ℕ) → into_granule granule ws ≤ get_or a.counts granule 0) → 0 < get_or ws k 0 → 0 < get_or b.counts (get_or ws k 0 / 16) 0
still_counted a b ws k inside follow covered some =
    let granule = get_or ws k 0 / 16 in
    omega (arith, follow.exact granule, covered granule, points_there (get_or ws k 0) some, sum_by_more_le (λ w. one_if (points_into granule w)) ws k 0 inside)

-- there is room for an address that is still to come
pub still_room : (a b : Table) (ws : List ℕ) (k : ℕ) → k < length ws → Follow a b [] (take k ws) → HaveRoom a [] ws → 0 < get_or ws k 0 → sum b.counts < b.most
still_room a b ws k inside follow room some =
    let one : one_if (is_address (get_or ws k 0)) ≡ 1 = cond-true (is_address (get_or ws k 0)) 1 0 (not_from_false (nat_eq (get_or ws k 0) 0) (ne_eqb (get_or ws k 0) 0 (λ e. omega arith))) in
    omega (arith, follow.all, follow.most, room, one, sum_by_more_le (λ w. one_if (is_address w)) ws k 0 inside)
