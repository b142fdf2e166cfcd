-- What is found for all points by so many edges.
use Rattle.std.proofs.Common.{◌≡◌, ℕ, zero, suc, ◌+◌, ◌-◌, ◌<◌, ◌≤◌, ◌&&◌, ◌||◌, not, List, [], ◌∷◌, Bool, false, length, map, refl, sym, ap, ◌∙◌, arith, ⊎_elim, replicate}
use Rattle.std.specs.Prelude.{slice_index_or}
use Rattle.std.specs.List.{list_any, range_with_len}
use Rattle.std.proofs.lemmas.Bool.{cases_lt}
use Rattle.std.proofs.lemmas.Option.{slice_get_past}
use Rattle.std.proofs.lemmas.List.FromFn.{get_or-map-range_with_len, length-map-range_with_len}
use Rattle.std.proofs.lemmas.List.{get_or_past}
use Rattle.core_tree.specs.declared.statements.Stm.{Stm}
use Rattle.core_tree.specs.Statements.{reads_at, writes_at, edges_at}
use Rattle.core_tree.specs.Lives.{live_within, is_live}
use Rattle.meaning_state.specs.Living.{passed, leads_on, found_next}

-- what is found by so many edges
abbrev pub table : List Stm → ℕ → ℕ → List Bool
table body r n = map (live_within body r n) (range_with_len 0 (length body))

any_same : {X : Type 0} (f g : X → Bool) → ((x : X) → f x ≡ g x) → (xs : List X) → list_any f xs ≡ list_any g xs
any_same f g h [] = refl
any_same f g h (x ∷ xs) = rw (h x, any_same f g h xs) refl

map_same : {X Y : Type 0} (f g : X → Y) → ((x : X) → f x ≡ g x) → (xs : List X) → map f xs ≡ map g xs
map_same f g h [] = refl
map_same f g h (x ∷ xs) = rw (h x, map_same f g h xs) refl

outside : (body : List Stm) (r n p : ℕ) → length body ≤ p → live_within body r n p ≡ false
unfolding live_within
outside body r zero p h = refl
outside body r (suc n) p h = rw (slice_get_past body p h) refl

found_at : (body : List Stm) (r n p : ℕ) → slice_index_or (table body r n) p false ≡ live_within body r n p
found_at body r n p =
    ⊎_elim
    (λ (inside : p < length body). get_or-map-range_with_len (live_within body r n) 0 (length body) p p false inside (omega arith))
    (λ (past : length body ≤ p). get_or_past (table body r n) p false (omega (arith, length-map-range_with_len (live_within body r n) 0 (length body))) ∙ sym (outside body r n p past))
    (cases_lt p (length body))

passed_is : (body : List Stm) (r n next : ℕ) → passed body r (table body r n) next ≡ (reads_at body next r || (not (writes_at body next r) && live_within body r n next))
passed_is body r n next = ap (λ b. reads_at body next r || (not (writes_at body next r) && b)) (found_at body r n next)

leads_is : (body : List Stm) (r n point : ℕ) → leads_on body r (table body r n) point ≡ live_within body r (suc n) point
unfolding live_within
leads_is body r n point = any_same (passed body r (table body r n)) (λ next. reads_at body next r || (not (writes_at body next r) && live_within body r n next)) (passed_is body r n) (edges_at body point)

pub next_is : (body : List Stm) (r n : ℕ) → found_next body r (table body r n) ≡ table body r (n + 1)
next_is body r n =
    let e : n + 1 ≡ suc n = omega arith in
    map_same (leads_on body r (table body r n)) (live_within body r (suc n)) (leads_is body r n) (range_with_len 0 (length body)) ∙ ap (table body r) (sym e)

nothing : (a n : ℕ) → replicate n false ≡ map (λ p. false) (range_with_len a n)
nothing a zero = refl
nothing a (suc n) = ap (λ bs. false ∷ bs) (nothing (a + 1) n)

pub none_yet : (body : List Stm) (r : ℕ) → replicate (length body) false ≡ table body r 0
unfolding live_within
none_yet body r = nothing 0 (length body)

-- where one edge more finds nothing more, no number of edges does
stays : (body : List Stm) (r n : ℕ) → table body r (n + 1) ≡ table body r n → (k : ℕ) → table body r (n + k) ≡ table body r n
stays body r n h zero = let e : n + 0 ≡ n = omega arith in ap (table body r) e
stays body r n h (suc k) =
    let e : n + suc k ≡ n + k + 1 = omega arith in
    ap (table body r) e ∙ sym (next_is body r (n + k)) ∙ ap (found_next body r) (stays body r n h k) ∙ next_is body r n ∙ h

pub stable : (body : List Stm) (r n : ℕ) → n ≤ length body → table body r (n + 1) ≡ table body r n → table body r n ≡ table body r (length body)
stable body r n le h =
    let e : n + (length body - n) ≡ length body = omega arith in
    sym (stays body r n h (length body - n)) ∙ ap (table body r) e

pub live_at : (body : List Stm) (r point : ℕ) → slice_index_or (table body r (length body)) point false ≡ is_live body point r
unfolding is_live
live_at body r point = found_at body r (length body) point
