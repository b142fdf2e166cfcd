-- The slots of an element, again and again.
use Rattle.std.proofs.Common.{◌≡◌, ◌≤◌, ◌<◌, ◌+◌, ◌*◌, ◌/◌, ◌%◌, ◌↔◌, ℕ, suc, zero, Bool, false, List, [], ◌∷◌, Result, Ok, Err, length, get_or, refl, ap, sym, ◌∙◌, subst, arith, ⊎_elim, length-append, MatchResult, IsTrue}
use Rattle.std.specs.List.{flat_map, range_with_len, AllPairs, Contains}
use Rattle.std.specs.Result.{is_ok}
use Rattle.std.proofs.lemmas.List.{get_or_append_left, get_or-append-add, get_or_default}
use Rattle.std.proofs.lemmas.Bool.{cases_lt}
use Rattle.std.proofs.Math.Nat.{mul-le-mul_left, mul-le-mul_right, div-mul-le_self}
use Rattle.std.proofs.lemmas.Nat.{div-add-mod', div-mul-add, mod-mul-add, div_below}
use Rattle.c_types.specs.Layouts.{AreSlots, moved}
use Rattle.adjusters.specs.ObjectSlots.{Element, object_slots}

-- ascending slots
pub above_low : (low high : ℕ) (ss : List ℕ) (j d : ℕ) → AreSlots low high ss → j < length ss → low ≤ get_or ss j d
above_low low high [] j d h w = absurd (omega arith)
above_low low high (s ∷ ss) zero d h w = h.0
above_low low high (s ∷ ss) (suc j) d h w = let first = h.0 in let rest = above_low (s + 4) high ss j d h.3 (omega arith) in omega arith

pub ends_inside : (low high : ℕ) (ss : List ℕ) (j d : ℕ) → AreSlots low high ss → j < length ss → get_or ss j d + 4 ≤ high
ends_inside low high [] j d h w = absurd (omega arith)
ends_inside low high (s ∷ ss) zero d h w = h.1
ends_inside low high (s ∷ ss) (suc j) d h w = ends_inside (s + 4) high ss j d h.3 (omega arith)

rises : (low high : ℕ) (ss : List ℕ) → AreSlots low high ss → (i j d : ℕ) → i < j → j < length ss → get_or ss i d < get_or ss j d
rises low high [] h i j d less w = absurd (omega arith)
rises low high (s ∷ ss) h i zero d less w = absurd (omega arith)
rises low high (s ∷ ss) h zero (suc j) d less w = let above = above_low (s + 4) high ss j d h.3 (omega arith) in omega arith
rises low high (s ∷ ss) h (suc i) (suc j) d less w = rises (s + 4) high ss h.3 i j d (omega arith) (omega arith)

pub slots_rise : (low high : ℕ) (ss : List ℕ) → AreSlots low high ss → AllPairs (λ x y. x < y) ss
slots_rise low high ss h = λ i j d less w. rises low high ss h i j d less w

pub slots_len : (low high : ℕ) (ss : List ℕ) → AreSlots low high ss → low ≤ high → low + 4 * length ss ≤ high
slots_len low high [] h b = omega arith
slots_len low high (s ∷ ss) h b = let first = h.0 in let rest = slots_len (s + 4) high ss h.3 h.1 in omega arith

-- elements side by side
abbrev pub blocks : ℕ → List ℕ → ℕ → ℕ → List ℕ
blocks size ss a n = flat_map (λ k. moved (k * size) ss) (range_with_len a n)

moved_len : (by : ℕ) (ss : List ℕ) → length (moved by ss) ≡ length ss
moved_len by [] = refl
moved_len by (s ∷ ss) = ap suc (moved_len by ss)

moved_at : (by : ℕ) (ss : List ℕ) (i d : ℕ) → i < length ss → get_or (moved by ss) i d ≡ by + get_or ss i d
moved_at by [] i d h = absurd (omega arith)
moved_at by (s ∷ ss) zero d h = refl
moved_at by (s ∷ ss) (suc i) d h = moved_at by ss i d (omega arith)

pub blocks_len : (size : ℕ) (ss : List ℕ) (a n : ℕ) → length (blocks size ss a n) ≡ n * length ss
blocks_len size ss a zero = omega arith
blocks_len size ss a (suc n) =
    omega (arith, length-append (moved (a * size) ss) (blocks size ss (a + 1) n), moved_len (a * size) ss, blocks_len size ss (a + 1) n)

pub block_at : (size : ℕ) (ss : List ℕ) (a n q r d : ℕ) → q < n → r < length ss → get_or (blocks size ss a n) (q * length ss + r) d ≡ (a + q) * size + get_or ss r d
block_at size ss a zero q r d h w = absurd (omega arith)
block_at size ss a (suc n) zero r d h w =
    let index : 0 * length ss + r ≡ r = omega arith in
    let within : r < length (moved (a * size) ss) = omega (arith, moved_len (a * size) ss) in
    ap (λ i. get_or (blocks size ss a (suc n)) i d) index
    ∙ (get_or_append_left (moved (a * size) ss) (blocks size ss (a + 1) n) d r within
    ∙ (moved_at (a * size) ss r d w ∙ (let product : a * size ≡ (a + 0) * size = omega arith in ap (λ p. p + get_or ss r d) product)))
block_at size ss a (suc n) (suc q) r d h w =
    let index : suc q * length ss + r ≡ length (moved (a * size) ss) + (q * length ss + r) = omega (arith, moved_len (a * size) ss) in
    let product : (a + 1 + q) * size ≡ (a + suc q) * size = omega arith in
    ap (λ i. get_or (blocks size ss a (suc n)) i d) index
    ∙ (get_or-append-add (moved (a * size) ss) (blocks size ss (a + 1) n) (q * length ss + r) d
    ∙ (block_at size ss (a + 1) n q r d (omega arith) w ∙ ap (λ p. p + get_or ss r d) product))

-- quotients
pub some_factor : (k n len : ℕ) → k < n * len → 0 < len
some_factor k n zero h = absurd (omega arith)
some_factor k n (suc len) h = omega arith

pub part_of_size : (size whole len : ℕ) → 4 * len ≤ whole → size / whole * len ≤ size
part_of_size size whole len h =
    let less : size / whole * len ≤ size / whole * whole = mul-le-mul_left (size / whole) (omega arith) in
    let all = div-mul-le_self size whole in
    omega arith

pub block_inside : (q n whole size : ℕ) → q < n → n ≡ size / whole → q * whole + whole ≤ size
block_inside q n whole size h e =
    let more : (q + 1) * whole ≤ n * whole = mul-le-mul_right whole (omega arith) in
    let all : n * whole ≤ size = rw e (div-mul-le_self size whole) in
    omega arith

-- the slot of a number
pub slot_is :
    (whole : ℕ) (ss : List ℕ) (n k found : ℕ) → k < n * length ss → found ≡ get_or ss (k % length ss) found →
    k / length ss * whole + found ≡ get_or (blocks whole ss 0 n) k 0
slot_is whole ss n k found h at =
    let some : 0 < length ss = some_factor k n (length ss) h in
    let below : k / length ss < n = div_below k (length ss) n some h in
    let inside : k % length ss < length ss = omega arith in
    let there = block_at whole ss 0 n (k / length ss) (k % length ss) 0 below inside in
    let index : k / length ss * length ss + k % length ss ≡ k = div-add-mod' k (length ss) in
    let value : found ≡ get_or ss (k % length ss) 0 = at ∙ get_or_default ss (k % length ss) found 0 inside in
    let first : (0 + k / length ss) * whole ≡ k / length ss * whole = omega arith in
    sym (ap (λ i. get_or (blocks whole ss 0 n) i 0) (sym index) ∙ (there ∙ (ap (λ p. p + get_or ss (k % length ss) 0) first ∙ ap (λ v. k / length ss * whole + v) (sym value))))

-- which offsets are slots
pub found_in : (xs : List ℕ) (x : ℕ) (r : Result ℕ ℕ) →
    MatchResult r (λ i. (i < length xs) × (get_or xs i 0 ≡ x)) (λ i. (i ≤ length xs) × ((k : ℕ) → k < i → get_or xs k 0 < x) × ((k : ℕ) → i ≤ k → k < length xs → x < get_or xs k 0)) →
    IsTrue (is_ok r) ↔ Contains xs x
found_in xs x (Ok i) m = ((λ t. (i, m.0, get_or_default xs i x 0 m.0 ∙ m.1)), (λ c. refl))
found_in xs x (Err i) m = (
  (λ t. cc),
  (λ c.
      let same : get_or xs c.0 0 ≡ x = get_or_default xs c.0 0 x c.1 ∙ c.2 in
      ⊎_elim
      (λ (before : c.0 < i). absurd (let less = m.1 c.0 before in omega arith))
      (λ (behind : i ≤ c.0). absurd (let more = m.2 c.0 behind c.1 in omega arith))
      (cases_lt c.0 i)),
)

pub not_falling : (xs : List ℕ) → AllPairs (λ x y. x < y) xs → (i j : ℕ) → i ≤ j → j < length xs → get_or xs i 0 ≤ get_or xs j 0
not_falling xs a i j h w =
    ⊎_elim
    (λ (less : i < j). let rise = a i j 0 less w in omega arith)
    (λ (more : j ≤ i). let same : i ≡ j = omega arith in let P : ℕ → Type 0 = λ n. get_or xs i 0 ≤ get_or xs n 0 in subst P same (omega arith))
    (cases_lt i j)

pub slot_there :
    (whole : ℕ) (ss : List ℕ) (n o : ℕ) → AreSlots 0 whole ss → Contains (blocks whole ss 0 n) o → (o / whole < n) × Contains ss (o % whole)
slot_there whole ss n o h c =
    let len = length ss in
    let j = c.0 in
    let within : j < n * len = (let all = c.1 in omega (arith, blocks_len whole ss 0 n)) in
    let some : 0 < len = some_factor j n len within in
    let below : j / len < n = div_below j len n some within in
    let inside : j % len < len = omega arith in
    let index : j / len * len + j % len ≡ j = div-add-mod' j len in
    let there = block_at whole ss 0 n (j / len) (j % len) o below inside in
    let part = get_or ss (j % len) o in
    let ends : part + 4 ≤ whole = ends_inside 0 whole ss (j % len) o h inside in
    let o_is : j / len * whole + part ≡ o =
    (let first : (0 + j / len) * whole ≡ j / len * whole = omega arith in
    ap (λ p. p + part) (sym first) ∙ (sym there ∙ (ap (λ i. get_or (blocks whole ss 0 n) i o) index ∙ c.2))) in
    let small : part < whole = omega arith in
    let quotient : o / whole ≡ j / len = ap (λ x. x / whole) (sym o_is) ∙ div-mul-add (j / len) whole part small in
    let rest : o % whole ≡ part = ap (λ x. x % whole) (sym o_is) ∙ mod-mul-add (j / len) whole part small in
    (rw quotient below, (j % len, inside, get_or_default ss (j % len) (o % whole) o inside ∙ sym rest))

pub there_slot :
    (whole : ℕ) (ss : List ℕ) (n o : ℕ) → o / whole < n → Contains ss (o % whole) → Contains (blocks whole ss 0 n) o
there_slot whole ss n o below c =
    let len = length ss in
    let q = o / whole in
    let i = c.0 in
    let inside : i < len = c.1 in
    let more : (q + 1) * len ≤ n * len = mul-le-mul_right len (omega arith) in
    let within : q * len + i < length (blocks whole ss 0 n) = omega (arith, blocks_len whole ss 0 n) in
    let there = block_at whole ss 0 n q i o below inside in
    let value : get_or ss i o ≡ o % whole = get_or_default ss i o (o % whole) inside ∙ c.2 in
    let first : (0 + q) * whole ≡ q * whole = omega arith in
    (q * len + i, within, there ∙ (ap (λ p. p + get_or ss i o) first ∙ (ap (λ v. q * whole + v) value ∙ div-add-mod' o whole)))

pub no_elements : (whole : ℕ) (ss : List ℕ) (size o : ℕ) → AreSlots 0 whole ss → size / whole ≤ o / whole → Contains (blocks whole ss 0 (size / whole)) o → ⊥
no_elements whole ss size o h past c = let r = slot_there whole ss (size / whole) o h c in let below = r.0 in absurd (omega arith)

none_there : (ss : List ℕ) (size o : ℕ) → AreSlots 0 0 ss → Contains (blocks 0 ss 0 (size / 0)) o → ⊥
none_there [] size o h c = let r = slot_there 0 [] (size / 0) o tt c in absurd (let none = r.1.1 in omega arith)
none_there (s ∷ ss) size o h c = absurd (let ends = h.1 in omega arith)

pub no_size : (whole : ℕ) (ss : List ℕ) (size o : ℕ) → AreSlots 0 whole ss → whole ≡ 0 → Contains (blocks whole ss 0 (size / whole)) o → ⊥
no_size whole ss size o h e c =
    none_there ss size o (subst (λ (w : ℕ). AreSlots 0 w ss) e h) (subst (λ (w : ℕ). Contains (blocks w ss 0 (size / w)) o) e c)

pub never : (xs : List ℕ) (o : ℕ) → (Contains xs o → ⊥) → IsTrue false ↔ Contains xs o
never xs o n = ((λ t. cc), (λ c. absurd (n c)))

pub slot_told :
    (whole : ℕ) (ss : List ℕ) (n o : ℕ) (b : Bool) → AreSlots 0 whole ss → o / whole < n → IsTrue b ↔ Contains ss (o % whole) →
    IsTrue b ↔ Contains (blocks whole ss 0 n) o
slot_told whole ss n o b h below told = ((λ t. there_slot whole ss n o below (told.0 t)), (λ c. told.1 (slot_there whole ss n o h c).1))

abbrev pub element_with : ℕ → List ℕ → Element
element_with whole ss = record { size = whole; slots = ss }

pub number_below :
    (whole : ℕ) (ss : List ℕ) (element : Element) (size k : ℕ) → element_with whole ss ≡ element → k < length (object_slots element size) →
    k < size / whole * length ss
number_below whole ss element size k e h =
    let there : k < length (blocks whole ss 0 (size / whole)) = subst (λ (x : Element). k < length (object_slots x size)) (sym e) h in
    omega (arith, blocks_len whole ss 0 (size / whole))
