-- Where the parts of an object lie, and how initializers fill them.
use Rattle.core_soundness.proofs.Words.Std.{◌≡◌, ◌⊎◌, ◌≤◌, ◌<◌, ◌+◌, ◌*◌, ◌==◌, ◌||◌, ℕ, zero, suc, Bool, true, false, cond, filter, fold, List, [], ◌∷◌, ◌++◌, refl, sym, ap, ◌∙◌, subst, inl, inr, ⊎_elim, arith, ◌-◌, ◌/◌, length, reverse, replicate, map, slice_get, unwrap_or, length-append, append_assoc, is_some, take, zip, Option, Some, option_map, eqb-true, eq-eqb, leb-true, and_parts, cases_lt, reverse-append, length-reverse, length-replicate, flat_map, range_with_len, list_any, list_all, AllByRecursion, find, nat_le, nat_eq}
use Rattle.std.specs.List.{IsDistinct}
use Rattle.core_soundness.proofs.Words.Types.{Placed, none_placed, offset_after, placed, moved, array_layout, members_layout, has_slot, keeps_union_rule, AreSlots, IsSound, layout_of, CompletedTag, PlainMember, known, member_layout, placed_members, PlainType, Array, Struct, Layout}
use Rattle.core_soundness.proofs.Words.Core.{Start}
use Rattle.core_soundness.proofs.Words.Elaborating.{Context, size_or_zero, bytes_of, with_bytes, with_pointer, without_zeros, trimmed, elements, struct_parts, parts_of}
use Rattle.core_soundness.proofs.Words.Facts.{Solid, MembersWhole}
use Rattle.c_types.specs.TagTableEquations.{some_array}
use Rattle.c_types.specs.LayoutsEquations.{rounded_le}
use Rattle.c_types.specs.Layouts.{place}
use Rattle.core_soundness.proofs.Ranged.{TagIs, tag_at, rest_placed, fold_rest}
use Rattle.core_soundness.proofs.WholeTypes.{placed_far}
use Rattle.core_soundness.proofs.Choices.{either_way}

-- the law `layouts_are_sound` of `c_types`
abbrev pub LayoutsAreSound : Type 0
LayoutsAreSound = (tags : List CompletedTag) (t : PlainType) (l : Layout) → layout_of (known tags) t ≡ Some l → IsSound l

-- where a type lies in a whole: its slots are those of the whole there, and no other slot of the whole touches it

-- a slot of a list
abbrev pub Has : List ℕ → ℕ → Type 0
Has [] s = ⊥
Has (x ∷ xs) s = (x ≡ s) ⊎ Has xs s

pub has_left : (xs ys : List ℕ) (s : ℕ) → Has xs s → Has (xs ++ ys) s
has_left [] ys s h = absurd h
has_left (x ∷ xs) ys s (inl e) = inl e
has_left (x ∷ xs) ys s (inr h) = inr (has_left xs ys s h)

pub has_right : (xs ys : List ℕ) (s : ℕ) → Has ys s → Has (xs ++ ys) s
has_right [] ys s h = h
has_right (x ∷ xs) ys s h = inr (has_right xs ys s h)

pub has_either : (xs ys : List ℕ) (s : ℕ) → Has (xs ++ ys) s → Has xs s ⊎ Has ys s
has_either [] ys s h = inr h
has_either (x ∷ xs) ys s (inl e) = inl (inl e)
has_either (x ∷ xs) ys s (inr h) = ⊎_elim (λ (k : Has xs s). inl (inr k)) (λ (k : Has ys s). inr k) (has_either xs ys s h)

pub has_moved : (by : ℕ) (xs : List ℕ) (s : ℕ) → Has xs s → Has (moved by xs) (by + s)
has_moved by [] s h = absurd h
has_moved by (x ∷ xs) s (inl e) = inl (ap (λ (y : ℕ). by + y) e)
has_moved by (x ∷ xs) s (inr h) = inr (has_moved by xs s h)

-- a slot that was moved
pub record Moved (by : ℕ) (xs : List ℕ) (s : ℕ) : Type 0 where
  pub slot : ℕ
  pub there : Has xs slot
  pub is : by + slot ≡ s

pub moved_has : (by : ℕ) (xs : List ℕ) (s : ℕ) → Has (moved by xs) s → Moved by xs s
moved_has by [] s h = absurd h
moved_has by (x ∷ xs) s (inl e) = record { slot = x; there = inl refl; is = e }
moved_has by (x ∷ xs) s (inr h) = let r = moved_has by xs s h in record { slot = r.slot; there = inr r.there; is = r.is }

pub has_inside : (low high : ℕ) (xs : List ℕ) (s : ℕ) → AreSlots low high xs → Has xs s → (low ≤ s) × (s + 4 ≤ high)
has_inside low high [] s h k = absurd k
has_inside low high (x ∷ xs) s h (inl e) = (omega (arith, h.0, e), omega (arith, h.1, e))
has_inside low high (x ∷ xs) s h (inr k) = let r = has_inside (x + 4) high xs s h.3 k in (omega (arith, h.0, r.0), r.1)

-- a layout at an offset of a whole
pub record Seat (room : ℕ) (slots : List ℕ) (at : ℕ) (l : Layout) : Type 0 where
  pub inside : at + l.size ≤ room
  pub up : (s : ℕ) → Has l.slots s → Has slots (at + s)
  pub down : (s : ℕ) → Has slots s → (s + 4 ≤ at) ⊎ (at + l.size ≤ s) ⊎ Moved at l.slots s

pub seat_within : (room : ℕ) (slots : List ℕ) (at offset : ℕ) (l m : Layout) → Seat room slots at l → Seat l.size l.slots offset m → Seat room slots (at + offset) m
seat_within room slots at offset l m x y = search arith

-- elements of arrays

abbrev pub row : ℕ → List ℕ → ℕ → ℕ → List ℕ
row size slots a n = flat_map (λ k. moved (k * size) slots) (range_with_len a n)

-- a slot of an element
pub record Element (size : ℕ) (slots : List ℕ) (a n s : ℕ) : Type 0 where
  pub place : ℕ
  pub low : a ≤ place
  pub high : place < a + n
  pub slot : ℕ
  pub there : Has slots slot
  pub is : place * size + slot ≡ s

row_has : (size : ℕ) (slots : List ℕ) (a n i s : ℕ) → a ≤ i → i < a + n → Has slots s → Has (row size slots a n) (i * size + s)
row_has size slots a zero i s low high h = absurd (omega (arith, low, high))
row_has size slots a (suc n) i s low high h = by (i == a) (λ more. row_has size slots (a + 1) n i s more (omega (arith, high)) h) refl
  where
    by : (t : Bool) → (a + 1 ≤ i → Has (row size slots (a + 1) n) (i * size + s)) → (i == a) ≡ t → Has (moved (a * size) slots ++ row size slots (a + 1) n) (i * size + s)
    by true again e = has_left (moved (a * size) slots) (row size slots (a + 1) n) (i * size + s) (subst (λ (j : ℕ). Has (moved (j * size) slots) (i * size + s)) (eqb-true i a e) (has_moved (i * size) slots s h))
    by false again e =
        let other : i ≡ a → ⊥ = (λ d. let yes : (i == a) ≡ true = eq-eqb i a d in cc) in
        has_right (moved (a * size) slots) (row size slots (a + 1) n) (i * size + s) (again (omega (arith, low, other)))

pub has_row : (size : ℕ) (slots : List ℕ) (a n s : ℕ) → Has (row size slots a n) s → Element size slots a n s
has_row size slots a zero s h = absurd h
has_row size slots a (suc n) s h =
    ⊎_elim
    (λ (k : Has (moved (a * size) slots) s). let r = moved_has (a * size) slots s k in record { place = a; low = omega arith; high = omega arith; slot = r.slot; there = r.there; is = r.is })
    (λ (k : Has (row size slots (a + 1) n) s). let r = has_row size slots (a + 1) n s k in record { place = r.place; low = omega (arith, r.low); high = omega (arith, r.high); slot = r.slot; there = r.there; is = r.is })
    (has_either (moved (a * size) slots) (row size slots (a + 1) n) s h)

times_more : (i j size : ℕ) → i + 1 ≤ j → i * size + size ≤ j * size
times_more i zero size h = absurd (omega (arith, h))
times_more zero (suc j) size h = omega arith
times_more (suc i) (suc j) size h = let r = times_more i j size (omega (arith, h)) in omega (arith, r)

pub seat_element : (n i : ℕ) (l : Layout) → IsSound l → i < n → Seat (array_layout n l).size (array_layout n l).slots (i * l.size) l
seat_element n i l sound small = record {
  inside = times_more i n l.size (omega (arith, small));
  up = λ s h. row_has l.size l.slots 0 n i s (omega arith) (omega (arith, small)) h;
  down = λ s h.
      let r = has_row l.size l.slots 0 n s h in
      let b = has_inside 0 l.size l.slots r.slot sound.slots r.there in
      by r.place r.slot s r.there r.is b.1;
}
  where
    near : (place slot s : ℕ) → place + 1 ≤ i → place * l.size + slot ≡ s → slot + 4 ≤ l.size → s + 4 ≤ i * l.size
    near place slot s k e f = omega (arith, times_more place i l.size k, e, f)

    far : (place slot s : ℕ) → i + 1 ≤ place → place * l.size + slot ≡ s → i * l.size + l.size ≤ s
    far place slot s k e = omega (arith, times_more i place l.size k, e)

    by : (place slot s : ℕ) → Has l.slots slot → place * l.size + slot ≡ s → slot + 4 ≤ l.size → (s + 4 ≤ i * l.size) ⊎ (i * l.size + l.size ≤ s) ⊎ Moved (i * l.size) l.slots s
    by place slot s there is f = ⊎_elim
        (λ (k : place + 1 ≤ i). inl (near place slot s k is f))
        (λ k. ⊎_elim
        (λ (k : i + 1 ≤ place). inr (inl (far place slot s k is)))
        (λ (k : place ≡ i). inr (inr (record { slot = slot; there = there; is = ap (λ (j : ℕ). j * l.size + slot) (sym k) ∙ is })))
        k)
        (order place i)
      where
        order : (a c : ℕ) → (a + 1 ≤ c) ⊎ (c + 1 ≤ a) ⊎ (a ≡ c)
        order zero zero = inr (inr refl)
        order zero (suc c) = inl (omega arith)
        order (suc a) zero = inr (inl (omega arith))
        order (suc a) (suc c) = search (arith, (order a c))

-- members of structs

abbrev pub flat : List (ℕ × Layout) → List ℕ
flat ps = flat_map (λ (m : ℕ × Layout). moved m.0 m.1.slots) ps

-- members stand one behind another
abbrev pub InOrder : ℕ → ℕ → List (ℕ × Layout) → Type 0
InOrder low high [] = low ≤ high
InOrder low high (p ∷ ps) = (low ≤ p.0) × InOrder (p.0 + p.1.size) high ps

abbrev pub AllSound : List (ℕ × Layout) → Type 0
AllSound [] = Unit {0}
AllSound (p ∷ ps) = IsSound p.1 × AllSound ps

-- each in its seat, from a place on
abbrev pub Seated : ℕ → List ℕ → ℕ → ℕ → List (ℕ × Layout) → Type 0
Seated room slots low high [] = low ≤ high
Seated room slots low high (p ∷ ps) = (low ≤ p.0) × Seat room slots p.0 p.1 × Seated room slots (p.0 + p.1.size) high ps

order_end : (low high : ℕ) (ps : List (ℕ × Layout)) → InOrder low high ps → low ≤ high
order_end low high [] h = h
order_end low high (p ∷ ps) h = let r = order_end (p.0 + p.1.size) high ps h.1 in omega (arith, h.0, r)

flat_low : (low high : ℕ) (ps : List (ℕ × Layout)) (s : ℕ) → InOrder low high ps → Has (flat ps) s → low ≤ s
flat_low low high [] s h k = absurd k
flat_low low high (p ∷ ps) s h k =
    ⊎_elim
    (λ (x : Has (moved p.0 p.1.slots) s). let r = moved_has p.0 p.1.slots s x in omega (arith, h.0, r.is))
    (λ (x : Has (flat ps) s). let r = flat_low (p.0 + p.1.size) high ps s h.1 x in omega (arith, h.0, r))
    (has_either (moved p.0 p.1.slots) (flat ps) s k)

order_seats : (room : ℕ) (slots : List ℕ) (low high : ℕ) (ps : List (ℕ × Layout)) → high ≤ room → InOrder low high ps → AllSound ps
    → ((s : ℕ) → Has slots s → (s + 4 ≤ low) ⊎ Has (flat ps) s) → ((s : ℕ) → Has (flat ps) s → Has slots s) → Seated room slots low high ps
order_seats room slots low high [] fits h sound split join = h
order_seats room slots low high (p ∷ ps) fits h sound split join =
    let next : ℕ = p.0 + p.1.size in
    let last = order_end next high ps h.1 in (
      h.0,
      record {
        inside = omega (arith, last, fits);
        up = λ s k. join (p.0 + s) (has_left (moved p.0 p.1.slots) (flat ps) (p.0 + s) (has_moved p.0 p.1.slots s k));
        down = λ s k. ⊎_elim
            (λ (x : s + 4 ≤ low). inl (omega (arith, x, h.0)))
            (λ (x : Has (flat (p ∷ ps)) s). ⊎_elim
            (λ (y : Has (moved p.0 p.1.slots) s). inr (inr (moved_has p.0 p.1.slots s y)))
            (λ (y : Has (flat ps) s). inr (inl (flat_low next high ps s h.1 y)))
            (has_either (moved p.0 p.1.slots) (flat ps) s x))
            (split s k);
      },
      order_seats room slots next high ps fits h.1 sound.1
          (λ s k. ⊎_elim
          (λ (x : s + 4 ≤ low). inl (omega (arith, x, h.0)))
          (λ (x : Has (flat (p ∷ ps)) s). ⊎_elim
          (λ (y : Has (moved p.0 p.1.slots) s). let r = moved_has p.0 p.1.slots s y in let b = has_inside 0 p.1.size p.1.slots r.slot sound.0.slots r.there in inl (omega (arith, b.1, r.is)))
          (λ (y : Has (flat ps) s). inr y)
          (has_either (moved p.0 p.1.slots) (flat ps) s x))
          (split s k))
          (λ s k. join s (has_right (moved p.0 p.1.slots) (flat ps) s k)),
    )

-- members as they are placed

order_low : (low other high : ℕ) (ps : List (ℕ × Layout)) → low ≤ other → InOrder other high ps → InOrder low high ps
order_low low other high [] e h = omega (arith, e, h)
order_low low other high (p ∷ ps) e h = (omega (arith, e, h.0), h.1)

struct_order : (p : Placed) (ls : List Layout) → InOrder p.end (fold (place false) p ls).end (rest_placed false p ls)
struct_order p [] = omega arith
struct_order p (l ∷ ls) =
    let q = place false p l in
    let after : p.end ≤ offset_after false p l = rounded_le p.end l.align in
    let end_is : offset_after false p l + l.size ≤ q.end = omega arith in
    (after, order_low (offset_after false p l + l.size) q.end (fold (place false) q ls).end (rest_placed false q ls) end_is (struct_order q ls))

abbrev pub EachSound : List Layout → Type 0
EachSound [] = Unit {0}
EachSound (l ∷ ls) = IsSound l × EachSound ls

rest_sound : (u : Bool) (p : Placed) (ls : List Layout) → EachSound ls → AllSound (rest_placed u p ls)
rest_sound u p [] h = tt
rest_sound u p (l ∷ ls) h = (h.0, rest_sound u (place u p l) ls h.1)

-- the members of a struct
pub struct_seats : (ls : List Layout) → EachSound ls → (let w = members_layout false ls in Seated w.size w.slots 0 w.size (rest_placed false none_placed ls))
struct_seats ls sound =
    let all = placed false ls in
    let w = members_layout false ls in
    let is : all.members ≡ rest_placed false none_placed ls = fold_rest false none_placed ls in
    let same : w.slots ≡ flat (rest_placed false none_placed ls) = ap flat is in
    let fits : all.end ≤ w.size = rounded_le all.end all.align in
    seated_high w.size w.slots 0 all.end w.size (rest_placed false none_placed ls) fits
    (order_seats w.size w.slots 0 all.end (rest_placed false none_placed ls) fits (struct_order none_placed ls) (rest_sound false none_placed ls sound)
    (λ s k. inr (subst (λ (xs : List ℕ). Has xs s) same k)) (λ s k. subst (λ (xs : List ℕ). Has xs s) (sym same) k))
  where
    seated_high : (room : ℕ) (slots : List ℕ) (low high more : ℕ) (ps : List (ℕ × Layout)) → high ≤ more → Seated room slots low high ps → Seated room slots low more ps
    seated_high room slots low high more [] e h = omega (arith, e, h)
    seated_high room slots low high more (p ∷ ps) e h = (h.0, h.1, seated_high room slots (p.0 + p.1.size) high more ps e h.2)

-- the first member of a union

has_filter : (test : ℕ → Bool) (xs : List ℕ) (s : ℕ) → Has (filter test xs) s → (test s ≡ true) × Has xs s
has_filter test [] s h = absurd h
has_filter test (x ∷ xs) s h = by (test x) (λ k. has_filter test xs s k) refl h
  where
    by : (t : Bool) → (Has (filter test xs) s → (test s ≡ true) × Has xs s) → test x ≡ t → Has (cond t (x ∷ filter test xs) (filter test xs)) s → (test s ≡ true) × ((x ≡ s) ⊎ Has xs s)
    by true again e (inl k) = (ap test (sym k) ∙ e, inl k)
    by true again e (inr k) = let r = again k in (r.0, inr r.1)
    by false again e k = let r = again k in (r.0, inr r.1)

filter_has : (test : ℕ → Bool) (xs : List ℕ) (s : ℕ) → test s ≡ true → Has xs s → Has (filter test xs) s
filter_has test [] s e h = absurd h
filter_has test (x ∷ xs) s e h = by (test x) (λ k. filter_has test xs s e k) refl h
  where
    by : (t : Bool) → (Has xs s → Has (filter test xs) s) → test x ≡ t → (x ≡ s) ⊎ Has xs s → Has (cond t (x ∷ filter test xs) (filter test xs)) s
    by true again q (inl k) = inl k
    by true again q (inr k) = inr (again k)
    by false again q (inl k) = let clash : false ≡ true = sym q ∙ (ap test k ∙ e) in cc
    by false again q (inr k) = again k

range_has : (a n s : ℕ) → a ≤ s → s < a + n → Has (range_with_len a n) s
range_has a zero s low high = absurd (omega (arith, low, high))
range_has a (suc n) s low high = by (a == s) (λ more. range_has (a + 1) n s more (omega (arith, high))) refl
  where
    by : (t : Bool) → (a + 1 ≤ s → Has (range_with_len (a + 1) n) s) → (a == s) ≡ t → (a ≡ s) ⊎ Has (range_with_len (a + 1) n) s
    by true again e = inl (eqb-true a s e)
    by false again e = let other : a ≡ s → ⊥ = (λ d. let yes : (a == s) ≡ true = eq-eqb a s d in cc) in inr (again (omega (arith, low, other)))

any_has : (xs : List ℕ) (s : ℕ) → list_any (λ slot. slot == s) xs ≡ true → Has xs s
any_has [] s e = cc
any_has (x ∷ xs) s e = by (x == s) (λ k. any_has xs s k) refl e
  where
    by : (t : Bool) → (list_any (λ slot. slot == s) xs ≡ true → Has xs s) → (x == s) ≡ t → (t || list_any (λ slot. slot == s) xs) ≡ true → (x ≡ s) ⊎ Has xs s
    by true again q k = inl (eqb-true x s q)
    by false again q k = inr (again k)

has_any : (xs : List ℕ) (s : ℕ) → Has xs s → list_any (λ slot. slot == s) xs ≡ true
has_any [] s h = absurd h
has_any (x ∷ xs) s (inl e) = ap (λ (t : Bool). t || list_any (λ slot. slot == s) xs) (eq-eqb x s e)
has_any (x ∷ xs) s (inr h) = by (x == s) (has_any xs s h)
  where
    by : (t : Bool) → list_any (λ slot. slot == s) xs ≡ true → (t || list_any (λ slot. slot == s) xs) ≡ true
    by true q = refl
    by false q = q

any_member : (p : Placed) (ls : List Layout) (s : ℕ) → list_any (λ (m : ℕ × Layout). has_slot s m.1) (rest_placed true p ls) ≡ list_any (λ (l : Layout). has_slot s l) ls
any_member p [] s = refl
any_member p (l ∷ ls) s = ap (λ (t : Bool). has_slot s l || t) (any_member (place true p l) ls s)

abbrev clears : ℕ → Layout → Bool
clears slot other = nat_le other.size slot || has_slot slot other

all_at : (test : ℕ → Bool) (slots : List ℕ) (s : ℕ) → list_all test slots ≡ true → Has slots s → test s ≡ true
all_at test [] s e h = absurd h
all_at test (x ∷ xs) s e (inl k) = ap test (sym k) ∙ (and_parts (test x) (list_all test xs) e).0
all_at test (x ∷ xs) s e (inr k) = all_at test xs s (and_parts (test x) (list_all test xs) e).1 k

rule_at : (all ls : List Layout) (s : ℕ) → list_all (λ (m : Layout). list_all (λ slot. list_all (λ (other : Layout). nat_le other.size slot || has_slot slot other) all) m.slots) ls ≡ true → list_any (λ (l : Layout). has_slot s l) ls ≡ true → list_all (clears s) all ≡ true
rule_at all [] s e h = cc
rule_at all (l ∷ ls) s e h = by (has_slot s l) (λ x k. rule_at all ls s x k) refl h
  where
    parts : (list_all (λ slot. list_all (λ (other : Layout). nat_le other.size slot || has_slot slot other) all) l.slots ≡ true) × (list_all (λ (m : Layout). list_all (λ slot. list_all (λ (other : Layout). nat_le other.size slot || has_slot slot other) all) m.slots) ls ≡ true)
    parts = and_parts _ _ e

    by : (t : Bool)
        → (list_all (λ (m : Layout). list_all (λ slot. list_all (λ (other : Layout). nat_le other.size slot || has_slot slot other) all) m.slots) ls ≡ true → list_any (λ (x : Layout). has_slot s x) ls ≡ true → list_all (clears s) all ≡ true)
        → has_slot s l ≡ t → (t || list_any (λ (x : Layout). has_slot s x) ls) ≡ true → list_all (clears s) all ≡ true
    by true again q k = all_at (λ slot. list_all (clears slot) all) l.slots s parts.0 (any_has l.slots s q)
    by false again q k = again parts.1 k

-- the first member of a union whose rule is kept
pub union_seat : (l : Layout) (ls : List Layout) → IsSound l → keeps_union_rule (l ∷ ls) ≡ true → (let w = members_layout true (l ∷ ls) in Seat w.size w.slots 0 l)
union_seat l ls sound rule =
    let all = placed true (l ∷ ls) in
    let w = members_layout true (l ∷ ls) in
    let is : all.members ≡ rest_placed true none_placed (l ∷ ls) = fold_rest true none_placed (l ∷ ls) in
    let far = placed_far true (place true none_placed l) ls in
    let fits : l.size ≤ w.size = omega (arith, far, rounded_le all.end all.align) in
    record {
      inside = omega (arith, fits);
      up = λ s h.
          let b = has_inside 0 l.size l.slots s sound.slots h in
          let any : list_any (λ (m : ℕ × Layout). has_slot s m.1) all.members ≡ true = ap (list_any (λ (m : ℕ × Layout). has_slot s m.1)) is ∙ (any_member none_placed (l ∷ ls) s ∙ ap (λ (t : Bool). t || list_any (λ (x : Layout). has_slot s x) ls) (has_any l.slots s h)) in
          subst (Has w.slots) (zero_first s) (filter_has (λ offset. list_any (λ (m : ℕ × Layout). has_slot offset m.1) all.members) (range_with_len 0 w.size) s any (range_has 0 w.size s (omega arith) (omega (arith, b.1, fits))));
      down = λ s h.
          let r = has_filter (λ offset. list_any (λ (m : ℕ × Layout). has_slot offset m.1) all.members) (range_with_len 0 w.size) s h in
          let any : list_any (λ (x : Layout). has_slot s x) (l ∷ ls) ≡ true = sym (any_member none_placed (l ∷ ls) s) ∙ (ap (list_any (λ (m : ℕ × Layout). has_slot s m.1)) (sym is) ∙ r.0) in
          let clear : clears s l ≡ true = (and_parts (clears s l) (list_all (clears s) ls) (rule_at (l ∷ ls) (l ∷ ls) s rule any)).0 in
          by s (nat_le l.size s) refl clear;
    }
  where
    zero_first : (s : ℕ) → s ≡ 0 + s
    zero_first s = omega arith

    by : (s : ℕ) (t : Bool) → nat_le l.size s ≡ t → (t || has_slot s l) ≡ true → (s + 4 ≤ 0) ⊎ (0 + l.size ≤ s) ⊎ Moved 0 l.slots s
    by s true q k = inr (inl (omega (arith, leb-true l.size s q)))
    by s false q k = inr (inr (record { slot = s; there = any_has l.slots s k; is = sym (zero_first s) }))

-- what a static holds first, while its places are filled one behind another

-- bytes

abbrev pub byte : List ℕ → ℕ → ℕ
byte bytes j = unwrap_or (slice_get bytes j) 0

byte_left : (xs ys : List ℕ) (j : ℕ) → j < length xs → byte (xs ++ ys) j ≡ byte xs j
byte_left [] ys j h = absurd (omega (arith, h))
byte_left (x ∷ xs) ys zero h = refl
byte_left (x ∷ xs) ys (suc j) h = byte_left xs ys j (omega (arith, h))

byte_right : (xs ys : List ℕ) (j k : ℕ) → j ≡ length xs + k → byte (xs ++ ys) j ≡ byte ys k
byte_right [] ys j k e = let same : j ≡ k = omega (arith, e) in ap (byte ys) same
byte_right (x ∷ xs) ys zero k e = absurd (omega (arith, e))
byte_right (x ∷ xs) ys (suc j) k e = byte_right xs ys j k (omega (arith, e))

byte_past : (xs : List ℕ) (j : ℕ) → length xs ≤ j → byte xs j ≡ 0
byte_past [] j h = refl
byte_past (x ∷ xs) zero h = absurd (omega (arith, h))
byte_past (x ∷ xs) (suc j) h = byte_past xs j (omega (arith, h))

byte_zeros : (n : ℕ) (ys : List ℕ) (j : ℕ) → j < n → byte (replicate n 0 ++ ys) j ≡ 0
byte_zeros zero ys j h = absurd (omega (arith, h))
byte_zeros (suc n) ys zero h = refl
byte_zeros (suc n) ys (suc j) h = byte_zeros n ys j (omega (arith, h))

-- bytes behind those so far, at an offset
abbrev padded : List ℕ → ℕ → List ℕ → List ℕ
padded old offset bytes = old ++ replicate (offset - length old) 0 ++ bytes

padded_is : (old bytes : List ℕ) (offset : ℕ) → padded old offset bytes ≡ old ++ (replicate (offset - length old) 0 ++ bytes)
padded_is old bytes offset = append_assoc old (replicate (offset - length old) 0) bytes

padded_before : (old bytes : List ℕ) (offset j : ℕ) → length old ≤ offset → j < offset → byte (padded old offset bytes) j ≡ byte old j
padded_before old bytes offset j h k =
    ap (λ (xs : List ℕ). byte xs j) (padded_is old bytes offset)
    ∙ ⊎_elim
    (λ (near : j < length old). byte_left old (replicate (offset - length old) 0 ++ bytes) j near)
    (λ (far : length old ≤ j).
    byte_right old (replicate (offset - length old) 0 ++ bytes) j (j - length old) (omega (arith, far))
    ∙ (byte_zeros (offset - length old) bytes (j - length old) (omega (arith, far, k)) ∙ sym (byte_past old j far)))
    (cases_lt j (length old))

pub bytes_of_length : (width v : ℕ) → length (bytes_of width v) ≡ width
bytes_of_length zero v = refl
bytes_of_length (suc width) v = let rest = bytes_of_length width (v / 256) in omega (arith, rest)

-- without zeros at the end

last_zero : (xs : List ℕ) (x j : ℕ) → x ≡ 0 → byte (xs ++ (x ∷ [])) j ≡ byte xs j
last_zero xs x j e =
    ⊎_elim
    (λ (near : j < length xs). byte_left xs (x ∷ []) j near)
    (λ (far : length xs ≤ j). byte_right xs (x ∷ []) j (j - length xs) (omega (arith, far)) ∙ (at (j - length xs) ∙ sym (byte_past xs j far)))
    (cases_lt j (length xs))
  where
    at : (k : ℕ) → byte (x ∷ []) k ≡ 0
    at zero = e
    at (suc k) = refl

pub cut_same : (xs : List ℕ) (j : ℕ) → byte (reverse (without_zeros xs)) j ≡ byte (reverse xs) j
cut_same [] j = refl
cut_same (x ∷ xs) j = by (x == 0) (cut_same xs j) refl
  where
    by : (t : Bool) → byte (reverse (without_zeros xs)) j ≡ byte (reverse xs) j → (x == 0) ≡ t → byte (reverse (cond t (without_zeros xs) (x ∷ xs))) j ≡ byte (reverse (x ∷ xs)) j
    by true again e = again ∙ (sym (last_zero (reverse xs) x j (eqb-true x 0 e)) ∙ ap (λ (ys : List ℕ). byte ys j) (sym (reverse-append (x ∷ []) xs)))
    by false again e = refl

cut_length : (xs : List ℕ) → length (without_zeros xs) ≤ length xs
cut_length [] = omega arith
cut_length (x ∷ xs) = either_way (λ y0. length (without_zeros xs) ≤ length xs → length y0 ≤ length (x ∷ xs)) (x == 0) (λ again. omega (arith, again)) (λ again. omega arith) (cut_length xs)

pub trimmed_length : (start : Start) → length (trimmed start).bytes ≤ length start.bytes
trimmed_length start = omega (arith, length-reverse (without_zeros (reverse start.bytes)), cut_length (reverse start.bytes), length-reverse start.bytes)

-- filling

-- pointers stand in slots that end below a place
abbrev pub PointersBelow : List ℕ → ℕ → List (ℕ × ℕ × ℕ) → Type 0
PointersBelow slots low [] = Unit {0}
PointersBelow slots low (p ∷ ps) = (Has slots p.0 × (p.0 + 4 ≤ low)) × PointersBelow slots low ps

abbrev pub places : List (ℕ × ℕ × ℕ) → List ℕ
places ps = map (λ (p : ℕ × ℕ × ℕ). p.0) ps

-- a whole with these slots is filled up to a place
pub record Filled (slots : List ℕ) (low : ℕ) (start : Start) : Type 0 where
  pub inside : length start.bytes ≤ low
  pub zeros : (s k : ℕ) → Has slots s → k < 4 → byte start.bytes (s + k) ≡ 0
  pub pointers : PointersBelow slots low start.pointers
  pub distinct : IsDistinct nat_eq (places start.pointers)

below_more : (slots : List ℕ) (low high : ℕ) (ps : List (ℕ × ℕ × ℕ)) → low ≤ high → PointersBelow slots low ps → PointersBelow slots high ps
below_more slots low high [] e h = tt
below_more slots low high (p ∷ ps) e h = ((h.0.0, omega (arith, h.0.1, e)), below_more slots low high ps e h.1)

pub filled_more : (slots : List ℕ) (low high : ℕ) (start : Start) → low ≤ high → Filled slots low start → Filled slots high start
filled_more slots low high start e h = record { inside = omega (arith, h.inside, e); zeros = h.zeros; pointers = below_more slots low high start.pointers e h.pointers; distinct = h.distinct }

-- bytes of a place without slots
pub filled_bytes : (room : ℕ) (slots : List ℕ) (low offset : ℕ) (l : Layout) (start : Start) (bytes : List ℕ) → Filled slots low start → low ≤ offset → Seat room slots offset l → ((s : ℕ) → Has l.slots s → ⊥) → length bytes ≤ l.size → Filled slots (offset + l.size) (with_bytes start offset bytes)
filled_bytes room slots low offset l start bytes h e seat none fits =
    search (arith, padded_is, length-append, length-replicate, padded_before, byte_past, below_more) fits 100

-- a pointer

distinct_push : (slots : List ℕ) (low : ℕ) (ps : List (ℕ × ℕ × ℕ)) (p : ℕ × ℕ × ℕ) → low ≤ p.0 → PointersBelow slots low ps → IsDistinct nat_eq (places ps) → IsDistinct nat_eq (places (ps ++ (p ∷ [])))
unfolding IsDistinct
distinct_push slots low [] p e h d = (tt, tt)
distinct_push slots low (q ∷ ps) p e h d = (all_last ps (d.0), distinct_push slots low ps p e h.1 d.1)
  where
    apart : nat_eq q.0 p.0 ≡ false
    apart = grind (arith, false, true, eqb-true)

    all_last : (rs : List (ℕ × ℕ × ℕ)) → AllByRecursion (λ y. nat_eq q.0 y ≡ false) (places rs) → AllByRecursion (λ y. nat_eq q.0 y ≡ false) (places (rs ++ (p ∷ [])))
    all_last [] k = (apart, tt)
    all_last (r ∷ rs) k = (k.0, all_last rs k.1)

below_push : (slots : List ℕ) (low : ℕ) (ps : List (ℕ × ℕ × ℕ)) (p : ℕ × ℕ × ℕ) → PointersBelow slots low ps → Has slots p.0 → p.0 + 4 ≤ low → PointersBelow slots low (ps ++ (p ∷ []))
below_push slots low [] p h k e = ((k, e), tt)
below_push slots low (q ∷ ps) p h k e = (h.0, below_push slots low ps p h.1 k e)

pub filled_pointer : (slots : List ℕ) (low offset static at : ℕ) (start : Start) → Filled slots low start → low ≤ offset → Has slots offset → Filled slots (offset + 4) (with_pointer start offset static at)
filled_pointer slots low offset static at start h e there = record {
  inside = omega (arith, h.inside, e);
  zeros = h.zeros;
  pointers = below_push slots (offset + 4) start.pointers (offset, static, at) (below_more slots low (offset + 4) start.pointers (omega (arith, e)) h.pointers) there (omega arith);
  distinct = distinct_push slots low start.pointers (offset, static, at) e h.pointers h.distinct;
}

-- the parts that braces are for lie in seats, one behind another (C99 6.7.8)

-- a type that is a struct by its word is no union
abbrev pub Proper : List CompletedTag → PlainType → Type 0
Proper ts (Struct tag) = (done : CompletedTag) → find (λ (d : CompletedTag). d.tag == tag) ts ≡ Some done → done.is_union ≡ false
Proper ts (Array element length) = Proper ts element
Proper ts type = Unit {0}

abbrev pub MembersProper : List CompletedTag → List (List ℕ × PlainType) → Type 0
MembersProper ts [] = Unit {0}
MembersProper ts (m ∷ ms) = Proper ts m.1 × MembersProper ts ms

abbrev pub AllProper : List CompletedTag → Type 0
AllProper ts = (tag : ℕ) (done : CompletedTag) → find (λ (d : CompletedTag). d.tag == tag) ts ≡ Some done → MembersProper ts done.members

-- parts in seats of a whole, from a place on
abbrev pub PartsSeated : List CompletedTag → ℕ → List ℕ → ℕ → ℕ → List (PlainType × ℕ) → Type 0
PartsSeated ts room slots low high [] = low ≤ high
PartsSeated ts room slots low high (p ∷ ps) =
    (low ≤ p.1) × ((m : Layout) × (layout_of (known ts) p.0 ≡ Some m) × Seat room slots p.1 m × Proper ts p.0 × PartsSeated ts room slots (p.1 + m.size) high ps)

pub parts_end : (ts : List CompletedTag) (room : ℕ) (slots : List ℕ) (low high : ℕ) (ps : List (PlainType × ℕ)) → PartsSeated ts room slots low high ps → low ≤ high
parts_end ts room slots low high [] h = h
parts_end ts room slots low high (p ∷ ps) h = let r = parts_end ts room slots (p.1 + h.1.0.size) high ps h.1.4 in omega (arith, h.0, r)

-- elements of an array

times_le : (i j size : ℕ) → i ≤ j → i * size ≤ j * size
times_le zero j size h = omega arith
times_le (suc i) zero size h = absurd (omega (arith, h))
times_le (suc i) (suc j) size h = let r = times_le i j size (omega (arith, h)) in omega (arith, r)

next_element : (base i size offset : ℕ) → offset ≡ base + i * size → offset + size ≡ base + (i + 1) * size
next_element base i size offset e = let m : (i + 1) * size ≡ i * size + size = omega arith in omega (arith, e, m)

module _ (ts : List CompletedTag) (room : ℕ) (slots : List ℕ) where
  row_end : (base total i size offset : ℕ) → offset ≡ base + i * size → i ≤ total → offset ≤ base + total * size
  row_end base total i size offset e h = let r = times_le i total size h in omega (arith, e, r)

  elements_seated : (base total : ℕ) (l : Layout) (element : PlainType) → IsSound l → layout_of (known ts) element ≡ Some l → Proper ts element → Seat room slots base (array_layout total l)
      → (asked n i offset : ℕ) → offset ≡ base + i * l.size → i + n ≤ total → PartsSeated ts room slots offset (base + total * l.size) (elements asked n offset l.size element)
  elements_seated base total l element sound e p seat zero n i offset at fits = row_end base total i l.size offset at (omega (arith, fits))
  elements_seated base total l element sound e p seat (suc asked) zero i offset at fits = row_end base total i l.size offset at (omega (arith, fits))
  elements_seated base total l element sound e p seat (suc asked) (suc n) i offset at fits =
      let here : Seat room slots offset l = subst (λ (x : ℕ). Seat room slots x l) (sym at) (seat_within room slots base (i * l.size) (array_layout total l) l seat (seat_element total i l sound (omega (arith, fits)))) in
      (omega arith, (l, e, here, p, elements_seated base total l element sound e p seat asked n (i + 1) (offset + l.size) (next_element base i l.size offset at) (omega (arith, fits))))

  array_seated : LayoutsAreSound → (c : Context) (asked n base : ℕ) (element : PlainType) (l : Layout) → c.tags.completed ≡ ts → layout_of (known ts) element ≡ Some l → Proper ts element → Seat room slots base (array_layout n l) → PartsSeated ts room slots base (base + n * l.size) (elements asked n base (size_or_zero c element) element)
  array_seated sound c asked n base element l same e p seat =
      let size : size_or_zero c element ≡ l.size = ap (λ (x : List CompletedTag). unwrap_or (option_map (λ (y : Layout). y.size) (layout_of (known x) element)) 0) same ∙ ap (λ (o : Option Layout). unwrap_or (option_map (λ (y : Layout). y.size) o) 0) e in
      subst (λ (s : ℕ). PartsSeated ts room slots base (base + n * l.size) (elements asked n base s element)) (sym size)
      (elements_seated base n l element (sound ts element l e) e p seat asked n 0 base (omega arith) (omega arith))

-- tags

there : (o : Option Layout) (d : Layout) → is_some o ≡ true → o ≡ Some (unwrap_or o d)
there o d e = search arith fits 100

each_sound : LayoutsAreSound → (ts : List CompletedTag) (ms : List (List ℕ × PlainType)) → MembersWhole (known ts) ms → EachSound (map (member_layout (known ts)) ms)
each_sound sound ts [] whole = tt
each_sound sound ts (m ∷ ms) whole =
    let l = member_layout (known ts) m in
    (sound ts m.1 l (there (layout_of (known ts) m.1) Rattle.c_types.specs.Layouts.no_layout whole.0.1), each_sound sound ts ms whole.1)

abbrev member_of : (List ℕ × PlainType) × (ℕ × Layout) → PlainMember
member_of x = record { name = x.0.0; type = x.0.1; offset = x.1.0 }

module _ (sound : LayoutsAreSound) (ts : List CompletedTag) (room : ℕ) (slots : List ℕ) where
  rows_seated : (base : ℕ) (w : Layout) → Seat room slots base w → (ms : List (List ℕ × PlainType)) (p : Placed) (low high : ℕ) → MembersWhole (known ts) ms → MembersProper ts ms → Seated w.size w.slots low high (rest_placed false p (map (member_layout (known ts)) ms))
      → PartsSeated ts room slots (base + low) (base + high) (map (λ (m : PlainMember). (m.type, base + m.offset)) (map member_of (zip ms (rest_placed false p (map (member_layout (known ts)) ms)))))
  rows_seated base w seat [] p low high whole proper h = omega (arith, h)
  rows_seated base w seat (m ∷ ms) p low high whole proper h =
      let l = member_layout (known ts) m in
      search (arith, seat_within, rest_placed, rows_seated base w seat ms (Rattle.c_types.specs.Layouts.place false p l)) fits 100

  -- a struct's members
  body_seated : (base : ℕ) (done : CompletedTag) (l : Layout) → TagIs (known ts) done l → done.is_union ≡ false → MembersProper ts done.members → Seat room slots base l → PartsSeated ts room slots base (base + l.size) (struct_parts base (Some (placed_members (known ts) done)))
  body_seated base done l h u proper seat =
      let ls = map (member_layout (known ts)) done.members in
      let w = members_layout false ls in
      let same : w ≡ l = ap (λ (t : Bool). members_layout t ls) (sym u) ∙ h.is in
      let seat2 : Seat room slots base w = subst (λ (x : Layout). Seat room slots base x) (sym same) seat in
      let listed : (placed done.is_union ls).members ≡ rest_placed false none_placed ls = ap (λ (t : Bool). (placed t ls).members) u ∙ fold_rest false none_placed ls in
      let zero_first : base + 0 ≡ base = omega arith in
      let parts = rows_seated base w seat2 done.members none_placed 0 w.size h.members proper (struct_seats ls (each_sound sound ts done.members h.members)) in
      let parts2 = subst (λ (x : ℕ). PartsSeated ts room slots x (base + w.size) (map (λ (m : PlainMember). (m.type, base + m.offset)) (map member_of (zip done.members (rest_placed false none_placed ls))))) zero_first parts in
      let parts3 = subst (λ (x : Layout). PartsSeated ts room slots base (base + x.size) (map (λ (m : PlainMember). (m.type, base + m.offset)) (map member_of (zip done.members (rest_placed false none_placed ls))))) same parts2 in
      subst (λ (ps : List (ℕ × Layout)). PartsSeated ts room slots base (base + l.size) (map (λ (m : PlainMember). (m.type, base + m.offset)) (map member_of (zip done.members ps)))) (sym listed) parts3

  take_seated : (low high : ℕ) (ps : List (PlainType × ℕ)) → PartsSeated ts room slots low high ps → PartsSeated ts room slots low high (take 1 ps)
  take_seated low high ps h = search (arith, parts_end) fits 100

  -- a union's first member
  first_seated : (base : ℕ) (u : Bool) (tag : ℕ) (ms : List (List ℕ × PlainType)) (l : Layout) → u ≡ true → (let done : CompletedTag = record { tag = tag; is_union = u; members = ms } in TagIs (known ts) done l → MembersProper ts ms → Seat room slots base l → PartsSeated ts room slots base (base + l.size) (take 1 (struct_parts base (Some (placed_members (known ts) done)))))
  first_seated base u tag [] l e h proper seat = omega arith
  first_seated base u tag (m ∷ ms) l e h proper seat =
      let first = member_layout (known ts) m in
      let rest = map (member_layout (known ts)) ms in
      let w = members_layout true (first ∷ rest) in
      let same : w ≡ l = ap (λ (t : Bool). members_layout t (first ∷ rest)) (sym e) ∙ h.is in
      let laid : layout_of (known ts) m.1 ≡ Some first = there (layout_of (known ts) m.1) Rattle.c_types.specs.Layouts.no_layout h.members.0.1 in
      let inner : Seat w.size w.slots 0 first = union_seat first rest (sound ts m.1 first laid) (h.rule e) in
      let seat2 : Seat room slots base w = subst (λ (x : Layout). Seat room slots base x) (sym same) seat in
      let here = seat_within room slots base 0 w first seat2 inner in
      let last : base + 0 + first.size ≤ base + l.size = (let s = ap (λ (x : Layout). x.size) same in omega (arith, inner.inside, s)) in
      let parts : PartsSeated ts room slots base (base + l.size) ((m.1, base + 0) ∷ []) = (omega arith, (first, laid, here, proper.0, last)) in
      let listed : (placed u (first ∷ rest)).members ≡ rest_placed true none_placed (first ∷ rest) = ap (λ (t : Bool). (placed t (first ∷ rest)).members) e ∙ fold_rest true none_placed (first ∷ rest) in
      subst (λ (ps : List (ℕ × Layout)). PartsSeated ts room slots base (base + l.size) (take 1 (map (λ (x : PlainMember). (x.type, base + x.offset)) (map member_of (zip (m ∷ ms) ps))))) (sym listed) parts

  union_seated : (base : ℕ) (done : CompletedTag) (l : Layout) → TagIs (known ts) done l → MembersProper ts done.members → Seat room slots base l → PartsSeated ts room slots base (base + l.size) (take 1 (struct_parts base (Some (placed_members (known ts) done))))
  union_seated base done l h proper seat = by done.is_union refl
    where
      by : (u : Bool) → done.is_union ≡ u → PartsSeated ts room slots base (base + l.size) (take 1 (struct_parts base (Some (placed_members (known ts) done))))
      by true e = first_seated base done.is_union done.tag done.members l e h proper seat
      by false e = take_seated base (base + l.size) (struct_parts base (Some (placed_members (known ts) done))) (body_seated base done l h e proper seat)

-- the parts of a type

pub parts_seated : LayoutsAreSound → (c : Context) (room : ℕ) (slots : List ℕ) (asked : ℕ) (type : PlainType) (base : ℕ) (l : Layout) → Solid c → (let ts = c.tags.completed in AllProper ts → Proper ts type → layout_of (known ts) type ≡ Some l → Seat room slots base l → PartsSeated ts room slots base (base + l.size) (parts_of c asked type base))
unfolding parts_of
parts_seated sound c room slots asked type base l h all proper e seat =
    search (arith, some_array, array_seated, option_map, body_seated, tag_at, union_seated) fits 100
