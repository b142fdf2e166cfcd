-- Slots and sizes in wider bounds, slots that are moved, and the slots of arrays. Proved from `Layouts`.
use Rattle.std.proofs.Common.{◌≡◌, ◌⊎◌, ℕ, zero, suc, ◌≤◌, ◌+◌, ◌*◌, ◌%◌, List, [], ◌∷◌, ◌++◌, inl, inr, ⊎_elim, ap, sym, ◌∙◌, subst, refl, le_trans, le_refl, le-add_right, add-le-add, add_assoc, add-zero, add-one, one-add, add-suc, suc-le-suc, suc-mul, mul-le-mul_right, mul-zero, zero-mul, zero-add, suc-ne-zero}
use Rattle.std.specs.Int.{next_multiple_of}
use Rattle.std.specs.List.{flat_map, range_with_len}
use Rattle.std.proofs.Math.Nat.{dvd-add_iff_left, dvd_of_mod-eq-zero, dvd_trans, mod-eq-zero_of_dvd, zero-mod}
use Rattle.std.proofs.lemmas.Nat.{mul-mod_second}
use Rattle.c_types.specs.declared.layouts.Layout.{Layout}
use Rattle.c_types.specs.Layouts.{IsAlignment, AreSlots, IsSound, moved, array_layout}

-- slots between two bounds stand between wider ones
pub slots_within : (low more high less : ℕ) (ss : List ℕ) → more ≤ low → high ≤ less → AreSlots low high ss → AreSlots more less ss
slots_within low more high less [] a b h = tt
slots_within low more high less (s ∷ ss) a b h =
    (le_trans a h.0, le_trans h.1 b, h.2, slots_within (s + 4) (s + 4) high less ss (le_refl (s + 4)) b h.3)

pub slots_append : (low mid high : ℕ) (xs ys : List ℕ) → low ≤ mid → mid ≤ high → AreSlots low mid xs → AreSlots mid high ys → AreSlots low high (xs ++ ys)
slots_append low mid high [] ys a b h g = slots_within mid low high high ys a (le_refl high) g
slots_append low mid high (x ∷ xs) ys a b h g = (h.0, le_trans h.1 b, h.2, slots_append (x + 4) mid high xs ys h.1 b h.3 g)

-- a sum and a product of whole multiples
sum_whole : (a b n : ℕ) → a % n ≡ 0 → b % n ≡ 0 → (a + b) % n ≡ 0
sum_whole a b n d e = mod-eq-zero_of_dvd n ((dvd-add_iff_left n (dvd_of_mod-eq-zero n e)).0 (dvd_of_mod-eq-zero n d))

pub product_whole : (n size align : ℕ) → size % align ≡ 0 → (n * size) % align ≡ 0
product_whole n size align e =
    sym (mul-mod_second n size align) ∙ ap (λ r. (n * r) % align) e ∙ ap (λ r. r % align) (mul-zero n) ∙ zero-mod align

pub slots_moved : (by low high : ℕ) (ss : List ℕ) → by % 4 ≡ 0 → AreSlots low high ss → AreSlots (by + low) (by + high) (moved by ss)
slots_moved by low high [] d h = tt
slots_moved by low high (s ∷ ss) d h = (
  add-le-add (le_refl by) h.0,
  subst (λ n. n ≤ by + high) (sym (add_assoc by s 4)) (add-le-add (le_refl by) h.1),
  sum_whole by s 4 d h.2,
  subst (λ n. AreSlots n (by + high) (moved by ss)) (sym (add_assoc by s 4)) (slots_moved by (s + 4) high ss d h.3),
)

-- slots that are none move anywhere
pub slots_moved_if : (by low high : ℕ) (ss : List ℕ) → (ss ≡ []) ⊎ (by % 4 ≡ 0) → AreSlots low high ss → AreSlots (by + low) (by + high) (moved by ss)
slots_moved_if by low high ss d h =
    ⊎_elim (λ (e : ss ≡ []). subst (λ (l : List ℕ). AreSlots (by + low) (by + high) (moved by l)) (sym e) tt) (λ e. slots_moved by low high ss e h) d

-- a size that is a multiple of an alignment of words has whole words
pub whole_words : (size align : ℕ) → IsAlignment align → size % align ≡ 0 → align % 4 ≡ 0 → size % 4 ≡ 0
whole_words size align (inl e) w q = absurd (suc-ne-zero 0 (sym (ap (λ n. n % 4) e) ∙ q))
whole_words size align (inr (inl e)) w q = absurd (suc-ne-zero 1 (sym (ap (λ n. n % 4) e) ∙ q))
whole_words size align (inr (inr (inl e))) w q = subst (λ n. size % n ≡ 0) e w
whole_words size align (inr (inr (inr e))) w q =
    let eight : size % 8 ≡ 0 = subst (λ n. size % n ≡ 0) e w in
    mod-eq-zero_of_dvd 4 (dvd_trans 4 (dvd_of_mod-eq-zero 4 {n = 8} refl) (dvd_of_mod-eq-zero 8 eight))

-- Arrays

array_slots :
    (size : ℕ) (ss : List ℕ) → (ss ≡ []) ⊎ (size % 4 ≡ 0) → AreSlots 0 size ss → (a n : ℕ) →
    AreSlots (a * size) ((a + n) * size) (flat_map (λ k. moved (k * size) ss) (range_with_len a n))
array_slots size ss q h a zero = tt
array_slots size ss q h a (suc n) =
    let start = a * size in
    let end = (a + suc n) * size in
    let rest = flat_map (λ k. moved (k * size) ss) (range_with_len (a + 1) n) in
    let first : AreSlots start (start + size) (moved start ss) =
    subst (λ low. AreSlots low (start + size) (moved start ss)) (add-zero start)
    (slots_moved_if start 0 size ss (⊎_elim (λ (e : ss ≡ []). inl e) (λ e. inr (product_whole a size 4 e)) q) h) in
    let next : (a + 1) * size ≡ start + size = ap (λ m. m * size) (add-one a) ∙ suc-mul a size in
    let last : a + 1 + n ≡ a + suc n = add_assoc a 1 n ∙ ap (λ m. a + m) (one-add n) in
    let others : AreSlots (start + size) end rest =
    subst (λ low. AreSlots low end rest) next
    (subst (λ m. AreSlots ((a + 1) * size) (m * size) rest) last (array_slots size ss q h (a + 1) n)) in
    let inside : start + size ≤ end =
    subst (λ m. m ≤ end) (suc-mul a size) (mul-le-mul_right size (subst (λ m. suc a ≤ m) (sym (add-suc a n)) (suc-le-suc (le-add_right a n)))) in
    slots_append start (start + size) end (moved start ss) rest (le-add_right start size) inside first others

-- the slots of an array of a sound element stand inside it
pub slots_of_array : (n : ℕ) (l : Layout) → IsSound l → AreSlots 0 (n * l.size) (array_layout n l).slots
slots_of_array n l h =
    let words : (l.slots ≡ []) ⊎ (l.size % 4 ≡ 0) =
    ⊎_elim (λ (e : l.slots ≡ []). inl e) (λ e. inr (whole_words l.size l.align h.aligned h.whole e)) h.pointers in
    let slots = (array_layout n l).slots in
    subst (λ low. AreSlots low (n * l.size) slots) (zero-mul l.size)
    (subst (λ m. AreSlots (0 * l.size) (m * l.size) slots) (zero-add n) (array_slots l.size l.slots words h.slots 0 n))

pub rounded_le : (n align : ℕ) → n ≤ next_multiple_of n align
rounded_le n align = le-add_right n _
