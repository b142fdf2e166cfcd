-- The slots of an object: ascending multiples of 4 inside its size.
use Rattle.std.proofs.Common.{◌≡◌, ◌<◌, ◌≤◌, ◌+◌, ◌*◌, ◌/◌, ◌%◌, ℕ, zero, suc, List, [], ◌∷◌, ◌++◌, length, get_or, refl, sym, ap, ◌∙◌, subst, arith}
use Rattle.std.specs.Prelude.{Contains, nat_lt}
use Rattle.std.specs.List.{flat_map, range_with_len}
use Rattle.std.proofs.lemmas.Bool.{cond-true, cond-false, lt-ltb, le-ltb}
use Rattle.std.proofs.Math.Nat.{mul_assoc, div-mul-le_self}
use Rattle.c_types.specs.Layouts.{AreSlots, moved}
use Rattle.hs_base.specs.Access.{slots_below}
use Rattle.adjusters.specs.ObjectSlots.{Element, object_slots}
use Rattle.flat_objects.specs.Memory.{IsForm}

-- the slots of an element, which stay multiples of 4 where it is repeated
pub record IsEven (form : Element) : Type 0 where
  pub slots : AreSlots 0 form.size form.slots
  pub whole : 0 < length form.slots → form.size % 4 ≡ 0

lower_slots : (low mid high : ℕ) (slots : List ℕ) → low ≤ mid → AreSlots mid high slots → AreSlots low high slots
lower_slots low mid high [] less h = tt
lower_slots low mid high (s ∷ slots) less h = let first = h.0 in (omega arith, h.1, h.2, h.3)

pub raise_slots : (low mid high : ℕ) (slots : List ℕ) → mid ≤ high → AreSlots low mid slots → AreSlots low high slots
raise_slots low mid high [] less h = tt
raise_slots low mid high (s ∷ slots) less h = let last = h.1 in (h.0, omega arith, h.2, raise_slots (s + 4) mid high slots less h.3)

joined_slots : (low mid high : ℕ) (xs ys : List ℕ) → low ≤ mid → mid ≤ high → AreSlots low mid xs → AreSlots mid high ys → AreSlots low high (xs ++ ys)
joined_slots low mid high [] ys less more h k = lower_slots low mid high ys less k
joined_slots low mid high (x ∷ xs) ys less more h k = let last = h.1 in (h.0, omega arith, h.2, joined_slots (x + 4) mid high xs ys h.1 more h.3 k)

moved_slots : (by low high : ℕ) (slots : List ℕ) → (0 < length slots → by % 4 ≡ 0) → AreSlots low high slots → AreSlots (by + low) (by + high) (moved by slots)
moved_slots by low high [] whole h = tt
moved_slots by low high (s ∷ slots) whole h =
    let w : by % 4 ≡ 0 = whole (omega arith) in
    let above = h.0 in
    let last = h.1 in
    let aligned = h.2 in
    let next : by + (s + 4) ≡ by + s + 4 = omega arith in
    (omega arith, omega arith, omega arith, subst (λ (n : ℕ). AreSlots n (by + high) (moved by slots)) next (moved_slots by (s + 4) high slots (λ _. w) h.3))

product : (k size : ℕ) → size % 4 ≡ 0 → k * size % 4 ≡ 0
product k size h =
    let quarter = size / 4 in
    let e : size ≡ quarter * 4 = omega arith in
    let m : k * size ≡ k * quarter * 4 = ap (λ n. k * n) e ∙ sym (mul_assoc k quarter 4) in
    omega arith

repeated_slots : (form : Element) → IsEven form → (a n : ℕ) → AreSlots (a * form.size) ((a + n) * form.size) (flat_map (λ k. moved (k * form.size) form.slots) (range_with_len a n))
repeated_slots form is a zero = tt
repeated_slots form is a (suc n) =
    let by = a * form.size in
    let start : by + 0 ≡ by = omega arith in
    let end : by + form.size ≡ (a + 1) * form.size = omega arith in
    let all : (a + 1 + n) * form.size ≡ (a + suc n) * form.size = omega arith in
    let one = moved_slots by 0 form.size form.slots (λ some. product a form.size (is.whole some)) is.slots in
    let rest = repeated_slots form is (a + 1) n in
    joined_slots by ((a + 1) * form.size) ((a + suc n) * form.size) (moved by form.slots) (flat_map (λ k. moved (k * form.size) form.slots) (range_with_len (a + 1) n)) (omega arith) (omega arith)
    (subst (λ (m : ℕ). AreSlots m ((a + 1) * form.size) (moved by form.slots)) start (subst (λ (m : ℕ). AreSlots (by + 0) m (moved by form.slots)) end one))
    (subst (λ (m : ℕ). AreSlots ((a + 1) * form.size) m (flat_map (λ k. moved (k * form.size) form.slots) (range_with_len (a + 1) n))) all rest)

pub even_slots : (form : Element) (size : ℕ) → IsEven form → AreSlots 0 size (object_slots form size)
even_slots form size is =
    let n = size / form.size in
    let start : 0 * form.size ≡ 0 = omega arith in
    let end : (0 + n) * form.size ≡ n * form.size = omega arith in
    let all = repeated_slots form is 0 n in
    raise_slots 0 (n * form.size) size (object_slots form size) (div-mul-le_self size form.size)
    (subst (λ (m : ℕ). AreSlots m (n * form.size) (object_slots form size)) start (subst (λ (m : ℕ). AreSlots (0 * form.size) m (object_slots form size)) end all))

-- each slot of an even form is a multiple of 4
aligned_at : (low high : ℕ) (slots : List ℕ) (k d : ℕ) → AreSlots low high slots → k < length slots → get_or slots k d % 4 ≡ 0
aligned_at low high [] k d h less = absurd (omega arith)
aligned_at low high (s ∷ slots) zero d h less = h.2
aligned_at low high (s ∷ slots) (suc k) d h less = aligned_at (s + 4) high slots k d h.3 (omega arith)

pub slot_aligned : (low high : ℕ) (slots : List ℕ) (s : ℕ) → AreSlots low high slots → Contains slots s → s % 4 ≡ 0
slot_aligned low high slots s h at = subst (λ (n : ℕ). n % 4 ≡ 0) at.2 (aligned_at low high slots at.0 s h at.1)

-- Slots that ascend, each ending before the next

abbrev pub Ascend : ℕ → ℕ → List ℕ → Type 0
Ascend low high [] = Unit {0}
Ascend low high (s ∷ slots) = (low ≤ s) × (s + 4 ≤ high) × Ascend (s + 4) high slots

slots_ascend : (low high : ℕ) (slots : List ℕ) → AreSlots low high slots → Ascend low high slots
slots_ascend low high [] h = tt
slots_ascend low high (s ∷ slots) h = (h.0, h.1, slots_ascend (s + 4) high slots h.3)

lower : (low mid high : ℕ) (slots : List ℕ) → low ≤ mid → Ascend mid high slots → Ascend low high slots
lower low mid high [] less h = tt
lower low mid high (s ∷ slots) less h = let first = h.0 in (omega arith, h.1, h.2)

raise : (low mid high : ℕ) (slots : List ℕ) → mid ≤ high → Ascend low mid slots → Ascend low high slots
raise low mid high [] less h = tt
raise low mid high (s ∷ slots) less h = let last = h.1 in (h.0, omega arith, raise (s + 4) mid high slots less h.2)

joined : (low mid high : ℕ) (xs ys : List ℕ) → low ≤ mid → mid ≤ high → Ascend low mid xs → Ascend mid high ys → Ascend low high (xs ++ ys)
joined low mid high [] ys less more h k = lower low mid high ys less k
joined low mid high (x ∷ xs) ys less more h k = let last = h.1 in (h.0, omega arith, joined (x + 4) mid high xs ys h.1 more h.2 k)

moved_up : (by low high : ℕ) (slots : List ℕ) → Ascend low high slots → Ascend (by + low) (by + high) (moved by slots)
moved_up by low high [] h = tt
moved_up by low high (s ∷ slots) h =
    let above = h.0 in
    let last = h.1 in
    let next : by + (s + 4) ≡ by + s + 4 = omega arith in
    (omega arith, omega arith, subst (λ (n : ℕ). Ascend n (by + high) (moved by slots)) next (moved_up by (s + 4) high slots h.2))

repeated : (form : Element) → Ascend 0 form.size form.slots → (a n : ℕ) → Ascend (a * form.size) ((a + n) * form.size) (flat_map (λ k. moved (k * form.size) form.slots) (range_with_len a n))
repeated form is a zero = tt
repeated form is a (suc n) =
    let by = a * form.size in
    let start : by + 0 ≡ by = omega arith in
    let end : by + form.size ≡ (a + 1) * form.size = omega arith in
    let all : (a + 1 + n) * form.size ≡ (a + suc n) * form.size = omega arith in
    let one = moved_up by 0 form.size form.slots is in
    let rest = repeated form is (a + 1) n in
    joined by ((a + 1) * form.size) ((a + suc n) * form.size) (moved by form.slots) (flat_map (λ k. moved (k * form.size) form.slots) (range_with_len (a + 1) n)) (omega arith) (omega arith)
    (subst (λ (m : ℕ). Ascend m ((a + 1) * form.size) (moved by form.slots)) start (subst (λ (m : ℕ). Ascend (by + 0) m (moved by form.slots)) end one))
    (subst (λ (m : ℕ). Ascend ((a + 1) * form.size) m (flat_map (λ k. moved (k * form.size) form.slots) (range_with_len (a + 1) n))) all rest)

pub object_has_slots : (form : Element) (size : ℕ) → IsForm form → Ascend 0 size (object_slots form size)
object_has_slots form size is =
    let n = size / form.size in
    let start : 0 * form.size ≡ 0 = omega arith in
    let end : (0 + n) * form.size ≡ n * form.size = omega arith in
    let all = repeated form (slots_ascend 0 form.size form.slots is.slots) 0 n in
    raise 0 (n * form.size) size (object_slots form size) (div-mul-le_self size form.size)
    (subst (λ (m : ℕ). Ascend m (n * form.size) (object_slots form size)) start (subst (λ (m : ℕ). Ascend (0 * form.size) m (object_slots form size)) end all))

above_low : (low high : ℕ) (slots : List ℕ) (k d : ℕ) → Ascend low high slots → k < length slots → low ≤ get_or slots k d
above_low low high [] k d h less = absurd (omega arith)
above_low low high (s ∷ slots) zero d h less = h.0
above_low low high (s ∷ slots) (suc k) d h less = let first = h.0 in let rest = above_low (s + 4) high slots k d h.2 (omega arith) in omega arith

ends_at : (low high : ℕ) (slots : List ℕ) (k d : ℕ) → Ascend low high slots → k < length slots → get_or slots k d + 4 ≤ high
ends_at low high [] k d h less = absurd (omega arith)
ends_at low high (s ∷ slots) zero d h less = h.1
ends_at low high (s ∷ slots) (suc k) d h less = ends_at (s + 4) high slots k d h.2 (omega arith)

pub slot_ends : (low high : ℕ) (slots : List ℕ) (s : ℕ) → Ascend low high slots → Contains slots s → s + 4 ≤ high
slot_ends low high slots s h at = subst (λ (n : ℕ). n + 4 ≤ high) at.2 (ends_at low high slots at.0 s h at.1)

-- a slot ends before each later one
pub slots_apart : (low high : ℕ) (slots : List ℕ) (i j d : ℕ) → Ascend low high slots → i < j → j < length slots → get_or slots i d + 4 ≤ get_or slots j d
slots_apart low high [] i j d h less inside = absurd (omega arith)
slots_apart low high (s ∷ slots) i zero d h less inside = absurd (omega arith)
slots_apart low high (s ∷ slots) zero (suc j) d h less inside = above_low (s + 4) high slots j d h.2 (omega arith)
slots_apart low high (s ∷ slots) (suc i) (suc j) d h less inside = slots_apart (s + 4) high slots i j d h.2 (omega arith) (omega arith)

-- below a slot stand as many as its number
none_below : (low high : ℕ) (slots : List ℕ) (x : ℕ) → x ≤ low → Ascend low high slots → slots_below slots x ≡ []
none_below low high [] x less h = refl
none_below low high (s ∷ slots) x less h =
    let above = h.0 in
    cond-false (nat_lt s x) (s ∷ slots_below slots x) (slots_below slots x) (le-ltb s x (omega arith)) ∙ none_below (s + 4) high slots x (omega arith) h.2

pub below_slot : (low high : ℕ) (slots : List ℕ) (k d : ℕ) → Ascend low high slots → k < length slots → length (slots_below slots (get_or slots k d)) ≡ k
below_slot low high [] k d h less = absurd (omega arith)
below_slot low high (s ∷ slots) zero d h less =
    ap length (cond-false (nat_lt s s) (s ∷ slots_below slots s) (slots_below slots s) (le-ltb s s (omega arith)) ∙ none_below (s + 4) high slots s (omega arith) h.2)
below_slot low high (s ∷ slots) (suc k) d h less =
    let x = get_or slots k d in
    let above = above_low (s + 4) high slots k d h.2 (omega arith) in
    ap length (cond-true (nat_lt s x) (s ∷ slots_below slots x) (slots_below slots x) (lt-ltb s x (omega arith))) ∙ ap suc (below_slot (s + 4) high slots k d h.2 (omega arith))
