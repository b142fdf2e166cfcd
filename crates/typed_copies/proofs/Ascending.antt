-- The slots of an object ascend, each ending before the next.
use Rattle.std.proofs.Common.{◌≡◌, ◌<◌, ◌≤◌, ◌+◌, ◌*◌, ◌/◌, ℕ, zero, suc, List, [], ◌∷◌, ◌++◌, length, get_or, subst, arith}
use Rattle.std.specs.List.{flat_map, range_with_len}
use Rattle.std.proofs.Math.Nat.{div-mul-le_self}
use Rattle.c_types.specs.Layouts.{AreSlots, moved}
use Rattle.adjusters.specs.ObjectSlots.{Element, object_slots}

-- slots from a lowest offset on, each ending before the next, the last at a highest offset or before
abbrev pub Ascend : ℕ → ℕ → List ℕ → Type 0
Ascend low high [] = Unit {0}
Ascend low high (s ∷ slots) = (low ≤ s) × (s + 4 ≤ high) × Ascend (s + 4) high slots

-- slots of an element ascend
slots_ascend : (low high : ℕ) (slots : List ℕ) → AreSlots low high slots → Ascend low high slots
slots_ascend low high [] h = tt
slots_ascend low high (s ∷ slots) h = (h.0, h.1, slots_ascend (s + 4) high slots h.3)

-- the lowest offset may be lower
lower : (low mid high : ℕ) (slots : List ℕ) → low ≤ mid → Ascend mid high slots → Ascend low high slots
lower low mid high [] less h = tt
lower low mid high (s ∷ slots) less h = let first = h.0 in (omega arith, h.1, h.2)

-- the highest offset may be higher
raise : (low mid high : ℕ) (slots : List ℕ) → mid ≤ high → Ascend low mid slots → Ascend low high slots
raise low mid high [] less h = tt
raise low mid high (s ∷ slots) less h = let last = h.1 in (h.0, omega arith, raise (s + 4) mid high slots less h.2)

-- slots that ascend one list behind the other
joined : (low mid high : ℕ) (xs ys : List ℕ) → low ≤ mid → mid ≤ high → Ascend low mid xs → Ascend mid high ys → Ascend low high (xs ++ ys)
joined low mid high [] ys less more h k = lower low mid high ys less k
joined low mid high (x ∷ xs) ys less more h k = let last = h.1 in (h.0, omega arith, joined (x + 4) mid high xs ys h.1 more h.2 k)

-- slots that are moved up ascend
moved_up : (by low high : ℕ) (slots : List ℕ) → Ascend low high slots → Ascend (by + low) (by + high) (moved by slots)
moved_up by low high [] h = tt
moved_up by low high (s ∷ slots) h =
    let above = h.0 in
    let last = h.1 in
    let next : by + (s + 4) ≡ by + s + 4 = omega arith in
    (omega arith, omega arith, subst (λ (n : ℕ). Ascend n (by + high) (moved by slots)) next (moved_up by (s + 4) high slots h.2))

-- elements side by side have ascending slots
repeated : (form : Element) → Ascend 0 form.size form.slots → (a n : ℕ) → Ascend (a * form.size) ((a + n) * form.size) (flat_map (λ k. moved (k * form.size) form.slots) (range_with_len a n))
repeated form is a zero = tt
repeated form is a (suc n) =
    let by = a * form.size in
    let start : by + 0 ≡ by = omega arith in
    let end : by + form.size ≡ (a + 1) * form.size = omega arith in
    let all : (a + 1 + n) * form.size ≡ (a + suc n) * form.size = omega arith in
    let one = moved_up by 0 form.size form.slots is in
    let rest = repeated form is (a + 1) n in
    joined by ((a + 1) * form.size) ((a + suc n) * form.size) (moved by form.slots) (flat_map (λ k. moved (k * form.size) form.slots) (range_with_len (a + 1) n)) (omega arith) (omega arith)
    (subst (λ (m : ℕ). Ascend m ((a + 1) * form.size) (moved by form.slots)) start (subst (λ (m : ℕ). Ascend (by + 0) m (moved by form.slots)) end one))
    (subst (λ (m : ℕ). Ascend ((a + 1) * form.size) m (flat_map (λ k. moved (k * form.size) form.slots) (range_with_len (a + 1) n))) all rest)

-- the slots of an object ascend inside its size
pub object_has_slots : (form : Element) (size : ℕ) → AreSlots 0 form.size form.slots → Ascend 0 size (object_slots form size)
object_has_slots form size is =
    let n = size / form.size in
    let start : 0 * form.size ≡ 0 = omega arith in
    let end : (0 + n) * form.size ≡ n * form.size = omega arith in
    let all = repeated form (slots_ascend 0 form.size form.slots is) 0 n in
    raise 0 (n * form.size) size (object_slots form size) (div-mul-le_self size form.size)
    (subst (λ (m : ℕ). Ascend m (n * form.size) (object_slots form size)) start (subst (λ (m : ℕ). Ascend (0 * form.size) m (object_slots form size)) end all))

-- each slot begins at the lowest offset or behind it
pub above_low : (low high : ℕ) (slots : List ℕ) (k d : ℕ) → Ascend low high slots → k < length slots → low ≤ get_or slots k d
above_low low high [] k d h less = absurd (omega arith)
above_low low high (s ∷ slots) zero d h less = h.0
above_low low high (s ∷ slots) (suc k) d h less = let first = h.0 in let rest = above_low (s + 4) high slots k d h.2 (omega arith) in omega arith

-- each slot ends at the highest offset or before
pub ends_at : (low high : ℕ) (slots : List ℕ) (k d : ℕ) → Ascend low high slots → k < length slots → get_or slots k d + 4 ≤ high
ends_at low high [] k d h less = absurd (omega arith)
ends_at low high (s ∷ slots) zero d h less = h.1
ends_at low high (s ∷ slots) (suc k) d h less = ends_at (s + 4) high slots k d h.2 (omega arith)

-- a slot ends before each later one
pub slots_apart : (low high : ℕ) (slots : List ℕ) (i j d : ℕ) → Ascend low high slots → i < j → j < length slots → get_or slots i d + 4 ≤ get_or slots j d
slots_apart low high [] i j d h less inside = absurd (omega arith)
slots_apart low high (s ∷ slots) i zero d h less inside = absurd (omega arith)
slots_apart low high (s ∷ slots) zero (suc j) d h less inside = above_low (s + 4) high slots j d h.2 (omega arith)
slots_apart low high (s ∷ slots) (suc i) (suc j) d h less inside = slots_apart (s + 4) high slots i j d h.2 (omega arith) (omega arith)

-- as many as the size has room for
room_for : (low high : ℕ) (slots : List ℕ) → Ascend low high slots → low ≤ high → low + 4 * length slots ≤ high
room_for low high [] h less = omega arith
room_for low high (s ∷ slots) h less = let first = h.0 in let rest = room_for (s + 4) high slots h.2 h.1 in omega arith

-- an object has a slot for each 4 bytes at most
pub few_slots : (form : Element) (size : ℕ) → AreSlots 0 form.size form.slots → 4 * length (object_slots form size) ≤ size
few_slots form size is = let room = room_for 0 size (object_slots form size) (object_has_slots form size is) (omega arith) in omega arith
