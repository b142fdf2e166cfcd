-- What copies and sets answer at a range. Equations, proved from the definitions of accesses and from `Copying`.
use Rattle.std.proofs.Common.{◌≡◌, ◌<◌, ◌≤◌, ◌+◌, ℕ, zero, suc, true, not, List, Result, Ok, Err, refl, ap, ◌∙◌, not-suc-le-zero}
use Rattle.std.specs.Prelude.{nat_lt}
use Rattle.std.proofs.lemmas.Bool.{cond-false, le-ltb}
use Rattle.hs_base.specs.declared.ends.TrapKind.TheVariants as trap
use Rattle.hs_base.specs.declared.values.Pointer.{Pointer}
use Rattle.hs_base.specs.Access.{Place, Refusal, Trapped, ReadsDead, and_then, copied, copy, copy_between, filled, if_so, range_at, set_bytes, with_object}
use Rattle.hs_base.specs.Object.{Object, is_dead, object_at}
use Rattle.adjusters.specs.ObjectSlots.{Element}
use Rattle.typed_copies.specs.declared.Ranged.{Ranged}
use Rattle.typed_copies.specs.Slots.{slots_agree, slots_allow}
use Rattle.typed_copies.specs.Copying.{IsRangeIn, slots_of}

-- Ranges

module _ (forms : List Element) (objects : List Object) (p : Pointer) (range : Ranged) (n : ℕ) (at : IsRangeIn forms objects p range) where
  -- a range is tried by its object's size
  tried : range_at objects p n ≡ if_so (nat_lt range.size (range.offset + n)) (Trapped trap.Bounds) (Ok (record { birth = at.birth; offset = range.offset }))
  tried =
      let o = object_at objects at.birth in
      let past = λ (size : ℕ). if_so {A = Place} (nat_lt size (range.offset + n)) (Trapped trap.Bounds) (Ok (record { birth = at.birth; offset = range.offset })) in
      ap (λ q. range_at objects q n) at.target ∙ cond-false (is_dead o.standing) (Err ReadsDead) (past o.size) at.there ∙ ap past at.size

  -- a range that ends inside its object
  pub range_inside : range.offset + n ≤ range.size → range_at objects p n ≡ Ok (record { birth = at.birth; offset = range.offset })
  range_inside inside = tried ∙ cond-false (nat_lt range.size (range.offset + n)) (Err (Trapped trap.Bounds)) (Ok (record { birth = at.birth; offset = range.offset })) (le-ltb range.size (range.offset + n) inside)

-- Copies

-- a copy of some bytes, step by step
abbrev pub copied_by : List Object → Pointer → Pointer → ℕ → Result (List Object) Refusal
copied_by objects p q n = and_then (range_at objects p n) (λ to. and_then (range_at objects q n) (λ from. copy_between objects n to from))

-- a copy of some bytes is tried
copies : (objects : List Object) (p q : Pointer) (n : ℕ) → 0 < n → copy objects p q n ≡ copied_by objects p q n
copies objects p q zero some = absurd (not-suc-le-zero some)
copies objects p q (suc m) some = refl

-- a copy of no bytes changes nothing
pub copy_of_none : (objects : List Object) (p q : Pointer) (n : ℕ) → n ≡ 0 → copy objects p q n ≡ Ok objects
copy_of_none objects p q n none = ap (copy objects p q) none

module _ (forms : List Element) (objects : List Object) (p q : Pointer) (dst src : Ranged) (n : ℕ) (to : IsRangeIn forms objects p dst) (from : IsRangeIn forms objects q src) where
  -- the objects after a copy
  abbrev pub after_copy : List Object
  after_copy = with_object objects to.birth (copied (object_at objects to.birth) dst.offset (object_at objects from.birth) src.offset n)

  -- inside both objects the slots decide
  pub copy_inside : dst.offset + n ≤ dst.size → src.offset + n ≤ src.size → 0 < n
      → copy objects p q n ≡ if_so (not (slots_agree (slots_of forms dst) dst.offset (slots_of forms src) src.offset n)) (Trapped trap.Layout) (Ok after_copy)
  copy_inside into out some =
      copies objects p q n some ∙ ap (λ r. and_then {B = List Object} r (λ to. and_then (range_at objects q n) (λ from. copy_between objects n to from))) (range_inside forms objects p dst n to into)
      ∙ ap (λ r. and_then {B = List Object} r (λ from. copy_between objects n (record { birth = to.birth; offset = dst.offset }) from)) (range_inside forms objects q src n from out)
      ∙ ap (λ d. if_so (not (slots_agree d dst.offset (object_at objects from.birth).slots src.offset n)) (Trapped trap.Layout) (Ok after_copy)) to.slots
      ∙ ap (λ s. if_so (not (slots_agree (slots_of forms dst) dst.offset s src.offset n)) (Trapped trap.Layout) (Ok after_copy)) from.slots

  -- where they allow it the copy is made
  pub copy_allowed : dst.offset + n ≤ dst.size → src.offset + n ≤ src.size → 0 < n → slots_agree (slots_of forms dst) dst.offset (slots_of forms src) src.offset n ≡ true → copy objects p q n ≡ Ok after_copy
  copy_allowed into out some agree = copy_inside into out some ∙ ap (λ b. if_so (not b) (Trapped trap.Layout) (Ok after_copy)) agree

-- Sets

-- a set of some bytes, step by step
abbrev pub set_by : List Object → Pointer → ℕ → ℕ → Result (List Object) Refusal
set_by objects p byte n =
    and_then (range_at objects p n) (λ at. let o = object_at objects at.birth in if_so (not (slots_allow o.slots at.offset byte n)) (Trapped trap.Layout) (Ok (with_object objects at.birth (filled o at.offset byte n))))

-- a set of some bytes is tried
sets : (objects : List Object) (p : Pointer) (byte n : ℕ) → 0 < n → set_bytes objects p byte n ≡ set_by objects p byte n
sets objects p byte zero some = absurd (not-suc-le-zero some)
sets objects p byte (suc m) some = refl

-- a set of no bytes changes nothing
pub set_of_none : (objects : List Object) (p : Pointer) (byte n : ℕ) → n ≡ 0 → set_bytes objects p byte n ≡ Ok objects
set_of_none objects p byte n none = ap (set_bytes objects p byte) none

module _ (forms : List Element) (objects : List Object) (p : Pointer) (dst : Ranged) (byte n : ℕ) (to : IsRangeIn forms objects p dst) where
  -- what follows where the range lies inside the object
  abbrev pub set_next : Place → Result (List Object) Refusal
  set_next at = let o = object_at objects at.birth in if_so (not (slots_allow o.slots at.offset byte n)) (Trapped trap.Layout) (Ok (with_object objects at.birth (filled o at.offset byte n)))

  -- the objects after a set
  abbrev pub after_set : List Object
  after_set = with_object objects to.birth (filled (object_at objects to.birth) dst.offset byte n)

  -- inside the object the slots and the byte decide
  pub set_inside : dst.offset + n ≤ dst.size → 0 < n → set_bytes objects p byte n ≡ if_so (not (slots_allow (slots_of forms dst) dst.offset byte n)) (Trapped trap.Layout) (Ok after_set)
  set_inside into some =
      sets objects p byte n some ∙ ap (λ r. and_then r set_next) (range_inside forms objects p dst n to into)
      ∙ ap (λ d. if_so (not (slots_allow d dst.offset byte n)) (Trapped trap.Layout) (Ok after_set)) to.slots

  -- where they allow it the set is made
  pub set_allowed : dst.offset + n ≤ dst.size → 0 < n → slots_allow (slots_of forms dst) dst.offset byte n ≡ true → set_bytes objects p byte n ≡ Ok after_set
  set_allowed into some allow = set_inside into some ∙ ap (λ b. if_so (not b) (Trapped trap.Layout) (Ok after_set)) allow
