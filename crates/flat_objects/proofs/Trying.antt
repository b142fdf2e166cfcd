-- What an access comes to, test by test.
use Rattle.std.proofs.Common.{◌≡◌, ◌<◌, ◌≤◌, ◌+◌, ◌%◌, ℕ, Bool, true, false, not, List, Result, Ok, Err, refl, ap, ◌∙◌, subst, arith}
use Rattle.std.specs.Prelude.{nat_lt, nat_eq}
use Rattle.std.proofs.lemmas.Bool.{lt-ltb, le-ltb, ltb-false, ne_eqb, eq-eqb, not_from_true, not_from_false, not-false}
use Rattle.hs_base.specs.declared.ends.TrapKind.TheVariants as trap
use Rattle.hs_base.specs.declared.values.Pointer.{Pointer}
use Rattle.hs_base.specs.declared.values.Pointer.TheVariants as pointer
use Rattle.hs_base.specs.Access.{Refusal, Trapped, ReadsDead, Place, if_so, access_integer, access_pointer, touches_slot, is_slot}
use Rattle.hs_base.specs.Object.{Object, is_dead, object_at}
use Rattle.flat_objects.specs.Standing.{IsThere}
use Rattle.flat_objects.specs.Reaching.{IsBarred}

-- the four tests of an access, in their order
abbrev pub tests : Bool → Bool → Bool → Bool → Place → Result Place Refusal
tests dead over odd against at =
    if_so dead ReadsDead (if_so over (Trapped trap.Bounds) (if_so odd (Trapped trap.Align) (if_so against (Trapped trap.Layout) (Ok at))))

tests_bounds : (dead over odd against : Bool) (at : Place) → dead ≡ false → over ≡ true → tests dead over odd against at ≡ Err (Trapped trap.Bounds)
tests_bounds true over odd against at alive h = absurd (cc)
tests_bounds false true odd against at alive h = refl
tests_bounds false false odd against at alive h = absurd (cc)

tests_align : (dead over odd against : Bool) (at : Place) → dead ≡ false → over ≡ false → odd ≡ true → tests dead over odd against at ≡ Err (Trapped trap.Align)
tests_align true over odd against at alive fits h = absurd (cc)
tests_align false true odd against at alive fits h = absurd (cc)
tests_align false false true against at alive fits h = refl
tests_align false false false against at alive fits h = absurd (cc)

tests_layout : (dead over odd against : Bool) (at : Place) → dead ≡ false → over ≡ false → odd ≡ false → against ≡ true → tests dead over odd against at ≡ Err (Trapped trap.Layout)
tests_layout true over odd against at alive fits even h = absurd (cc)
tests_layout false true odd against at alive fits even h = absurd (cc)
tests_layout false false true against at alive fits even h = absurd (cc)
tests_layout false false false true at alive fits even h = refl
tests_layout false false false false at alive fits even h = absurd (cc)

tests_none : (dead over odd against : Bool) (at : Place) → dead ≡ false → over ≡ false → odd ≡ false → against ≡ false → tests dead over odd against at ≡ Ok at
tests_none true over odd against at alive fits even h = absurd (cc)
tests_none false true odd against at alive fits even h = absurd (cc)
tests_none false false true against at alive fits even h = absurd (cc)
tests_none false false false true at alive fits even h = absurd (cc)
tests_none false false false false at alive fits even h = refl

-- none of the tests refused
record Passed (dead over odd against : Bool) (at found : Place) : Type 0 where
  alive : dead ≡ false
  fits : over ≡ false
  even : odd ≡ false
  clear : against ≡ false
  same : at ≡ found

tests_passed : (dead over odd against : Bool) (at found : Place) → tests dead over odd against at ≡ Ok found → Passed dead over odd against at found
tests_passed true over odd against at found h = absurd (cc)
tests_passed false true odd against at found h = absurd (cc)
tests_passed false false true against at found h = absurd (cc)
tests_passed false false false true at found h = absurd (cc)
tests_passed false false false false at found h = record { alive = refl; fits = refl; even = refl; clear = refl; same = cc }

abbrev pub place_at : ℕ → ℕ → Place
place_at birth offset = record { birth = birth; offset = offset }

-- what is refused for an object that is there
module _ (objects : List Object) (birth offset n : ℕ) (there : IsThere objects birth) where
  pub barred_bounds : (object_at objects birth).size < offset + n → IsBarred objects (pointer.At birth offset) n trap.Bounds
  barred_bounds over =
      let o = object_at objects birth in
      let odd = not (nat_eq (offset % n) 0) in
      record {
        integer = tests_bounds (is_dead o.standing) (nat_lt o.size (offset + n)) odd (touches_slot o.slots offset n) (place_at birth offset) there (lt-ltb o.size (offset + n) over);
        pointer = λ four. tests_bounds (is_dead o.standing) (nat_lt o.size (offset + 4)) (not (nat_eq (offset % 4) 0)) (not (is_slot o.slots offset)) (place_at birth offset) there (lt-ltb o.size (offset + 4) (omega arith));
      }

  pub barred_align : offset + n ≤ (object_at objects birth).size → (offset % n ≡ 0 → ⊥) → IsBarred objects (pointer.At birth offset) n trap.Align
  barred_align fits odd =
      let o = object_at objects birth in
      record {
        integer = tests_align (is_dead o.standing) (nat_lt o.size (offset + n)) (not (nat_eq (offset % n) 0)) (touches_slot o.slots offset n) (place_at birth offset) there (le-ltb o.size (offset + n) fits)
            (not_from_false (nat_eq (offset % n) 0) (ne_eqb (offset % n) 0 odd));
        pointer = λ four. tests_align (is_dead o.standing) (nat_lt o.size (offset + 4)) (not (nat_eq (offset % 4) 0)) (not (is_slot o.slots offset)) (place_at birth offset) there (le-ltb o.size (offset + 4) (omega arith))
            (not_from_false (nat_eq (offset % 4) 0) (ne_eqb (offset % 4) 0 (λ e. odd (ap (λ m. offset % m) four ∙ e))));
      }

  pub layout_integer : offset + n ≤ (object_at objects birth).size → offset % n ≡ 0 → touches_slot (object_at objects birth).slots offset n ≡ true → access_integer objects (pointer.At birth offset) n ≡ Err (Trapped trap.Layout)
  layout_integer fits even touches =
      let o = object_at objects birth in
      tests_layout (is_dead o.standing) (nat_lt o.size (offset + n)) (not (nat_eq (offset % n) 0)) (touches_slot o.slots offset n) (place_at birth offset) there (le-ltb o.size (offset + n) fits) (not_from_true (nat_eq (offset % n) 0) (eq-eqb (offset % n) 0 even)) touches

  pub allowed_integer : offset + n ≤ (object_at objects birth).size → offset % n ≡ 0 → touches_slot (object_at objects birth).slots offset n ≡ false → access_integer objects (pointer.At birth offset) n ≡ Ok (place_at birth offset)
  allowed_integer fits even clear =
      let o = object_at objects birth in
      tests_none (is_dead o.standing) (nat_lt o.size (offset + n)) (not (nat_eq (offset % n) 0)) (touches_slot o.slots offset n) (place_at birth offset) there (le-ltb o.size (offset + n) fits) (not_from_true (nat_eq (offset % n) 0) (eq-eqb (offset % n) 0 even)) clear

  pub layout_pointer : offset + 4 ≤ (object_at objects birth).size → offset % 4 ≡ 0 → is_slot (object_at objects birth).slots offset ≡ false → access_pointer objects (pointer.At birth offset) ≡ Err (Trapped trap.Layout)
  layout_pointer fits even none =
      let o = object_at objects birth in
      tests_layout (is_dead o.standing) (nat_lt o.size (offset + 4)) (not (nat_eq (offset % 4) 0)) (not (is_slot o.slots offset)) (place_at birth offset) there (le-ltb o.size (offset + 4) fits) (not_from_true (nat_eq (offset % 4) 0) (eq-eqb (offset % 4) 0 even)) (not_from_false (is_slot o.slots offset) none)

  pub allowed_pointer : offset + 4 ≤ (object_at objects birth).size → offset % 4 ≡ 0 → is_slot (object_at objects birth).slots offset ≡ true → access_pointer objects (pointer.At birth offset) ≡ Ok (place_at birth offset)
  allowed_pointer fits even some =
      let o = object_at objects birth in
      tests_none (is_dead o.standing) (nat_lt o.size (offset + 4)) (not (nat_eq (offset % 4) 0)) (not (is_slot o.slots offset)) (place_at birth offset) there (le-ltb o.size (offset + 4) fits) (not_from_true (nat_eq (offset % 4) 0) (eq-eqb (offset % 4) 0 even)) (not_from_true (is_slot o.slots offset) some)

-- what an access that is let through says
pub record Let (objects : List Object) (p : Pointer) (n : ℕ) (at : Place) : Type 0 where
  pub target : p ≡ pointer.At at.birth at.offset
  pub there : IsThere objects at.birth
  pub inside : at.offset + n ≤ (object_at objects at.birth).size

pub record LetInteger (objects : List Object) (p : Pointer) (n : ℕ) (at : Place) : Type 0 where
  pub let_through : Let objects p n at
  pub clear : touches_slot (object_at objects at.birth).slots at.offset n ≡ false

pub record LetPointer (objects : List Object) (p : Pointer) (at : Place) : Type 0 where
  pub let_through : Let objects p 4 at
  pub slot : is_slot (object_at objects at.birth).slots at.offset ≡ true

pub let_integer : (objects : List Object) (p : Pointer) (n : ℕ) (at : Place) → access_integer objects p n ≡ Ok at → LetInteger objects p n at
let_integer objects pointer.Null n at h = absurd (cc)
let_integer objects (pointer.At birth offset) n at h =
    let o = object_at objects birth in
    let passed = tests_passed (is_dead o.standing) (nat_lt o.size (offset + n)) (not (nat_eq (offset % n) 0)) (touches_slot o.slots offset n) (place_at birth offset) at h in
    subst (λ (x : Place). LetInteger objects (pointer.At birth offset) n x) passed.same
    (record { let_through = record { target = refl; there = passed.alive; inside = ltb-false o.size (offset + n) passed.fits }; clear = passed.clear })

pub let_pointer : (objects : List Object) (p : Pointer) (at : Place) → access_pointer objects p ≡ Ok at → LetPointer objects p at
let_pointer objects pointer.Null at h = absurd (cc)
let_pointer objects (pointer.At birth offset) at h =
    let o = object_at objects birth in
    let passed = tests_passed (is_dead o.standing) (nat_lt o.size (offset + 4)) (not (nat_eq (offset % 4) 0)) (not (is_slot o.slots offset)) (place_at birth offset) at h in
    subst (λ (x : Place). LetPointer objects (pointer.At birth offset) x) passed.same
    (record { let_through = record { target = refl; there = passed.alive; inside = ltb-false o.size (offset + 4) passed.fits }; slot = not-false (is_slot o.slots offset) passed.clear })
