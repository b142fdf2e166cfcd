-- Addresses that are moved by distances.
use Rattle.std.proofs.Common.{List, ◌≡◌, ℕ, suc, ◌+◌, ◌^◌, ◌<◌, ◌≤◌, ◌⊎◌, inl, inr, ℤ, pos, negsuc, ◌+ℤ◌, ◌-ℤ◌, neg_ℤ, ◌<ℤ◌, Result, Ok, Err, refl, sym, ap, ◌∙◌, subst, arith, FitsSigned, ⊎_elim}
use Rattle.std.specs.Prelude.{◌/◌, nat_le, slice_index}
use Rattle.std.proofs.lemmas.Int.{ints, fits_signed_from_abs}
use Rattle.std.proofs.lemmas.Bool.{cases_lt, cond-true, cond-false, le-leb, lt-leb}
use mir.Syntax.{w128}
use Rattle.hs_base.specs.declared.ends.TrapKind.{TrapKind}
use Rattle.hs_base.specs.declared.ends.TrapKind.TheVariants as trap
use Rattle.hs_base.specs.declared.values.Pointer.{Pointer}
use Rattle.hs_base.specs.declared.values.Pointer.TheVariants as pointer
use Rattle.hs_base.specs.Access.{Trapped}
use Rattle.hs_base.specs.Object.{Object, object_at}
use Rattle.byte_marks.specs.Ends.{IsKnown}
use Rattle.object_meaning.specs.objects.Arithmetic.{within_object, moved_by}
use Rattle.object_meaning.specs.objects.Values.{address}
use Rattle.flat_objects.specs.declared.finding.Spot.{Spot}
use Rattle.flat_objects.specs.Memory.{Memory, IsMemory}
use Rattle.flat_objects.specs.Standing.{IsAt}
use Rattle.flat_objects.specs.Keeping.{IsKept, KeepsAt}
use Rattle.flat_objects.specs.Moving.{IsFar, MovesTo}
use Rattle.flat_objects.specs.Reaching.{IsSpot}
use Rattle.flat_objects.specs.Answering.{Traps, AnswersAddress}
use Rattle.flat_objects.proofs.Owners.{own_inside}

-- where an address stands in its object
abbrev pub Spots : Memory → ℕ → Spot → Type 0
Spots memory addr spot =
    (places : ℕ → ℕ) (objects : List Object) (birth offset : ℕ) → KeepsAt memory places objects (pointer.At birth offset) addr → IsSpot places objects birth offset spot

-- a place below an object or behind it
outside : (birth size : ℕ) (n : ℤ) → (n <ℤ pos 0) ⊎ (pos size <ℤ n) → within_object birth size n ≡ Err (Trapped trap.Range)
outside birth size (negsuc k) h = refl
outside birth size (pos k) (inl h) = absurd (omega (arith, ints))
outside birth size (pos k) (inr h) =
    let lt : size < k = omega (arith, ints) in
    cond-false (nat_le k size) (Ok (address (pointer.At birth k))) (Err (Trapped trap.Range)) (lt-leb k size lt)

far_place : (offset size : ℕ) (d : ℤ) → offset < 2 ^ 32 → size < 2 ^ 32 → IsFar d → ((pos offset +ℤ d) <ℤ pos 0) ⊎ (pos size <ℤ (pos offset +ℤ d))
far_place offset size d a b (inl h) = inl (omega (arith, ints))
far_place offset size d a b (inr h) = inr (omega (arith, ints))

-- a number that the code's numbers do not hold
pub too_large : (n : ℤ) → (FitsSigned w128 n → ⊥) → IsFar n × IsFar (neg_ℤ n)
too_large (pos k) h =
    ⊎_elim
    (λ (lt : k < 2 ^ 127). absurd (h (fits_signed_from_abs w128 (pos k) lt)))
    (λ (le : 2 ^ 127 ≤ k). (inr (omega (arith, ints)), inl (omega (arith, ints))))
    (cases_lt k (2 ^ 127))
too_large (negsuc k) h =
    ⊎_elim
    (λ (lt : suc k < 2 ^ 127). absurd (h (fits_signed_from_abs w128 (negsuc k) lt)))
    (λ (le : 2 ^ 127 ≤ suc k). (inl (omega (arith, ints)), inr (omega (arith, ints))))
    (cases_lt (suc k) (2 ^ 127))

far_outside : (size : ℕ) (n : ℤ) → size < 2 ^ 32 → IsFar n → (n <ℤ pos 0) ⊎ (pos size <ℤ n)
far_outside size n small (inl h) = inl (omega (arith, ints))
far_outside size n small (inr h) = inr (omega (arith, ints))

pub minus_is : (d up n : ℤ) → d ≡ pos 0 -ℤ up → up ≡ n → d ≡ neg_ℤ n
minus_is d up n e f = omega (arith, ints)

pub moved_far_is : (locals heap : ℕ) (memory : Memory) → IsMemory locals heap memory → (places : ℕ → ℕ) (objects : List Object) (p : Pointer) (addr : ℕ) (d : ℤ) → KeepsAt memory places objects p addr → (addr ≡ 0 → ⊥) → IsFar d → Traps trap.Range (moved_by objects p d)
moved_far_is locals heap memory shape places objects pointer.Null addr d at some far = absurd (some at.stands)
moved_far_is locals heap memory shape places objects (pointer.At birth offset) addr d at some far =
    let inside = own_inside memory places objects at.keeps birth at.stands.there locals heap shape in
    outside birth (object_at objects birth).size (pos offset +ℤ d)
    (far_place offset (object_at objects birth).size d (omega (arith, at.stands.inside, shape.reach)) (omega (arith, shape.reach)) far)

-- a place in the object, or none
module _ (places : ℕ → ℕ) (objects : List Object) (birth offset start size : ℕ) (d place : ℤ) (addr : ℕ) (at : IsAt places objects birth offset addr) (start_is : start ≡ places birth) (size_is : size ≡ (object_at objects birth).size) (place_is : place ≡ pos offset +ℤ d) where
  place_answer : (result : Result ℕ TrapKind) → MovesTo start size place result → AnswersAddress places objects result (moved_by objects (pointer.At birth offset) d)
  place_answer (Ok new) (k, k_is, inside, new_is) =
      let total = (object_at objects birth).size in (
        pointer.At birth k,
        ap (within_object birth total) (sym place_is ∙ k_is) ∙ cond-true (nat_le k total) (Ok (address (pointer.At birth k))) (Err (Trapped trap.Range)) (le-leb k total (omega arith)),
        record { there = at.there; inside = omega arith; address = new_is ∙ ap (λ s. s + k) start_is },
      )
  place_answer (Err kind) (kind_is, out) =
      let total = (object_at objects birth).size in
      subst (λ (t : TrapKind). Traps t (moved_by objects (pointer.At birth offset) d)) (sym kind_is)
      (outside birth total (pos offset +ℤ d) (subst (λ (n : ℤ). (n <ℤ pos 0) ⊎ (pos total <ℤ n)) place_is (subst (λ (s : ℕ). (place <ℤ pos 0) ⊎ (pos s <ℤ place)) size_is out)))

module _ (memory : Memory) (places : ℕ → ℕ) (objects : List Object) (addr : ℕ) (d : ℤ) (found : Spot) (some : addr ≡ 0 → ⊥) (finds : Spots memory addr found) where
  pub moved_answer : (p : Pointer) (place : ℤ) (result : Result ℕ TrapKind) → KeepsAt memory places objects p addr → place ≡ pos found.offset +ℤ d → MovesTo found.start found.size place result → AnswersAddress places objects result (moved_by objects p d)
  moved_answer pointer.Null place result at place_is to = absurd (some at.stands)
  moved_answer (pointer.At birth offset) place result at place_is to =
      let f = finds places objects birth offset at in
      place_answer places objects birth offset found.start found.size d place addr at.stands f.start f.size (place_is ∙ ap (λ o. pos o +ℤ d) f.distance) result to

  pub moved_too_far : (p : Pointer) → KeepsAt memory places objects p addr → found.size < 2 ^ 32 → (FitsSigned w128 (pos found.offset +ℤ d) → ⊥) → Traps trap.Range (moved_by objects p d)
  moved_too_far pointer.Null at small unfit = absurd (some at.stands)
  moved_too_far (pointer.At birth offset) at small unfit =
      let f = finds places objects birth offset at in
      let total = (object_at objects birth).size in
      let far = subst (λ (n : ℤ). IsFar n) (ap (λ o. pos o +ℤ d) f.distance) (too_large (pos found.offset +ℤ d) unfit).0 in
      outside birth total (pos offset +ℤ d) (far_outside total (pos offset +ℤ d) (omega (arith, f.size)) far)

-- an address that is moved up to the end of its object at most
pub moved_to_end : (locals heap : ℕ) (memory : Memory) → IsMemory locals heap memory → (places : ℕ → ℕ) (objects : List Object) (p : Pointer) (addr bytes target : ℕ) → KeepsAt memory places objects p addr → target ≡ addr + bytes → target ≤ slice_index memory.marks.ends (addr / 16)
    → AnswersAddress places objects (Ok target) (moved_by objects p (pos bytes))
moved_to_end locals heap memory shape places objects pointer.Null addr bytes target at is low =
    let null : addr ≡ 0 = at.stands in
    let end : slice_index memory.marks.ends (addr / 16) ≡ 0 = ap (λ a. slice_index memory.marks.ends (a / 16)) null ∙ shape.null_end in
    let none : bytes ≡ 0 = omega arith in
    (pointer.Null, ap (λ n. moved_by objects pointer.Null (pos n)) none, omega arith)
moved_to_end locals heap memory shape places objects (pointer.At birth offset) addr bytes target at is low =
    let size = (object_at objects birth).size in
    let end : slice_index memory.marks.ends (addr / 16) ≡ places birth + size =
    ap (λ a. slice_index memory.marks.ends (a / 16)) at.stands.address ∙ (at.keeps.standing birth at.stands.there).marks.end offset at.stands.inside in
    place_answer places objects birth offset (places birth) size (pos bytes) (pos (offset + bytes)) addr at.stands refl refl refl (Ok target) (offset + bytes, refl, omega (arith, at.stands.address), omega (arith, at.stands.address))

-- an end stands for an address that is kept
pub end_known : (locals heap : ℕ) (memory : Memory) → IsMemory locals heap memory → (addr : ℕ) → IsKept memory addr → IsKnown memory.marks.ends addr
end_known locals heap memory shape addr (places, objects, pointer.Null, at) = inl at.stands
end_known locals heap memory shape addr (places, objects, pointer.At birth offset, at) =
    let stands = at.keeps.standing birth at.stands.there in
    let end : slice_index memory.marks.ends (addr / 16) ≡ places birth + (object_at objects birth).size =
    ap (λ a. slice_index memory.marks.ends (a / 16)) at.stands.address ∙ stands.marks.end offset at.stands.inside in
    inr (omega (arith, stands.room))
