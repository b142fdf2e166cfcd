-- What the definitions of copies and sets of ranges answer.
use Rattle.std.proofs.Common.{◌≡◌, ◌≤◌, ◌+◌, ◌∙◌, inl, inr, ℕ, zero, suc, Bool, true, false, not, List, [], ◌∷◌, length, take, drop, Ok, Err, Result, refl, sym, ap, arith}
use Rattle.std.specs.Prelude.{nat_le, ◌&&◌, ◌||◌}
use Rattle.std.specs.List.{list_any}
use Rattle.std.proofs.lemmas.Bool.{and_left, and_right, cases_eq, cases_lt, cond-false, lt-leb}
use Rattle.std.proofs.lemmas.List.{set-get_or}
use Rattle.hs_base.specs.declared.ends.TrapKind.TheVariants as trap
use Rattle.hs_base.specs.declared.values.Pointer.{Pointer}
use Rattle.hs_base.specs.declared.values.Pointer.TheVariants as pointer
use Rattle.hs_base.specs.Access as access
use Rattle.hs_base.specs.Access.{Place, ReadsDead, Refusal, Trapped, and_then, copy, copy_between, filled, if_so, may_set, overlaid, range_at, set_bytes, slots_below, slots_within, with_object}
use Rattle.hs_base.specs.Object.{Object, no_object, object_at}
use Rattle.object_meaning.specs.objects.Memory.{copied, pointers_in_range}
use Rattle.object_meaning.specs.objects.Values.{is_stale}
use Rattle.adjusters.specs.ObjectSlots.{Element}
use Rattle.typed_copies.specs.declared.Ranged.{Ranged}
use Rattle.typed_copies.specs.Copying.{IsRangeIn, slots_of}
use Rattle.typed_copies.specs.Pointers.{words_at}
use Rattle.typed_copies.specs.Slots.{slots_agree, slots_allow}
use Rattle.typed_copies.specs.CopyingEquations.{after_copy, after_set, copy_inside, copy_of_none, set_inside}
use Rattle.flat_objects.specs.Memory.{Memory}
use Rattle.flat_objects.specs.Standing.{IsAddressOf}
use Rattle.flat_objects.specs.Keeping.{Keeps}
use Rattle.flat_objects.specs.Answering.{IsChanged}
use Rattle.flat_objects.specs.Counting.{StaysTracked}
use Rattle.flat_objects.proofs.RangesWords.{Stand, stand_drop, stand_take, words_stand}
use Rattle.flat_objects.proofs.Stored.{same_after}
use Rattle.hs_base.specs.AccessEquations.{overlaid_none}

-- No pointer that is copied is stale

fresh : (places : ℕ → ℕ) (objects : List Object) (p : Pointer) (addr : ℕ) → IsAddressOf places objects p addr → is_stale objects p ≡ false
fresh places objects pointer.Null addr is = refl
fresh places objects (pointer.At birth offset) addr is = is.there

none_stale : (places : ℕ → ℕ) (objects : List Object) (ps : List Pointer) (ws : List ℕ) → Stand places objects ps ws → list_any (is_stale objects) ps ≡ false
none_stale places objects [] ws s = refl
none_stale places objects (p ∷ ps) [] s = absurd s
none_stale places objects (p ∷ ps) (w ∷ ws) s =
    let first = fresh places objects p w s.0 in let rest = none_stale places objects ps ws s.1 in λ i. first i || rest i

read_fresh : (memory : Memory) (places : ℕ → ℕ) (objects : List Object) → Keeps memory places objects → (q : Pointer) (addr : ℕ) → IsAddressOf places objects q addr → (n : ℕ) → list_any (is_stale objects) (pointers_in_range objects q n) ≡ false
read_fresh memory places objects keeps pointer.Null addr is n = refl
read_fresh memory places objects keeps (pointer.At birth offset) addr is n =
    let o = object_at objects birth in
    let ws = words_at memory.bytes (places birth) o.slots in
    let below = length (slots_below o.slots offset) in
    let many = length (slots_within o.slots offset n) in
    none_stale places objects (take many (drop below o.pointers)) (take many (drop below ws)) (stand_take places objects many (drop below o.pointers) (drop below ws) (stand_drop places objects below o.pointers ws (words_stand memory places objects keeps birth is.there)))

unless_stale : (r : Result (List Object) Refusal) (stale : Bool) → stale ≡ false → and_then r (λ new. if_so stale ReadsDead (Ok new)) ≡ r
unless_stale (Ok new) stale none = cond-false stale (Err ReadsDead) (Ok new) none
unless_stale (Err e) stale none = refl

-- where the source's address stands for its pointer, a copy is what it is without a look at the pointers that it reads
pub copied_is : (memory : Memory) (places : ℕ → ℕ) (objects : List Object) → Keeps memory places objects → (p q : Pointer) (addr : ℕ) → IsAddressOf places objects q addr → (n : ℕ) → copied objects p q n ≡ copy objects p q n
copied_is memory places objects keeps p q addr is n =
    unless_stale (copy objects p q n) (list_any (is_stale objects) (pointers_in_range objects q n)) (read_fresh memory places objects keeps q addr is n)

-- Refusals

pub dst_refused : (objects : List Object) (p q : Pointer) (n : ℕ) (e : Refusal) → (n ≡ 0 → ⊥) → range_at objects p n ≡ Err e → copied objects p q n ≡ Err e
dst_refused objects p q zero e some refused = absurd (some refl)
dst_refused objects p q (suc m) e some refused =
    ap (λ r. and_then {B = List Object} (and_then {B = List Object} r (λ to. and_then (range_at objects q (suc m)) (λ from. copy_between objects (suc m) to from))) (λ new. if_so (list_any (is_stale objects) (pointers_in_range objects q (suc m))) ReadsDead (Ok new))) refused

pub src_refused : (objects : List Object) (p q : Pointer) (n : ℕ) (place : Place) (e : Refusal) → (n ≡ 0 → ⊥) → range_at objects p n ≡ Ok place → range_at objects q n ≡ Err e → copied objects p q n ≡ Err e
src_refused objects p q zero place e some inside refused = absurd (some refl)
src_refused objects p q (suc m) place e some inside refused =
    ap (λ r. and_then {B = List Object} (and_then {B = List Object} r (λ to. and_then (range_at objects q (suc m)) (λ from. copy_between objects (suc m) to from))) (λ new. if_so (list_any (is_stale objects) (pointers_in_range objects q (suc m))) ReadsDead (Ok new))) inside
    ∙ ap (λ r. and_then {B = List Object} (and_then {B = List Object} r (λ from. copy_between objects (suc m) place from)) (λ new. if_so (list_any (is_stale objects) (pointers_in_range objects q (suc m))) ReadsDead (Ok new))) refused

pub set_refused : (objects : List Object) (p : Pointer) (byte n : ℕ) (e : Refusal) → (n ≡ 0 → ⊥) → range_at objects p n ≡ Err e → set_bytes objects p byte n ≡ Err e
set_refused objects p byte zero e some refused = absurd (some refl)
set_refused objects p byte (suc m) e some refused =
    ap (λ r. and_then {B = List Object} r (λ at. let o = object_at objects at.birth in if_so (not (may_set o at.offset byte (suc m))) (Trapped trap.Layout) (Ok (with_object objects at.birth (filled o at.offset byte (suc m)))))) refused

-- what is refused is never tracked otherwise
pub refused_stays : (old new : Memory) (places : ℕ → ℕ) (objects : List Object) (meant : Result (List Object) Refusal) (e : Refusal) → meant ≡ Err e → StaysTracked old new places objects meant
refused_stays old new places objects meant e refused = λ after frees is tracks. absurd (cc)

-- Nothing is copied

-- objects that stay are kept
pub changed_none : (memory : Memory) (places : ℕ → ℕ) (objects : List Object) → Keeps memory places objects → IsChanged memory places objects objects
changed_none memory places objects keeps = record { keeps = keeps; many = refl; blocks = λ any range. refl; stand = λ p addr is. is }

none_within : (slots : List ℕ) (offset : ℕ) → slots_within slots offset 0 ≡ []
none_within [] offset = refl
none_within (s ∷ slots) offset =
    let out = elim (cases_lt s offset) as (λ _. (nat_le offset s && nat_le (s + 4) (offset + 0)) ≡ false) [
      | inl below ↦ and_left (nat_le offset s) (nat_le (s + 4) (offset + 0)) (lt-leb offset s below)
      | inr behind ↦ and_right (nat_le offset s) (nat_le (s + 4) (offset + 0)) (lt-leb (s + 4) (offset + 0) (omega arith))
    ] in
    cond-false (nat_le offset s && nat_le (s + 4) (offset + 0)) (s ∷ slots_within slots offset 0) (slots_within slots offset 0) out ∙ none_within slots offset

object_same : (d s : Object) (to from : ℕ) → access.copied d to s from 0 ≡ d
object_same d s to from =
    let below = length (slots_below d.slots to) in
    let rest = drop (length (slots_below s.slots from)) s.pointers in
    let pointers : overlaid d.pointers below (take (length (slots_within s.slots from 0)) rest) ≡ d.pointers =
    ap (λ l. overlaid d.pointers below (take (length l) rest)) (none_within s.slots from) ∙ overlaid_none d.pointers below in
    let bytes : overlaid d.bytes to [] ≡ d.bytes = overlaid_none d.bytes to in
    λ i. record d { bytes = bytes i; pointers = pointers i }

objects_same : (objects : List Object) (d s to from n : ℕ) → n ≡ 0 → with_object objects d (access.copied (object_at objects d) to (object_at objects s) from n) ≡ objects
objects_same objects d s to from n none =
    ap (λ m. with_object objects d (access.copied (object_at objects d) to (object_at objects s) from m)) none
    ∙ ap (with_object objects d) (object_same (object_at objects d) (object_at objects s) to from) ∙ set-get_or objects d no_object

-- What is let through

let_through : (b : Bool) (e : Refusal) (x y : List Object) → if_so b e (Ok x) ≡ Ok y → x ≡ y
let_through true e x y h = absurd (cc)
let_through false e x y h = cc

module _ (forms : List Element) (objects : List Object) (p q : Pointer) (dst src : Ranged) (n : ℕ) (to : IsRangeIn forms objects p dst) (from : IsRangeIn forms objects q src) where
  pub copy_told : dst.offset + n ≤ dst.size → src.offset + n ≤ src.size → (after : List Object) → copy objects p q n ≡ Ok after → copy objects p q n ≡ Ok (after_copy forms objects p q dst src n to from)
  copy_told into out after means =
      let told : after_copy forms objects p q dst src n to from ≡ after =
      elim (cases_eq n 0) [
        | inl none ↦ objects_same objects to.birth from.birth dst.offset src.offset n none ∙ same_after objects after (copy_of_none objects p q n none) means
        | inr some ↦
            let_through (not (slots_agree (slots_of forms dst) dst.offset (slots_of forms src) src.offset n)) (Trapped trap.Layout) (after_copy forms objects p q dst src n to from) after
            (sym (copy_inside forms objects p q dst src n to from into out (omega arith)) ∙ means)
      ] in
      means ∙ ap (λ l. let r : Result (List Object) Refusal = Ok l in r) (sym told)

  pub set_told : (byte : ℕ) → dst.offset + n ≤ dst.size → (n ≡ 0 → ⊥) → (after : List Object) → set_bytes objects p byte n ≡ Ok after → set_bytes objects p byte n ≡ Ok (after_set forms objects p dst byte n to)
  set_told byte into some after means =
      let told = let_through (not (slots_allow (slots_of forms dst) dst.offset byte n)) (Trapped trap.Layout) (after_set forms objects p dst byte n to) after (sym (set_inside forms objects p dst byte n to into (omega arith)) ∙ means) in
      means ∙ ap (λ l. let r : Result (List Object) Refusal = Ok l in r) (sym told)
