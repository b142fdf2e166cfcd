-- New objects are whole.
use Rattle.meaning_laws.proofs.Words.Core.{AreSlots, Code, Dead, IsLayout, IsWellFormed, Layout, Live, Local, Object, array_layout, is_dead, is_heap, is_queued, low_bits_lt, no_object, object_at, slots_of_array}
use Rattle.meaning_laws.proofs.Words.Meaning.{AreObjects, IsByte, IsObject, IsPointer, IsQueue, blank, heap_object, is_among, is_within, layout_in, size_in}
use Rattle.meaning_laws.proofs.Words.Std.{All, All-append, All-cons, All-nil, All-replicate, All-weaker, List, None, Option, Some, [], ap, arith, div-add-mod', false, false≢true, get_or_past, get_or_push, inl, length, length-append, length-replicate, mul-le-mul_left, refl, slice_get, subst, suc, sym, true, true≢false, zero, ℕ, ℤ, ◌*◌, ◌++◌, ◌/◌, ◌<◌, ◌^◌, ◌∙◌, ◌∷◌, ◌≡◌, ◌≤◌}
use Rattle.hs_base.specs.declared.values.Pointer.TheVariants as pointer
use Rattle.hs_base.specs.Object.{Sort}
use Rattle.c_types.specs.Layouts.{IsSound}
use Rattle.c_types.specs.LayoutsEquations.{slots_within}
use Rattle.meaning_laws.proofs.dangling.Touching.{at_old, at_append}
use Rattle.meaning_laws.proofs.soundness.Lists.{all_at}
use Rattle.meaning_laws.proofs.soundness.Touching.{Grows, Born, live_there, object_grows}

pub blank_is : (objects : List Object) (sort : Sort) (size : ℕ) (slots : List ℕ) → size < 2 ^ 64 → AreSlots 0 size slots → IsObject objects (blank sort size slots)
blank_is objects sort size slots small are = record {
  size = small;
  filled = length-replicate size 0;
  bytes = All-replicate IsByte size 0 (omega arith);
  slots = are;
  each_slot = length-replicate (length slots) pointer.Null;
  pointers = λ alive. All-replicate (IsPointer objects) (length slots) pointer.Null tt;
  heap = λ q. absurd (false≢true q);
}

element_slots : (size : ℕ) (element : Layout) → IsSound element → AreSlots 0 size (array_layout (size / element.size) element).slots
element_slots size element sound =
    let n = size / element.size in
    let all = slots_of_array n element sound in
    let fits : n * element.size ≤ size = omega (arith, div-add-mod' size element.size) in
    slots_within 0 0 (n * element.size) size (array_layout n element).slots (omega arith) fits all

pub heap_is : (objects : List Object) (line size : ℕ) (element : Layout) → size < 2 ^ 64 → IsSound element → IsObject objects (heap_object line size element)
heap_is objects line size element small sound = blank_is objects _ size _ small (element_slots size element sound)

-- Objects behind the others

-- those that were made before stay as they are
pub append_grows : (objects more : List Object) → Grows objects (objects ++ more)
append_grows objects more = record {
  longer = omega (arith, length-append objects more);
  sort = λ b lt. at_old (λ (o : Object). o.sort ≡ (object_at objects b).sort) objects more b lt refl;
  size = λ b lt. at_old (λ (o : Object). o.size ≡ (object_at objects b).size) objects more b lt refl;
  slots = λ b lt. at_old (λ (o : Object). o.slots ≡ (object_at objects b).slots) objects more b lt refl;
  there = λ b h out. at_old (λ (o : Object). is_dead o.standing ≡ false) objects more b (is_within objects b h) h;
  live = λ b heap h out.
      at_old (λ (o : Object). o.standing ≡ Live) objects more b (is_within objects b (live_there objects b h)) h;
  dead = λ b lt h. at_old (λ (o : Object). o.standing ≡ Dead) objects more b lt h;
}

pub append_objects : (objects more : List Object) → AreObjects objects → All (IsObject (objects ++ more)) more → AreObjects (objects ++ more)
append_objects objects more whole are =
    let new = objects ++ more in
    All-append (IsObject new) objects more (All-weaker (IsObject objects) (IsObject new) (object_grows objects new (append_grows objects more)) objects whole) are

-- none of them is queued
pub append_queue : (objects more : List Object) (queue : List ℕ) → IsQueue objects queue → ((k : ℕ) → is_queued (object_at more k).standing ≡ false) → IsQueue (objects ++ more) queue
append_queue objects more queue q none = record {
  exact = λ b. at_append (λ (o : Object). is_among queue b ≡ is_queued o.standing) objects more b
      (q.exact b)
      (λ k e.
      let past : object_at objects b ≡ no_object = get_or_past objects b no_object (omega (arith, e)) in
      q.exact b ∙ ap (λ (o : Object). is_queued o.standing) past ∙ sym (none k));
  once = q.once;
}

-- A new heap object

-- one more, that is whole
pub one_more : (objects : List Object) (o : Object) → AreObjects objects → IsObject (objects ++ o ∷ []) o → AreObjects (objects ++ o ∷ [])
one_more objects o whole is =
    append_objects objects (o ∷ []) whole (All-cons (IsObject (objects ++ o ∷ [])) o [] is (All-nil _))

pub one_queue : (objects : List Object) (o : Object) (queue : List ℕ) → IsQueue objects queue → is_queued o.standing ≡ false → IsQueue (objects ++ o ∷ []) queue
one_queue objects o queue q out = append_queue objects (o ∷ []) queue q none where
  none : (k : ℕ) → is_queued (object_at (o ∷ []) k).standing ≡ false
  none zero = out
  none (suc k) = refl

at_new : (objects : List Object) (o : Object) → object_at (objects ++ o ∷ []) (length objects) ≡ o
at_new objects o = get_or_push objects o no_object (length objects) refl

-- its start
pub new_start : (objects : List Object) (o : Object) → is_dead o.standing ≡ false → IsPointer (objects ++ o ∷ []) (pointer.At (length objects) 0)
new_start objects o alive = (ap (λ (x : Object). is_dead x.standing) (at_new objects o) ∙ alive, omega arith)

-- it is no memory local
pub one_born : (objects : List Object) (o : Object) → is_heap o.sort ≡ true → Born objects (objects ++ o ∷ [])
one_born objects o heap b f k from before is =
    let same : b ≡ length objects = omega (arith, length-append objects (o ∷ [])) in
    let local : o.sort ≡ Local f k = ap (λ (x : Object). x.sort) (sym (at_new objects o)) ∙ subst (λ i. (object_at (objects ++ o ∷ []) i).sort ≡ Local f k) same is in
    absurd (true≢false (sym heap ∙ ap is_heap local))

-- Layouts of code

layout_at : (code : Code) → IsWellFormed code → (n : ℕ) (o : Option Layout) → slice_get code.layouts n ≡ o → IsSound (layout_in code n)
layout_at code wf n None e = rw e (record { aligned = inl refl; whole = refl; slots = tt; pointers = inl refl })
layout_at code wf n (Some l) e = rw e ((all_at IsLayout code.layouts n l wf.layouts e).sound)

pub layout_sound : (code : Code) → IsWellFormed code → (n : ℕ) → IsSound (layout_in code n)
layout_sound code wf n = layout_at code wf n (slice_get code.layouts n) refl

-- Sizes

pub size_small : (n : ℤ) → size_in n < 2 ^ 64
size_small n = let lt = low_bits_lt 32 n in omega arith

pub product_small : (m n : ℤ) → size_in m * size_in n < 2 ^ 64
product_small m n =
    let one = low_bits_lt 32 m in
    let other : size_in n ≤ 2 ^ 32 = let lt = low_bits_lt 32 n in omega arith in
    let most = mul-le-mul_left (size_in m) other in
    omega arith
