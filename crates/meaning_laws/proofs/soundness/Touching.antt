-- An operation on pointers that are not stale is never refused for want of life, and leaves objects whose pointers are not stale.
use Rattle.meaning_laws.proofs.Words.Core.{BinOp, CmpOp, Code, Dead, Entry, Frame, I16, I32, I64, I8, IntKind, Integer, IsNumber, Item, Live, Local, Object, Piece, Place, Plain, Pointer, Queued, ReadsDead, Refusal, Sort, TrapKind, Trapped, U16, U32, U64, U8, UnOp, Value, access_in, access_integer, access_pointer, and_then, bytes_of, copy, copy_between, cuts_slot, distances, for_divisor, if_so, is_dead, is_heap, is_pointer_to, is_queued, length-bytes_of, low_bits, low_bits_lt, may_copy, may_set, no_object, object_at, overlaid, places_of, queued, range_at, set_bytes, slots_below, slots_within, width, with_object, wrapped}
use Rattle.meaning_laws.proofs.Words.Meaning.{AreObjects, AreOperands, HasLocals, HasStatics, IsByte, IsObject, IsOfSort, IsOperand, IsPointer, IsQueue, IsThere, Sane, address, arguments_behind, behind, byte_behind, compared, copied, difference, is_among, is_stale, is_within, is_zero, item_text, loaded, loaded_pointer, moved_by, number, offsets, on_one, on_two, or_traps, order_from, order_of, ordered, pointer_at, pointer_in, pointers_compared, pointers_in_range, printed, room_at, stored, stored_pointer, string_at, string_from, truth, unsigned, within_object}
use Rattle.meaning_laws.proofs.Words.Std.{All, All-cons, All-drop, All-head, All-nil, All-replicate, All-set, All-tail, All-take, All-weaker, AllByRecursion, Bool, Err, List, None, Ok, Option, Result, SFits-int_wrap, Some, [], and_parts, ap, arith, cases_Bool, cases_lt, cond, drop, eq-eqb, false, false≢true, get_or, inl, inr, ints, leb-true, length, length-map, length-replicate, length-set, length-take, list_any, ltb-false, mod-lt, nat_eq, nat_le, nat_lt, nat_tests, negsuc, not, not-false, option_map, or_from, or_parts, pos, refl, replicate, set, slice_get_within, subst, suc, sym, take, true, true≢false, w16, w32, w64, w8, zero, ℕ, ℤ, ⊎_elim, ◌%◌, ◌&&◌, ◌*◌, ◌++◌, ◌+◌, ◌-◌, ◌/◌, ◌<◌, ◌^◌, ◌∙◌, ◌∷◌, ◌≡◌, ◌≤◌, ◌⊎◌}
use Rattle.meaning_laws.proofs.dangling.Touching.{Done, trapped, then_done, so_done, so_skipped, Any, Lives, item_cond, front_lives, at_set, among_left, among_last, among_cases}
use Rattle.core_tree.specs.Sorts.{Pointer as Address}
use Rattle.meaning_laws.proofs.soundness.Lists.{zip_each, overlaid_length, overlaid_all, all_or}
use Rattle.hs_base.specs.Access.{same_numbers, filled}
use Rattle.std.specs.List.{IsDistinct}
use Rattle.meaning_laws.proofs.counts.Objects.{same_bool}
use Rattle.meaning_laws.proofs.dangling.Returning.{queued_lives as standing_lives}
use Rattle.hs_base.specs.declared.values.Pointer.TheVariants as pointer
use Rattle.hs_base.specs.declared.ends.TrapKind.TheVariants as trap
use Rattle.hs_base.specs.declared.values.Value.TheVariants as value
use Rattle.core_tree.specs.declared.statements.UnOp.TheVariants as un
use Rattle.core_tree.specs.declared.statements.BinOp.TheVariants as bin
use Rattle.core_tree.specs.declared.statements.CmpOp.TheVariants as cmp
use Rattle.hs_base.specs.Access as access

-- Objects become others, and some of them die: what stays as it is.

-- the objects of some births may die; each other that was made stays as it is but for its bytes, its pointers and a free of it
pub record Becomes (old new : List Object) (dying : List ℕ) : Type 0 where
  pub longer : length old ≤ length new
  pub sort : (b : ℕ) → b < length old → (object_at new b).sort ≡ (object_at old b).sort
  pub size : (b : ℕ) → b < length old → (object_at new b).size ≡ (object_at old b).size
  pub slots : (b : ℕ) → b < length old → (object_at new b).slots ≡ (object_at old b).slots
  pub there : (b : ℕ) → IsThere old b → is_among dying b ≡ false → IsThere new b
  pub live : (b : ℕ) → is_heap (object_at old b).sort ≡ false → (object_at old b).standing ≡ Live → is_among dying b ≡ false → (object_at new b).standing ≡ Live
  pub dead : (b : ℕ) → b < length old → (object_at old b).standing ≡ Dead → (object_at new b).standing ≡ Dead

-- none of them dies
abbrev pub Grows : List Object → List Object → Type 0
Grows old new = Becomes old new []

pub grows_same : (objects : List Object) → Grows objects objects
grows_same objects = record {
  longer = omega arith;
  sort = λ b lt. refl;
  size = λ b lt. refl;
  slots = λ b lt. refl;
  there = λ b h out. h;
  live = λ b heap h out. h;
  dead = λ b lt h. h;
}

-- the same objects but for bytes and pointers
pub record Alike (old new : List Object) : Type 0 where
  pub long : length new ≡ length old
  pub sort : (b : ℕ) → (object_at new b).sort ≡ (object_at old b).sort
  pub size : (b : ℕ) → (object_at new b).size ≡ (object_at old b).size
  pub slots : (b : ℕ) → (object_at new b).slots ≡ (object_at old b).slots
  pub standing : (b : ℕ) → (object_at new b).standing ≡ (object_at old b).standing

pub alike_same : (objects : List Object) → Alike objects objects
alike_same objects = record { long = refl; sort = λ b. refl; size = λ b. refl; slots = λ b. refl; standing = λ b. refl }

-- none of them dies
pub alike_grows : (old new : List Object) → Alike old new → Grows old new
alike_grows old new a = record {
  longer = omega (arith, a.long);
  sort = λ b lt. a.sort b;
  size = λ b lt. a.size b;
  slots = λ b lt. a.slots b;
  there = λ b h out. ap is_dead (a.standing b) ∙ h;
  live = λ b heap h out. a.standing b ∙ h;
  dead = λ b lt h. a.standing b ∙ h;
}

-- a pointer to none of those that die
abbrev pub Spares : List ℕ → Pointer → Type 0
Spares dying p = (b : ℕ) → is_among dying b ≡ true → is_pointer_to b p ≡ false

pub none_dies : (p : Pointer) → Spares [] p
none_dies p = λ b i. absurd (false≢true i)

-- no object that was born before top and is not on the heap dies
abbrev pub Apart : List Object → List ℕ → ℕ → Type 0
Apart old dying top = (b : ℕ) → b < top → is_heap (object_at old b).sort ≡ false → is_among dying b ≡ false

pub none_apart : (old : List Object) (top : ℕ) → Apart old [] top
none_apart old top = λ b lt heap. refl

-- what is live is not dead
pub live_there : (objects : List Object) (b : ℕ) → (object_at objects b).standing ≡ Live → IsThere objects b
live_there objects b h = ap is_dead h

-- the test of a pointer that is not stale
pub not_stale : (objects : List Object) (p : Pointer) → IsPointer objects p → is_stale objects p ≡ false
not_stale objects pointer.Null h = refl
not_stale objects (pointer.At b offset) h = h.0

module _ (old new : List Object) (dying : List ℕ) (g : Becomes old new dying) where
  -- a pointer to none of those that die stays one that is not stale
  pub pointer_becomes : (p : Pointer) → IsPointer old p → Spares dying p → IsPointer new p
  pointer_becomes pointer.Null h s = tt
  pointer_becomes (pointer.At b offset) h s =
      ⊎_elim
      (λ dies. absurd (true≢false (sym (eq-eqb b b refl) ∙ s b dies)))
      (λ lives. let same = g.size b (is_within old b h.0) in (g.there b h.0 lives, omega (arith, h.1, same)))
      (cases_Bool (is_among dying b))

  module _ (code : Code) where
    -- the statics stay
    pub statics_become : (top : ℕ) → length code.statics ≤ top → Apart old dying top → HasStatics code old → HasStatics code new
    statics_become top long apart h k static e =
        let s = h k static e in
        let made = is_within old k (live_there old k s.live) in
        let heap : is_heap (object_at old k).sort ≡ false = ap is_heap s.sort in
        let within = slice_get_within code.statics k static e in
        record {
          live = g.live k heap s.live (apart k (omega arith) heap);
          sort = g.sort k made ∙ s.sort;
          size = g.size k made ∙ s.size;
          slots = g.slots k made ∙ s.slots;
        }

    -- so do the memory locals of a frame that waits
    pub locals_become : (entry : Entry) (top : ℕ) (frame : Frame) → top ≤ length old → Apart old dying top → HasLocals code old entry top frame → HasLocals code new entry top frame
    locals_become entry top frame long apart h = record {
      each = λ k layout e.
          let l = h.each k layout e in
          let b = frame.first_local + k in
          let made = is_within old b (live_there old b l.live) in
          let heap : is_heap (object_at old b).sort ≡ false = ap is_heap l.sort in
          let within = slice_get_within entry.mems k layout e in
          let below = h.below in
          record {
            live = g.live b heap l.live (apart b (omega arith) heap);
            sort = g.sort b made ∙ l.sort;
            size = g.size b made ∙ l.size;
            slots = g.slots b made ∙ l.slots;
          };
      above = h.above;
      below = h.below;
      ended = λ b f k from before is.
          let made : b < length old = omega arith in
          g.dead b made (h.ended b f k from before (sym (g.sort b made) ∙ is));
    }

-- what is born is no memory local, or dead
abbrev pub Born : List Object → List Object → Type 0
Born old new = (b f k : ℕ) → length old ≤ b → b < length new → (object_at new b).sort ≡ Local f k → (object_at new b).standing ≡ Dead

pub none_born : (old new : List Object) → length new ≤ length old → Born old new
none_born old new short b f k from before is = absurd (omega arith)

-- the memory locals of the frame that runs
pub running_become : (code : Code) (old new : List Object) (dying : List ℕ) (g : Becomes old new dying) (entry : Entry) (frame : Frame) → Apart old dying (length old) → Born old new → HasLocals code old entry (length old) frame → HasLocals code new entry (length new) frame
running_become code old new dying g entry frame apart born h =
    let l = locals_become old new dying g code entry (length old) frame (omega arith) apart h in record {
      each = l.each;
      above = l.above;
      below = omega (arith, l.below, g.longer);
      ended = λ b f k from before is.
          ⊎_elim (λ lt. l.ended b f k from lt is) (λ le. born b f k le before is) (cases_lt b (length old));
    }

-- where none dies every such pointer stays one
pub pointer_grows : (old new : List Object) → Grows old new → (p : Pointer) → IsPointer old p → IsPointer new p
pointer_grows old new g p h = pointer_becomes old new [] g p h (none_dies p)

-- An operation on pointers that are not stale is never refused for want of life, and leaves objects whose pointers are not stale.

-- What operations on integers answer is in range.

-- what holds of an answer gives what is weaker
pub done_weaker : {A : Type 0} (P Q : A → Type 0) → ((a : A) → P a → Q a) → (r : Result A Refusal) → Done P r → Done Q r
done_weaker P Q f (Ok a) h = f a h
done_weaker P Q f (Err e) h = h

pub natural_number : (n : ℕ) → n < 2 ^ 64 → IsNumber (pos n)
natural_number n h = (omega (arith, ints), omega (arith, ints))

pub wrapped_number : (k : IntKind) (v : ℤ) → IsNumber (wrapped k v)
wrapped_number I8 v = (omega (arith, ints, SFits-int_wrap w8 v), omega (arith, ints, SFits-int_wrap w8 v))
wrapped_number U8 v = (omega (arith, ints, low_bits_lt 8 v), omega (arith, ints, low_bits_lt 8 v))
wrapped_number I16 v = (omega (arith, ints, SFits-int_wrap w16 v), omega (arith, ints, SFits-int_wrap w16 v))
wrapped_number U16 v = (omega (arith, ints, low_bits_lt 16 v), omega (arith, ints, low_bits_lt 16 v))
wrapped_number I32 v = (omega (arith, ints, SFits-int_wrap w32 v), omega (arith, ints, SFits-int_wrap w32 v))
wrapped_number U32 v = (omega (arith, ints, low_bits_lt 32 v), omega (arith, ints, low_bits_lt 32 v))
wrapped_number I64 v = (omega (arith, ints, SFits-int_wrap w64 v), omega (arith, ints, SFits-int_wrap w64 v))
wrapped_number U64 v = (omega (arith, ints, low_bits_lt 64 v), omega (arith, ints, low_bits_lt 64 v))

pub unsigned_number : (v : ℤ) → IsNumber (unsigned v)
unsigned_number v = natural_number (low_bits 64 v) (low_bits_lt 64 v)

pub one_number : (op : UnOp) (k : IntKind) (a : ℤ) → IsNumber (on_one op k a)
one_number un.Neg k a = wrapped_number k _
one_number un.Not k a = wrapped_number k _

abbrev pub IsInteger : Value → Type 0
IsInteger v = IsOfSort (Some Integer) v

-- an integer is no pointer, so it is none that is stale
pub integer_is : (objects : List Object) (v : Value) → IsInteger v → IsOperand objects (Some Integer) v
integer_is objects (value.Number n) h = (h, tt)
integer_is objects (value.Pointer p) h = absurd h

pub truth_is : (b : Bool) → IsInteger (truth b)
truth_is true = natural_number 1 (omega arith)
truth_is false = natural_number 0 (omega arith)

divided_done : (kind : TrapKind) (d n : ℤ) → IsNumber n → Done IsInteger (or_traps kind (for_divisor d n))
divided_done kind (pos zero) n h = trapped kind
divided_done kind (pos (suc d)) n h = h
divided_done kind (negsuc d) n h = h

shifted_done : (kind : TrapKind) (f : ℕ → ℤ) → ((n : ℕ) → IsNumber (f n)) → (places : Option ℕ) → Done IsInteger (or_traps kind (option_map f places))
shifted_done kind f h None = trapped kind
shifted_done kind f h (Some n) = h n

pub two_done : (op : BinOp) (k : IntKind) (a b : ℤ) → Done IsInteger (on_two op k a b)
two_done bin.Add k a b = wrapped_number k _
two_done bin.Sub k a b = wrapped_number k _
two_done bin.Mul k a b = wrapped_number k _
two_done bin.Div k a b = divided_done trap.Divide (wrapped k b) _ (wrapped_number k _)
two_done bin.Rem k a b = divided_done trap.Divide (wrapped k b) _ (wrapped_number k _)
two_done bin.And k a b = wrapped_number k _
two_done bin.Or k a b = wrapped_number k _
two_done bin.Xor k a b = wrapped_number k _
two_done bin.Shl k a b = shifted_done trap.Shift _ (λ n. wrapped_number k _) (places_of k b)
two_done bin.Shr k a b = shifted_done trap.Shift _ (λ n. wrapped_number k _) (places_of k b)

-- What operations on pointers answer.

module _ (objects : List Object) where
  abbrev pub IsAddress : Value → Type 0
  IsAddress v = IsOperand objects (Some Address) v

  -- no operand is a stale pointer, and none that is left out
  pub all_point : (sorts : List (Option Sort)) (values : List Value) → AreOperands objects sorts values → (k : ℕ) → IsPointer objects (pointer_at values k)
  all_point sorts values h k =
      zip_each (IsOperand objects) (λ v. IsPointer objects (pointer_in v)) (λ sort v is. is.1) sorts values (number (pos 0)) h tt k

  cond_done : {A : Type 0} (P : A → Type 0) (test : Bool) (a : A) (kind : TrapKind) → (test ≡ true → P a) → Done P (cond test (Ok a) (Err (Trapped kind)))
  cond_done P true a kind h = h refl
  cond_done P false a kind h = trapped kind

  within_done : (b : ℕ) (offset : ℤ) → IsThere objects b → Done IsAddress (within_object b (object_at objects b).size offset)
  within_done b (pos offset) h =
      let size = (object_at objects b).size in
      cond_done IsAddress (nat_le offset size) (address (pointer.At b offset)) trap.Range (λ e. (tt, (h, leb-true offset size e)))
  within_done b (negsuc n) h = trapped _

  pub moved_done : (p : Pointer) (distance : ℤ) → IsPointer objects p → Done IsAddress (moved_by objects p distance)
  moved_done pointer.Null distance h = cond_done IsAddress (is_zero distance) (address pointer.Null) trap.Null (λ e. (tt, tt))
  moved_done (pointer.At b offset) distance h = within_done b _ h.0

  offsets_done : (p q : Pointer) → Done Any (offsets p q)
  offsets_done pointer.Null q = trapped _
  offsets_done (pointer.At b offset) pointer.Null = trapped _
  offsets_done (pointer.At b offset) (pointer.At c other) = cond_done Any (nat_eq b c) (offset, other) trap.Objects (λ e. tt)

  pub difference_done : (p q : Pointer) (element : ℤ) → Done IsInteger (difference p q element)
  difference_done p q element =
      then_done Any IsInteger (offsets p q) _ (offsets_done p q) (λ both h. wrapped_number I32 _)

  ordered_done : (op : CmpOp) (p q : Pointer) → Done IsInteger (ordered op p q)
  ordered_done op p q =
      then_done Any IsInteger (offsets p q) _ (offsets_done p q) (λ both h. truth_is (compared op (pos both.0) (pos both.1)))

  pub compared_done : (op : CmpOp) (p q : Pointer) → Done IsInteger (pointers_compared op p q)
  compared_done cmp.Eq p q = truth_is _
  compared_done cmp.Ne p q = truth_is _
  compared_done cmp.Lt p q = ordered_done cmp.Lt p q
  compared_done cmp.Gt p q = ordered_done cmp.Gt p q
  compared_done cmp.Le p q = ordered_done cmp.Le p q
  compared_done cmp.Ge p q = ordered_done cmp.Ge p q

-- Slots below an offset and within bytes from there.

-- no slot is below an offset and within bytes from there
apart : (s offset n : ℕ) (a : Bool) → nat_lt s offset ≡ a → (a ≡ false) ⊎ ((nat_le offset s && nat_le (s + 4) (offset + n)) ≡ false)
apart s offset n false e = inl refl
apart s offset n true e = let no : nat_le offset s ≡ false = grind (arith, nat_tests) in inr (rw no refl)

one_more : (a b : Bool) (s most : ℕ) (xs ys : List ℕ) → (a ≡ false) ⊎ (b ≡ false) → length xs + length ys ≤ most → length (cond a (s ∷ xs) xs) + length (cond b (s ∷ ys) ys) ≤ most + 1
one_more true true s most xs ys (inl e) h = absurd (cc)
one_more true true s most xs ys (inr e) h = absurd (cc)
one_more true false s most xs ys e h = omega arith
one_more false true s most xs ys e h = omega arith
one_more false false s most xs ys e h = omega arith

pub below_within : (slots : List ℕ) (offset n : ℕ) → length (slots_below slots offset) + length (slots_within slots offset n) ≤ length slots
below_within [] offset n = omega arith
below_within (s ∷ slots) offset n =
    let more = one_more (nat_lt s offset) (nat_le offset s && nat_le (s + 4) (offset + n)) s (length slots) (slots_below slots offset) (slots_within slots offset n) (apart s offset n (nat_lt s offset) refl) (below_within slots offset n) in
    omega arith

-- as many slots are within both ranges where they stand at the same distances
same_length : (xs ys : List ℕ) → same_numbers xs ys ≡ true → length xs ≡ length ys
same_length [] [] e = refl
same_length [] (y ∷ ys) e = absurd (cc)
same_length (x ∷ xs) [] e = absurd (cc)
same_length (x ∷ xs) (y ∷ ys) e =
    let rest = same_length xs ys (and_parts (nat_eq x y) (same_numbers xs ys) e).1 in omega arith

pub same_count : (slots others : List ℕ) (to from n : ℕ) → same_numbers (distances slots to n) (distances others from n) ≡ true → length (slots_within slots to n) ≡ length (slots_within others from n)
same_count slots others to from n e =
    sym (length-map (slots_within slots to n) (λ s. s - to)) ∙ same_length (distances slots to n) (distances others from n) e
    ∙ length-map (slots_within others from n) (λ s. s - from)

-- An operation on pointers that are not stale is never refused for want of life, and leaves objects whose pointers are not stale.

pub object_grows : (old new : List Object) → Grows old new → (o : Object) → IsObject old o → IsObject new o
object_grows old new g o h = record {
  size = h.size;
  filled = h.filled;
  bytes = h.bytes;
  slots = h.slots;
  each_slot = h.each_slot;
  pointers = λ alive.
      All-weaker (IsPointer old) (IsPointer new) (pointer_grows old new g) o.pointers (h.pointers alive);
  heap = h.heap;
}

-- a test that is known behind the operation
so_known : {A : Type 0} (P : A → Type 0) (test : Bool) (kind : TrapKind) (next : Result A Refusal) → (test ≡ false → Done P next) → Done P (if_so test (Trapped kind) next)
so_known P true kind next h = trapped kind
so_known P false kind next h = h refl

bytes_of_all : (n value : ℕ) → All IsByte (bytes_of n value)
bytes_of_all zero value = All-nil IsByte
bytes_of_all (suc n) value =
    let first : value % 256 < 256 = mod-lt value (omega arith) in
    All-cons IsByte (value % 256) (bytes_of n (value / 256)) first (bytes_of_all n (value / 256))

module _ (objects : List Object) (whole : AreObjects objects) where
  pub object_is : (b : ℕ) → b < length objects → IsObject objects (object_at objects b)
  object_is b lt = whole b no_object lt

  pub slots_point : (b : ℕ) → IsThere objects b → All (IsPointer objects) (object_at objects b).pointers
  slots_point b h = (object_is b (is_within objects b h)).pointers h

  none_stale : (ps : List Pointer) → All (IsPointer objects) ps → list_any (is_stale objects) ps ≡ false
  none_stale [] h = refl
  none_stale (p ∷ ps) h =
      or_from (is_stale objects p) (list_any (is_stale objects) ps) (not_stale objects p (All-head (IsPointer objects) p ps h)) (none_stale ps (All-tail (IsPointer objects) p ps h))

  -- a pointer to an object that is not dead, at any offset
  abbrev pub Leads : Pointer → Type 0
  Leads pointer.Null = Unit {0}
  Leads (pointer.At b offset) = IsThere objects b

  pub leads : (p : Pointer) → IsPointer objects p → Leads p
  leads pointer.Null h = tt
  leads (pointer.At b offset) h = h.0

  -- so many bytes at a place are in an object that is not dead
  abbrev pub Reaches : ℕ → Place → Type 0
  Reaches n at = IsThere objects at.birth × (at.offset + n ≤ (object_at objects at.birth).size)

  -- the objects after a change of bytes and pointers
  abbrev pub Changed : List Object → Type 0
  Changed new = Alike objects new × AreObjects new

  same : Changed objects
  same = (alike_same objects, whole)

  -- Accesses

  access_in_done : (b offset n : ℕ) (against : Bool) → IsThere objects b → Done (Reaches n) (access_in (object_at objects b) b offset n against)
  access_in_done b offset n against h =
      let o = object_at objects b in
      so_skipped (Reaches n) (is_dead o.standing) ReadsDead _ h (so_known (Reaches n) (nat_lt o.size (offset + n)) _ _ (λ e. so_done (Reaches n) (not (nat_eq (offset % n) 0)) _ _ (so_done (Reaches n) against _ _ (h, ltb-false o.size (offset + n) e))))

  pub access_integer_done : (p : Pointer) (n : ℕ) → Leads p → Done (Reaches n) (access_integer objects p n)
  access_integer_done pointer.Null n h = trapped _
  access_integer_done (pointer.At b offset) n h = access_in_done b offset n _ h

  access_pointer_done : (p : Pointer) → Leads p → Done (Reaches 4) (access_pointer objects p)
  access_pointer_done pointer.Null h = trapped _
  access_pointer_done (pointer.At b offset) h = access_in_done b offset 4 _ h

  range_done : (p : Pointer) (n : ℕ) → Leads p → Done (Reaches n) (range_at objects p n)
  range_done pointer.Null n h = trapped _
  range_done (pointer.At b offset) n h =
      let o = object_at objects b in
      so_skipped (Reaches n) (is_dead o.standing) ReadsDead _ h (so_known (Reaches n) (nat_lt o.size (offset + n)) _ _ (λ e. (h, ltb-false o.size (offset + n) e)))

  -- Reading

  pub loaded_done : (k : IntKind) (p : Pointer) → IsPointer objects p → Done IsInteger (loaded objects k p)
  loaded_done k p h =
      then_done (Reaches (width k)) IsInteger _ _ (access_integer_done p (width k) (leads p h)) (λ at reached. wrapped_number k _)

  pub loaded_pointer_done : (p : Pointer) → IsPointer objects p → Done (IsAddress objects) (loaded_pointer objects p)
  loaded_pointer_done p h =
      then_done (Reaches 4) (IsAddress objects) _ _ (access_pointer_done p (leads p h)) (λ at reached.
      let o = object_at objects at.birth in
      let q = access.pointer_at o at.offset in
      let is : IsPointer objects q = all_or (IsPointer objects) o.pointers (length (slots_below o.slots at.offset)) pointer.Null (slots_point at.birth reached.0) tt in
      so_skipped (IsAddress objects) (is_stale objects q) ReadsDead _ (not_stale objects q is) (tt, is))

  -- Writing

  module _ (b : ℕ) (there : IsThere objects b) (bytes : List ℕ) (pointers : List Pointer) where
    abbrev with_content : Object
    with_content = record (object_at objects b) { bytes = bytes; pointers = pointers }

    content_alike : Alike objects (with_object objects b with_content)
    content_alike =
        let lt = is_within objects b there in record {
          long = length-set objects b with_content;
          sort = λ c. at_set (λ (x : Object). x.sort ≡ (object_at objects c).sort) objects b c with_content lt (λ e. ap (λ k. (object_at objects k).sort) (sym e)) (λ n. refl);
          size = λ c. at_set (λ (x : Object). x.size ≡ (object_at objects c).size) objects b c with_content lt (λ e. ap (λ k. (object_at objects k).size) (sym e)) (λ n. refl);
          slots = λ c. at_set (λ (x : Object). x.slots ≡ (object_at objects c).slots) objects b c with_content lt (λ e. ap (λ k. (object_at objects k).slots) (sym e)) (λ n. refl);
          standing = λ c. at_set (λ (x : Object). x.standing ≡ (object_at objects c).standing) objects b c with_content lt (λ e. ap (λ k. (object_at objects k).standing) (sym e)) (λ n. refl);
        }

    -- an object has other bytes and pointers, as many as before
    changed : length bytes ≡ (object_at objects b).size → All IsByte bytes → length pointers ≡ length (object_at objects b).slots → All (IsPointer objects) pointers → Changed (with_object objects b with_content)
    changed filled all each_slot point =
        let new = with_object objects b with_content in
        let old = object_is b (is_within objects b there) in
        let grows = alike_grows objects new content_alike in
        let is : IsObject objects with_content = record {
          size = old.size;
          filled = filled;
          bytes = all;
          slots = old.slots;
          each_slot = each_slot;
          pointers = λ alive. point;
          heap = old.heap;
        } in
        (content_alike, All-set (IsObject new) objects b with_content (object_grows objects new grows with_content is) (All-weaker (IsObject objects) (IsObject new) (object_grows objects new grows) objects whole))

  pub stored_done : (k : IntKind) (p : Pointer) (n : ℤ) → IsPointer objects p → Done Changed (stored objects k p n)
  stored_done k p n h =
      then_done (Reaches (width k)) Changed _ _ (access_integer_done p (width k) (leads p h)) (λ at reached.
      let o = object_at objects at.birth in
      let old = object_is at.birth (is_within objects at.birth reached.0) in
      let new = bytes_of (width k) (low_bits (8 * width k) n) in
      let long = length-bytes_of (width k) (low_bits (8 * width k) n) in
      changed at.birth reached.0 (overlaid o.bytes at.offset new) o.pointers (overlaid_length o.bytes at.offset new (omega (arith, long, old.filled, reached.1)) ∙ old.filled) (overlaid_all IsByte o.bytes at.offset new old.bytes (bytes_of_all (width k) (low_bits (8 * width k) n))) old.each_slot (slots_point at.birth reached.0))

  pub stored_pointer_done : (p q : Pointer) → IsPointer objects p → IsPointer objects q → Done Changed (stored_pointer objects p q)
  stored_pointer_done p q h i =
      then_done (Reaches 4) Changed _ _ (access_pointer_done p (leads p h)) (λ at reached.
      let o = object_at objects at.birth in
      let old = object_is at.birth (is_within objects at.birth reached.0) in
      let place = length (slots_below o.slots at.offset) in
      changed at.birth reached.0 o.bytes (set o.pointers place q) old.filled old.bytes (length-set o.pointers place q ∙ old.each_slot) (All-set (IsPointer objects) o.pointers place q i (slots_point at.birth reached.0)))

  -- Copies

  range_points : (p : Pointer) (n : ℕ) → Leads p → All (IsPointer objects) (pointers_in_range objects p n)
  range_points pointer.Null n h = All-nil (IsPointer objects)
  range_points (pointer.At b offset) n h =
      let o = object_at objects b in
      let below = length (slots_below o.slots offset) in
      All-take (IsPointer objects) (length (slots_within o.slots offset n)) (drop below o.pointers) (All-drop (IsPointer objects) below o.pointers (slots_point b h))

  between_done : (n : ℕ) (d s : Place) → Reaches n d → Reaches n s → Done Changed (copy_between objects n d s)
  between_done n d s h i =
      let into = object_at objects d.birth in
      let out = object_at objects s.birth in
      let one = object_is d.birth (is_within objects d.birth h.0) in
      let other = object_is s.birth (is_within objects s.birth i.0) in
      let bytes = take n (drop s.offset out.bytes) in
      let many = length (slots_within out.slots s.offset n) in
      let below = length (slots_below out.slots s.offset) in
      let pointers = take many (drop below out.pointers) in
      let to = length (slots_below into.slots d.offset) in
      so_known Changed (not (may_copy into d.offset out s.offset n)) _ _ (λ e.
      let may = not-false (may_copy into d.offset out s.offset n) e in
      let alike = (and_parts (not (cuts_slot into.slots d.offset n) && not (cuts_slot out.slots s.offset n)) (same_numbers (distances into.slots d.offset n) (distances out.slots s.offset n)) may).1 in
      let count = same_count into.slots out.slots d.offset s.offset n alike in
      let room = below_within into.slots d.offset n in
      let long : d.offset + length bytes ≤ length into.bytes = omega (arith, length-take n (drop s.offset out.bytes), one.filled, h.1) in
      let fits : to + length pointers ≤ length into.pointers = omega (arith, length-take many (drop below out.pointers), one.each_slot, count, room) in
      changed d.birth h.0 (overlaid into.bytes d.offset bytes) (overlaid into.pointers to pointers) (overlaid_length into.bytes d.offset bytes long ∙ one.filled) (overlaid_all IsByte into.bytes d.offset bytes one.bytes (All-take IsByte n (drop s.offset out.bytes) (All-drop IsByte s.offset out.bytes other.bytes))) (overlaid_length into.pointers to pointers fits ∙ one.each_slot) (overlaid_all (IsPointer objects) into.pointers to pointers (slots_point d.birth h.0) (All-take (IsPointer objects) many (drop below out.pointers) (All-drop (IsPointer objects) below out.pointers (slots_point s.birth i.0)))))

  copy_done : (d s : Pointer) (n : ℕ) → Leads d → Leads s → Done Changed (copy objects d s n)
  copy_done d s zero h i = same
  copy_done d s (suc m) h i =
      then_done (Reaches (suc m)) Changed _ _ (range_done d (suc m) h) (λ to reached. then_done (Reaches (suc m)) Changed _ _ (range_done s (suc m) i) (λ from reaches. between_done (suc m) to from reached reaches))

  pub copied_done : (d s : Pointer) (n : ℕ) → IsPointer objects d → IsPointer objects s → Done Changed (copied objects d s n)
  copied_done d s n h i =
      then_done Changed Changed _ _ (copy_done d s n (leads d h) (leads s i)) (λ new c.
      so_skipped Changed (list_any (is_stale objects) (pointers_in_range objects s n)) ReadsDead (Ok new) (none_stale (pointers_in_range objects s n) (range_points s n (leads s i))) c)

  -- Bytes that are set

  pub set_done : (p : Pointer) (byte n : ℕ) → IsByte byte → IsPointer objects p → Done Changed (set_bytes objects p byte n)
  set_done p byte zero small h = same
  set_done p byte (suc m) small h =
      then_done (Reaches (suc m)) Changed _ _ (range_done p (suc m) (leads p h)) (λ at reached.
      let n = suc m in
      let o = object_at objects at.birth in
      let old = object_is at.birth (is_within objects at.birth reached.0) in
      let place = length (slots_below o.slots at.offset) in
      let many = length (slots_within o.slots at.offset n) in
      let nulls = replicate many pointer.Null in
      let room = below_within o.slots at.offset n in
      let long : at.offset + length (replicate n byte) ≤ length o.bytes = omega (arith, length-replicate n byte, old.filled, reached.1) in
      let fits : place + length nulls ≤ length o.pointers = omega (arith, length-replicate many pointer.Null, old.each_slot, room) in
      so_done Changed (not (may_set o at.offset byte n)) _ _ (changed at.birth reached.0 (overlaid o.bytes at.offset (replicate n byte)) (overlaid o.pointers place nulls) (overlaid_length o.bytes at.offset (replicate n byte) long ∙ old.filled) (overlaid_all IsByte o.bytes at.offset (replicate n byte) old.bytes (All-replicate IsByte n byte small)) (overlaid_length o.pointers place nulls fits ∙ old.each_slot) (overlaid_all (IsPointer objects) o.pointers place nulls (slots_point at.birth reached.0) (All-replicate (IsPointer objects) many pointer.Null tt))))

-- Strings and what is printed: never refused for want of life, and no longer than an object.

less_than_one : IsNumber (negsuc 0)
less_than_one = (omega (arith, ints), omega (arith, ints))

module _ (objects : List Object) (whole : AreObjects objects) where
  behind_leads : (p : Pointer) (i : ℕ) → Leads objects whole p → Leads objects whole (behind p i)
  behind_leads pointer.Null i h = tt
  behind_leads (pointer.At b offset) i h = h

  byte_done : (p : Pointer) (i : ℕ) → Leads objects whole p → Done Any (byte_behind objects p i)
  byte_done p i h =
      then_done (Reaches objects whole 1) Any _ _ (access_integer_done objects whole (behind p i) 1 (behind_leads p i h)) (λ at reached. tt)

  abbrev IsBelow : ℕ → List ℕ → Type 0
  IsBelow most text = length text < most

  with_byte_done : (byte most : ℕ) (rest : Result (List ℕ) Refusal) (b : Bool) → Done (IsBelow most) rest → Done (IsBelow (suc most)) (cond b (Ok []) (and_then rest (λ (bytes : List ℕ). Ok (byte ∷ bytes))))
  with_byte_done byte most rest true h = omega arith
  with_byte_done byte most rest false h =
      then_done (IsBelow most) (IsBelow (suc most)) rest _ h (λ bytes lt. omega arith)

  string_from_done : (p : Pointer) (i most : ℕ) → Leads objects whole p → Done (IsBelow most) (string_from objects p i most)
  string_from_done p i zero h = trapped _
  string_from_done p i (suc most) h =
      then_done Any (IsBelow (suc most)) (byte_behind objects p i) _ (byte_done p i h) (λ byte _. with_byte_done byte most (string_from objects p (i + 1) most) (nat_eq byte 0) (string_from_done p (i + 1) most h))

  pub string_done : (p : Pointer) → IsPointer objects p → Done (λ (text : List ℕ). length text < 2 ^ 64) (string_at objects p)
  string_done pointer.Null h =
      done_weaker (IsBelow 1) (IsBelow (2 ^ 64)) (λ text lt. omega arith) (string_from objects pointer.Null 0 1) (string_from_done pointer.Null 0 1 tt)
  string_done (pointer.At b offset) h =
      let size = (object_at objects b).size in
      let small = (object_is objects whole b (is_within objects b h.0)).size in
      done_weaker (IsBelow (size + 1)) (IsBelow (2 ^ 64)) (λ text lt. omega arith) (string_from objects (pointer.At b offset) 0 (size + 1)) (string_from_done (pointer.At b offset) 0 (size + 1) h.0)

  order_cond : (a b c : Bool) (x y z : ℤ) (rest : Result ℤ Refusal) → IsNumber x → IsNumber y → IsNumber z → Done IsNumber rest → Done IsNumber (cond a (Ok x) (cond b (Ok y) (cond c (Ok z) rest)))
  order_cond true b c x y z rest i j k h = i
  order_cond false true c x y z rest i j k h = j
  order_cond false false true x y z rest i j k h = k
  order_cond false false false x y z rest i j k h = h

  order_from_done : (p q : Pointer) (i most : ℕ) → Leads objects whole p → Leads objects whole q → Done IsNumber (order_from objects p q i most)
  order_from_done p q i zero h j = trapped _
  order_from_done p q i (suc most) h j =
      then_done Any IsNumber (byte_behind objects p i) _ (byte_done p i h) (λ a _. then_done Any IsNumber (byte_behind objects q i) _ (byte_done q i j) (λ b _. order_cond (nat_lt a b) (nat_lt b a) (nat_eq a 0) _ _ _ (order_from objects p q (i + 1) most) less_than_one (natural_number 1 (omega arith)) (natural_number 0 (omega arith)) (order_from_done p q (i + 1) most h j)))

  pub order_done : (p q : Pointer) → IsPointer objects p → IsPointer objects q → Done IsNumber (order_of objects p q)
  order_done p q h j =
      order_from_done p q 0 (room_at objects p) (leads objects whole p h) (leads objects whole q j)

  -- Formats

  -- none of some values is a stale pointer
  abbrev pub AllPoint : List Value → Type 0
  AllPoint values = (k : ℕ) → IsPointer objects (pointer_at values k)

  item_done : (piece : Piece) (values : List Value) → AllPoint values → Done Any (item_text objects piece values)
  item_done (Plain text) values h = tt
  item_done (Item left zeros width conv kind) values h =
      item_cond (nat_eq conv 115) _ _ (then_done (λ (text : List ℕ). length text < 2 ^ 64) Any (string_at objects (pointer_at values 0)) _ (string_done (pointer_at values 0) (h 0)) (λ text _. tt)) tt

  dropped : (values : List Value) → AllPoint values → AllPoint (drop 1 values)
  dropped [] h = h
  dropped (v ∷ values) h = λ k. h (suc k)

  behind_values : (piece : Piece) (values : List Value) → AllPoint values → AllPoint (arguments_behind piece values)
  behind_values (Plain text) values h = h
  behind_values (Item left zeros width conv kind) values h = dropped values h

  pub printed_lives : (pieces : List Piece) (values : List Value) → AllPoint values → Lives (printed objects pieces values).refused
  printed_lives [] values h = tt
  printed_lives (piece ∷ pieces) values h =
      front_lives (item_text objects piece values) _ (item_done piece values h) (printed_lives pieces (arguments_behind piece values) (behind_values piece values h))

-- The queue: what is queued by a free.

-- what is queued is not dead
pub queued_lives : (objects : List Object) (b : ℕ) → is_queued (object_at objects b).standing ≡ true → is_dead (object_at objects b).standing ≡ false
queued_lives objects b q = standing_lives (object_at objects b).standing q

-- the objects and the queue are as the holders of an object want them
pub sane_of : (objects : List Object) (queue : List ℕ) → AreObjects objects → IsQueue objects queue → Sane objects queue
sane_of objects queue whole q = record {
  slots = λ b alive k.
      not_stale objects (get_or (object_at objects b).pointers k pointer.Null) (all_or (IsPointer objects) (object_at objects b).pointers k pointer.Null (slots_point objects whole b alive) tt);
  queued = λ b is. (q.exact b ∙ is, (object_is objects whole b (is_within objects b (queued_lives objects b is))).heap is);
  in_queue = λ b i. sym (q.exact b) ∙ i;
}

-- other bytes and pointers leave the queue
pub alike_queue : (old new : List Object) (queue : List ℕ) → Alike old new → IsQueue old queue → IsQueue new queue
alike_queue old new queue a q =
    record { exact = λ b. q.exact b ∙ ap is_queued (sym (a.standing b)); once = q.once }

-- One more

all_push : (P : ℕ → Type 0) (xs : List ℕ) (x : ℕ) → AllByRecursion P xs → P x → AllByRecursion P (xs ++ x ∷ [])
all_push P [] x h p = (p, tt)
all_push P (y ∷ xs) x h p = (h.0, all_push P xs x h.1 p)

-- a birth that is not among them comes last
distinct_push : (queue : List ℕ) (b : ℕ) → IsDistinct nat_eq queue → is_among queue b ≡ false → IsDistinct nat_eq (queue ++ b ∷ [])
unfolding IsDistinct
distinct_push [] b h out = (tt, tt)
distinct_push (c ∷ queue) b h out =
    let both = or_parts (nat_eq c b) (is_among queue b) out in
    (all_push (λ y. nat_eq c y ≡ false) queue b h.0 both.0, distinct_push queue b h.1 both.1)

pub distinct_none : IsDistinct nat_eq []
unfolding IsDistinct
distinct_none = tt

-- it is the only one more
among_other : (queue : List ℕ) (b c : ℕ) → (c ≡ b → ⊥) → is_among (queue ++ b ∷ []) c ≡ is_among queue c
among_other queue b c n =
    same_bool _ _ (λ i. ⊎_elim (λ old. old) (λ e. absurd (n e)) (among_cases queue b c i)) (λ i. among_left queue (b ∷ []) c i)

-- a heap object that is not queued is freed
module _ (objects : List Object) (whole : AreObjects objects) (queue : List ℕ) (q : IsQueue objects queue) (b line : ℕ) (there : IsThere objects b) (heap : is_heap (object_at objects b).sort ≡ true) (free : is_queued (object_at objects b).standing ≡ false) where
  abbrev with_line : Object
  with_line = record (object_at objects b) { standing = Queued line }

  abbrev freed : List Object
  freed = queued objects b line

  pub queued_grows : Grows objects freed
  queued_grows =
      let lt = is_within objects b there in record {
        longer = omega (arith, length-set objects b with_line);
        sort = λ c h. at_set (λ (x : Object). x.sort ≡ (object_at objects c).sort) objects b c with_line lt (λ e. ap (λ k. (object_at objects k).sort) (sym e)) (λ n. refl);
        size = λ c h. at_set (λ (x : Object). x.size ≡ (object_at objects c).size) objects b c with_line lt (λ e. ap (λ k. (object_at objects k).size) (sym e)) (λ n. refl);
        slots = λ c h. at_set (λ (x : Object). x.slots ≡ (object_at objects c).slots) objects b c with_line lt (λ e. ap (λ k. (object_at objects k).slots) (sym e)) (λ n. refl);
        there = λ c h out. at_set (λ (x : Object). is_dead x.standing ≡ false) objects b c with_line lt (λ e. refl) (λ n. h);
        live = λ c other h out. at_set (λ (x : Object). x.standing ≡ Live) objects b c with_line lt
            (λ e. absurd (true≢false (sym heap ∙ ap (λ k. is_heap (object_at objects k).sort) (sym e) ∙ other)))
            (λ n. h);
        dead = λ c within h. at_set (λ (x : Object). x.standing ≡ Dead) objects b c with_line lt
            (λ e. absurd (true≢false (sym (ap is_dead h) ∙ ap (λ k. is_dead (object_at objects k).standing) e ∙ there)))
            (λ n. h);
      }

  pub queued_born : Born objects freed
  queued_born = none_born objects freed (omega (arith, length-set objects b with_line))

  -- its content is the same
  pub queued_objects : AreObjects freed
  queued_objects =
      let old = object_is objects whole b (is_within objects b there) in
      let is : IsObject objects with_line = record {
        size = old.size;
        filled = old.filled;
        bytes = old.bytes;
        slots = old.slots;
        each_slot = old.each_slot;
        pointers = λ alive. slots_point objects whole b there;
        heap = λ i. heap;
      } in
      All-set (IsObject freed) objects b with_line (object_grows objects freed queued_grows with_line is) (All-weaker (IsObject objects) (IsObject freed) (object_grows objects freed queued_grows) objects whole)

  pub queued_queue : IsQueue freed (queue ++ b ∷ [])
  queued_queue =
      let lt = is_within objects b there in record {
        exact = λ c. at_set (λ (x : Object). is_among (queue ++ b ∷ []) c ≡ is_queued x.standing) objects b c with_line lt
            (λ e. subst (λ k. is_among (queue ++ b ∷ []) k ≡ true) (sym e) (among_last queue b))
            (λ n. among_other queue b c n ∙ q.exact c);
        once = distinct_push queue b q.once (q.exact b ∙ free);
      }
