-- An operation on pointers to objects that are alive is never refused for want of life, and leaves objects that point to
-- objects which are alive.
use Rattle.meaning_laws.proofs.Words.Core.{BinOp, CmpOp, IntKind, Item, Object, Piece, Place, Plain, Pointer, Queued, ReadsDead, Refusal, TrapKind, Trapped, Value, access_in, access_integer, access_pointer, and_then, copy, copy_between, if_so, is_dead, is_heap, is_queued, may_copy, may_set, no_object, object_at, overlaid, queued, range_at, set_bytes, slots_below, slots_within, with_integer, with_object, with_pointer}
use Rattle.meaning_laws.proofs.Words.Meaning.{Alive, AreFresh, HoldsFresh, IsFresh, Printed, Sane, address, arguments_behind, behind, byte_behind, compared, copied, difference, holds_stale, in_front, is_among, is_stale, is_within, is_zero, item_text, loaded, loaded_pointer, moved_by, offsets, on_two, or_traps, order_from, order_of, ordered, pointer_at, pointers_compared, pointers_in_range, printed, room_at, stored, stored_pointer, string_at, string_from, truth, within_object}
use Rattle.meaning_laws.proofs.Words.Std.{Bool, Err, List, None, Ok, Option, Result, Some, [], ap, arith, cases_eq, cases_lt, cond, drop, eq-eqb, eqb-true, false, false≢true, get_or, get_or-append-add, get_or-drop, get_or-set_other, get_or-set_same, get_or-take, get_or_append_left, get_or_past, inl, inr, length, length-append, length-set, length-take, list_any, nat_eq, nat_le, nat_lt, negsuc, not, or_cases, or_from, or_left, or_parts, or_right, pos, refl, replicate, set, subst, suc, sym, take, true, zero, ℕ, ℤ, ⊎_elim, ◌%◌, ◌++◌, ◌+◌, ◌-◌, ◌<◌, ◌∙◌, ◌∷◌, ◌≡◌, ◌≢◌, ◌≤◌, ◌⊎◌}
use Rattle.hs_base.specs.Access.{filled}
use Rattle.hs_base.specs.declared.values.Pointer.TheVariants as pointer
use Rattle.hs_base.specs.Access as access
use Rattle.hs_base.specs.declared.ends.TrapKind.TheVariants as trap
use Rattle.core_tree.specs.declared.statements.BinOp.TheVariants as bin
use Rattle.core_tree.specs.declared.statements.CmpOp.TheVariants as cmp

-- Which objects are alive, which pointers point to them, and what a change of the objects keeps.

-- each object that was alive still is, and is on the heap or not as before
pub record Grows (old new : List Object) : Type 0 where
  pub alive : (b : ℕ) → Alive old b → Alive new b
  pub sort : (b : ℕ) → Alive old b → is_heap (object_at new b).sort ≡ is_heap (object_at old b).sort
  pub longer : length old ≤ length new

pub fresh_grows : (old new : List Object) → Grows old new → (p : Pointer) → IsFresh old p → IsFresh new p
fresh_grows old new g pointer.Null h = refl
fresh_grows old new g (pointer.At b offset) h = g.alive b h

pub all_fresh_grow : (old new : List Object) → Grows old new → (ps : List Pointer) → AreFresh old ps → AreFresh new ps
all_fresh_grow old new g ps h = λ k. fresh_grows old new g (get_or ps k pointer.Null) (h k)

pub grows_same : (objects : List Object) → Grows objects objects
grows_same objects = record { alive = λ b h. h; sort = λ b h. refl; longer = omega arith }

pub grows_both : (one two three : List Object) → Grows one two → Grows two three → Grows one three
grows_both one two three g h = record {
  alive = λ b a. h.alive b (g.alive b a);
  sort = λ b a. h.sort b (g.alive b a) ∙ g.sort b a;
  longer = omega (arith, g.longer, h.longer);
}

-- An object in place of another

pub at_set : (P : Object → Type 0) (objects : List Object) (b c : ℕ) (o : Object) → b < length objects → (c ≡ b → P o) → ((c ≡ b → ⊥) → P (object_at objects c)) → P (object_at (with_object objects b o) c)
at_set P objects b c o lt same other =
    ⊎_elim
    (λ e. subst P (ap (λ k. get_or (set objects b o) k no_object) (sym e) ∙ refl) (subst P (sym (get_or-set_same objects b o no_object lt)) (same e)))
    (λ n. subst P (sym (get_or-set_other objects b c o no_object n)) (other n))
    (cases_eq c b)

module _ (objects : List Object) (b : ℕ) (o : Object) (alive : Alive objects b) (standing : is_dead o.standing ≡ false) (sort : is_heap o.sort ≡ is_heap (object_at objects b).sort) where
  pub set_grows : Grows objects (with_object objects b o)
  set_grows = record {
    alive = λ c h. at_set (λ (x : Object). is_dead x.standing ≡ false) objects b c o (is_within objects b alive) (λ e. standing) (λ n. h);
    sort = λ c h. at_set (λ (x : Object). is_heap x.sort ≡ is_heap (object_at objects c).sort) objects b c o (is_within objects b alive) (λ e. sort ∙ ap (λ k. is_heap (object_at objects k).sort) (sym e)) (λ n. refl);
    longer = omega (arith, length-set objects b o);
  }

  set_slots : AreFresh objects o.pointers → ((c : ℕ) → Alive objects c → AreFresh objects (object_at objects c).pointers) → (c : ℕ) → Alive (with_object objects b o) c → AreFresh (with_object objects b o) (object_at (with_object objects b o) c).pointers
  set_slots fresh slots c =
      at_set (λ (x : Object). is_dead x.standing ≡ false → AreFresh (with_object objects b o) x.pointers) objects b c o (is_within objects b alive) (λ e h. all_fresh_grow objects (with_object objects b o) set_grows o.pointers fresh) (λ n h. all_fresh_grow objects (with_object objects b o) set_grows (object_at objects c).pointers (slots c h))

-- its content alone has changed
pub set_sane : (objects : List Object) (queue : List ℕ) (b : ℕ) (o : Object) → Sane objects queue → Alive objects b → o.standing ≡ (object_at objects b).standing → o.sort ≡ (object_at objects b).sort → AreFresh objects o.pointers → Sane (with_object objects b o) queue
set_sane objects queue b o s alive standing sort fresh =
    let lt = is_within objects b alive in
    record {
      slots = set_slots objects b o alive (ap is_dead standing ∙ alive) (ap is_heap sort) fresh s.slots;
      queued = λ c. at_set (λ (x : Object). is_queued x.standing ≡ true → (is_among queue c ≡ true) × (is_heap x.sort ≡ true)) objects b c o lt
          (λ e q. let old = s.queued b (ap is_queued (sym standing) ∙ q) in (subst (λ k. is_among queue k ≡ true) (sym e) old.0, ap is_heap sort ∙ old.1))
          (λ n q. s.queued c q);
      in_queue = λ c i. at_set (λ (x : Object). is_queued x.standing ≡ true) objects b c o lt
          (λ e. ap is_queued standing ∙ s.in_queue b (subst (λ k. is_among queue k ≡ true) e i))
          (λ n. s.in_queue c i);
    }

-- New objects behind the others

pub at_append : (P : Object → Type 0) (objects more : List Object) (b : ℕ) → P (object_at objects b) → ((k : ℕ) → b ≡ length objects + k → P (object_at more k)) → P (object_at (objects ++ more) b)
at_append P objects more b old new =
    ⊎_elim
    (λ lt. subst P (sym (get_or_append_left objects more no_object b lt)) old)
    (λ le.
    let k = b - length objects in
    let e : b ≡ length objects + k = omega arith in
    subst P (sym (ap (λ i. get_or (objects ++ more) i no_object) e ∙ get_or-append-add objects more k no_object)) (new k e))
    (cases_lt b (length objects))

-- the objects that were made before are the same
pub at_old : (P : Object → Type 0) (objects more : List Object) (b : ℕ) → b < length objects → P (object_at objects b) → P (object_at (objects ++ more) b)
at_old P objects more b lt h = subst P (sym (get_or_append_left objects more no_object b lt)) h

pub append_grows : (objects more : List Object) → Grows objects (objects ++ more)
append_grows objects more = record {
  alive = λ b h. at_old (λ (x : Object). is_dead x.standing ≡ false) objects more b (is_within objects b h) h;
  sort = λ b h. at_old (λ (x : Object). is_heap x.sort ≡ is_heap (object_at objects b).sort) objects more b (is_within objects b h) refl;
  longer = omega (arith, length-append objects more);
}

pub append_sane : (objects more : List Object) (queue : List ℕ) → Sane objects queue → ((k : ℕ) → is_queued (object_at more k).standing ≡ false) → ((k : ℕ) → AreFresh (objects ++ more) (object_at more k).pointers) → Sane (objects ++ more) queue
append_sane objects more queue s none fresh = record {
  slots = λ b. at_append (λ (x : Object). is_dead x.standing ≡ false → AreFresh (objects ++ more) x.pointers) objects more b
      (λ h. all_fresh_grow objects (objects ++ more) (append_grows objects more) (object_at objects b).pointers (s.slots b h))
      (λ k e h. fresh k);
  queued = λ b. at_append (λ (x : Object). is_queued x.standing ≡ true → (is_among queue b ≡ true) × (is_heap x.sort ≡ true)) objects more b
      (λ h. s.queued b h)
      (λ k e h. absurd (false≢true (sym (none k) ∙ h)));
  in_queue = λ b i.
      let old = s.in_queue b i in
      at_old (λ (x : Object). is_queued x.standing ≡ true) objects more b (queued_within objects b old) old;
} where
  queued_within : (objects : List Object) (b : ℕ) → is_queued (object_at objects b).standing ≡ true → b < length objects
  queued_within objects b h =
      ⊎_elim
      (λ lt. lt)
      (λ le. absurd (false≢true (ap (λ (o : Object). is_queued o.standing) (sym (get_or_past objects b no_object le)) ∙ h)))
      (cases_lt b (length objects))

-- what null pointers point to is not dead
pub nulls : (n k : ℕ) → get_or (replicate n pointer.Null) k pointer.Null ≡ pointer.Null
nulls zero k = refl
nulls (suc n) zero = refl
nulls (suc n) (suc k) = nulls n k

pub nulls_fresh : (objects : List Object) (n : ℕ) → AreFresh objects (replicate n pointer.Null)
nulls_fresh objects n = λ k. ap (is_stale objects) (nulls n k)

-- Queues

pub among_left : (queue more : List ℕ) (b : ℕ) → is_among queue b ≡ true → is_among (queue ++ more) b ≡ true
among_left [] more b h = absurd (false≢true h)
among_left (x ∷ queue) more b h =
    ⊎_elim
    (λ here. or_left (nat_eq x b) (is_among (queue ++ more) b) here)
    (λ there. or_right (nat_eq x b) (is_among (queue ++ more) b) (among_left queue more b there))
    (or_cases (nat_eq x b) (is_among queue b) h)

pub among_last : (queue : List ℕ) (b : ℕ) → is_among (queue ++ b ∷ []) b ≡ true
among_last [] b = or_left (nat_eq b b) false (eq-eqb b b refl)
among_last (x ∷ queue) b = or_right (nat_eq x b) (is_among (queue ++ b ∷ []) b) (among_last queue b)

pub among_cases : (queue : List ℕ) (b c : ℕ) → is_among (queue ++ b ∷ []) c ≡ true → (is_among queue c ≡ true) ⊎ (c ≡ b)
among_cases [] b c h =
    ⊎_elim (λ here. inr (sym (eqb-true b c here))) (λ there. absurd (false≢true there)) (or_cases (nat_eq b c) false h)
among_cases (x ∷ queue) b c h =
    ⊎_elim
    (λ here. inl (or_left (nat_eq x c) (is_among queue c) here))
    (λ there.
    ⊎_elim (λ old. inl (or_right (nat_eq x c) (is_among queue c) old)) (λ e. inr e) (among_cases queue b c there))
    (or_cases (nat_eq x c) (is_among (queue ++ b ∷ []) c) h)

-- a heap object is queued
module _ (objects : List Object) (queue : List ℕ) (b line : ℕ) (s : Sane objects queue) (alive : Alive objects b) (heap : is_heap (object_at objects b).sort ≡ true) where
  abbrev with_line : Object
  with_line = record (object_at objects b) { standing = Queued line }

  pub queue_grows : Grows objects (queued objects b line)
  queue_grows = set_grows objects b with_line alive refl refl

  pub queue_sane : Sane (queued objects b line) (queue ++ b ∷ [])
  queue_sane =
      let lt = is_within objects b alive in
      record {
        slots = set_slots objects b with_line alive refl refl (s.slots b alive) s.slots;
        queued = λ c. at_set (λ (x : Object). is_queued x.standing ≡ true → (is_among (queue ++ b ∷ []) c ≡ true) × (is_heap x.sort ≡ true)) objects b c with_line lt
            (λ e q. (subst (λ k. is_among (queue ++ b ∷ []) k ≡ true) (sym e) (among_last queue b), heap))
            (λ n q. let old = s.queued c q in (among_left queue (b ∷ []) c old.0, old.1));
        in_queue = λ c i. at_set (λ (x : Object). is_queued x.standing ≡ true) objects b c with_line lt
            (λ e. refl)
            (λ n. ⊎_elim (λ old. s.in_queue c old) (λ e. absurd (n e)) (among_cases queue b c i));
      }

-- An operation on pointers to objects that are alive is never refused for want of life, and leaves objects that point to
-- objects which are alive.

-- P of what an operation answers; it is not refused for want of life
abbrev pub Done : {A : Type 0} → (A → Type 0) → Result A Refusal → Type 0
Done P (Ok a) = P a
Done P (Err e) = e ≢ ReadsDead

pub trapped : (kind : TrapKind) → Trapped kind ≢ ReadsDead
trapped kind = λ e. cc

pub then_done : {A B : Type 0} (P : A → Type 0) (Q : B → Type 0) (r : Result A Refusal) (next : A → Result B Refusal) → Done P r → ((a : A) → P a → Done Q (next a)) → Done Q (and_then r next)
then_done P Q (Ok a) next h then = then a h
then_done P Q (Err e) next h then = h

pub so_done : {A : Type 0} (P : A → Type 0) (test : Bool) (kind : TrapKind) (next : Result A Refusal) → Done P next → Done P (if_so test (Trapped kind) next)
so_done P true kind next h = trapped kind
so_done P false kind next h = h

pub so_skipped : {A : Type 0} (P : A → Type 0) (test : Bool) (e : Refusal) (next : Result A Refusal) → test ≡ false → Done P next → Done P (if_so test e next)
so_skipped P true e next h d = absurd (cc)
so_skipped P false e next h d = d

-- Lists of pointers

module _ (objects : List Object) where
  pub take_fresh : (n : ℕ) (ps : List Pointer) → AreFresh objects ps → AreFresh objects (take n ps)
  take_fresh n ps h = λ k.
      ⊎_elim
      (λ lt. subst (IsFresh objects) (sym (get_or-take n ps k pointer.Null lt)) (h k))
      (λ le. subst (IsFresh objects) (sym (get_or_past (take n ps) k pointer.Null (omega (arith, length-take n ps)))) refl)
      (cases_lt k n)

  pub drop_fresh : (n : ℕ) (ps : List Pointer) → AreFresh objects ps → AreFresh objects (drop n ps)
  drop_fresh n ps h = λ k. subst (IsFresh objects) (sym (get_or-drop n ps k pointer.Null)) (h (n + k))

  pub append_fresh : (ps qs : List Pointer) → AreFresh objects ps → AreFresh objects qs → AreFresh objects (ps ++ qs)
  append_fresh ps qs h i = λ k.
      ⊎_elim
      (λ lt. subst (IsFresh objects) (sym (get_or_append_left ps qs pointer.Null k lt)) (h k))
      (λ le.
      let j = k - length ps in
      let e : k ≡ length ps + j = omega arith in
      subst (IsFresh objects) (sym (ap (λ n. get_or (ps ++ qs) n pointer.Null) e ∙ get_or-append-add ps qs j pointer.Null)) (i j))
      (cases_lt k (length ps))

  pub overlaid_fresh : (ps : List Pointer) (place : ℕ) (new : List Pointer) → AreFresh objects ps → AreFresh objects new → AreFresh objects (overlaid ps place new)
  overlaid_fresh ps place new h i =
      append_fresh (take place ps ++ new) (drop (place + length new) ps) (append_fresh (take place ps) new (take_fresh place ps h) i) (drop_fresh (place + length new) ps h)

  set_fresh : (ps : List Pointer) (i : ℕ) (q : Pointer) → AreFresh objects ps → IsFresh objects q → AreFresh objects (set ps i q)
  set_fresh ps i q h f = λ k.
      ⊎_elim
      (λ e.
      ⊎_elim
      (λ lt. subst (IsFresh objects) (sym (ap (λ n. get_or (set ps i q) n pointer.Null) e ∙ get_or-set_same ps i q pointer.Null lt)) f)
      (λ le. subst (IsFresh objects) (sym (get_or_past (set ps i q) k pointer.Null (omega (arith, length-set ps i q)))) refl)
      (cases_lt i (length ps)))
      (λ n. subst (IsFresh objects) (sym (get_or-set_other ps i k q pointer.Null n)) (h k))
      (cases_eq k i)

  none_stale : (ps : List Pointer) → AreFresh objects ps → list_any (is_stale objects) ps ≡ false
  none_stale [] h = refl
  none_stale (p ∷ ps) h = or_from (is_stale objects p) (list_any (is_stale objects) ps) (h 0) (none_stale ps (λ k. h (suc k)))

  -- each of some values that are tested
  pub values_fresh : (values : List Value) (d : Value) → HoldsFresh objects d → list_any (holds_stale objects) values ≡ false → (k : ℕ) → HoldsFresh objects (get_or values k d)
  values_fresh [] d f h k = f
  values_fresh (v ∷ values) d f h zero = (or_parts (holds_stale objects v) (list_any (holds_stale objects) values) h).0
  values_fresh (v ∷ values) d f h (suc k) =
      values_fresh values d f (or_parts (holds_stale objects v) (list_any (holds_stale objects) values) h).1 k

-- Accesses

module _ (objects : List Object) (queue : List ℕ) (sane : Sane objects queue) where
  -- the place of an access is in an object that is alive
  abbrev pub Reaches : Place → Type 0
  Reaches at = Alive objects at.birth

  -- the objects after a change
  abbrev pub Changed : List Object → Type 0
  Changed new = Grows objects new × Sane new queue

  access_in_done : (b offset n : ℕ) (against : Bool) → Alive objects b → Done Reaches (access_in (object_at objects b) b offset n against)
  access_in_done b offset n against alive =
      let o = object_at objects b in
      so_skipped Reaches (is_dead o.standing) ReadsDead _ alive (so_done Reaches (nat_lt o.size (offset + n)) _ _ (so_done Reaches (not (nat_eq (offset % n) 0)) _ _ (so_done Reaches against _ _ alive)))

  pub access_integer_done : (p : Pointer) (n : ℕ) → IsFresh objects p → Done Reaches (access_integer objects p n)
  access_integer_done pointer.Null n h = trapped _
  access_integer_done (pointer.At b offset) n h = access_in_done b offset n _ h

  access_pointer_done : (p : Pointer) → IsFresh objects p → Done Reaches (access_pointer objects p)
  access_pointer_done pointer.Null h = trapped _
  access_pointer_done (pointer.At b offset) h = access_in_done b offset 4 _ h

  range_done : (p : Pointer) (n : ℕ) → IsFresh objects p → Done Reaches (range_at objects p n)
  range_done pointer.Null n h = trapped _
  range_done (pointer.At b offset) n h =
      let o = object_at objects b in
      so_skipped Reaches (is_dead o.standing) ReadsDead _ h (so_done Reaches (nat_lt o.size (offset + n)) _ _ h)

  pub loaded_done : (k : IntKind) (p : Pointer) → IsFresh objects p → Done (HoldsFresh objects) (loaded objects k p)
  loaded_done k p h = then_done Reaches (HoldsFresh objects) _ _ (access_integer_done p _ h) (λ at alive. refl)

  pub loaded_pointer_done : (p : Pointer) → IsFresh objects p → Done (HoldsFresh objects) (loaded_pointer objects p)
  loaded_pointer_done p h =
      then_done Reaches (HoldsFresh objects) _ _ (access_pointer_done p h) (λ at alive.
      let o = object_at objects at.birth in
      let q = access.pointer_at o at.offset in
      let fresh : IsFresh objects q = sane.slots at.birth alive (length (slots_below o.slots at.offset)) in
      so_skipped (HoldsFresh objects) (is_stale objects q) ReadsDead _ fresh fresh)

  -- an object has other bytes and pointers
  changed : (b : ℕ) (o : Object) → Alive objects b → o.standing ≡ (object_at objects b).standing → o.sort ≡ (object_at objects b).sort → AreFresh objects o.pointers → Changed (with_object objects b o)
  changed b o alive standing sort fresh =
      (set_grows objects b o alive (ap is_dead standing ∙ alive) (ap is_heap sort), set_sane objects queue b o sane alive standing sort fresh)

  pub stored_done : (k : IntKind) (p : Pointer) (n : ℤ) → IsFresh objects p → Done Changed (stored objects k p n)
  stored_done k p n h =
      then_done Reaches Changed _ _ (access_integer_done p _ h) (λ at alive.
      changed at.birth (with_integer k (object_at objects at.birth) at.offset n) alive refl refl (sane.slots at.birth alive))

  pub stored_pointer_done : (p q : Pointer) → IsFresh objects p → IsFresh objects q → Done Changed (stored_pointer objects p q)
  stored_pointer_done p q h f =
      then_done Reaches Changed _ _ (access_pointer_done p h) (λ at alive.
      let o = object_at objects at.birth in
      changed at.birth (with_pointer o at.offset q) alive refl refl (set_fresh objects o.pointers (length (slots_below o.slots at.offset)) q (sane.slots at.birth alive) f))

  range_fresh : (p : Pointer) (n : ℕ) → IsFresh objects p → AreFresh objects (pointers_in_range objects p n)
  range_fresh pointer.Null n h = λ k. refl
  range_fresh (pointer.At b offset) n h =
      let o = object_at objects b in
      let below = length (slots_below o.slots offset) in
      take_fresh objects (length (slots_within o.slots offset n)) (drop below o.pointers) (drop_fresh objects below o.pointers (sane.slots b h))

  between_done : (n : ℕ) (d s : Place) → Alive objects d.birth → Alive objects s.birth → Done Changed (copy_between objects n d s)
  between_done n d s h i =
      let into = object_at objects d.birth in
      let out = object_at objects s.birth in
      let below = length (slots_below out.slots s.offset) in
      so_done Changed (not (may_copy into d.offset out s.offset n)) _ _ (changed d.birth (access.copied into d.offset out s.offset n) h refl refl (overlaid_fresh objects into.pointers (length (slots_below into.slots d.offset)) (take (length (slots_within out.slots s.offset n)) (drop below out.pointers)) (sane.slots d.birth h) (take_fresh objects _ (drop below out.pointers) (drop_fresh objects below out.pointers (sane.slots s.birth i)))))

  copy_done : (d s : Pointer) (n : ℕ) → IsFresh objects d → IsFresh objects s → Done Changed (copy objects d s n)
  copy_done d s zero h i = (grows_same objects, sane)
  copy_done d s (suc m) h i =
      then_done Reaches Changed _ _ (range_done d (suc m) h) (λ to alive. then_done Reaches Changed _ _ (range_done s (suc m) i) (λ from lives. between_done (suc m) to from alive lives))

  pub copied_done : (d s : Pointer) (n : ℕ) → IsFresh objects d → IsFresh objects s → Done Changed (copied objects d s n)
  copied_done d s n h i =
      then_done Changed Changed _ _ (copy_done d s n h i) (λ new c.
      so_skipped Changed (list_any (is_stale objects) (pointers_in_range objects s n)) ReadsDead (Ok new) (none_stale objects (pointers_in_range objects s n) (range_fresh s n i)) c)

  pub set_done : (p : Pointer) (byte n : ℕ) → IsFresh objects p → Done Changed (set_bytes objects p byte n)
  set_done p byte zero h = (grows_same objects, sane)
  set_done p byte (suc m) h =
      then_done Reaches Changed _ _ (range_done p (suc m) h) (λ at alive.
      let o = object_at objects at.birth in
      so_done Changed (not (may_set o at.offset byte (suc m))) _ _ (changed at.birth (filled o at.offset byte (suc m)) alive refl refl (overlaid_fresh objects o.pointers (length (slots_below o.slots at.offset)) (replicate (length (slots_within o.slots at.offset (suc m))) pointer.Null) (sane.slots at.birth alive) (nulls_fresh objects (length (slots_within o.slots at.offset (suc m)))))))

-- What operations on values and strings answer is fresh, and they are never refused for want of life.

-- nothing is said of an answer
abbrev pub Any : {A : Type 0} → A → Type 0
Any a = Unit {0}

module _ (objects : List Object) where
  truth_fresh : (b : Bool) → HoldsFresh objects (truth b)
  truth_fresh true = refl
  truth_fresh false = refl

  or_traps_done : (kind : TrapKind) (o : Option ℤ) → Done (HoldsFresh objects) (or_traps kind o)
  or_traps_done kind None = trapped kind
  or_traps_done kind (Some n) = refl

  pub on_two_done : (op : BinOp) (k : IntKind) (a b : ℤ) → Done (HoldsFresh objects) (on_two op k a b)
  on_two_done bin.Add k a b = refl
  on_two_done bin.Sub k a b = refl
  on_two_done bin.Mul k a b = refl
  on_two_done bin.Div k a b = or_traps_done trap.Divide _
  on_two_done bin.Rem k a b = or_traps_done trap.Divide _
  on_two_done bin.And k a b = refl
  on_two_done bin.Or k a b = refl
  on_two_done bin.Xor k a b = refl
  on_two_done bin.Shl k a b = or_traps_done trap.Shift _
  on_two_done bin.Shr k a b = or_traps_done trap.Shift _

  cond_done : {A : Type 0} (P : A → Type 0) (test : Bool) (a : A) (kind : TrapKind) → P a → Done P (cond test (Ok a) (Err (Trapped kind)))
  cond_done P true a kind h = h
  cond_done P false a kind h = trapped kind

  within_done : (b size : ℕ) (offset : ℤ) → Alive objects b → Done (HoldsFresh objects) (within_object b size offset)
  within_done b size (pos offset) h = cond_done (HoldsFresh objects) (nat_le offset size) (address (pointer.At b offset)) trap.Range h
  within_done b size (negsuc n) h = trapped _

  pub moved_done : (p : Pointer) (distance : ℤ) → IsFresh objects p → Done (HoldsFresh objects) (moved_by objects p distance)
  moved_done pointer.Null distance h =
      cond_done (HoldsFresh objects) (is_zero distance) (address pointer.Null) trap.Null refl
  moved_done (pointer.At b offset) distance h = within_done b (object_at objects b).size _ h

  offsets_done : (p q : Pointer) → Done Any (offsets p q)
  offsets_done pointer.Null q = trapped _
  offsets_done (pointer.At b offset) pointer.Null = trapped _
  offsets_done (pointer.At b offset) (pointer.At c other) = cond_done Any (nat_eq b c) (offset, other) trap.Objects tt

  pub difference_done : (p q : Pointer) (element : ℤ) → Done (HoldsFresh objects) (difference p q element)
  difference_done p q element = then_done Any (HoldsFresh objects) (offsets p q) _ (offsets_done p q) (λ both h. refl)

  ordered_done : (op : CmpOp) (p q : Pointer) → Done (HoldsFresh objects) (ordered op p q)
  ordered_done op p q =
      then_done Any (HoldsFresh objects) (offsets p q) _ (offsets_done p q) (λ both h. truth_fresh (compared op (pos both.0) (pos both.1)))

  pub compared_done : (op : CmpOp) (p q : Pointer) → Done (HoldsFresh objects) (pointers_compared op p q)
  compared_done cmp.Eq p q = truth_fresh _
  compared_done cmp.Ne p q = truth_fresh _
  compared_done cmp.Lt p q = ordered_done cmp.Lt p q
  compared_done cmp.Gt p q = ordered_done cmp.Gt p q
  compared_done cmp.Le p q = ordered_done cmp.Le p q
  compared_done cmp.Ge p q = ordered_done cmp.Ge p q

  pub truth_is_fresh : (b : Bool) → HoldsFresh objects (truth b)
  truth_is_fresh b = truth_fresh b

-- What is printed

pub item_cond : (b : Bool) (one other : Result (List ℕ) Refusal) → Done Any one → Done Any other → Done Any (cond b one other)
item_cond true one other h i = h
item_cond false one other h i = i

-- what is printed is not refused for want of life
abbrev pub Lives : Option Refusal → Type 0
Lives None = Unit {0}
Lives (Some e) = e ≢ ReadsDead

pub front_lives : (text : Result (List ℕ) Refusal) (rest : Printed) → Done Any text → Lives rest.refused → Lives (in_front text rest).refused
front_lives (Ok text) rest h i = i
front_lives (Err e) rest h i = h

-- Strings

module _ (objects : List Object) (queue : List ℕ) (sane : Sane objects queue) where
  behind_fresh : (p : Pointer) (i : ℕ) → IsFresh objects p → IsFresh objects (behind p i)
  behind_fresh pointer.Null i h = refl
  behind_fresh (pointer.At b offset) i h = h

  byte_done : (p : Pointer) (i : ℕ) → IsFresh objects p → Done Any (byte_behind objects p i)
  byte_done p i h =
      then_done (Reaches objects queue sane) Any (_) _ (access_integer_done objects queue sane (behind p i) 1 (behind_fresh p i h)) (λ at alive. tt)

  with_byte_done : (byte : ℕ) (rest : Result (List ℕ) Refusal) (b : Bool) → Done Any rest → Done Any (cond b (Ok []) (and_then rest (λ (bytes : List ℕ). Ok (byte ∷ bytes))))
  with_byte_done byte rest true h = tt
  with_byte_done byte rest false h = then_done Any Any rest _ h (λ bytes _. tt)

  string_from_done : (p : Pointer) (i most : ℕ) → IsFresh objects p → Done Any (string_from objects p i most)
  string_from_done p i zero h = trapped _
  string_from_done p i (suc most) h =
      then_done Any Any (byte_behind objects p i) _ (byte_done p i h) (λ byte _. with_byte_done byte (string_from objects p (i + 1) most) (nat_eq byte 0) (string_from_done p (i + 1) most h))

  pub string_done : (p : Pointer) → IsFresh objects p → Done Any (string_at objects p)
  string_done p h = string_from_done p 0 (room_at objects p) h

  order_cond : (a b c : Bool) (x y z : ℤ) (rest : Result ℤ Refusal) → Done Any rest → Done Any (cond a (Ok x) (cond b (Ok y) (cond c (Ok z) rest)))
  order_cond true b c x y z rest h = tt
  order_cond false true c x y z rest h = tt
  order_cond false false true x y z rest h = tt
  order_cond false false false x y z rest h = h

  order_from_done : (p q : Pointer) (i most : ℕ) → IsFresh objects p → IsFresh objects q → Done Any (order_from objects p q i most)
  order_from_done p q i zero h j = trapped _
  order_from_done p q i (suc most) h j =
      then_done Any Any (byte_behind objects p i) _ (byte_done p i h) (λ a _. then_done Any Any (byte_behind objects q i) _ (byte_done q i j) (λ b _. order_cond (nat_lt a b) (nat_lt b a) (nat_eq a 0) _ _ _ (order_from objects p q (i + 1) most) (order_from_done p q (i + 1) most h j)))

  pub order_done : (p q : Pointer) → IsFresh objects p → IsFresh objects q → Done Any (order_of objects p q)
  order_done p q h j = order_from_done p q 0 (room_at objects p) h j

  -- Formats: each argument is fresh

  abbrev pub FreshValues : List Value → Type 0
  FreshValues values = (k : ℕ) → IsFresh objects (pointer_at values k)

  item_done : (piece : Piece) (values : List Value) → FreshValues values → Done Any (item_text objects piece values)
  item_done (Plain text) values h = tt
  item_done (Item left zeros width conv kind) values h =
      item_cond (nat_eq conv 115) _ _ (then_done Any Any (string_at objects (pointer_at values 0)) _ (string_done (pointer_at values 0) (h 0)) (λ text _. tt)) tt

  dropped : (values : List Value) → FreshValues values → FreshValues (drop 1 values)
  dropped [] h = h
  dropped (v ∷ values) h = λ k. h (suc k)

  behind_values : (piece : Piece) (values : List Value) → FreshValues values → FreshValues (arguments_behind piece values)
  behind_values (Plain text) values h = h
  behind_values (Item left zeros width conv kind) values h = dropped values h

  pub printed_lives : (pieces : List Piece) (values : List Value) → FreshValues values → Lives (printed objects pieces values).refused
  printed_lives [] values h = tt
  printed_lives (piece ∷ pieces) values h =
      front_lives (item_text objects piece values) _ (item_done piece values h) (printed_lives pieces (arguments_behind piece values) (behind_values piece values h))
