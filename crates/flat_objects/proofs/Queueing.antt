-- A free: the object at an address is queued.
use Rattle.std.proofs.Common.{◌≡◌, ◌<◌, ◌≤◌, ◌+◌, ◌-◌, ◌/◌, ◌∙◌, ◌⊎◌, inl, inr, ℕ, zero, suc, Bool, true, false, cond, not, Result, Ok, Err, List, [], ◌∷◌, ◌++◌, length, get_or, set, refl, sym, ap, subst, arith, length-append}
use Rattle.std.specs.Prelude.{AllPairs, Contains, map, filter, nat_eq, slice_index_or, ◌&&◌, ◌≢◌}
use Rattle.std.specs.List.{enumerate_from}
use Rattle.std.proofs.lemmas.Bool.{cases_eq, cases_lt, and_from, and_parts, eq-eqb, eqb-true, not_from_false, false_from_ne_true}
use Rattle.std.proofs.lemmas.List.{get_or_append_left, get_or_at, get_or_default, get_or-map, length-map}
use Rattle.std.proofs.lemmas.List.Elements.{All-append, All-cons, All-nil}
use Rattle.std.proofs.Math.ListN.{length-set}
use Rattle.hs_base.specs.declared.ends.Reason.{Reason}
use Rattle.hs_base.specs.declared.ends.Reason.TheVariants.{Again, Held, NotStart}
use Rattle.hs_base.specs.declared.values.Pointer.{Pointer}
use Rattle.hs_base.specs.declared.values.Pointer.TheVariants as pointer
use Rattle.hs_base.specs.Freeing.{freed_at, is_heap, queued}
use Rattle.hs_base.specs.Object as object
use Rattle.hs_base.specs.Object.{Object, Sort, Standing, is_dead, is_queued, no_object, object_at}
use Rattle.hs_base.specs.Place.{Block}
use Rattle.heap_blocks.specs.declared.headers.Header.{Header}
use Rattle.heap_blocks.specs.Heads.{header_at}
use Rattle.heap_blocks.specs.Held.{HeapModel, Holds}
use Rattle.delay_scopes.specs.Freed.{AreBeside, IsBadFor, IsQueuedNow, linked_header, queued_header}
use Rattle.delay_scopes.specs.Queue.{HasQueue, IsStart, ScopesModel, header_of}
use Rattle.flat_objects.specs.Memory.{Memory, Range, Statics, Locals, Heap, IsMemory, heap_of, is_of, range_of}
use Rattle.flat_objects.specs.Standing.{IsThere, IsAddressOf}
use Rattle.flat_objects.specs.Keeping.{Keeps, KeepsAt, StandsAt, IsLineOf, IsStateOf, block_of, blocks_of, stands_in}
use Rattle.flat_objects.specs.Answering.{IsChanged}
use Rattle.flat_objects.specs.Counting.{AreCounts, AreQueued, Frees, LeadsSomewhere, Tracks}
use Rattle.flat_objects.proofs.Added.{contains_left, contains_last}
use Rattle.flat_objects.proofs.Again.{SameWithin, header_from, stands_again}
use Rattle.flat_objects.proofs.Apart.{objects_apart}
use Rattle.flat_objects.proofs.Blocks.{block_is_held, own_block, there_below}
use Rattle.flat_objects.proofs.Changing.{at_other, at_same}
use Rattle.flat_objects.proofs.Counted.{pointers_there}
use Rattle.flat_objects.proofs.HeldBlocks.{all_blocks}
use Rattle.flat_objects.proofs.Owners.{own_inside}
use Rattle.flat_objects.proofs.Reached.{are_slots}
use Rattle.flat_objects.proofs.Tracked.{queue_there, same_living}

-- Starts of blocks

-- the object of a block of the heap
pub record HasStart (memory : Memory) (places : ℕ → ℕ) (objects : List Object) (addr : ℕ) : Type 0 where
  pub birth : ℕ
  pub there : IsThere objects birth
  pub own : range_of (object_at objects birth).sort ≡ Heap
  pub address : addr ≡ places birth

pub heap_range : (s : Sort) → range_of s ≡ Heap → is_heap s ≡ true
heap_range (object.Static index) e = absurd (cc)
heap_range (object.Local func index) e = absurd (cc)
heap_range (object.Heap line) e = refl

pub range_heap : (s : Sort) → is_heap s ≡ true → range_of s ≡ Heap
range_heap (object.Static index) e = absurd (cc)
range_heap (object.Local func index) e = absurd (cc)
range_heap (object.Heap line) e = refl

module _ (memory : Memory) (places : ℕ → ℕ) (objects : List Object) (keeps : Keeps memory places objects) where
  -- where a block of the heap starts, its object stands
  pub start_of_block : (addr : ℕ) → IsStart memory.heap.base (blocks_of memory places objects Heap) addr → HasStart memory places objects addr
  start_of_block addr start =
      let Q : Block → Type 0 = λ b. (a : ℕ) → a ≡ memory.heap.base + b.place + 32 → HasStart memory places objects a in
      let all = all_blocks Q memory places objects Heap
      (λ birth there own a e. let room = subst (λ r. (heap_of memory r).base + 32 ≤ places birth) own (keeps.standing birth there).room in
      record { birth = birth; there = there; own = own; address = omega arith }) in
      let at = start.contains in
      subst Q at.2 (all at.0 start.block at.1) addr start.address

  -- and where an object of the heap stands, its block starts
  pub block_starts : (birth : ℕ) → IsThere objects birth → is_heap (object_at objects birth).sort ≡ true → IsStart memory.heap.base (blocks_of memory places objects Heap) (places birth)
  block_starts birth there heap =
      let own = range_heap (object_at objects birth).sort heap in
      let room = subst (λ r. (heap_of memory r).base + 32 ≤ places birth) own (keeps.standing birth there).room in
      let base : (heap_of memory (range_of (object_at objects birth).sort)).base ≡ memory.heap.base = ap (λ r. (heap_of memory r).base) own in
      record {
        block = own_block memory places objects birth;
        contains = subst (λ (r : Range). Contains (blocks_of memory places objects r) (own_block memory places objects birth)) own (block_is_held memory places objects birth there);
        address = omega arith;
      }

-- What a free answers

state_queued : (s : Standing) (h : Header) → IsStateOf s h → h.state ≡ 2 → is_queued s ≡ true
state_queued object.Live h is two = absurd (omega arith)
state_queued (object.Queued line) h is two = refl
state_queued object.Dead h is two = absurd is

state_live : (s : Standing) (h : Header) → IsStateOf s h → (h.state ≡ 2 → ⊥) → is_queued s ≡ false
state_live object.Live h is other = refl
state_live (object.Queued line) h is other = absurd (other is.0)
state_live object.Dead h is other = refl

module _ (locals heap : ℕ) (memory : Memory) (shape : IsMemory locals heap memory) (places : ℕ → ℕ) (objects : List Object) (birth offset addr : ℕ) (at : KeepsAt memory places objects (pointer.At birth offset) addr) where
  -- an address of a pointer at which an object starts is that object's
  starts_own : (start : HasStart memory places objects addr) → (start.birth ≡ birth) × (offset ≡ 0)
  starts_own start =
      elim (cases_eq start.birth birth) [
        | inl e ↦ let same : places start.birth ≡ places birth = ap places e in (e, omega (arith, start.address, at.stands.address))
        | inr differ ↦
            elim (objects_apart locals heap memory shape places objects at.keeps start.birth birth start.there at.stands.there differ) [
              | inl h ↦ absurd (omega (arith, start.address, at.stands.address, at.stands.inside))
              | inr h ↦ absurd (omega (arith, start.address, at.stands.address, at.stands.inside))
            ]
      ]

  abbrev freed_object : Object
  freed_object = object_at objects birth

  named : HasStart memory places objects addr → is_heap freed_object.sort && not (is_dead freed_object.standing) && nat_eq offset 0 ≡ true
  named start =
      let own = starts_own start in
      let heap_sort : is_heap freed_object.sort ≡ true = heap_range freed_object.sort (ap (λ b. range_of (object_at objects b).sort) (sym own.0) ∙ start.own) in
      and_from (is_heap freed_object.sort && not (is_dead freed_object.standing)) (nat_eq offset 0) (and_from (is_heap freed_object.sort) (not (is_dead freed_object.standing)) heap_sort (not_from_false (is_dead freed_object.standing) at.stands.there)) (eq-eqb offset 0 own.1)

  state_of : IsStateOf freed_object.standing (header_at memory.bytes (places birth - 32))
  state_of = (at.keeps.standing birth at.stands.there).header.state

  own_header : HasStart memory places objects addr → header_of memory.bytes addr ≡ header_at memory.bytes (places birth - 32)
  own_header start =
      let own = starts_own start in
      let same : addr ≡ places birth = start.address ∙ ap places own.0 in
      ap (λ a. header_at memory.bytes (a - 32)) same

  -- a good free names the object
  pub free_good : IsStart memory.heap.base (blocks_of memory places objects Heap) addr → ((header_of memory.bytes addr).state ≡ 2 → ⊥) → (freed_at objects birth offset ≡ Ok birth) × (addr ≡ places birth) × (is_heap freed_object.sort ≡ true) × (is_queued freed_object.standing ≡ false)
  free_good is_start not_queued =
      let start = start_of_block memory places objects at.keeps addr is_start in
      let own = starts_own start in
      let same = own_header start in
      let live : is_queued freed_object.standing ≡ false = state_live freed_object.standing (header_at memory.bytes (places birth - 32)) state_of (λ two. not_queued (ap (λ (h : Header). h.state) same ∙ two)) in
      let heap_sort : is_heap freed_object.sort ≡ true = heap_range freed_object.sort (ap (λ b. range_of (object_at objects b).sort) (sym own.0) ∙ start.own) in (
        ap (λ t. let r : Result ℕ Reason = cond t (cond (is_queued freed_object.standing) (Err Again) (Ok birth)) (Err NotStart) in r) (named start)
            ∙ ap (λ t. let r : Result ℕ Reason = cond t (Err Again) (Ok birth) in r) live,
        start.address ∙ ap places own.0,
        heap_sort,
        live,
      )

  -- a bad free is bad for the definition's reason
  pub free_bad : (reason : Reason) → IsBadFor memory.heap.base memory.bytes (blocks_of memory places objects Heap) addr reason → freed_at objects birth offset ≡ Err reason
  free_bad Again bad =
      let start = start_of_block memory places objects at.keeps addr bad.0 in
      let same = own_header start in
      let waits : is_queued freed_object.standing ≡ true = state_queued freed_object.standing (header_at memory.bytes (places birth - 32)) state_of (ap (λ (h : Header). h.state) (sym same) ∙ bad.1) in
      ap (λ t. let r : Result ℕ Reason = cond t (cond (is_queued freed_object.standing) (Err Again) (Ok birth)) (Err NotStart) in r) (named start)
      ∙ ap (λ t. let r : Result ℕ Reason = cond t (Err Again) (Ok birth) in r) waits
  free_bad NotStart bad =
      let none : is_heap freed_object.sort && not (is_dead freed_object.standing) && nat_eq offset 0 ≡ false =
      false_from_ne_true (is_heap freed_object.sort && not (is_dead freed_object.standing) && nat_eq offset 0)
      (λ all. let both = and_parts (is_heap freed_object.sort && not (is_dead freed_object.standing)) (nat_eq offset 0) all in
      let first = and_parts (is_heap freed_object.sort) (not (is_dead freed_object.standing)) both.0 in
      let none : offset ≡ 0 = eqb-true offset 0 both.1 in
      let same : addr ≡ places birth = omega (arith, at.stands.address) in
      bad (subst (IsStart memory.heap.base (blocks_of memory places objects Heap)) (sym same) (block_starts memory places objects at.keeps birth at.stands.there first.0))) in
      ap (λ t. let r : Result ℕ Reason = cond t (cond (is_queued freed_object.standing) (Err Again) (Ok birth)) (Err NotStart) in r) none
  free_bad Held bad = absurd bad

-- Bytes in an object are beside the headers of all objects, and its header beside that of another

module _ (locals heap : ℕ) (memory : Memory) (shape : IsMemory locals heap memory) (places : ℕ → ℕ) (objects : List Object) (keeps : Keeps memory places objects) where
  body_beside : (b c from n m k : ℕ) → IsThere objects b → IsThere objects c → places b ≤ from → from + n ≤ places b + (object_at objects b).size → m ≤ 32 → k ≤ m → AreBeside from n (places c - m) k
  body_beside b c from n m k b_there c_there low high fits less =
      let room_c = (keeps.standing c c_there).room in
      elim (cases_eq b c) [
        | inl e ↦ let same : places b ≡ places c = ap places e in inr (omega arith)
        | inr differ ↦
            elim (objects_apart locals heap memory shape places objects keeps b c b_there c_there differ) [
              | inl h ↦ inl (omega arith)
              | inr h ↦ inr (omega arith)
            ]
      ]

  head_beside : (b c from n m k : ℕ) → IsThere objects b → IsThere objects c → (b ≡ c → ⊥) → places b - 32 ≤ from → from + n ≤ places b → m ≤ 32 → k ≤ m → AreBeside from n (places c - m) k
  head_beside b c from n m k b_there c_there differ low high fits less =
      let room_b = (keeps.standing b b_there).room in
      let room_c = (keeps.standing c c_there).room in
      elim (objects_apart locals heap memory shape places objects keeps b c b_there c_there differ) [
        | inl h ↦ inl (omega arith)
        | inr h ↦ inr (omega arith)
      ]

-- One object is queued

same_kept : {X Y : Type 0} (f : X → Y) (p : X → Bool) (t : Bool) (a b : X) (l m : List X) → t ≡ p b → p a ≡ t → f a ≡ f b → map f l ≡ map f m → map f (cond (p a) (a ∷ l) l) ≡ map f (cond (p b) (b ∷ m) m)
same_kept f p true a b l m at_b at_a e rest = ap (λ t. map f (cond t (a ∷ l) l)) at_a ∙ (λ i. e i ∷ rest i) ∙ ap (λ t. map f (cond t (b ∷ m) m)) at_b
same_kept f p false a b l m at_b at_a e rest = ap (λ t. map f (cond t (a ∷ l) l)) at_a ∙ rest ∙ ap (λ t. map f (cond t (b ∷ m) m)) at_b

blocks_after_set : (places : ℕ → ℕ) (base : ℕ) (range : Range) (n : ℕ) (objects : List Object) (k : ℕ) (s : Standing) → is_dead s ≡ is_dead (object_at objects k).standing
    → map (block_of places base) (filter (stands_in range) (enumerate_from n (set objects k (record (object_at objects k) { standing = s })))) ≡ map (block_of places base) (filter (stands_in range) (enumerate_from n objects))
blocks_after_set places base range n [] k s same = refl
blocks_after_set places base range n (o ∷ objects) zero s same =
    let new : Object = record o { standing = s } in
    let stands : stands_in range (n, new) ≡ stands_in range (n, o) = ap (λ d. is_of range o.sort && not d) same in
    same_kept (block_of places base) (stands_in range) (stands_in range (n, o)) (n, new) (n, o) (filter (stands_in range) (enumerate_from (n + 1) objects)) (filter (stands_in range) (enumerate_from (n + 1) objects)) refl stands refl refl
blocks_after_set places base range n (o ∷ objects) (suc k) s same =
    same_kept (block_of places base) (stands_in range) (stands_in range (n, o)) (n, o) (n, o) (filter (stands_in range) (enumerate_from (n + 1) (set objects k (record (object_at objects k) { standing = s })))) (filter (stands_in range) (enumerate_from (n + 1) objects)) refl refl refl
    (blocks_after_set places base range (n + 1) objects k s same)

contains_split : (xs : List ℕ) (y z : ℕ) → Contains (xs ++ y ∷ []) z → Contains xs z ⊎ (z ≡ y)
contains_split xs y z at =
    elim (cases_lt at.0 (length xs)) [
      | inl h ↦ inl (at.0, h, sym (get_or_append_left xs (y ∷ []) z at.0 h) ∙ at.2)
      | inr h ↦
          let e : at.0 ≡ length xs = omega (arith, at.1, length-append xs (y ∷ [])) in
          inr (sym at.2 ∙ get_or_at xs y [] z at.0 (sym e))
    ]

distinct_more : (xs : List ℕ) (y : ℕ) → AllPairs (λ a b. a ≢ b) xs → (Contains xs y → ⊥) → AllPairs (λ a b. a ≢ b) (xs ++ y ∷ [])
distinct_more xs y distinct none i j d less inside =
    let first : i < length xs = omega (arith, length-append xs (y ∷ [])) in
    let at_i : get_or (xs ++ y ∷ []) i d ≡ get_or xs i d = get_or_append_left xs (y ∷ []) d i first in
    elim (cases_lt j (length xs)) [
      | inl h ↦ λ e. distinct i j d less h (sym at_i ∙ e ∙ get_or_append_left xs (y ∷ []) d j h)
      | inr h ↦
          let place : j ≡ length xs = omega (arith, length-append xs (y ∷ [])) in
          let at_j : get_or (xs ++ y ∷ []) j d ≡ y = get_or_at xs y [] d j (sym place) in
          λ e. none (i, first, get_or_default xs i y d first ∙ sym at_i ∙ e ∙ at_j)
    ]

map_more : (f : ℕ → ℕ) (xs : List ℕ) (y : ℕ) → map f (xs ++ y ∷ []) ≡ map f xs ++ f y ∷ []
map_more f [] y = refl
map_more f (x ∷ xs) y = ap (λ l. f x ∷ l) (map_more f xs y)

state_again : (s : Standing) (h old : Header) → h.state ≡ old.state → h.freed ≡ old.freed → IsStateOf s old → IsStateOf s h
state_again object.Live h old state freed is = state ∙ is
state_again (object.Queued line) h old state freed is = (state ∙ is.0, freed ∙ is.1)
state_again object.Dead h old state freed is = is

module _ (locals heap : ℕ) (memory : Memory) (shape : IsMemory locals heap memory) (places : ℕ → ℕ) (objects : List Object) (keeps : Keeps memory places objects) (frees : Frees) (tracks : Tracks memory places objects frees)
    (birth line : ℕ) (there : IsThere objects birth) (heap_sort : is_heap (object_at objects birth).sort ≡ true) (live : is_queued (object_at objects birth).standing ≡ false)
    (scopes : ScopesModel) (bytes : List ℕ) (now : IsQueuedNow memory.scopes memory.bytes bytes (places birth) line) where
  abbrev after : List Object
  after = queued objects birth line

  abbrev next : Memory
  next = record memory { bytes = bytes; scopes = scopes }

  abbrev freed : Object
  freed = record (object_at objects birth) { standing = object.Queued line }

  at_freed : object_at after birth ≡ freed
  at_freed = at_same objects birth there freed

  at_others : (other : ℕ) → (other ≡ birth → ⊥) → object_at after other ≡ object_at objects other
  at_others other differ = at_other objects birth there freed other differ

  same_next : (range : Range) → heap_of next range ≡ heap_of memory range
  same_next Statics = refl
  same_next Locals = refl
  same_next Heap = refl

  -- the one that was queued last before
  abbrev last_birth : ℕ
  last_birth = get_or frees.queue (length frees.queue - 1) 0

  record IsLast : Type 0 where
    last_there : IsThere objects last_birth
    waits : is_queued (object_at objects last_birth).standing ≡ true
    block : memory.scopes.last ≡ places last_birth - 32

  last_is : 0 < memory.scopes.waiting → IsLast
  last_is some =
      let many : memory.scopes.waiting ≡ length frees.queue = tracks.links.many ∙ length-map frees.queue places in
      let below : length frees.queue - 1 < length frees.queue = omega arith in
      record {
        last_there = queue_there objects frees.queue tracks.queued (length frees.queue - 1) 0 below;
        waits = (tracks.queued.exact last_birth).0 (length frees.queue - 1, below, get_or_default frees.queue (length frees.queue - 1) last_birth 0 below);
        block = tracks.links.last ∙ ap (λ n. get_or (map places frees.queue) (n - 1) 0 - 32) (length-map frees.queue places) ∙ ap (λ a. a - 32) (get_or-map places frees.queue (length frees.queue - 1) 0 0 below);
      }

  body_same : (other : ℕ) → IsThere objects other → SameWithin bytes memory.bytes (places other) (object_at objects other).size
  body_same other other_there from n low high =
      now.outside from n (body_beside locals heap memory shape places objects keeps other birth from n 12 12 other_there there low high (omega arith) (omega arith))
      (λ some. let l = last_is some in
      let room = (keeps.standing last_birth l.last_there).room in
      let place : places last_birth - 4 ≡ memory.scopes.last + 28 = omega (arith, l.block) in
      subst (λ a. AreBeside from n a 4) place (body_beside locals heap memory shape places objects keeps other last_birth from n 4 4 other_there l.last_there low high (omega arith) (omega arith)))

  -- the header of another object, but for the link in it, stays
  record SameHeading (h old : Header) : Type 0 where
    birth_same : h.birth ≡ old.birth
    size_same : h.size ≡ old.size
    layout_same : h.layout ≡ old.layout
    line_same : h.line ≡ old.line
    state_same : h.state ≡ old.state
    freed_same : h.freed ≡ old.freed

  heading_from : (h old : Header) → h ≡ old → SameHeading h old
  heading_from h old e = record {
    birth_same = ap (λ (x : Header). x.birth) e;
    size_same = ap (λ (x : Header). x.size) e;
    layout_same = ap (λ (x : Header). x.layout) e;
    line_same = ap (λ (x : Header). x.line) e;
    state_same = ap (λ (x : Header). x.state) e;
    freed_same = ap (λ (x : Header). x.freed) e;
  }

  head_same : (other : ℕ) → IsThere objects other → (other ≡ birth → ⊥) → SameHeading (header_at bytes (places other - 32)) (header_at memory.bytes (places other - 32))
  head_same other other_there differ =
      let room = (keeps.standing other other_there).room in
      let own = λ (from n : ℕ) (low : places other - 32 ≤ from) (high : from + n ≤ places other - 32 + 32). head_beside locals heap memory shape places objects keeps other birth from n 12 12 other_there there differ low (omega arith) (omega arith) (omega arith) in
      elim (cases_lt 0 memory.scopes.waiting) [
        | inr none ↦ heading_from (header_at bytes (places other - 32)) (header_at memory.bytes (places other - 32)) (header_from memory.bytes bytes (places other - 32) (λ from n low high. now.outside from n (own from n low high) (λ some. absurd (omega arith))))
        | inl some ↦
            let l = last_is some in
            let room_last = (keeps.standing last_birth l.last_there).room in
            let place : places last_birth - 4 ≡ memory.scopes.last + 28 = omega (arith, l.block) in
            elim (cases_eq other last_birth) [
              | inl e ↦
                  let block : memory.scopes.last ≡ places other - 32 = l.block ∙ ap (λ b. places b - 32) (sym e) in
                  let linked : header_at bytes (places other - 32) ≡ linked_header (header_at memory.bytes (places other - 32)) (places birth - 32) =
                  subst (λ a. header_at bytes a ≡ linked_header (header_at memory.bytes a) (places birth - 32)) block (now.link some) in
                  record {
                    birth_same = ap (λ (x : Header). x.birth) linked;
                    size_same = ap (λ (x : Header). x.size) linked;
                    layout_same = ap (λ (x : Header). x.layout) linked;
                    line_same = ap (λ (x : Header). x.line) linked;
                    state_same = ap (λ (x : Header). x.state) linked;
                    freed_same = ap (λ (x : Header). x.freed) linked;
                  }
              | inr not_last ↦
                  heading_from (header_at bytes (places other - 32)) (header_at memory.bytes (places other - 32))
                  (header_from memory.bytes bytes (places other - 32) (λ from n low high. now.outside from n (own from n low high)
                  (λ _. subst (λ a. AreBeside from n a 4) place (head_beside locals heap memory shape places objects keeps other last_birth from n 4 4 other_there l.last_there not_last low (omega arith) (omega arith) (omega arith)))))
            ]
      ]

  -- what is kept
  old_address : (p : Pointer) (a : ℕ) → IsAddressOf places objects p a → IsAddressOf places after p a
  old_address pointer.Null a is = is
  old_address (pointer.At b offset) a is =
      elim (cases_eq b birth) [
        | inl e ↦
            let here : object_at after b ≡ freed = ap (object_at after) e ∙ at_freed in
            let size : (object_at objects b).size ≡ (object_at objects birth).size = ap (λ x. (object_at objects x).size) e in
            record { there = ap (λ (o : Object). is_dead o.standing) here; inside = omega (arith, is.inside, ap (λ (o : Object). o.size) here); address = is.address }
        | inr differ ↦
            let here = at_others b differ in
            record { there = ap (λ (o : Object). is_dead o.standing) here ∙ is.there; inside = omega (arith, is.inside, ap (λ (o : Object). o.size) here); address = is.address }
      ]

  blocks_same : (any : Memory) (range : Range) → blocks_of any places after range ≡ blocks_of any places objects range
  blocks_same any range = blocks_after_set places (heap_of any range).base range 0 objects birth (object.Queued line) (sym there)

  freed_stands : StandsAt next places after birth (places birth) freed
  freed_stands =
      let o = object_at objects birth in
      let old = keeps.standing birth there in
      let header : header_at bytes (places birth - 32) ≡ queued_header (header_at memory.bytes (places birth - 32)) line = now.header in
      stands_again memory next places objects after birth o (object.Queued line) old (ap (λ (h : HeapModel). h.base) (same_next (range_of o.sort))) refl refl now.long
      (record {
        born = ap (λ (h : Header). h.birth) header ∙ old.header.born;
        size = ap (λ (h : Header). h.size) header ∙ old.header.size;
        line = subst (IsLineOf o.sort) (sym (ap (λ (h : Header). h.line) header)) old.header.line;
        state = (ap (λ (h : Header). h.state) header, ap (λ (h : Header). h.freed) header);
      })
      (ap (λ (h : Header). h.layout) header) (omega (arith, own_inside memory places objects keeps birth there locals heap shape)) (body_same birth there) (are_slots locals heap memory _ o shape old.slots)
      (λ k a less is. old_address (slice_index_or o.pointers k pointer.Null) a is)

  other_stands : (other : ℕ) → IsThere objects other → (other ≡ birth → ⊥) → StandsAt next places after other (places other) (object_at objects other)
  other_stands other other_there differ =
      let o = object_at objects other in
      let old = keeps.standing other other_there in
      let head = head_same other other_there differ in
      stands_again memory next places objects after other o o.standing old (ap (λ (h : HeapModel). h.base) (same_next (range_of o.sort))) refl refl now.long
      (record {
        born = head.birth_same ∙ old.header.born;
        size = head.size_same ∙ old.header.size;
        line = subst (IsLineOf o.sort) (sym head.line_same) old.header.line;
        state = state_again o.standing (header_at bytes (places other - 32)) (header_at memory.bytes (places other - 32)) head.state_same head.freed_same old.header.state;
      })
      head.layout_same (omega (arith, own_inside memory places objects keeps other other_there locals heap shape)) (body_same other other_there) (are_slots locals heap memory _ o shape old.slots)
      (λ k a less is. old_address (slice_index_or o.pointers k pointer.Null) a is)

  pub free_changed : IsChanged next places objects after
  free_changed = record {
    keeps = record {
      held = λ range.
          subst (λ (h : HeapModel). Holds h (blocks_of next places after range)) (sym (same_next range))
          (subst (Holds (heap_of memory range)) (sym (blocks_same next range ∙ ap (λ (h : HeapModel). map (block_of places h.base) (filter (stands_in range) (enumerate_from 0 objects))) (same_next range))) (keeps.held range));
      standing = λ other other_there.
          elim (cases_eq other birth) [
            | inl e ↦
                let here : freed ≡ object_at after other = sym at_freed ∙ ap (object_at after) (sym e) in
                subst (λ (b : ℕ). StandsAt next places after b (places b) (object_at after other)) (sym e) (subst (StandsAt next places after birth (places birth)) here freed_stands)
            | inr differ ↦
                let same = at_others other differ in
                subst (StandsAt next places after other (places other)) (sym same) (other_stands other (ap (λ (o : Object). is_dead o.standing) (sym same) ∙ other_there) differ)
          ];
    };
    many = length-set objects birth freed;
    blocks = blocks_same;
    stand = old_address;
  }

  -- what is tracked
  not_waiting : Contains frees.queue birth → ⊥
  not_waiting at = let waits = (tracks.queued.exact birth).0 at in clash (sym live ∙ waits) where
    clash : false ≡ true → ⊥
    clash e = cc

  queued_more : AreQueued after (frees.queue ++ birth ∷ [])
  queued_more = record {
    heap = All-append (λ b. is_heap (object_at after b).sort ≡ true) frees.queue (birth ∷ [])
        (λ k d less. let b = get_or frees.queue k d in
        let differ : b ≡ birth → ⊥ = λ e. not_waiting (k, less, get_or_default frees.queue k birth d less ∙ e) in
        ap (λ (o : Object). is_heap o.sort) (at_others b differ) ∙ tracks.queued.heap k d less)
        (All-cons (λ b. is_heap (object_at after b).sort ≡ true) birth [] (ap (λ (o : Object). is_heap o.sort) at_freed ∙ heap_sort) (All-nil (λ b. is_heap (object_at after b).sort ≡ true)));
    exact = λ b.
        elim (cases_eq b birth) [
          | inl e ↦ (
            λ _. ap (λ x. is_queued (object_at after x).standing) e ∙ ap (λ (o : Object). is_queued o.standing) at_freed,
            λ _. subst (Contains (frees.queue ++ birth ∷ [])) (sym e) (contains_last frees.queue birth),
          )
          | inr differ ↦
              let same = ap (λ (o : Object). is_queued o.standing) (at_others b differ) in (
                λ at. elim (contains_split frees.queue birth b at) [ inl h ↦ same ∙ (tracks.queued.exact b).0 h | inr e ↦ absurd (differ e) ],
                λ waits. contains_left frees.queue (birth ∷ []) b ((tracks.queued.exact b).1 (sym same ∙ waits)),
              )
        ];
    distinct = distinct_more frees.queue birth tracks.queued.distinct not_waiting;
  }

  pub free_tracked : HasQueue scopes memory.heap.base bytes (blocks_of memory places objects Heap) (map places frees.queue ++ places birth ∷ []) → scopes.depth ≡ memory.scopes.depth → Tracks next places after (record frees { queue = frees.queue ++ birth ∷ [] })
  free_tracked has depth = record {
    counts = subst (λ (ps : List Pointer). AreCounts places (ps ++ frees.pins) memory.counts.counts) (sym (same_living objects birth freed (there_below objects birth there) (sym (pointers_there (object_at objects birth) there)))) tracks.counts;
    pinned = λ k d less. let p = get_or frees.pins k d in leads_again p (tracks.pinned k d less);
    few = subst (λ n. length frees.pins ≤ memory.counts.most - n / 4) (sym now.long) tracks.few;
    queued = queued_more;
    links = subst (λ (held : List Block). HasQueue scopes memory.heap.base bytes held (map places (frees.queue ++ birth ∷ []))) (sym (blocks_same next Heap))
        (subst (HasQueue scopes memory.heap.base bytes (blocks_of memory places objects Heap)) (sym (map_more places frees.queue birth)) has);
    open_scopes = depth ∙ tracks.open_scopes;
  } where
    leads_again : (p : Pointer) → LeadsSomewhere objects p → LeadsSomewhere after p
    leads_again pointer.Null h = tt
    leads_again (pointer.At b offset) h =
        let is = old_address (pointer.At b offset) (places b + offset) (record { there = h.0; inside = h.1; address = refl }) in
        (is.there, is.inside)
