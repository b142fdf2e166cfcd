-- The blocks that a memory holds.
use Rattle.std.proofs.Common.{◌≡◌, ◌<◌, ◌≤◌, ◌+◌, inl, inr, ℕ, zero, suc, true, List, [], ◌∷◌, length, get_or, Some, refl, ap, ◌∙◌, subst, arith, zero-add}
use Rattle.std.specs.Prelude.{AllPairs, Contains, find, option_map, not, nat_le, nat_lt}
use Rattle.std.specs.List.{enumerate_from}
use Rattle.std.proofs.lemmas.Bool.{cases_lt, cond-true, cond-false, cases_Bool, and_from, and_parts, le-leb, lt-ltb, leb-true, ltb-true, not_from_false}
use Rattle.std.proofs.lemmas.List.{get_or_past}
use Rattle.std.proofs.lemmas.List.FromFn.{length-enumerate_from, get_or-enumerate_from}
use Rattle.hs_base.specs.Object as object
use Rattle.hs_base.specs.Object.{Object, Sort, is_dead, no_object, object_at}
use Rattle.hs_base.specs.Place.{Block}
use Rattle.heap_blocks.specs.Held.{HeapModel, Holds, AreApart, address_of, has_address, owner_of}
use Rattle.flat_objects.specs.Memory.{Memory, heap_of, is_of, range_of}
use Rattle.flat_objects.specs.Standing.{IsThere}
use Rattle.flat_objects.specs.Keeping.{block_of, blocks_of, stands_in}
use Rattle.flat_objects.proofs.Members.{contains_kept}

-- an object that is not dead was made
pub there_below : (objects : List Object) (birth : ℕ) → IsThere objects birth → birth < length objects
there_below objects birth there =
    elim (cases_lt birth (length objects)) [
      | inl h ↦ h
      | inr h ↦ let dead : is_dead (object_at objects birth).standing ≡ true = ap (λ (o : Object). is_dead o.standing) (get_or_past objects birth no_object h) in cc
    ]

pub of_own_range : (sort : Sort) → is_of (range_of sort) sort ≡ true
of_own_range (object.Static index) = refl
of_own_range (object.Local func index) = refl
of_own_range (object.Heap line) = refl

-- the block of an object in its range
abbrev pub own_block : Memory → (ℕ → ℕ) → List Object → ℕ → Block
own_block memory places objects birth =
    block_of places (heap_of memory (range_of (object_at objects birth).sort)).base (birth, object_at objects birth)

pub block_is_held : (memory : Memory) (places : ℕ → ℕ) (objects : List Object) (birth : ℕ) → IsThere objects birth
    → Contains (blocks_of memory places objects (range_of (object_at objects birth).sort)) (own_block memory places objects birth)
block_is_held memory places objects birth there =
    let o = object_at objects birth in
    let range = range_of o.sort in
    let below : birth < length objects = there_below objects birth there in
    let same : get_or (enumerate_from 0 objects) birth (0, no_object) ≡ (birth, o) =
    get_or-enumerate_from 0 objects birth (0, no_object) below ∙ ap (λ (n : ℕ). let pair : ℕ × Object = (n, o) in pair) (zero-add birth) in
    let passes : stands_in range (birth, o) ≡ true = and_from (is_of range o.sort) (not (is_dead o.standing)) (of_own_range o.sort) (not_from_false (is_dead o.standing) there) in
    let held =
    contains_kept (block_of places (heap_of memory range).base) (stands_in range) (enumerate_from 0 objects) birth (0, no_object) (omega (arith, length-enumerate_from 0 objects))
    (ap (stands_in range) same ∙ passes) in
    subst (λ (one : ℕ × Object). Contains (blocks_of memory places objects range) (block_of places (heap_of memory range).base one)) same held

-- is the address in the block?
pub record IsWithin (heap : HeapModel) (addr : ℕ) (b : Block) : Type 0 where
  pub above : heap.base + b.place ≤ addr
  pub below : addr < heap.base + b.place + b.length

within_has : (heap : HeapModel) (addr : ℕ) (b : Block) → IsWithin heap addr b → has_address heap addr b ≡ true
within_has heap addr b h =
    and_from (nat_le (heap.base + b.place) addr) (nat_lt addr (heap.base + b.place + b.length)) (le-leb (heap.base + b.place) addr h.above) (lt-ltb addr (heap.base + b.place + b.length) h.below)

has_within : (heap : HeapModel) (addr : ℕ) (b : Block) → has_address heap addr b ≡ true → IsWithin heap addr b
has_within heap addr b has =
    let both = and_parts (nat_le (heap.base + b.place) addr) (nat_lt addr (heap.base + b.place + b.length)) has in
    record { above = leb-true (heap.base + b.place) addr both.0; below = ltb-true addr (heap.base + b.place + b.length) both.1 }

not_both : (heap : HeapModel) (addr : ℕ) (b c : Block) → IsWithin heap addr b → IsWithin heap addr c → AreApart b c → ⊥
not_both heap addr b c in_b in_c (inl h) = omega arith
not_both heap addr b c in_b in_c (inr h) = omega arith

-- a held block in which an address lies is the first that has it
found_first : (heap : HeapModel) (addr : ℕ) (held : List Block) (b : Block) (k : ℕ) → AllPairs AreApart held → k < length held → get_or held k b ≡ b → IsWithin heap addr b → find (has_address heap addr) held ≡ Some b
found_first heap addr [] b k apart below same within = absurd (omega arith)
found_first heap addr (c ∷ held) b zero apart below same within =
    cond-true (has_address heap addr c) (Some c) (find (has_address heap addr) held) (ap (has_address heap addr) same ∙ within_has heap addr b within) ∙ ap Some same
found_first heap addr (c ∷ held) b (suc k) apart below same within =
    let rest = found_first heap addr held b k (λ i j d less inside. apart (suc i) (suc j) d (omega arith) (omega arith)) (omega arith) same within in
    elim (cases_Bool (has_address heap addr c)) [
      | inr out ↦ cond-false (has_address heap addr c) (Some c) (find (has_address heap addr) held) out ∙ rest
      | inl in_c ↦
          let between = subst (λ (x : Block). AreApart c x) same (apart 0 (suc k) b (omega arith) below) in
          absurd (not_both heap addr c b (has_within heap addr c in_c) within between)
    ]

pub owner_is : (heap : HeapModel) (addr : ℕ) (held : List Block) (b : Block) → Holds heap held → Contains held b → IsWithin heap addr b → owner_of heap held addr ≡ Some (address_of heap b.place)
owner_is heap addr held b holds at within =
    ap (option_map (λ (b : Block). address_of heap b.place)) (found_first heap addr held b at.0 holds.apart at.1 at.2 within)
