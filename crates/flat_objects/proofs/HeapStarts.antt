-- Where objects of the heap start, and what a try of a free comes to.
use Rattle.std.proofs.Common.{◌≡◌, ◌<◌, ◌≤◌, ◌+◌, ◌∙◌, ℕ, true, false, cond, not, Option, Some, None, Result, Ok, Err, List, length, sym, ap, subst, arith}
use Rattle.std.specs.Prelude.{◌↔◌, ◌&&◌, nat_eq}
use Rattle.std.specs.Option.{option_eq}
use Rattle.std.proofs.lemmas.Bool.{and_parts, eq-eqb, eqb-true, false_from_ne_true, false≢true}
use Rattle.std.proofs.lemmas.Option.{none-some, same_Some}
use Rattle.hs_base.specs.declared.ends.Reason.{Reason}
use Rattle.hs_base.specs.declared.ends.Reason.TheVariants.{Again, NotStart}
use Rattle.hs_base.specs.declared.values.Pointer.TheVariants as pointer
use Rattle.hs_base.specs.Freeing.{freed_at, is_heap}
use Rattle.hs_base.specs.Object.{Object, is_dead, is_queued, object_at}
use Rattle.heap_blocks.specs.Held.{owner_of}
use Rattle.delay_scopes.specs.Queue.{IsStart, header_of}
use Rattle.flat_objects.specs.Memory.{Memory, Range, Heap, IsMemory, heap_of}
use Rattle.flat_objects.specs.Standing.{IsAt}
use Rattle.flat_objects.specs.Keeping.{IsHeaderOf, Keeps, KeepsAt, blocks_of}
use Rattle.flat_objects.specs.Tries.{IsHeapStart}
use Rattle.flat_objects.proofs.Owners.{own_inside, own_owner}
use Rattle.flat_objects.proofs.Queueing.{block_starts, free_bad, free_good, heap_range, range_heap, start_of_block}
use Rattle.flat_objects.proofs.Sought.{found_in}

-- whether an owner is an address, as a test
pub owner_test : (owner : Option ℕ) (addr : ℕ) → (option_eq nat_eq owner (Some addr) ≡ true) ↔ (owner ≡ Some addr)
owner_test None addr = ((λ t. absurd (false≢true t)), (λ e. absurd (none-some addr e)))
owner_test (Some x) addr = ((λ t. ap Some (eqb-true x addr t)), (λ e. eq-eqb x addr (same_Some x addr e)))

module _ (memory : Memory) (places : ℕ → ℕ) (objects : List Object) (keeps : Keeps memory places objects) (addr : ℕ) where
  -- where a block starts, its object does, and the other way round
  start_from : IsStart memory.heap.base (blocks_of memory places objects Heap) addr → IsHeapStart places objects addr
  start_from start =
      let has = start_of_block memory places objects keeps addr start in
      record { birth = has.birth; there = has.there; heap = heap_range (object_at objects has.birth).sort has.own; address = has.address }

  block_from : IsHeapStart places objects addr → IsStart memory.heap.base (blocks_of memory places objects Heap) addr
  block_from start =
      subst (IsStart memory.heap.base (blocks_of memory places objects Heap)) (sym start.address) (block_starts memory places objects keeps start.birth start.there start.heap)

  -- an address that is its own owner is a start
  pub start_owned : owner_of memory.heap (blocks_of memory places objects Heap) addr ≡ Some addr → IsHeapStart places objects addr
  start_owned owns =
      let found = found_in memory.heap addr addr (blocks_of memory places objects Heap) owns in
      start_from (record { block = found.0; contains = found.1; address = found.2 })

  pub owner_of_start : IsHeapStart places objects addr → owner_of memory.heap (blocks_of memory places objects Heap) addr ≡ Some addr
  owner_of_start start =
      let own = range_heap (object_at objects start.birth).sort start.heap in
      let owner = own_owner memory places objects keeps start.birth start.there 0 addr (record { there = start.there; inside = omega arith; address = omega (arith, start.address) }) in
      subst (λ (r : Range). owner_of (heap_of memory r) (blocks_of memory places objects r) addr ≡ Some (places start.birth)) own owner ∙ ap Some (sym start.address)

  -- the header in front of a start lies inside the bytes
  pub record HasHead : Type 0 where
    pub room : memory.heap.base + 32 ≤ addr
    pub inside : addr < length memory.bytes

  pub start_head : (locals heap : ℕ) → IsMemory locals heap memory → IsHeapStart places objects addr → HasHead
  start_head locals heap shape start =
      let own = range_heap (object_at objects start.birth).sort start.heap in
      let room = subst (λ r. (heap_of memory r).base + 32 ≤ places start.birth) own (keeps.standing start.birth start.there).room in
      let inside = own_inside memory places objects keeps start.birth start.there locals heap shape in
      record { room = omega (arith, start.address); inside = omega (arith, start.address) }

  pub start_header : (start : IsHeapStart places objects addr) → IsHeaderOf (header_of memory.bytes addr) start.birth (object_at objects start.birth)
  start_header start =
      subst (λ (a : ℕ). IsHeaderOf (header_of memory.bytes a) start.birth (object_at objects start.birth)) (sym start.address)
      (keeps.standing start.birth start.there).header

-- a free at no start of a heap object is bad
pub try_none : (places : ℕ → ℕ) (objects : List Object) (birth offset addr : ℕ) → IsAt places objects birth offset addr → (IsHeapStart places objects addr → ⊥) → freed_at objects birth offset ≡ Err NotStart
try_none places objects birth offset addr at none =
    let o = object_at objects birth in
    let fails : is_heap o.sort && not (is_dead o.standing) && nat_eq offset 0 ≡ false =
    false_from_ne_true (is_heap o.sort && not (is_dead o.standing) && nat_eq offset 0)
    (λ all. let both = and_parts (is_heap o.sort && not (is_dead o.standing)) (nat_eq offset 0) all in
    let first = and_parts (is_heap o.sort) (not (is_dead o.standing)) both.0 in
    let start : offset ≡ 0 = eqb-true offset 0 both.1 in
    none (record { birth = birth; there = at.there; heap = first.0; address = omega (arith, at.address) })) in
    ap (λ t. let r : Result ℕ Reason = cond t (cond (is_queued o.standing) (Err Again) (Ok birth)) (Err NotStart) in r) fails

module _ (locals heap : ℕ) (memory : Memory) (shape : IsMemory locals heap memory) (places : ℕ → ℕ) (objects : List Object) (birth offset addr : ℕ) (at : KeepsAt memory places objects (pointer.At birth offset) addr) where
  pub try_again : IsHeapStart places objects addr → (header_of memory.bytes addr).state ≡ 2 → freed_at objects birth offset ≡ Err Again
  try_again start two =
      free_bad locals heap memory shape places objects birth offset addr at Again (block_from memory places objects at.keeps addr start, two)

  pub try_good : IsHeapStart places objects addr → ((header_of memory.bytes addr).state ≡ 2 → ⊥) → freed_at objects birth offset ≡ Ok birth
  try_good start not_queued =
      let good = free_good locals heap memory shape places objects birth offset addr at (block_from memory places objects at.keeps addr start) not_queued in good.0
