-- What stays where the queued blocks are given back.
use Rattle.std.proofs.Common.{◌≡◌, ◌≢◌, ◌≤◌, ◌<◌, ◌+◌, ◌-◌, ◌⊎◌, inl, inr, ⊎_elim, ℕ, true, List, [], ◌∷◌, length, get_or, sym, ap, ◌∙◌, subst, arith}
use Rattle.std.specs.Prelude.{All, Contains, fold, nat_eq, not, slice_index}
use Rattle.std.specs.List.{sum_by}
use Rattle.std.proofs.lemmas.Bool.{cases_order, eqb-false, not-true}
use Rattle.std.proofs.lemmas.List.{get_or-map, get_or_default, length-map}
use Rattle.std.proofs.lemmas.List.Elements.{All-cons, All-contains, All-contains_itself, All-filter, All-from_get_or, All-nil, filter_passes}
use Rattle.byte_memory.specs.Bytes.{part}
use Rattle.hs_base.specs.Place.{Block, block_size, without_block}
use Rattle.heap_blocks.specs.Heads.{header_at}
use Rattle.heap_blocks.specs.Held.{HeapModel, AreApart, Holds, IsBlock}
use Rattle.heap_blocks.specs.Laws.{AHeaderIsItsBytes}
use Rattle.delay_scopes.specs.Queue.{ScopesModel, KeepsQueue, header_of}
use Rattle.delay_scopes.specs.Freed.{AreBeside}
use Rattle.delay_scopes.specs.Pointers.{into_granule}
use Rattle.delay_scopes.specs.Check.{ChangesWithin, births_of, granules_of, left_to}
use Rattle.delay_scopes.proofs.Starts.{birth_is, length_is, start_block, swapped}
use Rattle.delay_scopes.proofs.Working.{sum_by_both}

-- Blocks that stay

-- a block that is left was held, and its birth is none of those given back
left_of_held : (held : List Block) (births : List ℕ) (b : Block) → Contains (fold without_block held births) b → Contains held b × All (λ birth. b.birth ≢ birth) births
left_of_held held [] b contains = (contains, All-nil (λ birth. b.birth ≢ birth))
left_of_held held (birth ∷ births) b contains =
    let keeps = λ (c : Block). not (nat_eq c.birth birth) in
    let rest = left_of_held (without_block held birth) births b contains in
    let passes = All-contains (λ c. keeps c ≡ true) (without_block held birth) b (filter_passes keeps held) rest.0 in (
      All-contains (Contains held) (without_block held birth) b (All-filter keeps (Contains held) held (All-contains_itself held)) rest.0,
      All-cons (λ n. b.birth ≢ n) birth births (eqb-false b.birth birth (not-true (nat_eq b.birth birth) passes)) rest.1,
    )

blocks_apart : (heap : HeapModel) (held : List Block) (a b : Block) → Holds heap held → Contains held a → Contains held b → a.birth ≢ b.birth → AreApart a b
blocks_apart heap held a b holds in_a in_b other =
    let i = in_a.0 in
    let j = in_b.0 in
    let first : get_or held i a ≡ a = in_a.2 in
    let second : get_or held j a ≡ b = get_or_default held j a b in_b.1 ∙ in_b.2 in
    elim (cases_order i j) [
      | inl e ↦ absurd (other (ap (λ (c : Block). c.birth) (sym first ∙ ap (λ k. get_or held k a) e ∙ second)))
      | inr (inl less) ↦ subst (λ (c : Block). AreApart c b) first (subst (AreApart (get_or held i a)) second (holds.apart i j a less in_b.1))
      | inr (inr less) ↦ swapped b a (subst (λ (c : Block). AreApart c a) second (subst (AreApart (get_or held j a)) first (holds.apart j i a less in_a.1)))
    ]

beside_block : (base : ℕ) (a b : Block) (addr from k n : ℕ) → addr ≡ base + b.place + 32 → n ≡ b.length → base + a.place ≤ from → from + k ≤ base + a.place + a.length → AreApart a b → AreBeside from k (addr - 32) n
beside_block base a b addr from k n at long low high (inl h) = inl (omega arith)
beside_block base a b addr from k n at long low high (inr h) = inr (omega arith)

module _ (scopes : ScopesModel) (heap : HeapModel) (before after : List ℕ) (held : List Block) (queue : List ℕ) (kept : KeepsQueue scopes heap before held queue) (inside : heap.base + heap.len ≤ length before) (changes : ChangesWithin queue before after) where
  -- the bytes of a block that is left
  pub left_block_stays : (b : Block) (from k : ℕ) → Contains (fold without_block held (births_of before queue)) b → heap.base + b.place ≤ from → from + k ≤ heap.base + b.place + b.length → part after from k ≡ part before from k
  left_block_stays b from k contains low high =
      let left = left_of_held held (births_of before queue) b contains in
      changes.outside from k (All-from_get_or (λ addr. AreBeside from k (addr - 32) (block_size (header_of before addr).size)) queue 0 (λ i below.
      let addr = get_or queue i 0 in
      let start = (kept.queued.queued i 0 below).start in
      let birth : get_or (births_of before queue) i 0 ≡ (header_of before addr).birth = get_or-map (λ a. (header_of before a).birth) queue i 0 0 below in
      let within : i < length (births_of before queue) = omega (arith, length-map queue (λ a. (header_of before a).birth)) in
      let other : b.birth ≢ start.block.birth =
      λ e. left.1 i 0 within (e ∙ sym (birth ∙ birth_is heap held addr kept.holds start before kept.headers inside)) in
      beside_block heap.base b start.block addr from k (block_size (header_of before addr).size) start.address (length_is heap held addr kept.holds start before kept.headers inside) low high
      (blocks_apart heap held b start.block kept.holds left.0 start.contains other)))

  -- its header
  pub left_header_stays : AHeaderIsItsBytes → (b : Block) → Contains (fold without_block held (births_of before queue)) b → header_at after (heap.base + b.place) ≡ header_at before (heap.base + b.place)
  left_header_stays bytes_say b contains =
      let own = All-contains (IsBlock heap.len) held b kept.holds.blocks (left_of_held held (births_of before queue) b contains).0 in
      bytes_say before after (heap.base + b.place) (λ from k low high. left_block_stays b from k contains low (omega (arith, own.room)))

  -- bytes beside the heap
  pub beside_heap_stays : (from k : ℕ) → (from + k ≤ heap.base) ⊎ (heap.base + heap.len ≤ from) → part after from k ≡ part before from k
  beside_heap_stays from k beside =
      changes.outside from k (All-from_get_or (λ addr. AreBeside from k (addr - 32) (block_size (header_of before addr).size)) queue 0 (λ i below.
      let addr = get_or queue i 0 in
      let start = (kept.queued.queued i 0 below).start in
      let block = start_block heap held addr kept.holds start in
      let long = length_is heap held addr kept.holds start before kept.headers inside in
      ⊎_elim (λ (h : from + k ≤ heap.base). inl (omega (arith, start.address))) (λ (h : heap.base + heap.len ≤ from). inr (omega (arith, start.address, block.within))) beside))

-- Totals

pub left_is_difference : (bytes counts words : List ℕ) (addr : ℕ) → ((granule : ℕ) → into_granule granule words ≤ slice_index counts granule)
    → left_to bytes counts words addr + sum_by (λ granule. into_granule granule words) (granules_of bytes addr) ≡ sum_by (slice_index counts) (granules_of bytes addr)
left_is_difference bytes counts words addr covered =
    sum_by_both (λ granule. slice_index counts granule - into_granule granule words) (λ granule. into_granule granule words) (slice_index counts) (λ granule. let less = covered granule in omega arith) (granules_of bytes addr)
