-- Blocks of queued objects that are given back, one after another.
use Rattle.std.proofs.Common.{◌≡◌, ◌≢◌, ◌≤◌, ◌<◌, ◌+◌, ◌-◌, ◌^◌, inl, inr, ⊎_elim, ℕ, List, [], ◌∷◌, length, get_or, take, sym, ap, ◌∙◌, subst, arith}
use Rattle.std.specs.Prelude.{All, Contains, fold, nat_eq, not}
use Rattle.std.proofs.lemmas.Bool.{cases_order}
use Rattle.std.proofs.lemmas.List.{get_or-map, get_or-take, get_or_default, length-map, length-take-le, map_more}
use Rattle.std.proofs.lemmas.List.Elements.{All-from_get_or, All-head, All-tail}
use Rattle.std.proofs.lemmas.List.Kept.{AllPairs-filter}
use Rattle.std.proofs.lemmas.List.Sums.{fold_push}
use Rattle.hs_base.specs.Place.{Block, block_size, without_block}
use Rattle.heap_blocks.specs.declared.headers.Header.{Header}
use Rattle.heap_blocks.specs.Bytes.{ChangesOnly}
use Rattle.heap_blocks.specs.Heads.{header_at}
use Rattle.heap_blocks.specs.Held.{HeapModel, AreApart, HasBounds, HasHeaders, HaveOwnBirths, Holds, IsHeldObject, IsObject}
use Rattle.heap_blocks.specs.Laws.{AHeaderIsItsBytes, BlocksStayHeld}
use Rattle.delay_scopes.specs.Queue.{ScopesModel, IsStart, block_in, header_of}
use Rattle.delay_scopes.specs.Freed.{AreBeside}
use Rattle.delay_scopes.specs.Check.{ChangesWithin, IsReleased, births_of}
use Rattle.delay_scopes.specs.Walks.{MayRelease}
use Rattle.delay_scopes.proofs.Starts.{birth_is, length_is, start_block, starts_apart}

-- Births

-- blocks of different starts have different births
births_differ : (base : ℕ) (held : List Block) (a b : ℕ) → HaveOwnBirths held → (s : IsStart base held a) → (t : IsStart base held b) → a ≢ b → s.block.birth ≢ t.block.birth
births_differ base held a b births s t other e =
    let i = s.contains.0 in
    let j = t.contains.0 in
    let first : get_or held i s.block ≡ s.block = s.contains.2 in
    let second : get_or held j s.block ≡ t.block = get_or_default held j s.block t.block t.contains.1 ∙ t.contains.2 in
    let birth_a = ap (λ (c : Block). c.birth) first in
    let birth_b = ap (λ (c : Block). c.birth) second in
    elim (cases_order i j) [
      | inl q ↦ let same : s.block ≡ t.block = sym first ∙ ap (λ k. get_or held k s.block) q ∙ second in
          other (s.address ∙ ap (λ (c : Block). base + c.place + 32) same ∙ sym t.address)
      | inr (inl less) ↦ births i j s.block less t.contains.1 (birth_a ∙ e ∙ sym birth_b)
      | inr (inr less) ↦ births j i s.block less s.contains.1 (birth_b ∙ sym e ∙ sym birth_a)
    ]

-- a block is still held after others were given back
still_contains : BlocksStayHeld → (held : List Block) (b : Block) (births : List ℕ) → Contains held b → All (λ birth. b.birth ≢ birth) births → Contains (fold without_block held births) b
still_contains stay held b [] contains others = contains
still_contains stay held b (birth ∷ births) contains others =
    still_contains stay (without_block held birth) b births (stay held b birth contains (All-head (λ birth. b.birth ≢ birth) birth births others)) (All-tail (λ birth. b.birth ≢ birth) birth births others)

-- Bytes

-- the header of an object whose block is none of those within which bytes changed
header_outside : AHeaderIsItsBytes → (queue : List ℕ) (before after : List ℕ) (addr : ℕ) → ChangesWithin queue before after → All (λ a. AreBeside (addr - 32) 32 (a - 32) (block_size (header_of before a).size)) queue → header_of after addr ≡ header_of before addr
header_outside bytes_say queue before after addr changes beside =
    bytes_say before after (addr - 32)
    (λ from k low high. changes.outside from k (λ i d below. ⊎_elim (λ (h : addr - 32 + 32 ≤ get_or queue i d - 32). inl (omega arith)) (λ (h : get_or queue i d - 32 + block_size (header_of before (get_or queue i d)).size ≤ addr - 32). inr (omega arith)) (beside i d below)))

beside_other : (base : ℕ) (a b : Block) (x y n : ℕ) → x ≡ base + a.place + 32 → y ≡ base + b.place + 32 → n ≡ b.length → 32 ≤ a.length → AreApart a b → AreBeside (x - 32) 32 (y - 32) n
beside_other base a b x y n at at' long room (inl h) = inl (omega arith)
beside_other base a b x y n at at' long room (inr h) = inr (omega arith)

-- One block after another

-- what holds of so many items and the next one
front_and_next : (P : ℕ → Type 0) (xs : List ℕ) (k : ℕ) → k < length xs → All P (take (k + 1) xs) → All P (take k xs) × P (get_or xs k 0)
front_and_next P xs k below all =
    let long = length-take-le (k + 1) xs (omega arith) in
    let short = length-take-le k xs (omega arith) in (
      (λ i d less. subst P (get_or-take (k + 1) xs i d (omega arith) ∙ sym (get_or-take k xs i d (omega arith))) (all i d (omega arith))),
      subst P (get_or-take (k + 1) xs k 0 (omega arith)) (all k 0 (omega arith)),
    )

-- before a block in the queue, the blocks before it are given back
pub record AreReleased (heap now : HeapModel) (before bytes : List ℕ) (held : List Block) (queue : List ℕ) (k block : ℕ) : Type 0 where
  pub at : block ≡ block_in queue k
  pub released : IsReleased heap now before bytes held (take k queue)

module _ (scopes : ScopesModel) (heap : HeapModel) (before : List ℕ) (held : List Block) (queue : List ℕ) (may : MayRelease scopes heap before held queue) where
  queue_start : (k : ℕ) → k < length queue → IsStart heap.base held (get_or queue k 0)
  queue_start k below = (may.kept.queued.queued k 0 below).start

  module _ (now : HeapModel) (bytes : List ℕ) (k block : ℕ) (below : k < scopes.waiting) (yet : AreReleased heap now before bytes held queue k block) where
    within : k < length queue
    within = omega (arith, may.kept.queued.many)

    start : IsStart heap.base held (get_or queue k 0)
    start = queue_start k within

    release_object : block + 32 ≡ get_or queue k 0
    release_object = omega (arith, yet.at, start.address)

    block_within : block + 32 ≤ length before
    block_within =
        let own = start_block heap held (get_or queue k 0) may.kept.holds start in
        omega (arith, release_object, start.address, own.within, own.room, may.inside)

    pub release_inside : block + 32 ≤ length bytes
    release_inside = omega (arith, yet.released.changes.long, block_within)

    pub release_fits : block + 32 < 2 ^ 32
    release_fits =
        let reach = (may.kept.queued.queued k 0 within).reach in
        omega (arith, release_object)

    -- those that were given back are others
    gone_before : (j : ℕ) → j < length (take k queue) → j < k
    gone_before j less = omega (arith, length-take-le k queue (omega (arith, within)))

    pub heap_inside : now.base + now.len ≤ length bytes
    heap_inside = omega (arith, yet.released.bounds.0, yet.released.bounds.1, yet.released.changes.long, may.inside)

    module _ (bytes_say : AHeaderIsItsBytes) (stay : BlocksStayHeld) where
      header_same : header_of bytes (get_or queue k 0) ≡ header_of before (get_or queue k 0)
      header_same =
          header_outside bytes_say (take k queue) before bytes (get_or queue k 0) yet.released.changes
          (All-from_get_or (λ a. AreBeside (get_or queue k 0 - 32) 32 (a - 32) (block_size (header_of before a).size)) (take k queue) 0 (λ j less.
          let here : get_or (take k queue) j 0 ≡ get_or queue j 0 = get_or-take k queue j 0 (gone_before j less) in
          let there : j < length queue = omega (arith, gone_before j less, within) in
          let other = queue_start j there in
          let own = start_block heap held (get_or queue k 0) may.kept.holds start in
          subst (λ a. AreBeside (get_or queue k 0 - 32) 32 (a - 32) (block_size (header_of before a).size)) (sym here)
          (beside_other heap.base start.block other.block (get_or queue k 0) (get_or queue j 0) (block_size (header_of before (get_or queue j 0)).size) start.address other.address
          (length_is heap held (get_or queue j 0) may.kept.holds other before may.kept.headers may.inside) (omega (arith, own.room))
          (starts_apart heap held (get_or queue k 0) (get_or queue j 0) may.kept.holds start other (λ e. may.kept.queued.distinct j k 0 (gone_before j less) within (sym e))))))

      birth_here : (header_of before (get_or queue k 0)).birth ≡ start.block.birth
      birth_here = birth_is heap held (get_or queue k 0) may.kept.holds start before may.kept.headers may.inside

      contains_here : Contains (fold without_block held (births_of before (take k queue))) start.block
      contains_here =
          still_contains stay held start.block (births_of before (take k queue)) start.contains
          (All-from_get_or (λ birth. start.block.birth ≢ birth) (births_of before (take k queue)) 0 (λ j less e.
          let short : j < length (take k queue) = omega (arith, length-map (take k queue) (λ a. (header_of before a).birth)) in
          let there : j < length queue = omega (arith, gone_before j short, within) in
          let other = queue_start j there in
          let birth : get_or (births_of before (take k queue)) j 0 ≡ other.block.birth =
          get_or-map (λ a. (header_of before a).birth) (take k queue) j 0 0 short
          ∙ ap (λ a. (header_of before a).birth) (get_or-take k queue j 0 (gone_before j short))
          ∙ birth_is heap held (get_or queue j 0) may.kept.holds other before may.kept.headers may.inside in
          births_differ heap.base held (get_or queue k 0) (get_or queue j 0) may.births start other (λ q. may.kept.queued.distinct j k 0 (gone_before j short) within (sym q)) (e ∙ birth)))

      -- the object that is given back next
      object_here : (addr : ℕ) → addr ≡ block + 32 → IsObject now bytes addr (fold without_block held (births_of before (take k queue))) start.block
      object_here addr is = record {
        holds = yet.released.holds;
        headers = yet.released.headers;
        contains = contains_here;
        address = is ∙ release_object ∙ start.address ∙ ap (λ b. b + start.block.place + 32) (sym yet.released.bounds.0);
      }

      pub held_here : (addr : ℕ) → addr ≡ block + 32 → IsHeldObject now bytes addr
      held_here addr is = (fold without_block held (births_of before (take k queue)), start.block, object_here addr is)

      pub release_more : (after : HeapModel) (bytes' : List ℕ) (addr next : ℕ) → addr ≡ block + 32 → next ≡ (header_at bytes block).next → HasBounds now.base now.len after
          → ((h : List Block) (b : Block) → IsObject now bytes addr h b → HaveOwnBirths h → Holds after (without_block h b.birth))
          → ((h : List Block) (b : Block) → IsObject now bytes addr h b → HasHeaders after.base bytes' (without_block h b.birth))
          → ((h : List Block) (b : Block) → IsObject now bytes addr h b → ChangesOnly bytes bytes' (now.base + b.place) b.length)
          → AreReleased heap after before bytes' held queue (k + 1) next
      release_more after bytes' addr next is read bounds holds headers outside =
          let gone = births_of before (take k queue) in
          let rest = fold without_block held gone in
          let object = object_here addr is in
          let list : fold without_block held (births_of before (take (k + 1) queue)) ≡ without_block rest start.block.birth =
          ap (fold without_block held) (map_more (λ a. (header_of before a).birth) queue k 0 within)
          ∙ fold_push without_block held gone (header_of before (get_or queue k 0)).birth
          ∙ ap (without_block rest) birth_here in
          let changed = outside rest start.block object in
          let place : now.base + start.block.place ≡ get_or queue k 0 - 32 = omega (arith, start.address, yet.released.bounds.0) in
          let long : start.block.length ≡ block_size (header_of before (get_or queue k 0)).size =
          sym (length_is heap held (get_or queue k 0) may.kept.holds start before may.kept.headers may.inside) in
          record {
            at = read ∙ ap (λ p. (header_at bytes p).next) yet.at ∙ ap (λ (h : Header). h.next) header_same ∙ may.kept.queued.linked k within;
            released = record {
              bounds = (bounds.0 ∙ yet.released.bounds.0, bounds.1 ∙ yet.released.bounds.1);
              holds = subst (Holds after) (sym list) (holds rest start.block object yet.released.births);
              headers = subst (HasHeaders after.base bytes') (sym list) (headers rest start.block object);
              births = subst HaveOwnBirths (sym list) (AllPairs-filter (λ (a b : Block). a.birth ≢ b.birth) (λ c. not (nat_eq c.birth start.block.birth)) rest yet.released.births);
              changes = record {
                long = changed.long ∙ yet.released.changes.long;
                outside = λ from n beside.
                    let parts = front_and_next (λ a. AreBeside from n (a - 32) (block_size (header_of before a).size)) queue k within beside in
                    ⊎_elim (λ (h : from + n ≤ get_or queue k 0 - 32). changed.below from n (omega arith)) (λ (h : get_or queue k 0 - 32 + block_size (header_of before (get_or queue k 0)).size ≤ from). changed.above from n (omega arith)) parts.1
                    ∙ yet.released.changes.outside from n parts.0;
              };
            };
          }
