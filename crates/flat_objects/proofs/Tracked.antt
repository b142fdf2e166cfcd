-- A memory that tracks what may be freed, after a change.
use Rattle.std.proofs.Common.{◌≡◌, ◌<◌, ◌-◌, ◌/◌, ℕ, zero, suc, true, cond, false, List, [], ◌∷◌, ◌++◌, length, get_or, set, refl, sym, ap, ◌∙◌, subst, arith}
use Rattle.std.specs.Prelude.{All, Contains, map}
use Rattle.std.proofs.lemmas.List.{get_or_default}
use Rattle.std.proofs.lemmas.List.Elements.{All-map}
use Rattle.hs_base.specs.declared.values.Pointer.{Pointer}
use Rattle.hs_base.specs.Access.{with_object}
use Rattle.hs_base.specs.Freeing.{is_heap}
use Rattle.hs_base.specs.Object as object
use Rattle.hs_base.specs.Object.{Object, Standing, is_dead, is_queued, no_object, object_at}
use Rattle.hs_base.specs.Place.{Block}
use Rattle.heap_blocks.specs.declared.headers.Header.{Header}
use Rattle.heap_blocks.specs.Bytes.{ChangesOnly}
use Rattle.heap_blocks.specs.Heads.{header_at}
use Rattle.count_table.specs.Table.{Table}
use Rattle.delay_scopes.specs.Queue.{HasQueue, ScopesModel, header_of}
use Rattle.flat_objects.specs.Memory.{Memory, Heap, IsMemory, pin_room}
use Rattle.flat_objects.specs.Standing.{IsThere}
use Rattle.flat_objects.specs.Keeping.{Keeps, blocks_of}
use Rattle.flat_objects.specs.Answering.{IsChanged}
use Rattle.flat_objects.specs.Counting.{AreCounts, AreQueued, Frees, Tracks, living_pointers, pointers_in}
use Rattle.flat_objects.proofs.Blocks.{there_below}
use Rattle.flat_objects.proofs.Changing.{SameShape, headers_same, shapes, with_bytes}
use Rattle.flat_objects.proofs.Counted.{keeps_counting, leads_still, with_counts}

-- Queues

-- a queue stays where the headers of its objects do, and the blocks that are held are still held
pub links_kept : (scopes : ScopesModel) (base : ℕ) (before after : List ℕ) (held more : List Block) (queue : List ℕ) → HasQueue scopes base before held queue → All (λ addr. header_of after addr ≡ header_of before addr) queue → ((b : Block) → Contains held b → Contains more b) → HasQueue scopes base after more queue
links_kept scopes base before after held more queue has same kept = record {
  many = has.many;
  first = has.first;
  last = has.last;
  queued = λ k d less.
      let old = has.queued k d less in
      let header = same k d less in
      record {
        start = record { block = old.start.block; contains = kept old.start.block old.start.contains; address = old.start.address };
        state = ap (λ (h : Header). h.state) header ∙ old.state;
        reach = omega (arith, old.reach, ap (λ (h : Header). h.size) header);
      };
  distinct = has.distinct;
  linked = λ k less. ap (λ (h : Header). h.next) (same k 0 less) ∙ has.linked k less;
}

pub queued_there : (s : Standing) → is_queued s ≡ true → is_dead s ≡ false
queued_there object.Live h = refl
queued_there (object.Queued line) h = refl
queued_there object.Dead h = absurd (cc)

-- the objects of a queue are not dead
pub queue_there : (objects : List Object) (queue : List ℕ) → AreQueued objects queue → (k d : ℕ) → k < length queue → IsThere objects (get_or queue k d)
queue_there objects queue are k d less =
    let birth = get_or queue k d in
    queued_there (object_at objects birth).standing ((are.exact birth).0 (k, less, get_or_default queue k birth d less))

pub queued_still : (before after : List Object) (queue : List ℕ) → ((birth : ℕ) → SameShape (object_at before birth) (object_at after birth)) → AreQueued before queue → AreQueued after queue
queued_still before after queue same are = record {
  heap = λ k d less. ap is_heap (same (get_or queue k d)).sort ∙ are.heap k d less;
  exact = λ birth. (
    λ at. ap is_queued (same birth).standing ∙ (are.exact birth).0 at,
    λ queued. (are.exact birth).1 (ap is_queued (sym (same birth).standing) ∙ queued),
  );
  distinct = are.distinct;
}

-- What a memory tracks

-- objects of the same shapes stand in the same blocks, with the same headers
pub tracks_kept : (memory next : Memory) (places : ℕ → ℕ) (objects after : List Object) (frees : Frees) → Tracks memory places objects frees → ((birth : ℕ) → SameShape (object_at objects birth) (object_at after birth)) → next.heap.base ≡ memory.heap.base → next.scopes ≡ memory.scopes → pin_room next ≡ pin_room memory
    → blocks_of next places after Heap ≡ blocks_of memory places objects Heap → ((birth : ℕ) → IsThere objects birth → header_at next.bytes (places birth - 32) ≡ header_at memory.bytes (places birth - 32)) → AreCounts places (living_pointers after ++ frees.pins) next.counts.counts → Tracks next places after frees
tracks_kept memory next places objects after frees tracks same base scopes room blocks headers counts = record {
  counts = counts;
  pinned = λ i d less. leads_still objects after same (get_or frees.pins i d) (tracks.pinned i d less);
  few = omega (arith, tracks.few);
  queued = queued_still objects after frees.queue same tracks.queued;
  links =
      let kept = links_kept memory.scopes memory.heap.base memory.bytes next.bytes (blocks_of memory places objects Heap) (blocks_of next places after Heap) (map places frees.queue) tracks.links
      (All-map (λ addr. header_of next.bytes addr ≡ header_of memory.bytes addr) places frees.queue (λ k d less. headers (get_or frees.queue k d) (queue_there objects frees.queue tracks.queued k d less)))
      (λ b held. subst (λ (l : List Block). Contains l b) (sym blocks) held) in
      subst (λ (s : ScopesModel). HasQueue s next.heap.base next.bytes (blocks_of next places after Heap) (map places frees.queue)) (sym scopes)
      (subst (λ (b : ℕ). HasQueue memory.scopes b next.bytes (blocks_of next places after Heap) (map places frees.queue)) (sym base) kept);
  open_scopes = ap (λ (s : ScopesModel). s.depth) scopes ∙ tracks.open_scopes;
}

pub same_living : (objects : List Object) (birth : ℕ) (new : Object) → birth < length objects → pointers_in new ≡ pointers_in (object_at objects birth) → living_pointers (set objects birth new) ≡ living_pointers objects
same_living [] birth new less same = absurd (omega arith)
same_living (o ∷ objects) zero new less same = ap (λ ps. ps ++ living_pointers objects) same
same_living (o ∷ objects) (suc birth) new less same = ap (λ ps. pointers_in o ++ ps) (same_living objects birth new (omega arith) same)

-- One object changes, and the bytes from its start to its end

module _ (locals heap : ℕ) (memory : Memory) (shape : IsMemory locals heap memory) (places : ℕ → ℕ) (objects : List Object) (keeps : Keeps memory places objects) (birth : ℕ) (there : IsThere objects birth)
    (new : Object) (like : SameShape (object_at objects birth) new) (bytes : List ℕ) (changes : ChangesOnly memory.bytes bytes (places birth) (object_at objects birth).size)
    (change : IsChanged (with_bytes memory bytes) places objects (with_object objects birth new)) (frees : Frees) (tracks : Tracks memory places objects frees) where
  -- its pointers stay
  pub tracks_within : new.pointers ≡ (object_at objects birth).pointers → Tracks (with_bytes memory bytes) places (with_object objects birth new) frees
  tracks_within same =
      let long : length bytes / 4 ≡ length memory.bytes / 4 = ap (λ n. n / 4) changes.long in
      let pointers : pointers_in new ≡ pointers_in (object_at objects birth) = λ i. cond (is_dead (like.standing i)) [] (same i) in
      tracks_kept memory (with_bytes memory bytes) places objects (with_object objects birth new) frees tracks (shapes objects birth there new like) refl refl (ap (λ n. memory.counts.most - n) long) (change.blocks memory Heap)
      (headers_same locals heap memory shape places objects keeps birth there bytes changes)
      (subst (λ (ps : List Pointer). AreCounts places (ps ++ frees.pins) memory.counts.counts) (sym (same_living objects birth new (there_below objects birth there) pointers)) tracks.counts)

  -- its pointers are counted
  pub tracks_counted : (counts : Table) → counts.most ≡ memory.counts.most → AreCounts places (living_pointers (with_object objects birth new) ++ frees.pins) counts.counts → Tracks (with_counts (with_bytes memory bytes) counts) places (with_object objects birth new) frees
  tracks_counted counts most are =
      let long : length bytes / 4 ≡ length memory.bytes / 4 = ap (λ n. n / 4) changes.long in
      tracks_kept memory (with_counts (with_bytes memory bytes) counts) places objects (with_object objects birth new) frees tracks (shapes objects birth there new like) refl refl (λ i. most i - long i) (change.blocks memory Heap)
      (headers_same locals heap memory shape places objects keeps birth there bytes changes) are

pub changed_counting : (memory : Memory) (counts : Table) (places : ℕ → ℕ) (before after : List Object) → IsChanged memory places before after → IsChanged (with_counts memory counts) places before after
changed_counting memory counts places before after change = record {
  keeps = keeps_counting memory counts places after change.keeps;
  many = change.many;
  blocks = change.blocks;
  stand = change.stand;
}
