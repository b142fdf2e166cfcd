-- What frees and the ends of scopes come to.
use Rattle.std.proofs.Common.{◌≡◌, ◌<◌, ◌≤◌, ◌+◌, ◌-◌, ◌∙◌, ◌⊎◌, inl, inr, ℕ, suc, Bool, true, not, Option, Some, None, Result, Ok, Err, List, [], ◌∷◌, ◌++◌, length, get_or, refl, sym, ap, subst, arith}
use Rattle.std.specs.Prelude.{Contains, OnOk, OnErr, fold, map, nat_eq, option_map}
use Rattle.std.proofs.lemmas.Bool.{cases_Bool, cond-true, cond-false}
use Rattle.hs_base.specs.declared.ends.BadFree.{BadFree}
use Rattle.hs_base.specs.declared.ends.Reason.{Reason}
use Rattle.hs_base.specs.declared.ends.Reason.TheVariants.{Held}
use Rattle.byte_memory.specs.Bytes.{part}
use Rattle.hs_base.specs.Freeing.{check_numbers, first_held, freed_at, line_of_free, objects_of, pointers_inside, queued}
use Rattle.hs_base.specs.Object as object
use Rattle.hs_base.specs.Object.{Object, Standing, is_queued, object_at}
use Rattle.hs_base.specs.Place.{Block, without_block}
use Rattle.count_table.specs.Table.{Table}
use Rattle.heap_blocks.specs.declared.headers.Header.{Header}
use Rattle.heap_blocks.specs.Heads.{header_at}
use Rattle.heap_blocks.specs.Held.{HeapModel, HasBounds, Holds}
use Rattle.delay_scopes.specs.Check.{ChangesWithin, IsReady, IsReleased, answer_of, births_of, checked, no_scopes}
use Rattle.delay_scopes.specs.Freed as queue_freed
use Rattle.delay_scopes.specs.Freed.{IsQueuedNow}
use Rattle.delay_scopes.specs.Pointers.{LowersBy, words_inside}
use Rattle.delay_scopes.specs.Queue.{HasQueue, KeepsQueue, ScopesModel, header_of}
use Rattle.flat_objects.specs.Memory.{Memory, Heap, IsMemory, SameFrame}
use Rattle.flat_objects.specs.Standing.{IsThere}
use Rattle.flat_objects.specs.Keeping.{Keeps, IsStateOf, blocks_of}
use Rattle.flat_objects.specs.Counting.{Frees, HasScopes, Tracks}
use Rattle.flat_objects.specs.Freeing.{AnswersCheck, AnswersFree, AreBuried, IsInScope, MayFree, MayLeave, number_of}
use Rattle.flat_objects.proofs.Counted.{keeps_any}
use Rattle.flat_objects.proofs.HeldBlocks.{has_headers}
use Rattle.flat_objects.proofs.Numbers.{check_same, ready}
use Rattle.flat_objects.proofs.Queueing.{free_bad, free_changed, free_good, free_tracked}
use Rattle.flat_objects.proofs.Released.{all_buried}
use Rattle.flat_objects.proofs.Tracked.{queue_there}

-- A free

-- the queue and what it stands on
pub queue_kept : (memory : Memory) (places : ℕ → ℕ) (objects : List Object) (frees : Frees) → Keeps memory places objects → Tracks memory places objects frees → KeepsQueue memory.scopes memory.heap memory.bytes (blocks_of memory places objects Heap) (map places frees.queue)
queue_kept memory places objects frees keeps tracks = record { holds = keeps.held Heap; headers = has_headers memory places objects Heap keeps; queued = tracks.links }

module _ (memory : Memory) (scopes : ScopesModel) (bytes : List ℕ) (addr line : ℕ) where
  abbrev next_free : Memory
  next_free = record memory { bytes = bytes; scopes = scopes }

  -- the bytes stay as many
  pub free_long : (result : Result (Unit {0}) BadFree) → OnOk result (IsQueuedNow memory.scopes memory.bytes bytes addr line) → OnErr result ((scopes ≡ memory.scopes) × (bytes ≡ memory.bytes)) → length bytes ≡ length memory.bytes
  free_long (Ok u) now same = now.long
  free_long (Err bad) now same = ap length same.1

  pub free_answers : (locals heap : ℕ) → IsMemory locals heap memory → (places : ℕ → ℕ) (objects : List Object) (frees : Frees) (birth offset : ℕ) → MayFree memory places objects frees birth offset addr → (result : Result (Unit {0}) BadFree)
      → ((held : List Block) → Holds memory.heap held → queue_freed.AnswersFree memory.heap.base memory.bytes held addr line result)
      → ((held : List Block) (queue : List ℕ) → KeepsQueue memory.scopes memory.heap memory.bytes held queue → OnOk result (KeepsQueue scopes memory.heap bytes held (queue ++ addr ∷ [])))
      → OnOk result (IsQueuedNow memory.scopes memory.bytes bytes addr line) → scopes.depth ≡ memory.scopes.depth → OnErr result ((scopes ≡ memory.scopes) × (bytes ≡ memory.bytes))
      → AnswersFree memory next_free places objects frees line result (freed_at objects birth offset)
  free_answers locals heap shape places objects frees birth offset may (Ok u) answer queued now depth same =
      let held = blocks_of memory places objects Heap in
      let told = answer held (may.at.keeps.held Heap) in
      let good = free_good locals heap memory shape places objects birth offset addr may.at told.0 told.1 in
      let addr_is : addr ≡ places birth = good.1 in
      let now_there = subst (λ (a : ℕ). IsQueuedNow memory.scopes memory.bytes bytes a line) addr_is now in
      let kept = queued held (map places frees.queue) (queue_kept memory places objects frees may.at.keeps may.tracks) in
      let has = subst (λ (a : ℕ). HasQueue scopes memory.heap.base bytes held (map places frees.queue ++ a ∷ [])) addr_is kept.queued in (
        birth,
        good.0,
        record {
          change = free_changed locals heap memory shape places objects may.at.keeps frees may.tracks birth line may.at.stands.there good.2 good.3 scopes bytes now_there;
          tracks = free_tracked locals heap memory shape places objects may.at.keeps frees may.tracks birth line may.at.stands.there good.2 good.3 scopes bytes now_there has depth;
        },
      )
  free_answers locals heap shape places objects frees birth offset may (Err bad) answer queued now depth same =
      let told = answer (blocks_of memory places objects Heap) (may.at.keeps.held Heap) in
      (free_bad locals heap memory shape places objects birth offset addr may.at bad.reason told.1, told.0, λ i. record memory { bytes = same.1 i; scopes = same.0 i })

-- The end of a scope

held_in : (p : ℕ → Bool) (queue : List ℕ) (b : ℕ) → first_held p queue ≡ Some b → Contains queue b
held_in p [] b found = absurd (cc)
held_in p (c ∷ queue) b found =
    elim (cases_Bool (p c)) [
      | inl is_held ↦ let here = sym (cond-true (p c) (Some c) (first_held p queue) is_held) ∙ found in (0, omega arith, cc)
      | inr free ↦
          let later = held_in p queue b (sym (cond-false (p c) (Some c) (first_held p queue) free) ∙ found) in
          (later.0 + 1, omega (arith, later.1), (let e : later.0 + 1 ≡ suc later.0 = omega arith in ap (λ k. get_or (c ∷ queue) k b) e) ∙ later.2)
    ]

queued_line : (s : Standing) (h : Header) → IsStateOf s h → is_queued s ≡ true → h.freed ≡ line_of_free s
queued_line object.Live h is waits = absurd (cc)
queued_line (object.Queued line) h is waits = is.1
queued_line object.Dead h is waits = absurd (cc)

module _ (locals heap : ℕ) (memory : Memory) (shape : IsMemory locals heap memory) (places : ℕ → ℕ) (objects : List Object) (frees : Frees) (may : MayLeave memory places objects frees)
    (after : HeapModel) (bytes : List ℕ) (counts : Table) (scopes : ScopesModel) where
  abbrev next : Memory
  next = record memory { heap = after; bytes = bytes; counts = counts; scopes = scopes }

  abbrev held_blocks : List Block
  held_blocks = blocks_of memory places objects Heap

  abbrev queue : List ℕ
  queue = map places frees.queue

  pub may_check : IsReady memory.scopes memory.heap memory.bytes memory.counts memory.forms held_blocks queue
  may_check = ready locals heap memory shape places objects may.keeps frees may.tracks

  -- an inner scope
  pub inner_kept : scopes ≡ record memory.scopes { depth = memory.scopes.depth - 1 } → after ≡ memory.heap → bytes ≡ memory.bytes → counts ≡ memory.counts → Keeps next places objects × Tracks next places objects (record frees { scopes = frees.scopes - 1 })
  inner_kept scopes_is heap_is bytes_is counts_is =
      let depth : memory.scopes.depth - 1 ≡ frees.scopes - 1 = ap (λ n. n - 1) may.tracks.open_scopes in
      let same : record memory { scopes = record memory.scopes { depth = memory.scopes.depth - 1 } } ≡ next = λ i. record memory { heap = sym heap_is i; bytes = sym bytes_is i; counts = sym counts_is i; scopes = sym scopes_is i } in
      let less : Frees = record frees { scopes = frees.scopes - 1 } in (
        subst (λ (m : Memory). Keeps m places objects) same (keeps_any memory memory.counts (record memory.scopes { depth = memory.scopes.depth - 1 }) places objects may.keeps),
        subst (λ (m : Memory). Tracks m places objects less) same
            (record { counts = may.tracks.counts; pinned = may.tracks.pinned; few = may.tracks.few; queued = may.tracks.queued; links = record { many = may.tracks.links.many; first = may.tracks.links.first; last = may.tracks.links.last; queued = may.tracks.links.queued; distinct = may.tracks.links.distinct; linked = may.tracks.links.linked }; open_scopes = depth }),
      )

  -- where an object is held, the queue and the open scopes stay
  still_scopes : (held : Option ℕ) → scopes ≡ record memory.scopes { named = held } → after ≡ memory.heap → bytes ≡ memory.bytes → HasScopes next places objects frees.queue frees.scopes
  still_scopes held scopes_is heap_is bytes_is =
      let links = may.tracks.links in
      subst (λ (m : Memory). HasScopes m places objects frees.queue frees.scopes) (λ i. record memory { heap = sym heap_is i; bytes = sym bytes_is i; counts = counts; scopes = sym scopes_is i }) (record {
        queued = may.tracks.queued;
        links = record { many = links.many; first = links.first; last = links.last; queued = links.queued; distinct = links.distinct; linked = links.linked };
        open_scopes = may.tracks.open_scopes;
      })

  -- the outermost scope
  pub outer_answers : (result : Result (Unit {0}) BadFree) (meant : Option ℕ) → check_numbers objects frees.queue (number_of objects frees) ≡ meant → result ≡ answer_of memory.bytes (checked memory.forms memory.bytes memory.counts.counts queue) → LowersBy (words_inside memory.forms memory.bytes queue) memory.counts counts
      → OnOk result (scopes ≡ no_scopes memory.scopes.named) → OnOk result (IsReleased memory.heap after memory.bytes bytes held_blocks queue) → OnErr result (scopes ≡ record memory.scopes { named = checked memory.forms memory.bytes memory.counts.counts queue }) → OnErr result ((after ≡ memory.heap) × (bytes ≡ memory.bytes))
      → (ChangesWithin queue memory.bytes bytes → (b : Block) (from k : ℕ) → Contains (fold without_block held_blocks (births_of memory.bytes queue)) b → memory.heap.base + b.place ≤ from → from + k ≤ memory.heap.base + b.place + b.length → part bytes from k ≡ part memory.bytes from k)
      → (ChangesWithin queue memory.bytes bytes → (from k : ℕ) → (from + k ≤ memory.heap.base) ⊎ (memory.heap.base + memory.heap.len ≤ from) → part bytes from k ≡ part memory.bytes from k)
      → AnswersCheck memory next places objects frees result (check_numbers objects frees.queue (number_of objects frees))
  outer_answers (Ok u) None meant_is answer lowered closed released named same left beside =
      let buried = all_buried locals heap memory shape places objects may.keeps frees may.tracks meant_is after bytes counts memory.scopes.named released lowered (left released.changes) (beside released.changes) in
      (meant_is, subst (λ (s : ScopesModel). AreBuried memory (record memory { heap = after; bytes = bytes; counts = counts; scopes = s }) places objects frees) (sym closed) buried)
  outer_answers (Ok u) (Some b) meant_is answer lowered closed released named same left beside =
      let check = check_same locals heap memory shape places objects may.keeps frees may.tracks ∙ ap (option_map places) meant_is in
      let clash = answer ∙ ap (answer_of memory.bytes) check in absurd (cc)
  outer_answers (Err bad) None meant_is answer lowered closed released named same left beside =
      let check = check_same locals heap memory shape places objects may.keeps frees may.tracks ∙ ap (option_map places) meant_is in
      let clash = answer ∙ ap (answer_of memory.bytes) check in absurd (cc)
  outer_answers (Err bad) (Some b) meant_is answer lowered closed released named same left beside =
      let check = check_same locals heap memory shape places objects may.keeps frees may.tracks ∙ ap (option_map places) meant_is in
      let told = answer ∙ ap (answer_of memory.bytes) check in
      let line_is : bad ≡ record { reason = Held; line = (header_of memory.bytes (places b)).freed } = cc in
      let at = held_in (λ b. not (nat_eq (number_of objects frees b - pointers_inside b (objects_of objects frees.queue)) 0)) frees.queue b meant_is in
      let there = subst (IsThere objects) at.2 (queue_there objects frees.queue may.tracks.queued at.0 b at.1) in
      let waits = (may.tracks.queued.exact b).0 at in
      let freed = queued_line (object_at objects b).standing (header_at memory.bytes (places b - 32)) (may.keeps.standing b there).header.state waits in (
        b,
        meant_is,
        record {
          bad_free = line_is ∙ ap (λ (n : ℕ). let bad : BadFree = record { reason = Held; line = n } in bad) freed;
          keeps = subst (λ (m : Memory). Keeps m places objects) (λ i. record memory { heap = sym same.0 i; bytes = sym same.1 i; counts = counts; scopes = scopes }) (keeps_any memory counts scopes places objects may.keeps);
          scopes = still_scopes (checked memory.forms memory.bytes memory.counts.counts queue) named same.0 same.1;
          named = ap (λ (s : ScopesModel). s.named) named ∙ check;
        },
      )

-- the frame

pub record SameSizes (memory : Memory) (after : HeapModel) (bytes : List ℕ) (counts : Table) : Type 0 where
  pub bounds : HasBounds memory.heap.base memory.heap.len after
  pub long : length bytes ≡ length memory.bytes
  pub most : counts.most ≡ memory.counts.most
  pub granules : length counts.counts ≡ length memory.counts.counts

module _ (memory : Memory) (after : HeapModel) (bytes : List ℕ) (counts : Table) where
  pub inner_sizes : after ≡ memory.heap → bytes ≡ memory.bytes → counts ≡ memory.counts → SameSizes memory after bytes counts
  inner_sizes heap_is bytes_is counts_is = record {
    bounds = (ap (λ (h : HeapModel). h.base) heap_is, ap (λ (h : HeapModel). h.len) heap_is);
    long = ap length bytes_is;
    most = ap (λ (t : Table). t.most) counts_is;
    granules = ap (λ (t : Table). length t.counts) counts_is;
  }

  pub outer_sizes : (result : Result (Unit {0}) BadFree) (held : List Block) (addrs : List ℕ) → OnOk result (IsReleased memory.heap after memory.bytes bytes held addrs) → OnErr result ((after ≡ memory.heap) × (bytes ≡ memory.bytes)) → LowersBy (words_inside memory.forms memory.bytes addrs) memory.counts counts → SameSizes memory after bytes counts
  outer_sizes (Ok u) held addrs released same lowered = record { bounds = released.bounds; long = released.changes.long; most = lowered.most; granules = lowered.long }
  outer_sizes (Err bad) held addrs released same lowered = record {
    bounds = (ap (λ (h : HeapModel). h.base) same.0, ap (λ (h : HeapModel). h.len) same.0);
    long = ap length same.1;
    most = lowered.most;
    granules = lowered.long;
  }

  pub leave_frame : (scopes : ScopesModel) → SameSizes memory after bytes counts → SameFrame memory (record memory { heap = after; bytes = bytes; counts = counts; scopes = scopes })
  leave_frame scopes same = record { statics = (refl, refl); locals = (refl, refl); heap = same.bounds; long = same.long; most = same.most; forms = refl }

-- behind a good free a scope is still open
pub good_free : (old new : Memory) (places : ℕ → ℕ) (objects : List Object) (frees : Frees) (line : ℕ) (u : Unit {0}) (meant : Result ℕ Reason) → AnswersFree old new places objects frees line (Ok u) meant → (0 < frees.scopes) → IsInScope new
good_free old new places objects frees line u meant told some =
    let queued_now = told.2 in
    (places, queued objects told.0 line, record frees { queue = frees.queue ++ told.0 ∷ [] }, record { keeps = queued_now.change.keeps; tracks = queued_now.tracks; in_scope = some })
