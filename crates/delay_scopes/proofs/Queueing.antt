-- What a free leaves that queues an object.
use Rattle.std.proofs.Common.{◌≡◌, ◌≢◌, ◌≤◌, ◌<◌, ◌+◌, ◌-◌, ◌^◌, ◌⊎◌, inl, inr, ⊎_elim, ℕ, List, [], ◌∷◌, ◌++◌, length, get_or, refl, sym, ap, ◌∙◌, subst, arith}
use Rattle.std.specs.Prelude.{All, nat_eq}
use Rattle.std.proofs.lemmas.Bool.{cases_lt, cases_order, cond-true, cond-false, eq-eqb, ne_eqb}
use Rattle.std.proofs.lemmas.List.{get_or_append_left, get_or_past, get_or_push, length_push}
use Rattle.std.proofs.lemmas.List.Elements.{All-from_get_or, All-push}
use Rattle.std.proofs.lemmas.List.Quantifiers.{all_pairs_push}
use Rattle.byte_memory.specs.Bytes.{part}
use Rattle.hs_base.specs.Place.{Block, block_size}
use Rattle.heap_blocks.specs.declared.headers.Header.{Header}
use Rattle.heap_blocks.specs.Bytes.{ChangesOnly}
use Rattle.heap_blocks.specs.Heads.{header_at}
use Rattle.heap_blocks.specs.Held.{HeapModel, AreApart, HasHeaders, IsBlock}
use Rattle.heap_blocks.specs.Laws.{AHeaderStays, ChangesWiden, HeadersMayBeWritten}
use Rattle.delay_scopes.specs.Queue.{ScopesModel, HasQueue, IsQueued, IsStart, KeepsQueue, appended, block_in, header_of}
use Rattle.delay_scopes.specs.Freed.{IsQueuedNow, linked_header, queued_header}
use Rattle.delay_scopes.proofs.Counting.{room_for_more}
use Rattle.delay_scopes.proofs.Starts.{birth_is, length_is, start_block, start_ends, starts_apart}

-- headers of different starts have no byte in common
headers_apart : (heap : HeapModel) (a b : Block) (x y : ℕ) → x ≡ heap.base + a.place + 32 → y ≡ heap.base + b.place + 32 → IsBlock heap.len a → IsBlock heap.len b → AreApart a b → (x - 32 + 32 ≤ y - 32) ⊎ (y ≤ x - 32)
headers_apart heap a b x y at at' block block' (inl h) = inl (omega (arith, block.room))
headers_apart heap a b x y at at' block block' (inr h) = inr (omega (arith, block'.room))

module _ (scopes : ScopesModel) (heap : HeapModel) (before : List ℕ) (held : List Block) (queue : List ℕ) (addr line : ℕ) (kept : KeepsQueue scopes heap before held queue) (start : IsStart heap.base held addr) (inside : heap.base + heap.len ≤ length before) where
  -- the start of a queued object
  start_at : (k : ℕ) → k < length queue → IsStart heap.base held (get_or queue k 0)
  start_at k below = (kept.queued.queued k 0 below).start

  apart_from : (a b : ℕ) → IsStart heap.base held a → IsStart heap.base held b → a ≢ b → (a - 32 + 32 ≤ b - 32) ⊎ (b ≤ a - 32)
  apart_from a b s t other =
      headers_apart heap s.block t.block a b s.address t.address (start_block heap held a kept.holds s) (start_block heap held b kept.holds t) (starts_apart heap held a b kept.holds s t other)

  -- the last object of a queue that is not empty
  module _ (some : 0 < scopes.waiting) where
    last_in : length queue - 1 < length queue
    last_in = omega (arith, kept.queued.many)

    last_start : IsStart heap.base held (get_or queue (length queue - 1) 0)
    last_start = start_at (length queue - 1) last_in

    pub last_inside : scopes.last + 32 ≤ length before
    last_inside =
        let block = start_block heap held (get_or queue (length queue - 1) 0) kept.holds last_start in
        omega (arith, kept.queued.last, last_start.address, block.within, block.room)

    pub last_fits : scopes.last + 32 < 2 ^ 32
    last_fits =
        let reach = (kept.queued.queued (length queue - 1) 0 last_in).reach in
        omega (arith, kept.queued.last, last_start.address)

  module _ (reach : heap.base + heap.len < 2 ^ 32) (free : (header_of before addr).state ≢ 2) where
    new_here : All (λ a. addr ≢ a) queue
    new_here = λ k d below e. free (ap (λ a. (header_of before a).state) e ∙ (kept.queued.queued k d below).state)

    pub room_in_queue : scopes.waiting + 1 < 2 ^ 32
    room_in_queue =
        let block = start_block heap held addr kept.holds start in
        let more = room_for_more (2 ^ 32) addr queue kept.queued.distinct
        (λ k d below. let queued = kept.queued.queued k d below in omega (arith, queued.start.address))
        (λ k d below. let queued = kept.queued.queued k d below in omega (arith, queued.reach))
        new_here (omega (arith, start.address)) (omega (arith, start.address, block.within, block.room)) in
        omega (arith, kept.queued.many)

    module _ (stays : AHeaderStays) (written : HeadersMayBeWritten) (widen : ChangesWiden) (middle : List ℕ) (wrote : header_at middle (addr - 32) ≡ queued_header (header_at before (addr - 32)) line) (changed : ChangesOnly before middle (addr - 32 + 20) 12) where
      header_first : (a : ℕ) → IsStart heap.base held a → addr ≢ a → header_of middle a ≡ header_of before a
      header_first a s other =
          stays before middle (a - 32) (addr - 32 + 20) 12 changed
          (elim (apart_from a addr s start (λ e. other (sym e))) [ inl h ↦ inl (omega arith) | inr h ↦ inr (omega (arith, start.address)) ])

      written_again : (old new : List ℕ) (a : ℕ) (h : Header) (at n : ℕ) → IsStart heap.base held a → heap.base + heap.len ≤ length old → HasHeaders heap.base old held → ChangesOnly old new at n → a - 32 ≤ at → at + n ≤ a → header_of new a ≡ h → h.birth ≡ (header_of old a).birth → h.size ≡ (header_of old a).size
          → HasHeaders heap.base new held
      written_again old new a h at n s within headers change low high is birth size =
          let place : a - 32 ≡ heap.base + s.block.place = omega (arith, s.address) in
          written heap held s.block old new h kept.holds s.contains headers
          (subst (λ p. ChangesOnly old new p 32) place (widen old new at n (a - 32) 32 change low (omega (arith, s.address))))
          (ap (header_at new) (sym place) ∙ is)
          (birth ∙ birth_is heap held a kept.holds s old headers within)
          (ap block_size size ∙ length_is heap held a kept.holds s old headers within)

      headers_first : HasHeaders heap.base middle held
      headers_first =
          written_again before middle addr (queued_header (header_of before addr) line) (addr - 32 + 20) 12 start inside kept.headers changed (omega arith) (omega (arith, start.address)) wrote refl refl

      module _ (now : ScopesModel) (after : List ℕ) (appends : now ≡ appended scopes (addr - 32)) (alone : scopes.waiting ≡ 0 → after ≡ middle)
          (link : 0 < scopes.waiting → header_at after scopes.last ≡ linked_header (header_at middle scopes.last) (addr - 32)) (beside : 0 < scopes.waiting → ChangesOnly middle after (scopes.last + 28) 4) where
        -- the last header changed but for one field, and no other
        header_second : (some : 0 < scopes.waiting) (a : ℕ) → IsStart heap.base held a → a ≢ get_or queue (length queue - 1) 0 → header_of after a ≡ header_of middle a
        header_second some a s other =
            stays middle after (a - 32) (scopes.last + 28) 4 (beside some)
            (elim (apart_from a (get_or queue (length queue - 1) 0) s (last_start some) other) [
              | inl h ↦ inl (omega (arith, kept.queued.last))
              | inr h ↦ inr (omega (arith, kept.queued.last, (last_start some).address))
            ])

        new_header : header_of after addr ≡ queued_header (header_of before addr) line
        new_header = elim (cases_lt 0 scopes.waiting) [
          | inl some ↦ header_second some addr start (new_here (length queue - 1) 0 (last_in some)) ∙ wrote
          | inr none ↦ ap (λ (l : List ℕ). header_of l addr) (alone (omega arith)) ∙ wrote
        ]

        last_header : (some : 0 < scopes.waiting) → header_of after (get_or queue (length queue - 1) 0) ≡ linked_header (header_of before (get_or queue (length queue - 1) 0)) (addr - 32)
        last_header some =
            let last = get_or queue (length queue - 1) 0 in
            let at : last - 32 ≡ scopes.last = sym kept.queued.last in
            ap (header_at after) at ∙ link some
            ∙ ap (λ p. linked_header (header_at middle p) (addr - 32)) (sym at)
            ∙ ap (λ (h : Header). linked_header h (addr - 32)) (header_first last (last_start some) (new_here (length queue - 1) 0 (last_in some)))

        old_header : (k : ℕ) → k + 1 < length queue → header_of after (get_or queue k 0) ≡ header_of before (get_or queue k 0)
        old_header k below =
            let some : 0 < scopes.waiting = omega (arith, kept.queued.many) in
            let within : k < length queue = omega arith in
            header_second some (get_or queue k 0) (start_at k within) (kept.queued.distinct k (length queue - 1) 0 (omega arith) (last_in some))
            ∙ header_first (get_or queue k 0) (start_at k within) (new_here k 0 within)

        pub headers_after : HasHeaders heap.base after held
        headers_after = elim (cases_lt 0 scopes.waiting) [
          | inl some ↦
              let last = get_or queue (length queue - 1) 0 in
              let s = last_start some in
              let at : last - 32 ≡ scopes.last = sym kept.queued.last in
              written_again middle after last (linked_header (header_of middle last) (addr - 32)) (scopes.last + 28) 4 s (omega (arith, changed.long)) headers_first (beside some) (omega arith) (omega (arith, s.address))
              (ap (header_at after) at ∙ link some ∙ ap (λ p. linked_header (header_at middle p) (addr - 32)) (sym at)) refl refl
          | inr none ↦ subst (λ (l : List ℕ). HasHeaders heap.base l held) (sym (alone (omega arith))) headers_first
        ]

        -- what stays of the header of a queued object
        still_queued : (k : ℕ) → k < length queue → IsQueued heap.base after held (get_or queue k 0)
        still_queued k below =
            let old = kept.queued.queued k 0 below in
            elim (cases_lt (k + 1) (length queue)) [
              | inl more ↦ record {
                start = old.start;
                state = ap (λ (h : Header). h.state) (old_header k more) ∙ old.state;
                reach = omega (arith, ap (λ (h : Header). h.size) (old_header k more), old.reach);
              }
              | inr none ↦
                  let some : 0 < scopes.waiting = omega (arith, kept.queued.many) in
                  let last : k ≡ length queue - 1 = omega arith in
                  let header : header_of after (get_or queue k 0) ≡ linked_header (header_of before (get_or queue k 0)) (addr - 32) =
                  subst (λ j. header_of after (get_or queue j 0) ≡ linked_header (header_of before (get_or queue j 0)) (addr - 32)) (sym last) (last_header some) in
                  record {
                    start = old.start;
                    state = ap (λ (h : Header). h.state) header ∙ old.state;
                    reach = omega (arith, ap (λ (h : Header). h.size) header, old.reach);
                  }
            ]

        next_linked : (k : ℕ) → k < length (queue ++ addr ∷ []) → (header_of after (get_or (queue ++ addr ∷ []) k 0)).next ≡ block_in (queue ++ addr ∷ []) (k + 1)
        next_linked k below =
            let long = length_push queue addr in
            elim (cases_order (k + 1) (length queue)) [
              | inl last ↦
                  let some : 0 < scopes.waiting = omega (arith, kept.queued.many) in
                  let at : k ≡ length queue - 1 = omega arith in
                  let here : get_or (queue ++ addr ∷ []) k 0 ≡ get_or queue (length queue - 1) 0 =
                  get_or_append_left queue (addr ∷ []) 0 k (omega arith) ∙ ap (λ j. get_or queue j 0) at in
                  ap (λ a. (header_of after a).next) here ∙ ap (λ (h : Header). h.next) (last_header some)
                  ∙ sym (ap (λ n. n - 32) (get_or_push queue addr 0 (k + 1) (sym last)))
              | inr (inl more) ↦
                  let here : get_or (queue ++ addr ∷ []) k 0 ≡ get_or queue k 0 = get_or_append_left queue (addr ∷ []) 0 k (omega arith) in
                  ap (λ a. (header_of after a).next) here ∙ ap (λ (h : Header). h.next) (old_header k more) ∙ kept.queued.linked k (omega arith)
                  ∙ sym (ap (λ n. n - 32) (get_or_append_left queue (addr ∷ []) 0 (k + 1) more))
              | inr (inr past) ↦
                  let at : length queue ≡ k = omega arith in
                  let here : get_or (queue ++ addr ∷ []) k 0 ≡ addr = get_or_push queue addr 0 k at in
                  ap (λ a. (header_of after a).next) here ∙ ap (λ (h : Header). h.next) new_header
                  ∙ sym (ap (λ n. n - 32) (get_or_past (queue ++ addr ∷ []) (k + 1) 0 (omega arith)))
            ]

        first_appended : now.first ≡ block_in (queue ++ addr ∷ []) 0
        first_appended =
            ap (λ (s : ScopesModel). s.first) appends ∙ elim (cases_lt 0 scopes.waiting) [
              | inl some ↦ cond-false (nat_eq scopes.waiting 0) (addr - 32) scopes.first (ne_eqb scopes.waiting 0 (λ e. omega arith))
                  ∙ kept.queued.first ∙ sym (ap (λ n. n - 32) (get_or_append_left queue (addr ∷ []) 0 0 (omega (arith, kept.queued.many))))
              | inr none ↦ cond-true (nat_eq scopes.waiting 0) (addr - 32) scopes.first (eq-eqb scopes.waiting 0 (omega arith))
                  ∙ sym (ap (λ n. n - 32) (get_or_push queue addr 0 0 (omega (arith, kept.queued.many))))
            ]

        queue_after : HasQueue now heap.base after held (queue ++ addr ∷ [])
        queue_after =
            let long = length_push queue addr in
            let ends = start_ends heap held addr kept.holds start before kept.headers inside in
            record {
              many = ap (λ (s : ScopesModel). s.waiting) appends ∙ omega (arith, kept.queued.many);
              first = first_appended;
              last = ap (λ (s : ScopesModel). s.last) appends
                  ∙ sym (ap (λ n. n - 32) (get_or_push queue addr 0 (length (queue ++ addr ∷ []) - 1) (omega arith)));
              queued = All-push (IsQueued heap.base after held) queue addr (All-from_get_or (IsQueued heap.base after held) queue 0 still_queued) (record {
                start = start;
                state = ap (λ (h : Header). h.state) new_header;
                reach = omega (arith, ap (λ (h : Header). h.size) new_header, start.address);
              });
              distinct = all_pairs_push (λ a b. a ≢ b) queue addr kept.queued.distinct (λ k d below e. new_here k d below (sym e));
              linked = next_linked;
            }

        pub kept_after : KeepsQueue now heap after held (queue ++ addr ∷ [])
        kept_after = record { holds = kept.holds; headers = headers_after; queued = queue_after }

        pub queued_now : IsQueuedNow scopes before after addr line
        queued_now = record {
          header = new_header;
          link = λ some. subst (λ p. header_at after p ≡ linked_header (header_at before p) (addr - 32)) (sym kept.queued.last) (last_header some);
          long = elim (cases_lt 0 scopes.waiting) [
            | inl some ↦ (beside some).long ∙ changed.long
            | inr none ↦ ap length (alone (omega arith)) ∙ changed.long
          ];
          outside = λ from k own last.
              let place : addr - 32 + 20 ≡ addr - 12 = omega (arith, start.address) in
              let first : part middle from k ≡ part before from k =
              ⊎_elim (λ (h : from + k ≤ addr - 12). changed.below from k (omega arith)) (λ (h : addr - 12 + 12 ≤ from). changed.above from k (omega arith)) own in
              elim (cases_lt 0 scopes.waiting) [
                | inl some ↦ ⊎_elim (λ (h : from + k ≤ scopes.last + 28). (beside some).below from k h) (λ (h : scopes.last + 28 + 4 ≤ from). (beside some).above from k h) (last some) ∙ first
                | inr none ↦ ap (λ (l : List ℕ). part l from k) (alone (omega arith)) ∙ first
              ];
        }
