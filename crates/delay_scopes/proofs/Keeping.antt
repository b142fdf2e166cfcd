-- Queues that are kept while bytes are written and blocks are placed.
use Rattle.std.proofs.Common.{◌≡◌, ◌≤◌, ◌+◌, ◌-◌, ◌⊎◌, inl, inr, ⊎_elim, ℕ, List, [], ◌∷◌, ◌++◌, length, get_or, refl, sym, ap, ◌∙◌, subst, arith}
use Rattle.std.specs.Prelude.{All, Contains}
use Rattle.std.proofs.lemmas.Bool.{cases_order}
use Rattle.std.proofs.lemmas.List.{get_or_append_left, get_or_default, get_or_push, length_push}
use Rattle.std.proofs.lemmas.List.Elements.{All-from_get_or, Contains-append_left}
use Rattle.hs_base.specs.Place.{Block}
use Rattle.heap_blocks.specs.declared.headers.Header.{Header}
use Rattle.heap_blocks.specs.Bytes.{ChangesOnly}
use Rattle.heap_blocks.specs.Held.{HeapModel, AreApart, HasHeaders, Holds, address_of}
use Rattle.heap_blocks.specs.Laws.{AHeaderStays, HeadersStayBeside, HeadersStayWithin}
use Rattle.delay_scopes.specs.Queue.{ScopesModel, HasQueue, KeepsQueue, header_of}
use Rattle.delay_scopes.proofs.Starts.{start_block, swapped}

pub queue_stays : (scopes : ScopesModel) (base : ℕ) (before after : List ℕ) (held held' : List Block) (queue : List ℕ) → HasQueue scopes base before held queue → All (λ addr. header_of after addr ≡ header_of before addr) queue
    → ((b : Block) → Contains held b → Contains held' b) → HasQueue scopes base after held' queue
queue_stays scopes base before after held held' queue has same more = record {
  many = has.many;
  first = has.first;
  last = has.last;
  queued = λ k d below.
      let old = has.queued k d below in
      record {
        start = record { block = old.start.block; contains = more old.start.block old.start.contains; address = old.start.address };
        state = ap (λ (h : Header). h.state) (same k d below) ∙ old.state;
        reach = omega (arith, ap (λ (h : Header). h.size) (same k d below), old.reach);
      };
  distinct = has.distinct;
  linked = λ k below. ap (λ (h : Header). h.next) (same k 0 below) ∙ has.linked k below;
}

-- Writes

-- a block and one that is written behind its header are one block, or apart
same_or_apart : (heap : HeapModel) (held : List Block) (a b : Block) → Holds heap held → Contains held a → Contains held b → (a.place ≡ b.place) ⊎ AreApart a b
same_or_apart heap held a b holds in_a in_b =
    let i = in_a.0 in
    let j = in_b.0 in
    let first : get_or held i a ≡ a = in_a.2 in
    let second : get_or held j a ≡ b = get_or_default held j a b in_b.1 ∙ in_b.2 in
    elim (cases_order i j) [
      | inl e ↦ inl (ap (λ (c : Block). c.place) (sym first ∙ ap (λ k. get_or held k a) e ∙ second))
      | inr (inl less) ↦ inr (subst (λ (c : Block). AreApart c b) first (subst (AreApart (get_or held i a)) second (holds.apart i j a less in_b.1)))
      | inr (inr less) ↦ inr (swapped b a (subst (λ (c : Block). AreApart c a) second (subst (AreApart (get_or held j a)) first (holds.apart j i a less in_a.1))))
    ]

header_beside_write : (base : ℕ) (a b : Block) (addr at n : ℕ) → addr ≡ base + a.place + 32 → 32 ≤ a.length → base + b.place + 32 ≤ at → at + n ≤ base + b.place + b.length → (a.place ≡ b.place) ⊎ AreApart a b → (addr - 32 + 32 ≤ at) ⊎ (at + n ≤ addr - 32)
header_beside_write base a b addr at n is room low high (inl same) = inl (omega arith)
header_beside_write base a b addr at n is room low high (inr (inl h)) = inl (omega arith)
header_beside_write base a b addr at n is room low high (inr (inr h)) = inr (omega arith)

pub kept_within : AHeaderStays → HeadersStayWithin → (scopes : ScopesModel) (heap : HeapModel) (before after : List ℕ) (held : List Block) (queue : List ℕ) (b : Block) (addr n : ℕ) → KeepsQueue scopes heap before held queue → Contains held b → ChangesOnly before after addr n
    → address_of heap b.place ≤ addr → addr + n ≤ heap.base + b.place + b.length → KeepsQueue scopes heap after held queue
kept_within stays within scopes heap before after held queue b addr n kept is_held changed low high = record {
  holds = kept.holds;
  headers = within heap held b before after addr n kept.holds is_held kept.headers changed low high;
  queued = queue_stays scopes heap.base before after held held queue kept.queued
      (All-from_get_or (λ a. header_of after a ≡ header_of before a) queue 0 (λ i below.
      let a = get_or queue i 0 in
      let start = (kept.queued.queued i 0 below).start in
      let own = start_block heap held a kept.holds start in
      stays before after (a - 32) addr n changed (header_beside_write heap.base start.block b a addr n start.address (omega (arith, own.room)) low high (same_or_apart heap held start.block b kept.holds start.contains is_held))))
      (λ c in_c. in_c);
}

pub kept_beside : AHeaderStays → HeadersStayBeside → (scopes : ScopesModel) (heap : HeapModel) (before after : List ℕ) (held : List Block) (queue : List ℕ) (addr n : ℕ) → KeepsQueue scopes heap before held queue → ChangesOnly before after addr n
    → (addr + n ≤ heap.base) ⊎ (heap.base + heap.len ≤ addr) → KeepsQueue scopes heap after held queue
kept_beside stays all_stay scopes heap before after held queue addr n kept changed beside = record {
  holds = kept.holds;
  headers = all_stay heap held before after addr n kept.holds kept.headers changed beside;
  queued = queue_stays scopes heap.base before after held held queue kept.queued
      (All-from_get_or (λ a. header_of after a ≡ header_of before a) queue 0 (λ i below.
      let a = get_or queue i 0 in
      let start = (kept.queued.queued i 0 below).start in
      let own = start_block heap held a kept.holds start in
      stays before after (a - 32) addr n changed
      (⊎_elim (λ (h : addr + n ≤ heap.base). inr (omega (arith, start.address))) (λ (h : heap.base + heap.len ≤ addr). inl (omega (arith, start.address, own.within, own.room))) beside)))
      (λ c in_c. in_c);
}

-- Placements

-- the blocks that were held before are apart from one that is placed behind them
apart_from_last : (heap : HeapModel) (held : List Block) (a b : Block) → Holds heap (held ++ b ∷ []) → Contains held a → AreApart a b
apart_from_last heap held a b holds in_a =
    let i = in_a.0 in
    let long = length_push held b in
    let first : get_or (held ++ b ∷ []) i a ≡ a = get_or_append_left held (b ∷ []) a i in_a.1 ∙ in_a.2 in
    let last : get_or (held ++ b ∷ []) (length held) a ≡ b = get_or_push held b a (length held) refl in
    subst (λ (c : Block). AreApart c b) first (subst (AreApart (get_or (held ++ b ∷ []) i a)) last (holds.apart i (length held) a in_a.1 (omega arith)))

header_beside_block : (base : ℕ) (a b : Block) (addr at : ℕ) → addr ≡ base + a.place + 32 → at ≡ base + b.place → 32 ≤ a.length → AreApart a b → (addr - 32 + 32 ≤ at) ⊎ (at + b.length ≤ addr - 32)
header_beside_block base a b addr at is here room (inl h) = inl (omega arith)
header_beside_block base a b addr at is here room (inr h) = inr (omega arith)

pub kept_placed : AHeaderStays → (scopes : ScopesModel) (heap heap' : HeapModel) (before after : List ℕ) (held : List Block) (queue : List ℕ) (b : Block) → KeepsQueue scopes heap before held queue → heap'.base ≡ heap.base → Holds heap' (held ++ b ∷ [])
    → HasHeaders heap'.base after (held ++ b ∷ []) → ChangesOnly before after (heap.base + b.place) b.length → KeepsQueue scopes heap' after (held ++ b ∷ []) queue
kept_placed stays scopes heap heap' before after held queue b kept base holds headers changed = record {
  holds = holds;
  headers = headers;
  queued = subst (λ n. HasQueue scopes n after (held ++ b ∷ []) queue) (sym base)
      (queue_stays scopes heap.base before after held (held ++ b ∷ []) queue kept.queued
      (All-from_get_or (λ a. header_of after a ≡ header_of before a) queue 0 (λ i below.
      let a = get_or queue i 0 in
      let start = (kept.queued.queued i 0 below).start in
      let own = start_block heap held a kept.holds start in
      stays before after (a - 32) (heap.base + b.place) b.length changed
      (header_beside_block heap.base start.block b a (heap.base + b.place) start.address refl (omega (arith, own.room)) (apart_from_last heap' held start.block b holds start.contains))))
      (λ c in_c. Contains-append_left held (b ∷ []) c in_c));
}
