-- What the check stands on, for its walks.
use Rattle.std.proofs.Common.{◌≡◌, ◌≤◌, ◌<◌, ◌+◌, ◌*◌, inl, inr, ℕ, suc, Bool, List, [], ◌∷◌, length, get_or, Option, Some, Err, sym, ap, ◌∙◌, arith}
use Rattle.std.specs.Prelude.{All, Contains, nat_eq, not}
use Rattle.std.specs.List.{sum_by}
use Rattle.std.proofs.lemmas.Bool.{cases_Bool, cond-true, cond-false}
use Rattle.std.proofs.lemmas.List.Elements.{All-contains}
use Rattle.std.proofs.lemmas.Option.{none-some, same_Some}
use Rattle.hs_base.specs.declared.ends.BadFree.{BadFree}
use Rattle.hs_base.specs.declared.ends.Reason.TheVariants.{Held}
use Rattle.hs_base.specs.Freeing.{first_held}
use Rattle.hs_base.specs.Place.{Block}
use Rattle.heap_blocks.specs.Held.{HeapModel}
use Rattle.adjusters.specs.ObjectSlots.{Element}
use Rattle.count_table.specs.Table.{Table}
use Rattle.delay_scopes.specs.Queue.{ScopesModel, KeepsQueue, header_of}
use Rattle.delay_scopes.specs.Pointers.{slots_of, words_inside}
use Rattle.delay_scopes.specs.Check.{IsReady, answer_of, checked, granules_of, left_to, work_of}
use Rattle.delay_scopes.specs.Walks.{AreCovered, IsChain, IsInside, MayRelease}
use Rattle.delay_scopes.proofs.Starts.{start_inside}
use Rattle.delay_scopes.proofs.Working.{sum_by_room}

-- the first held object is one of the queue
held_in_queue : (is_held : ℕ → Bool) (queue : List ℕ) (addr : ℕ) → Some addr ≡ first_held is_held queue → Contains queue addr
held_in_queue is_held [] addr found = absurd (none-some addr (sym found))
held_in_queue is_held (a ∷ queue) addr found =
    elim (cases_Bool (is_held a)) [
      | inl hit ↦ (0, omega arith, sym (same_Some addr a (found ∙ cond-true (is_held a) (Some a) (first_held is_held queue) hit)))
      | inr miss ↦ let rest = held_in_queue is_held queue addr (found ∙ cond-false (is_held a) (Some a) (first_held is_held queue) miss) in
          (suc rest.0, omega (arith, rest.1), rest.2)
    ]

-- the blocks of queued objects lie inside the bytes
pub queue_inside : (scopes : ScopesModel) (heap : HeapModel) (bytes : List ℕ) (held : List Block) (queue : List ℕ) → KeepsQueue scopes heap bytes held queue → heap.base + heap.len ≤ length bytes → All (IsInside bytes) queue
queue_inside scopes heap bytes held queue kept inside = λ k d below.
    let queued = kept.queued.queued k d below in
    start_inside heap held (get_or queue k d) kept.holds queued.start bytes kept.headers inside queued.reach

module _ (scopes : ScopesModel) (heap : HeapModel) (bytes : List ℕ) (counts : Table) (forms : List Element) (held : List Block) (queue : List ℕ) (ready : IsReady scopes heap bytes counts forms held queue) where
  ready_chain : IsChain scopes bytes queue
  ready_chain = record {
    many = ready.kept.queued.many;
    first = ready.kept.queued.first;
    linked = ready.kept.queued.linked;
    inside = queue_inside scopes heap bytes held queue ready.kept ready.inside;
  }

  pub ready_covered : AreCovered scopes bytes counts forms queue
  ready_covered = record { chain = ready_chain; known = ready.known; covered = ready.covered }

  pub held_inside : (addr : ℕ) → Some addr ≡ checked forms bytes counts.counts queue → IsInside bytes addr
  held_inside addr found =
      All-contains (IsInside bytes) queue addr ready_chain.inside (held_in_queue (λ a. not (nat_eq (left_to bytes counts.counts (words_inside forms bytes queue) a) 0)) queue addr found)

  -- a queue in which an object is held is not empty
  pub held_some : (addr : ℕ) → Some addr ≡ checked forms bytes counts.counts queue → 0 < length queue
  held_some addr found =
      let contains = held_in_queue (λ a. not (nat_eq (left_to bytes counts.counts (words_inside forms bytes queue) a) 0)) queue addr found in
      let below = contains.1 in
      omega arith

  pub ready_release : MayRelease scopes heap bytes held queue
  ready_release = record { kept = ready.kept; births = ready.births; inside = ready.inside }

-- the answer that names an object with the line of its free
pub held_answer : (bytes : List ℕ) (addr line : ℕ) (found : Option ℕ) → line ≡ (header_of bytes addr).freed → Some addr ≡ found → (let bad : BadFree = record { reason = Held; line = line } in Err bad ≡ answer_of bytes found)
held_answer bytes addr line found is here = (λ i. Err (record { reason = Held; line = is i })) ∙ ap (answer_of bytes) here

-- the steps of the two walks of the check leave room for what comes after them
pub work_left : (forms : List Element) (bytes : List ℕ) (queue : List ℕ) → sum_by (λ addr. 5 + length (granules_of bytes addr) + 2 * length (slots_of forms bytes addr)) queue + 11 * length queue ≤ work_of forms bytes queue
work_left forms bytes queue =
    sum_by_room 11 (λ addr. 5 + length (granules_of bytes addr) + 2 * length (slots_of forms bytes addr)) (λ addr. 16 + 2 * length (granules_of bytes addr) + 4 * length (slots_of forms bytes addr)) (λ addr. omega arith) queue
