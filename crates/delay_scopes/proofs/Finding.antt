-- The first queued object for whose block counts are left.
use Rattle.std.proofs.Common.{◌≡◌, ◌≤◌, ◌<◌, ◌+◌, ℕ, Bool, true, false, List, ◌∷◌, length, get_or, take, drop, Some, sym, ap, ◌∙◌, subst, arith}
use Rattle.std.specs.Prelude.{not, nat_eq, slice_index}
use Rattle.std.specs.List.{sum_by}
use Rattle.std.proofs.lemmas.Bool.{cond-true, cond-false}
use Rattle.std.proofs.lemmas.List.{drop_more}
use Rattle.std.proofs.lemmas.List.Sums.{sum_by_more, sum_by-take-le}
use Rattle.hs_base.specs.Freeing.{first_held}
use Rattle.heap_blocks.specs.Heads.{header_at}
use Rattle.delay_scopes.specs.Queue.{ScopesModel, block_in}
use Rattle.delay_scopes.specs.Check.{granules_of}
use Rattle.delay_scopes.specs.Walks.{IsChain, IsInside}
use Rattle.delay_scopes.proofs.Chaining.{in_queue, object_inside, object_is, next_is}

-- are counts left for the block of an object?
abbrev pub has_count : List ℕ → List ℕ → ℕ → Bool
has_count bytes counts addr = not (nat_eq (sum_by (slice_index counts) (granules_of bytes addr)) 0)

-- the steps for an object: its size and the next block, and one for each granule
abbrev pub steps_seen : List ℕ → ℕ → ℕ
steps_seen bytes addr = 2 + length (granules_of bytes addr)

-- before a block in the queue none is found, so the first one is that of the rest
pub record NoneYet (bytes : List ℕ) (counts : List ℕ) (queue : List ℕ) (start steps k block : ℕ) : Type 0 where
  pub at : block ≡ block_in queue k
  pub rest : first_held (has_count bytes counts) (drop k queue) ≡ first_held (has_count bytes counts) queue
  pub work : steps ≤ start + sum_by (steps_seen bytes) (take k queue)

module _ (scopes : ScopesModel) (bytes : List ℕ) (counts : List ℕ) (queue : List ℕ) (chain : IsChain scopes bytes queue) where
  module _ (start steps k block : ℕ) (below : k < scopes.waiting) (yet : NoneYet bytes counts queue start steps k block) where
    next_test : first_held (has_count bytes counts) (get_or queue k 0 ∷ drop (k + 1) queue) ≡ first_held (has_count bytes counts) queue
    next_test =
        ap (first_held (has_count bytes counts)) (sym (drop_more queue k 0 (in_queue scopes bytes queue chain k block below yet.at))) ∙ yet.rest

    pub next_inside : (addr : ℕ) → addr ≡ block + 32 → IsInside bytes addr
    next_inside addr is =
        subst (IsInside bytes) (sym (is ∙ object_is scopes bytes queue chain k block below yet.at)) (object_inside scopes bytes queue chain k block below yet.at)

    pub found_here : (addr : ℕ) → addr ≡ block + 32 → has_count bytes counts addr ≡ true → Some addr ≡ first_held (has_count bytes counts) queue
    found_here addr is held =
        let same : get_or queue k 0 ≡ addr = sym (is ∙ object_is scopes bytes queue chain k block below yet.at) in
        let first : first_held (has_count bytes counts) (addr ∷ drop (k + 1) queue) ≡ first_held (has_count bytes counts) queue =
        subst (λ a. first_held (has_count bytes counts) (a ∷ drop (k + 1) queue) ≡ first_held (has_count bytes counts) queue) same next_test in
        sym (cond-true (has_count bytes counts addr) (Some addr) (first_held (has_count bytes counts) (drop (k + 1) queue)) held) ∙ first

    pub none_more : (addr middle done next : ℕ) → addr ≡ block + 32 → has_count bytes counts addr ≡ false → middle ≤ steps + (1 + length (granules_of bytes addr)) → done ≡ middle + 1 → next ≡ (header_at bytes block).next
        → NoneYet bytes counts queue start done (k + 1) next
    none_more addr middle done next is free work one read =
        let same : get_or queue k 0 ≡ addr = sym (is ∙ object_is scopes bytes queue chain k block below yet.at) in
        let first : first_held (has_count bytes counts) (addr ∷ drop (k + 1) queue) ≡ first_held (has_count bytes counts) queue =
        subst (λ a. first_held (has_count bytes counts) (a ∷ drop (k + 1) queue) ≡ first_held (has_count bytes counts) queue) same next_test in
        let many : length (granules_of bytes addr) ≡ length (granules_of bytes (get_or queue k 0)) = ap (λ a. length (granules_of bytes a)) (sym same) in
        let more = sum_by_more (steps_seen bytes) queue k 0 (in_queue scopes bytes queue chain k block below yet.at) in
        record {
          at = next_is scopes bytes queue chain k block below yet.at next read;
          rest = sym (cond-false (has_count bytes counts addr) (Some addr) (first_held (has_count bytes counts) (drop (k + 1) queue)) free) ∙ first;
          work = omega (arith, yet.work);
        }

    -- the steps up to where one is found
    pub work_here : (addr middle : ℕ) → addr ≡ block + 32 → middle ≤ steps + (1 + length (granules_of bytes addr)) → middle ≤ start + sum_by (steps_seen bytes) queue
    work_here addr middle is work =
        let same : addr ≡ get_or queue k 0 = is ∙ object_is scopes bytes queue chain k block below yet.at in
        let many : length (granules_of bytes addr) ≡ length (granules_of bytes (get_or queue k 0)) = ap (λ a. length (granules_of bytes a)) same in
        let more = sum_by_more (steps_seen bytes) queue k 0 (in_queue scopes bytes queue chain k block below yet.at) in
        let part = sum_by-take-le (steps_seen bytes) queue (k + 1) in
        omega (arith, yet.work)
