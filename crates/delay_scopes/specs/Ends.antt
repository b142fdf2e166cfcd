-- What calls of the scopes answer, for each list of blocks that the heap holds and each queue of theirs.
use Rattle.std.specs.Prelude.{◌≡◌, ◌+◌, ◌-◌, ◌*◌, ◌<◌, ◌≤◌, ◌∷◌, ◌++◌, [], ℕ, Bool, not, nat_eq, List, length, Option, Result, OnOk, OnErr, slice_index}
use Rattle.std.specs.List.{sum_by}
use Rattle.hs_base.specs.declared.ends.BadFree.{BadFree}
use Rattle.hs_base.specs.Freeing.{first_held}
use Rattle.hs_base.specs.Place.{Block}
use Rattle.heap_blocks.specs.Heads.{header_at}
use Rattle.heap_blocks.specs.Held.{HeapModel}
use Rattle.adjusters.specs.ObjectSlots.{Element}
use Rattle.count_table.specs.Table.{Table}
use Rattle.delay_scopes.specs.Queue.{KeepsQueue, ScopesModel}
use Rattle.delay_scopes.specs.Freed.{linked_header}
use Rattle.delay_scopes.specs.Pointers.{LowersBy, into_granule, slots_of, words_inside}
use Rattle.delay_scopes.specs.Check.{IsReady, IsReleased, answer_of, checked, granules_of, work_of}
use Rattle.delay_scopes.specs.Walks.{AreCovered, IsChain, MayRelease}

-- the counts cover the pointers among these words
abbrev pub Cover : Table → List ℕ → Type 0
Cover counts words = (granule : ℕ) → into_granule granule words ≤ slice_index counts.counts granule

-- the scopes without the inner one that ends
abbrev pub closed : ScopesModel → ScopesModel
closed scopes = record scopes { depth = scopes.depth - 1 }

-- the header of the block that was queued last names the one behind it, where there is one
abbrev pub LinksLast : ScopesModel → List ℕ → List ℕ → ℕ → Type 0
LinksLast scopes before after block =
    0 < scopes.waiting → header_at after scopes.last ≡ linked_header (header_at before scopes.last) block

-- an object is queued behind each queue that was kept, where its free is good
abbrev pub Queues : {A E : Type 0} → ScopesModel → ScopesModel → HeapModel → List ℕ → List ℕ → ℕ → Result A E → Type 0
Queues scopes scopes' heap before after addr result =
    (held : List Block) (queue : List ℕ) → KeepsQueue scopes heap before held queue →
    OnOk result (KeepsQueue scopes' heap after held (queue ++ addr ∷ []))

-- The end of the outermost scope

-- says so of each list of blocks and each queue with which the outermost scope may end
abbrev pub AtEnd : ScopesModel → HeapModel → List ℕ → Table → List Element → (List Block → List ℕ → Type 0) → Type 0
AtEnd scopes heap bytes counts forms says =
    (held : List Block) (queue : List ℕ) → scopes.depth ≡ 1 → IsReady scopes heap bytes counts forms held queue →
    says held queue

-- the answer, and the most steps
abbrev pub AnswersEnd : ScopesModel → HeapModel → List ℕ → Table → List Element → Result Unit BadFree → Type 0
AnswersEnd scopes heap bytes counts forms result =
    AtEnd scopes heap bytes counts forms
    (λ held queue. result ≡ answer_of bytes (checked forms bytes counts.counts queue))

abbrev pub EndsWithin : ScopesModel → HeapModel → List ℕ → Table → List Element → ℕ → ℕ → Type 0
EndsWithin scopes heap bytes counts forms before after =
    AtEnd scopes heap bytes counts forms (λ held queue. after ≤ before + work_of forms bytes queue)

-- the pointers inside the queued objects are taken off the counts
abbrev pub EndLowers : ScopesModel → HeapModel → List ℕ → Table → List Element → Table → Type 0
EndLowers scopes heap bytes counts forms after =
    AtEnd scopes heap bytes counts forms (λ held queue. LowersBy (words_inside forms bytes queue) counts after)

-- with no object held the blocks are given back; one that is held is named
abbrev pub EndReleases : {A E : Type 0} → ScopesModel → HeapModel → List ℕ → Table → List Element → HeapModel → List ℕ → Result A E → Type 0
EndReleases scopes heap bytes counts forms heap' bytes' result =
    AtEnd scopes heap bytes counts forms (λ held queue. OnOk result (IsReleased heap heap' bytes bytes' held queue))

abbrev pub EndNames : {A E : Type 0} → ScopesModel → HeapModel → List ℕ → Table → List Element → ScopesModel → Result A E → Type 0
EndNames scopes heap bytes counts forms scopes' result =
    AtEnd scopes heap bytes counts forms
    (λ held queue. OnErr result (scopes' ≡ record scopes { named = checked forms bytes counts.counts queue }))

-- The parts of the check

-- counts are left for the block of an object
abbrev pub has_counts : List ℕ → List ℕ → ℕ → Bool
has_counts counts bytes addr = not (nat_eq (sum_by (slice_index counts) (granules_of bytes addr)) 0)

-- the pointers inside the queued objects are taken off, in so many steps at most
abbrev pub TakesOff : ScopesModel → List ℕ → Table → List Element → Table → Type 0
TakesOff scopes bytes counts forms after =
    (queue : List ℕ) → AreCovered scopes bytes counts forms queue → LowersBy (words_inside forms bytes queue) counts after

abbrev pub TakesOffWithin : ScopesModel → List ℕ → Table → List Element → ℕ → ℕ → Type 0
TakesOffWithin scopes bytes counts forms before after =
    (queue : List ℕ) → AreCovered scopes bytes counts forms queue →
    after ≤ before + sum_by (λ addr. 3 + 2 * length (slots_of forms bytes addr)) queue

-- the first queued object for which counts are left is found, in so many steps at most
abbrev pub FindsHeld : ScopesModel → List ℕ → Table → Option ℕ → Type 0
FindsHeld scopes bytes counts result =
    (queue : List ℕ) → IsChain scopes bytes queue →
    result ≡ first_held (λ addr. has_counts counts.counts bytes addr) queue

abbrev pub FindsWithin : ScopesModel → List ℕ → ℕ → ℕ → Type 0
FindsWithin scopes bytes before after =
    (queue : List ℕ) → IsChain scopes bytes queue →
    after ≤ before + sum_by (λ addr. 2 + length (granules_of bytes addr)) queue

-- both
abbrev pub Checks : ScopesModel → List ℕ → Table → List Element → Option ℕ → Type 0
Checks scopes bytes counts forms result =
    (queue : List ℕ) → AreCovered scopes bytes counts forms queue → result ≡ checked forms bytes counts.counts queue

abbrev pub ChecksWithin : ScopesModel → List ℕ → Table → List Element → ℕ → ℕ → Type 0
ChecksWithin scopes bytes counts forms before after =
    (queue : List ℕ) → AreCovered scopes bytes counts forms queue →
    after ≤ before + sum_by (λ addr. 5 + length (granules_of bytes addr) + 2 * length (slots_of forms bytes addr)) queue

-- the blocks of the queued objects are given back, where they may be
abbrev pub MayReleaseSome : ScopesModel → HeapModel → List ℕ → Type 0
MayReleaseSome scopes heap bytes = (held : List Block) × (queue : List ℕ) × MayRelease scopes heap bytes held queue

abbrev pub Releases : ScopesModel → HeapModel → HeapModel → List ℕ → List ℕ → Type 0
Releases scopes heap heap' bytes bytes' =
    (held : List Block) (queue : List ℕ) → MayRelease scopes heap bytes held queue →
    IsReleased heap heap' bytes bytes' held queue
