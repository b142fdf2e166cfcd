-- Frees, and the check at the end of the outermost scope.
use Rattle.std.specs.Prelude.{◌≡◌, ◌<◌, ◌≤◌, ◌+◌, ◌-◌, ◌*◌, ◌/◌, ℕ, List, [], ◌∷◌, ◌++◌, length, map, Option, Some, None, Result, Ok, Err}
use Rattle.std.specs.List.{sum_by}
use Rattle.hs_base.specs.declared.ends.BadFree.{BadFree}
use Rattle.hs_base.specs.declared.ends.Reason.{Reason}
use Rattle.hs_base.specs.declared.ends.Reason.TheVariants.{Held}
use Rattle.hs_base.specs.declared.values.Pointer.{Pointer}
use Rattle.hs_base.specs.declared.values.Pointer.TheVariants as pointer
use Rattle.hs_base.specs.Freeing.{buried, check_numbers, freed_at, line_of_free, objects_of, pointers_to, queued}
use Rattle.hs_base.specs.Object.{Object, object_at}
use Rattle.hs_base.specs.Place.{block_size, blocks_after}
use Rattle.hs_base.specs.Trace.{Gone}
use Rattle.flat_objects.specs.Memory.{Memory, Statics, Locals, Heap}
use Rattle.flat_objects.specs.Standing.{IsAddressOf}
use Rattle.flat_objects.specs.Keeping.{Keeps, KeepsAt, blocks_of}
use Rattle.flat_objects.specs.Answering.{IsChanged}
use Rattle.flat_objects.specs.Counting.{Frees, HasScopes, LeadsSomewhere, Tracks, living_pointers}

-- A free

-- a scope is open, and an address stands for a pointer that is not null
pub record MayFree (memory : Memory) (places : ℕ → ℕ) (objects : List Object) (frees : Frees) (birth offset addr : ℕ) : Type 0 where
  pub at : KeepsAt memory places objects (pointer.At birth offset) addr
  pub tracks : Tracks memory places objects frees
  pub in_scope : 0 < frees.scopes

abbrev pub IsFreeable : Memory → ℕ → Type 0
IsFreeable memory addr =
    (places : ℕ → ℕ) × (objects : List Object) × (frees : Frees) × (birth : ℕ) × (offset : ℕ) × MayFree memory places objects frees birth offset addr

-- an object is queued by a free at a line, behind those that were
pub record IsQueuedBehind (memory : Memory) (places : ℕ → ℕ) (objects : List Object) (frees : Frees) (birth line : ℕ) : Type 0 where
  pub change : IsChanged memory places objects (queued objects birth line)
  pub tracks : Tracks memory places (queued objects birth line) (record frees { queue = frees.queue ++ birth ∷ [] })

-- the object of the definition is queued; or the free is bad for the definition's reason, at its line, and nothing changes
abbrev pub AnswersFree : Memory → Memory → (ℕ → ℕ) → List Object → Frees → ℕ → Result Unit BadFree → Result ℕ Reason → Type 0
AnswersFree old new places objects frees line (Ok u) meant =
    (birth : ℕ) × (meant ≡ Ok birth) × IsQueuedBehind new places objects frees birth line
AnswersFree old new places objects frees line (Err bad) meant =
    (meant ≡ Err bad.reason) × (bad.line ≡ line) × (new ≡ old)

-- The end of a scope

-- a memory keeps some objects and tracks what may be freed, and a scope is open
pub record MayLeave (memory : Memory) (places : ℕ → ℕ) (objects : List Object) (frees : Frees) : Type 0 where
  pub keeps : Keeps memory places objects
  pub tracks : Tracks memory places objects frees
  pub in_scope : 0 < frees.scopes

abbrev pub IsInScope : Memory → Type 0
IsInScope memory = (places : ℕ → ℕ) × (objects : List Object) × (frees : Frees) × MayLeave memory places objects frees

-- the most steps that a check takes: for each queued object 16, 2 for each granule of its block and 4 for each of its slots
abbrev pub work_of : List Object → List ℕ → ℕ
work_of objects queue =
    sum_by (λ (o : Object). 16 + 2 * (block_size o.size / 16) + 4 * length o.slots) (objects_of objects queue)

-- how many of the pointers that count lead to the object of a birth
abbrev pub number_of : List Object → Frees → ℕ → ℕ
number_of objects frees birth = pointers_to birth (living_pointers objects ++ frees.pins)

-- all queued objects are dead, their blocks were given back in the order of the queue, and no scope is open
pub record AreBuried (old new : Memory) (places : ℕ → ℕ) (objects : List Object) (frees : Frees) : Type 0 where
  pub keeps : Keeps new places (buried objects)
  pub tracks : Tracks new places (buried objects) (record frees { queue = []; scopes = 0 })
  pub heap : blocks_of new places (buried objects) Heap ≡ blocks_after old.heap.len (blocks_of old places objects Heap) (map Gone frees.queue)
  pub statics : blocks_of new places (buried objects) Statics ≡ blocks_of old places objects Statics
  pub locals : blocks_of new places (buried objects) Locals ≡ blocks_of old places objects Locals
  -- an address of a pointer to another object still stands for it
  pub stand : (p : Pointer) (addr : ℕ) → IsAddressOf places objects p addr → LeadsSomewhere (buried objects) p → IsAddressOf places (buried objects) p addr

-- an object is held: its free was bad, at the line of that free, and the objects, the queue and the open scopes are as they were. The
-- counts are of no more use
pub record IsHeldBack (new : Memory) (places : ℕ → ℕ) (objects : List Object) (frees : Frees) (birth : ℕ) (bad : BadFree) : Type 0 where
  pub bad_free : bad ≡ record { reason = Held; line = line_of_free (object_at objects birth).standing }
  pub keeps : Keeps new places objects
  pub scopes : HasScopes new places objects frees.queue frees.scopes
  pub named : new.scopes.named ≡ Some (places birth)

-- the check answers what the definition's does
abbrev pub AnswersCheck : Memory → Memory → (ℕ → ℕ) → List Object → Frees → Result Unit BadFree → Option ℕ → Type 0
AnswersCheck old new places objects frees (Ok u) meant = (meant ≡ None) × AreBuried old new places objects frees
AnswersCheck old new places objects frees (Err bad) meant =
    (birth : ℕ) × (meant ≡ Some birth) × IsHeldBack new places objects frees birth bad

-- Whatever may be freed

-- a scope is opened
abbrev pub OpensScope : Memory → Memory → Type 0
OpensScope old new =
    (places : ℕ → ℕ) (objects : List Object) (frees : Frees) → Tracks old places objects frees → Tracks new places objects (record frees { scopes = frees.scopes + 1 })

-- the free of the object at an address, at a line, answers what the definition does
abbrev pub FreesAt : Memory → Memory → ℕ → ℕ → Result Unit BadFree → Type 0
FreesAt old new addr line result =
    (places : ℕ → ℕ) (objects : List Object) (frees : Frees) (birth offset : ℕ) → MayFree old places objects frees birth offset addr → AnswersFree old new places objects frees line result (freed_at objects birth offset)

-- a fact of whatever a memory keeps and tracks in which a scope is open
abbrev pub ForScopes : Memory → ((ℕ → ℕ) → List Object → Frees → Type 0) → Type 0
ForScopes memory P = (places : ℕ → ℕ) (objects : List Object) (frees : Frees) → MayLeave memory places objects frees → P places objects frees

-- an inner scope is closed
abbrev pub ClosesInner : Memory → Memory → Result Unit BadFree → Type 0
ClosesInner old new result =
    ForScopes old (λ places objects frees. 1 < frees.scopes → (result ≡ Ok tt) × Keeps new places objects × Tracks new places objects (record frees { scopes = frees.scopes - 1 }))

-- the outermost scope is closed: the check answers what the definition's does
abbrev pub ClosesOutermost : Memory → Memory → Result Unit BadFree → Type 0
ClosesOutermost old new result =
    ForScopes old (λ places objects frees. frees.scopes ≡ 1 → AnswersCheck old new places objects frees result (check_numbers objects frees.queue (number_of objects frees)))

-- the check takes at most the work of its queue, where so many steps were taken before it and so many are behind it
abbrev pub ChecksWithin : Memory → ℕ → ℕ → Type 0
ChecksWithin memory before after =
    ForScopes memory (λ places objects frees. frees.scopes ≡ 1 → after ≤ before + work_of objects frees.queue)
