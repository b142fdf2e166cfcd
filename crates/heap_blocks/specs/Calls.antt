-- What calls of a heap answer, for each list of blocks that it holds.
use Rattle.std.specs.Prelude.{◌≡◌, ℕ, ◌+◌, List, Contains, Option, Some, option_map, MatchOption}
use Rattle.hs_base.specs.Place.{Block, block_size, with_block}
use Rattle.heap_blocks.specs.declared.headers.Header.{Header}
use Rattle.heap_blocks.specs.declared.marks.Mark.{Mark}
use Rattle.heap_blocks.specs.Bytes.{ChangesOnly}
use Rattle.heap_blocks.specs.Heads.{new_header}
use Rattle.heap_blocks.specs.Held.{HasAddress, HasHeaders, HeapModel, Holds, IsObject, IsPlaced, address_of, fit_of}
use Rattle.heap_blocks.specs.Runs.{HasNoRun, IsFirstRun}

-- says so of each list of blocks that the heap holds; where the bytes have the headers of all; and of each block that is
-- that of the object at an address
abbrev pub EachHeld : HeapModel → (List Block → Type 0) → Type 0
EachHeld heap says = (held : List Block) → Holds heap held → says held

abbrev pub EachHeaded : HeapModel → List ℕ → (List Block → Type 0) → Type 0
EachHeaded heap bytes says = (held : List Block) → Holds heap held → HasHeaders heap.base bytes held → says held

abbrev pub ForOwner : HeapModel → List ℕ → ℕ → (List Block → Block → Type 0) → Type 0
ForOwner heap bytes addr says = (held : List Block) (b : Block) → IsObject heap bytes addr held b → says held b

-- the blocks that are held once an object is placed, and its address
abbrev pub held_with : HeapModel → List Block → ℕ → ℕ → List Block
held_with heap held birth size = with_block held birth (block_size size) (fit_of heap held size)

abbrev pub address_for : HeapModel → List Block → ℕ → Option ℕ
address_for heap held size = option_map (address_of heap) (fit_of heap held size)

-- the first free run of so many marks is found, if there is one
abbrev pub FindsRun : List Mark → ℕ → Option ℕ → Type 0
FindsRun marks count found = MatchOption found (HasNoRun marks count) (IsFirstRun marks count)

-- so many steps are taken where something is found, and none where nothing is
abbrev pub StepsIfFound : {A : Type 0} → Option A → ℕ → ℕ → ℕ → Type 0
StepsIfFound found before after more = MatchOption found (after ≡ before) (λ _. after ≡ before + more)

-- the header of an object that is queued last, by a free at a line
abbrev pub queued : Header → ℕ → ℕ → Header
queued header state line = record header { state = state; freed = line; next = 0 }

-- a new object of that birth and size is placed at an address, with its header
abbrev pub IsPlacedObject : List ℕ → List ℕ → ℕ → ℕ → ℕ → ℕ → ℕ → Type 0
IsPlacedObject before after birth size layout line addr =
    IsPlaced before after addr (block_size size) (new_header birth size layout line)

-- the bytes have the headers of all blocks, and then that of the new one too
abbrev pub GainsHeader : HeapModel → HeapModel → List ℕ → List ℕ → ℕ → ℕ → Type 0
GainsHeader heap heap' before after birth size =
    EachHeaded heap before (λ held. HasHeaders heap'.base after (held_with heap held birth size))

-- the object of the block that has the byte at an address is answered
abbrev pub AnswersOwner : HeapModel → ℕ → Option ℕ → Type 0
AnswersOwner heap addr answer =
    (held : List Block) (b : Block) → Holds heap held → Contains held b → HasAddress heap addr b →
    answer ≡ Some (address_of heap b.place)

-- no byte outside the block changes
abbrev pub ChangesBlock : HeapModel → Block → List ℕ → List ℕ → Type 0
ChangesBlock heap b before after = ChangesOnly before after (heap.base + b.place) b.length
