-- What a free answers, and what it leaves.
use Rattle.std.specs.Prelude.{◌≡◌, ◌≢◌, ◌+◌, ◌-◌, ◌<◌, ◌≤◌, ◌⊎◌, ℕ, List, length, Result, Ok, Err}
use Rattle.hs_base.specs.declared.ends.BadFree.{BadFree}
use Rattle.hs_base.specs.declared.ends.Reason.{Reason}
use Rattle.hs_base.specs.declared.ends.Reason.TheVariants.{Again, Held, NotStart}
use Rattle.byte_memory.specs.Bytes.{part}
use Rattle.hs_base.specs.Place.{Block}
use Rattle.heap_blocks.specs.declared.headers.Header.{Header}
use Rattle.heap_blocks.specs.Heads.{header_at}
use Rattle.delay_scopes.specs.Queue.{ScopesModel, IsStart, header_of}

-- why a free of an address is bad: its object is queued, or no object of a held block starts there
abbrev pub IsBadFor : ℕ → List ℕ → List Block → ℕ → Reason → Type 0
IsBadFor base bytes held addr Again = IsStart base held addr × ((header_of bytes addr).state ≡ 2)
IsBadFor base bytes held addr NotStart = ¬ IsStart base held addr
IsBadFor base bytes held addr Held = ⊥

-- a free of an address is good where the object of a held block starts there and is not queued
abbrev pub AnswersFree : ℕ → List ℕ → List Block → ℕ → ℕ → Result Unit BadFree → Type 0
AnswersFree base bytes held addr line (Ok u) = IsStart base held addr × ((header_of bytes addr).state ≢ 2)
AnswersFree base bytes held addr line (Err bad) = (bad.line ≡ line) × IsBadFor base bytes held addr bad.reason

-- so many bytes from one address and so many from another have none in common
abbrev pub AreBeside : ℕ → ℕ → ℕ → ℕ → Type 0
AreBeside from k addr n = (from + k ≤ addr) ⊎ (addr + n ≤ from)

-- the header of an object says that it is queued, by a free at a line, with none behind it
abbrev pub queued_header : Header → ℕ → Header
queued_header header line = record header { state = 2; freed = line; next = 0 }

-- the header of a block says which block was queued behind it
abbrev pub linked_header : Header → ℕ → Header
linked_header header block = record header { next = block }

-- the object at an address was queued by a free at a line: bytes 20 to 31 of its header changed, and in the header of the block that was
-- queued last before, if there was one, the bytes that name the next block
pub record IsQueuedNow (scopes : ScopesModel) (before after : List ℕ) (addr line : ℕ) : Type 0 where
  pub header : header_of after addr ≡ queued_header (header_of before addr) line
  pub link : 0 < scopes.waiting → header_at after scopes.last ≡ linked_header (header_at before scopes.last) (addr - 32)
  pub long : length after ≡ length before
  pub outside : (from k : ℕ) → AreBeside from k (addr - 12) 12 → (0 < scopes.waiting → AreBeside from k (scopes.last + 28) 4) → part after from k ≡ part before from k
