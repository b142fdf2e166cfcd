-- What the header of a block is in bytes.
use Rattle.std.specs.Prelude.{ℕ, ◌+◌, List}
use Rattle.byte_memory.specs.Bytes.{word}
use Rattle.heap_blocks.specs.declared.headers.Header.{Header}

-- the header of the block at an address
abbrev pub header_at : List ℕ → ℕ → Header
header_at bytes block = record {
  birth = word bytes block 8;
  size = word bytes (block + 8) 4;
  layout = word bytes (block + 12) 4;
  line = word bytes (block + 16) 4;
  state = word bytes (block + 20) 4;
  freed = word bytes (block + 24) 4;
  next = word bytes (block + 28) 4;
}

-- the header of a new object: it is live, and neither freed nor queued
abbrev pub new_header : ℕ → ℕ → ℕ → ℕ → Header
new_header birth size layout line =
    record { birth = birth; size = size; layout = layout; line = line; state = 1; freed = 0; next = 0 }
