use Rattle.std.proofs.Common.{◌≡◌, ◌+◌, ◌*◌, replicate}
use Rattle.byte_memory.specs.Bytes.{part}
use Rattle.heap_blocks.specs.Bytes.{ChangesOnly}
use Rattle.heap_blocks.proofs.blocks.clear.Given as goal

abbrev pub invariant-loop-word : goal.invariant-loop-word
invariant-loop-word g l = record {
  zero : part l.bytes l.from (8 * l.word) ≡ replicate (8 * l.word) 0;
  outside : ChangesOnly l.initial.bytes l.bytes l.from (8 * l.words);
  steps : l.steps ≡ l.initial.steps + l.word;
}
