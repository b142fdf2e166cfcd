use Rattle.std.proofs.Common.{◌≡◌, ◌+◌, ◌*◌}
use Rattle.hs_base.specs.Access.{overlaid}
use Rattle.byte_memory.specs.Bytes.{part}
use Rattle.typed_copies.proofs.moving.move_down.Given as goal

abbrev pub invariant-loop-k : goal.invariant-loop-k
invariant-loop-k g l = record {
  moved : l.bytes ≡ overlaid l.initial.bytes l.to (part l.initial.bytes l.from l.k);
  steps : l.steps ≡ l.initial.steps + 2 * l.k;
}
