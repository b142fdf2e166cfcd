use Rattle.std.proofs.Common.{◌≡◌, ◌+◌, replicate}
use Rattle.hs_base.specs.Access.{overlaid}
use Rattle.typed_copies.proofs.moving.fill.Given as goal

abbrev pub invariant-loop-k : goal.invariant-loop-k
invariant-loop-k g l = record {
  filled : l.bytes ≡ overlaid l.initial.bytes l.to (replicate l.k l.byte);
  steps : l.steps ≡ l.initial.steps + l.k;
}
