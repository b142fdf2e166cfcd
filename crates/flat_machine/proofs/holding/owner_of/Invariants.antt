use Rattle.std.proofs.Common.{ℕ, ◌<◌}
use Rattle.flat_machine.specs.Kept.{call_number}
use Rattle.flat_machine.specs.Pinning.{IsOwn}
use Rattle.flat_machine.proofs.holding.owner_of.Given as goal

abbrev pub invariant-loop-k : goal.invariant-loop-k
invariant-loop-k l = (j : ℕ) → j < l.k → IsOwn (call_number l.calls j) l.birth → ⊥
