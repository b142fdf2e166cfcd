use Rattle.std.proofs.Common.{◌≡◌, ℕ, ◌+◌, ◌≤◌, length, drop}
use Rattle.c_pre.specs.Expansion.{parameters_of, substituted, replaced}
use Rattle.c_pre.specs.Table.{Numbers}
use Rattle.c_pre.proofs.substitute.passes.Given as goal

abbrev pub invariant-loop-token : goal.invariant-loop-token
invariant-loop-token l = record {
  left : (line : ℕ) (numbers : Numbers) → length (replaced line numbers l.expanded l.it) + l.room ≡ l.most + length (substituted line numbers (parameters_of l.it.parameters) l.expanded (drop l.token-index l.token-items));
  room : l.room ≤ l.most;
}
