use Rattle.std.proofs.Common.{◌≤◌, ◌+◌, ◌*◌, ℕ, List}
use Rattle.hs_base.specs.Place.{Block}
use Rattle.delay_scopes.specs.Walks.{MayRelease}
use Rattle.delay_scopes.proofs.Returning.{AreReleased}
use Rattle.delay_scopes.proofs.scopes.Scopes.release_all.Given as goal

abbrev pub invariant-loop-place : goal.invariant-loop-place
invariant-loop-place g l = record {
  released : (held : List Block) (queue : List ℕ) → MayRelease l.self l.initial.heap l.initial.bytes held queue → AreReleased l.initial.heap l.heap l.initial.bytes l.bytes held queue l._place l.block;
  work : l.steps ≤ l.initial.steps + 5 * l._place;
}
