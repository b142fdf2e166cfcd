use Rattle.std.proofs.Common.{ℕ, List}
use Rattle.delay_scopes.specs.Walks.{IsChain}
use Rattle.delay_scopes.proofs.Finding.{NoneYet}
use Rattle.delay_scopes.proofs.scopes.Scopes.find_held.Given as goal

abbrev pub invariant-loop-place : goal.invariant-loop-place
invariant-loop-place g l =
    (queue : List ℕ) → IsChain l.self l.bytes queue → NoneYet l.bytes l.counts.counts queue l.initial.steps l.steps l._place l.block
