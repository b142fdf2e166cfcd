use Rattle.std.proofs.Common.{ℕ, List}
use Rattle.delay_scopes.specs.Walks.{AreCovered}
use Rattle.delay_scopes.proofs.Covering.{AreOff}
use Rattle.delay_scopes.proofs.scopes.Scopes.take_off_all.Given as goal

abbrev pub invariant-loop-place : goal.invariant-loop-place
invariant-loop-place g l =
    (queue : List ℕ) → AreCovered l.self l.bytes l.initial.counts l.forms queue → AreOff l.bytes l.forms queue l.initial.counts l.counts l.initial.steps l.steps l._place l.block
