use Rattle.std.proofs.Common.{ℕ}
use Rattle.object_meaning.specs.code.CodeState.{CodeState}
use Rattle.flat_machine.specs.Locals.{HasMade}
use Rattle.flat_machine.specs.Standing.{Stands}
use Rattle.flat_machine.proofs.state.State.make_locals.Given as goal

abbrev pub invariant-loop-k : goal.invariant-loop-k
invariant-loop-k g l =
    (places : ℕ → ℕ) (c : CodeState) → Stands places c l.fn.self → HasMade l.code l.entry places c l.k l.fn.self l.self
