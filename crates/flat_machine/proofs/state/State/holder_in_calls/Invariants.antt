use Rattle.std.proofs.Common.{◌≡◌, ◌<◌, ℕ, None, get_or}
use Rattle.std.specs.Prelude.{reverse}
use Rattle.object_meaning.specs.objects.Holding.{first_of}
use Rattle.object_meaning.specs.code.CodeState.{CodeState}
use Rattle.flat_machine.specs.Pinning.{NamesHeld}
use Rattle.flat_machine.specs.Holding.{in_frame}
use Rattle.flat_machine.proofs.state.State.holder_in_calls.Given as goal

abbrev pub invariant-loop-k : goal.invariant-loop-k
invariant-loop-k g l =
    (places : ℕ → ℕ) (c : CodeState) (birth : ℕ) → NamesHeld places c birth l.self → (j : ℕ) → j < l.k → first_of (in_frame l.self.pins birth (get_or (reverse c.state.waiting) j c.state.running)) ≡ None
