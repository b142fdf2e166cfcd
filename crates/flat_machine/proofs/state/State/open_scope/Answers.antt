use Rattle.std.proofs.Common.{subst, sym}
use Rattle.flat_objects.specs.Counting.{Tracks}
use Rattle.flat_machine.specs.Kept.{Kept}
use Rattle.flat_machine.proofs.state.State.open_scope.Goals as goal

pub returns-clause-tracks : goal.returns-clause-tracks
returns-clause-tracks c = λ places objects frees tracks.
    c.enter.ensures.tracks places objects frees (subst (λ (m : Kept). Tracks m.memory places objects frees) (sym c.self.view_is) tracks)
