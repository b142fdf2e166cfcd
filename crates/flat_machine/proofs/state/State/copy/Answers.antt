use Rattle.std.proofs.Common.{subst}
use Rattle.object_meaning.specs.objects.Memory.{copied}
use Rattle.flat_objects.specs.Standing.{IsAddressOf}
use Rattle.flat_objects.specs.Keeping.{KeepsAt}
use Rattle.flat_objects.specs.Counting.{StaysTracked}
use Rattle.flat_machine.specs.Kept.{Kept}
use Rattle.flat_machine.proofs.state.State.copy.Goals as goal

pub returns-clause-tracks : goal.returns-clause-tracks
returns-clause-tracks g c = λ places objects p q.
    subst (λ (m : Kept). KeepsAt m.memory places objects p c.args.to → IsAddressOf places objects q c.args.from → StaysTracked m.memory c.copy.new.self places objects (copied objects p q c.args.n)) c.self.view_is (c.copy.ensures.tracks places objects p q)
