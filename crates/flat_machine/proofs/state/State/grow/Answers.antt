use Rattle.std.proofs.Common.{subst}
use Rattle.hs_base.specs.declared.values.Pointer.TheVariants.{At}
use Rattle.flat_objects.specs.Standing.{IsAddressOf}
use Rattle.flat_objects.specs.Keeping.{KeepsAt}
use Rattle.flat_objects.specs.Counting.{StaysTracked}
use Rattle.flat_objects.specs.Ranges.{grown}
use Rattle.flat_machine.specs.Kept.{Kept}
use Rattle.flat_machine.proofs.state.State.grow.Goals as goal

pub returns-clause-tracks : goal.returns-clause-tracks
returns-clause-tracks g c = λ places objects new old.
    subst (λ (m : Kept). KeepsAt m.memory places objects (At new 0) c.args.to → IsAddressOf places objects (At old 0) c.args.from → StaysTracked m.memory c.grow.new.self places objects (grown objects new old)) c.self.view_is (c.grow.ensures.tracks places objects new old)
