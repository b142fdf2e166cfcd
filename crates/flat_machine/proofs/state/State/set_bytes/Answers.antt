use Rattle.std.proofs.Common.{subst}
use Rattle.hs_base.specs.Access.{set_bytes}
use Rattle.flat_objects.specs.Keeping.{KeepsAt}
use Rattle.flat_objects.specs.Counting.{StaysTracked}
use Rattle.flat_machine.specs.Kept.{Kept}
use Rattle.flat_machine.proofs.state.State.set_bytes.Goals as goal

pub returns-clause-tracks : goal.returns-clause-tracks
returns-clause-tracks g c = λ places objects p.
    subst (λ (m : Kept). KeepsAt m.memory places objects p c.args.addr → StaysTracked m.memory c.set_bytes.new.self places objects (set_bytes objects p c.args.byte c.args.n)) c.self.view_is (c.set_bytes.ensures.tracks places objects p)
