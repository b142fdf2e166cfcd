use Rattle.std.proofs.Common.{subst, sym}
use Rattle.flat_objects.specs.Freeing.{MayLeave}
use Rattle.flat_machine.specs.Kept.{Kept}
use Rattle.flat_machine.proofs.state.State.close_scope.Goals as goal

pub returns-clause-inner : goal.returns-clause-inner
returns-clause-inner g c = λ places objects frees may.
    c.leave.ensures.inner places objects frees (subst (λ (m : Kept). MayLeave m.memory places objects frees) (sym c.self.view_is) may)
