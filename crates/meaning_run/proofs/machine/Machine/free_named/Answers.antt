use Rattle.std.proofs.Common.{[], refl}
use Rattle.meaning_run.specs.Leading.{with_input}
use Rattle.meaning_run.proofs.machine.Machine.free_named.Goals as goal

pub returns-in_ok-enqueue-in-Ok : goal.returns-in_ok-enqueue-in-Ok
returns-in_ok-enqueue-in-Ok c = λ left. rw c.in-Ok.is (rw c.in_ok-enqueue-in-Ok.ensures at (c.in_scope.ensures left (with_input left c.args.self.now) [] c.args.held.now (refl, refl) refl))
