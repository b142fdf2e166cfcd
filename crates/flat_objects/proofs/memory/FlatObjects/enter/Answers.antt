use Rattle.std.proofs.Common.{sym, subst}
use Rattle.flat_objects.specs.Memory.{Memory}
use Rattle.flat_objects.specs.Keeping.{Keeps}
use Rattle.flat_objects.proofs.Counted.{keeps_any}
use Rattle.flat_objects.proofs.memory.FlatObjects.enter.Goals as goal

pub returns-clause-keeps : goal.returns-clause-keeps
returns-clause-keeps c = λ places objects keeps.
    let memory : Memory = record { bytes = c.self.inside.bytes; statics = c.self.inside.statics; locals = c.self.inside.locals; heap = c.self.inside.heap; counts = c.self.inside.counts; scopes = c.self.inside.scopes; forms = c.self.inside.forms; marks = c.self.inside.marks } in
    keeps_any memory memory.counts c.enter.new.self places objects (subst (λ (m : Memory). Keeps m places objects) (sym c.self.view_is) keeps)
