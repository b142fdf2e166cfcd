use Rattle.std.proofs.Common.{subst}
use Rattle.flat_objects.specs.Memory.{IsMemory}
use Rattle.flat_objects.proofs.Distances.{moved_far_is}
use Rattle.flat_objects.proofs.memory.FlatObjects.moved_far.Goals as goal

pub returns-else-addr-eq0 : goal.returns-else-addr-eq0
returns-else-addr-eq0 c = λ distance far places objects p at.
    let shape = subst (IsMemory c.self.inside.locals_from c.self.inside.heap_from) c.self.view_is c.self.invariant in
    moved_far_is c.self.inside.locals_from c.self.inside.heap_from c.args.self.now shape places objects p c.args.addr distance at c.if-addr-eq0.false far
