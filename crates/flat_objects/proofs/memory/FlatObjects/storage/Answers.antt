use Rattle.std.proofs.Common.{subst, arith}
use Rattle.flat_objects.specs.Memory.{IsMemory}
use Rattle.flat_objects.proofs.Storages.{stands_block, stands_local, stands_static}
use Rattle.flat_objects.proofs.memory.FlatObjects.storage.Goals as goal

pub returns-then-addr-self : goal.returns-then-addr-self
returns-then-addr-self c = λ places objects birth kept.
    let shape = subst (IsMemory c.self.inside.locals_from c.self.inside.heap_from) c.self.view_is c.self.invariant in
    stands_static c.self.inside.locals_from c.self.inside.heap_from c.args.self.now shape places objects birth c.args.addr kept (omega arith)

pub returns-then-addr-self-2 : goal.returns-then-addr-self-2
returns-then-addr-self-2 c = λ places objects birth kept.
    let shape = subst (IsMemory c.self.inside.locals_from c.self.inside.heap_from) c.self.view_is c.self.invariant in
    stands_local c.self.inside.locals_from c.self.inside.heap_from c.args.self.now shape places objects birth c.args.addr kept (omega arith) (omega arith)

pub returns-else-addr-self-2 : goal.returns-else-addr-self-2
returns-else-addr-self-2 c = λ places objects birth kept.
    let shape = subst (IsMemory c.self.inside.locals_from c.self.inside.heap_from) c.self.view_is c.self.invariant in
    stands_block c.self.inside.locals_from c.self.inside.heap_from c.args.self.now shape places objects birth c.args.addr kept (omega arith)
