use Rattle.std.proofs.Common.{subst}
use Rattle.flat_objects.specs.Memory.{IsMemory}
use Rattle.flat_objects.proofs.Plain.{plain_allowed, plain_inside}
use Rattle.flat_objects.proofs.memory.FlatObjects.access_integer.Goals as goal

pub returns-then-are_plain-clause-allows : goal.returns-then-are_plain-clause-allows
returns-then-are_plain-clause-allows g c = λ places objects p at.
    let shape = subst (IsMemory c.self.inside.locals_from c.self.inside.heap_from) c.self.view_is c.self.invariant in
    let plain = c.are_plain.ensures c.if-are_plain.true in
    plain_allowed c.self.inside.locals_from c.self.inside.heap_from c.args.self.now shape places objects c.args.addr c.args.n c.requires.width plain.0 plain.1 p at

pub returns-then-are_plain-clause-inside : goal.returns-then-are_plain-clause-inside
returns-then-are_plain-clause-inside g c =
    let kept = c.requires.kept in
    let shape = subst (IsMemory c.self.inside.locals_from c.self.inside.heap_from) c.self.view_is c.self.invariant in
    let plain = c.are_plain.ensures c.if-are_plain.true in
    plain_inside c.self.inside.locals_from c.self.inside.heap_from c.args.self.now shape kept.0 kept.1 c.args.addr c.args.n c.requires.width plain.0 plain.1 kept.2 kept.3
