use Rattle.std.proofs.Common.{subst}
use Rattle.flat_objects.specs.Memory.{IsMemory}
use Rattle.flat_objects.proofs.RangesFound.{found_inside, found_range}
use Rattle.flat_objects.proofs.memory.FlatObjects.ranged.Goals as goal

pub returns-clause-range : goal.returns-clause-range
returns-clause-range g c = λ places objects p at.
    found_range c.args.self.now places objects c.args.addr c.find-found.result c.requires.some c.find-found.ensures.found p at

pub returns-clause-inside : goal.returns-clause-inside
returns-clause-inside g c =
    let k = c.requires.kept in
    let shape = subst (IsMemory c.self.inside.locals_from c.self.inside.heap_from) c.self.view_is c.self.invariant in
    found_inside c.args.self.now k.0 k.1 c.args.addr c.find-found.result c.requires.some c.find-found.ensures.found c.self.inside.locals_from c.self.inside.heap_from shape c.find-found.ensures.inside k.2 k.3
