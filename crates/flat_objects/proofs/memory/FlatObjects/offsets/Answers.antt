use Rattle.std.proofs.Common.{subst}
use Rattle.flat_objects.specs.Memory.{IsMemory}
use Rattle.flat_objects.proofs.Equal.{two_objects, two_offsets}
use Rattle.flat_objects.proofs.memory.FlatObjects.offsets.Goals as goal

pub returns-then-one-other : goal.returns-then-one-other
returns-then-one-other g c = λ places objects a b at q.
    let shape = subst (IsMemory c.self.inside.locals_from c.self.inside.heap_from) c.self.view_is c.self.invariant in
    two_objects c.self.inside.locals_from c.self.inside.heap_from c.args.self.now shape places objects at.keeps c.args.p c.args.q c.spot-one.result c.spot-other.result c.if-p-eq0.false c.if-q-eq0.false c.spot-one.ensures.spot c.spot-other.ensures.spot a b at q c.if-one-other.true

pub returns : goal.returns
returns g c = λ places objects a b at q.
    let shape = subst (IsMemory c.self.inside.locals_from c.self.inside.heap_from) c.self.view_is c.self.invariant in
    two_offsets c.self.inside.locals_from c.self.inside.heap_from c.args.self.now shape places objects at.keeps c.args.p c.args.q c.spot-one.result c.spot-other.result c.if-p-eq0.false c.if-q-eq0.false c.spot-one.ensures.spot c.spot-other.ensures.spot a b at q c.if-one-other.false
