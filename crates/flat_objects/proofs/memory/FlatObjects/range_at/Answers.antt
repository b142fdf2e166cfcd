use Rattle.std.proofs.Common.{arith}
use Rattle.flat_objects.proofs.memory.FlatObjects.range_at.Goals as goal

pub returns-clause-tries : goal.returns-clause-tries
returns-clause-tries g c = λ places objects p at.
    (c.ranged-range.ensures.range places objects p at, omega (arith, c.ranged-range.ensures.inside.offset))
