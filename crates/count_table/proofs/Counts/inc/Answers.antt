use Rattle.std.proofs.Common.{arith, rules}
use Rattle.count_table.proofs.Changed.{byte_up, excess_fits, excess_has_room, excess_up}
use Rattle.count_table.proofs.Counts.inc.Goals as goal

pub invariant_of-self : goal.invariant_of-self
invariant_of-self g c =
    (byte_up c.self.invariant c.self.view_is c.args.granule c.requires.granule c.index-low.result.now c.index-low.ensures c.if-low-lt255.true c.requires.room).table

pub returns-then-low-lt255 : goal.returns-then-low-lt255
returns-then-low-lt255 g c =
    let next = byte_up c.self.invariant c.self.view_is c.args.granule c.requires.granule c.index-low.result.now c.index-low.ensures c.if-low-lt255.true c.requires.room in
    record { count = next.is; long = next.long; sum = omega (arith, next.sum_is); steps = search rules }

pub raise-requires-clause-fits : goal.raise-requires-clause-fits
raise-requires-clause-fits g c =
    excess_fits c.self.invariant c.self.view_is c.args.granule c.requires.granule c.index-low.result.now c.index-low.ensures c.requires.room

pub raise-requires-clause-room : goal.raise-requires-clause-room
raise-requires-clause-room g c =
    excess_has_room c.self.invariant c.self.view_is c.args.granule c.requires.granule c.index-low.result.now c.index-low.ensures c.if-low-lt255.false c.requires.room

pub invariant_of-self-else-low-lt255 : goal.invariant_of-self-else-low-lt255
invariant_of-self-else-low-lt255 g c =
    (excess_up c.self.invariant c.self.view_is c.args.granule c.requires.granule c.index-low.result.now c.index-low.ensures c.if-low-lt255.false c.requires.room c.raise.new.self c.raise.ensures.raised c.raise.ensures.room).table

pub returns-else-low-lt255 : goal.returns-else-low-lt255
returns-else-low-lt255 g c =
    let next = excess_up c.self.invariant c.self.view_is c.args.granule c.requires.granule c.index-low.result.now c.index-low.ensures c.if-low-lt255.false c.requires.room c.raise.new.self c.raise.ensures.raised c.raise.ensures.room in
    record { count = next.is; long = next.long; sum = omega (arith, next.sum_is); steps = search rules }
