use Rattle.std.proofs.Common.{arith}
use Rattle.flat_machine.proofs.Stacks.{local_at, local_held, local_room}
use Rattle.flat_machine.proofs.calls.Calls.add_local.Goals as goal

pub unreachable-requires : goal.unreachable-requires
unreachable-requires c =
    let room = local_room c.self.inside.words.items c.self.inside.locals.items c.self.inside.waiting.items c.self.inside.running c.self.inside.room c.self.invariant.0 c.args.self.now c.self.view_is c.requires in grind (arith, c.self.invariant.0.top.within, c.self.invariant.2)

pub invariant_of-self : goal.invariant_of-self
invariant_of-self c =
    (local_held c.self.inside.words.items c.self.inside.locals.items c.self.inside.waiting.items c.self.inside.running c.self.inside.room c.self.invariant.0 c.args.self.now c.self.view_is c.requires c.args.addr c.push.new.self.items c.in-Ok.ensures.items, omega (arith, c.self.invariant.1), grind (arith, c.self.invariant.2), omega (arith, c.self.invariant.3))

pub returns : goal.returns
returns c = local_at c.self.inside.words.items c.self.inside.locals.items c.self.inside.waiting.items c.self.inside.running c.self.inside.room c.self.invariant.0 c.args.self.now c.self.view_is c.args.addr c.push.new.self.items c.in-Ok.ensures.items
