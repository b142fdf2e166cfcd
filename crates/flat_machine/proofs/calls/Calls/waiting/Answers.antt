use Rattle.std.proofs.Common.{arith}
use Rattle.flat_machine.proofs.Numbered.{waiting_long}
use Rattle.flat_machine.proofs.calls.Calls.waiting.Goals as goal

pub returns : goal.returns
returns c =
    omega (arith, c.len.ensures, waiting_long c.self.inside.words.items c.self.inside.locals.items c.self.inside.waiting.items c.self.inside.running c.self.inside.room c.args.self.now c.self.view_is)
