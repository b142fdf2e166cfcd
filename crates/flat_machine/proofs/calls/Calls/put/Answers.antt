use Rattle.flat_machine.proofs.Stacks.{put_at}
use Rattle.flat_machine.proofs.calls.Calls.put.Goals as goal

pub returns-then-r-len : goal.returns-then-r-len
returns-then-r-len c =
    put_at c.self.inside.words.items c.self.inside.locals.items c.self.inside.waiting.items c.self.inside.running c.self.inside.room c.self.invariant.0 _ c.self.view_is c.args.r c.in-Some.r c.args.word c.in-Some.is
