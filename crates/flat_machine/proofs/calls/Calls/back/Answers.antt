use Rattle.flat_machine.proofs.Stacks.{back_at}
use Rattle.flat_machine.proofs.calls.Calls.back.Goals as goal

pub returns-clause-yes : goal.returns-clause-yes
returns-clause-yes c = λ _.
    back_at c.self.inside.words.items c.truncate.new.self.items c.self.inside.locals.items c.truncate-2.new.self.items c.self.inside.waiting.items c.pop.new.self.items c.in-Some.caller c.self.inside.running c.self.inside.room c.self.invariant.0 c.in-Some.ensures.items c.truncate.ensures.items c.truncate-2.ensures.items c.args.self.now c.self.view_is
