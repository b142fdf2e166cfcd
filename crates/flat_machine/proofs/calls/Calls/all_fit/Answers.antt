use Rattle.flat_machine.proofs.Stacks.{taken_there}
use Rattle.flat_machine.proofs.calls.Calls.all_fit.Goals as goal

pub returns-clause-taken : goal.returns-clause-taken
returns-clause-taken c =
    taken_there c.self.inside.words.items c.self.inside.locals.items c.self.inside.waiting.items c.self.inside.running c.self.inside.room c.self.invariant.0 c.args.self.now c.self.view_is
