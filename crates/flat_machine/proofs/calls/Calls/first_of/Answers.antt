use Rattle.std.proofs.Common.{List, ap, get_or, ◌∙◌}
use Rattle.flat_machine.specs.declared.call.Call.{Call}
use Rattle.flat_machine.proofs.Numbered.{first_is}
use Rattle.flat_machine.proofs.calls.Calls.first_of.Goals as goal

pub returns : goal.returns
returns c =
    ap (λ (x : Call). x.first) (c.call_in.ensures ∙ ap (λ (calls : List Call). get_or calls c.args.k c.self.inside.running) c.as_slice.ensures.value)
    ∙ first_is c.self.inside.words.items c.self.inside.locals.items c.self.inside.waiting.items c.self.inside.running c.self.inside.room c.args.self.now c.self.view_is c.args.k
