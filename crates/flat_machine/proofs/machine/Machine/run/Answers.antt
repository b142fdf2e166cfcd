use Rattle.std.proofs.Common.{◌≡◌, ap, sym, ◌∙◌}
use Rattle.flat_machine.specs.Kept.{Kept}
use Rattle.flat_machine.specs.Machined.{Machined}
use Rattle.flat_machine.proofs.Lasting.{made_left}
use Rattle.flat_machine.proofs.machine.Machine.run.Goals as goal

pub returns-clause-left : goal.returns-clause-left
returns-clause-left g c = λ fresh left taken l t.
    let stack : c.args.self.now.stack ≡ c.self.inside.stack = ap (λ (m : Machined). m.stack) (sym c.self.view_is) in
    let heap = ap (λ (m : Machined). m.kept.memory.heap.len) (sym c.self.view_is) ∙ sym (ap (λ (k : Kept). k.memory.heap.len) c.allow.ensures) in
    c.whole_run-end.ensures.left left c.args.budget (record { heap = c.args.self.now.kept.memory.heap.len; stack = c.args.self.now.stack }) taken (sym (ap (λ (k : Kept). k.steps) c.allow.ensures)) stack heap l t

pub returns-clause-made : goal.returns-clause-made
returns-clause-made g c = λ fresh left taken l t.
    made_left c.args.code.now left c.args.budget (record { heap = c.args.self.now.kept.memory.heap.len; stack = c.args.self.now.stack }) c.whole_run-end.result c.whole_run-end.new.state (returns-clause-left g c fresh left taken l t)
