-- The machine does what the code means, and that is what the core means: by numbers, and so by holders.
use Rattle.std.proofs.Common.{sym, ◌∙◌}
use Rattle.flat_codegen.proofs.Answering.{answers}
use Rattle.flat_codegen.proofs.Lasting.{leaves, makes}
use Rattle.flat_codegen.proofs.running.execute.Goals as goal

pub returns-clause-told : goal.returns-clause-told
returns-clause-told g c = λ fresh core pins sound exact ascending is left taken k h.
    let by_numbers = c.code_means_core.ensures.meaning core pins c.args.code.now sound exact ascending is left c.args.budget c.args.machine.now.kept.memory.heap.len in
    let by_holders = c.counted_means_core.ensures.meaning core pins sound exact left c.args.budget c.args.machine.now.kept.memory.heap.len in
    answers core c.args.code.now left c.args.budget (record { heap = c.args.machine.now.kept.memory.heap.len; stack = c.args.machine.now.stack }) (sym by_holders.trace ∙ by_numbers.trace) (sym by_holders.ended ∙ by_numbers.ended) taken _ _ c.run.result
    (c.run.ensures.told fresh left taken k h)

pub returns-clause-made : goal.returns-clause-made
returns-clause-made g c = λ fresh core pins sound exact ascending is left taken k h.
    makes c.counted_means_core.ensures.tested c.code_means_core.ensures.tested core pins c.args.code.now sound exact ascending is left c.args.budget (record { heap = c.args.machine.now.kept.memory.heap.len; stack = c.args.machine.now.stack }) c.run.result _
    (c.run.ensures.made fresh left taken k h)

pub returns-clause-left : goal.returns-clause-left
returns-clause-left g c = λ fresh core pins sound exact ascending is left taken k h.
    leaves c.counted_means_core.ensures.tested c.code_means_core.ensures.tested core pins c.args.code.now sound exact ascending is left c.args.budget (record { heap = c.args.machine.now.kept.memory.heap.len; stack = c.args.machine.now.stack }) c.run.result _
    (c.run.ensures.left fresh left taken k h)
