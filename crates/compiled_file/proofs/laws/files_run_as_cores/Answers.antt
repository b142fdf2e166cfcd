use Rattle.std.proofs.Common.{sym, ap, ◌∙◌}
use Rattle.hs_base.specs.State.{State}
use Rattle.compiled_file.proofs.laws.files_run_as_cores.Goals as goal

pub returns : goal.returns
returns c = λ core file sound of input n heap.
    let by_numbers = c.code_means_core.ensures.meaning core of.pins file.code sound of.exact of.ascending of.compiled input n heap in
    let by_holders = c.counted_means_core.ensures.meaning core of.pins sound of.exact input n heap in
    record {
      trace = sym by_numbers.trace ∙ by_holders.trace;
      ended = sym by_numbers.ended ∙ by_holders.ended;
      objects = sym by_numbers.state.objects ∙ ap (λ (s : State). s.objects) by_holders.state;
    }
