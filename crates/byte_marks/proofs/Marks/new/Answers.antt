use Rattle.std.proofs.Common.{◌∙◌, ap}
use Rattle.byte_memory.specs.Filled.{filled_up}
use Rattle.byte_memory.specs.FilledEquations.{filled_none}
use Rattle.byte_marks.specs.declared.TheConstants.{NOTHING}
use Rattle.byte_marks.proofs.Marks.new.Goals as goal

pub returns : goal.returns
returns c =
    let bytes = ap (λ l. filled_up l c.args.n NOTHING) c.in_ok-with_capacity.ensures.items ∙ filled_none c.args.n NOTHING in
    λ i. record { bytes = bytes i; ends = c.in_ok-new.ensures i }
