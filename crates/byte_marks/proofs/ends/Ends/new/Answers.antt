use Rattle.std.proofs.Common.{◌+◌, ◌/◌, ◌∙◌, ap}
use Rattle.byte_memory.specs.Filled.{filled_up}
use Rattle.byte_memory.specs.FilledEquations.{filled_none}
use Rattle.byte_marks.proofs.ends.Ends.new.Goals as goal

pub returns : goal.returns
returns c = c.reach.ensures.same ∙ ap (λ l. filled_up l (c.args.n / 16 + 1) 0) c.in_ok-list.ensures.items ∙ filled_none (c.args.n / 16 + 1) 0
