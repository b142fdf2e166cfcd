use Rattle.std.proofs.Common.{◌∙◌, ap}
use Rattle.byte_memory.specs.Filled.{filled_up}
use Rattle.byte_memory.specs.FilledEquations.{filled_none}
use Rattle.byte_memory.proofs.flat_bytes.FlatBytes.new.Goals as goal

pub returns : goal.returns
returns c = ap (λ l. filled_up l c.args.n 0) c.in_ok-with_capacity.ensures.items ∙ filled_none c.args.n 0
