use Rattle.std.proofs.Common.{◌∙◌, ap}
use Rattle.byte_memory.specs.Filled.{filled_up}
use Rattle.byte_memory.specs.FilledEquations.{filled_none}
use Rattle.heap_blocks.specs.declared.marks.Mark.TheVariants.{Free}
use Rattle.heap_blocks.proofs.marks.Marks.new.Goals as goal

pub returns : goal.returns
returns c = ap (λ l. filled_up l c.args.len Free) c.in_ok-with_capacity.ensures.items ∙ filled_none c.args.len Free
