use Rattle.c_units.proofs.FileBindings.{merge_keeps_inner}
use Rattle.c_units.proofs.laws.merge_keeps_inner_bindings.Goals as goal

pub returns : goal.returns
returns c = merge_keeps_inner
