use Rattle.c_units.proofs.BoundExternals.{units_keep_bindings}
use Rattle.c_units.proofs.laws.units_keep_their_bindings.Goals as goal

pub returns : goal.returns
returns c = units_keep_bindings
