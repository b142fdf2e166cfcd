use Rattle.c_units.proofs.Logs.{none_yet}
use Rattle.c_units.proofs.names.Scope.new.Goals as goal

pub invariant_of-result : goal.invariant_of-result
invariant_of-result c = none_yet c.new.result.items c.new-2.result c.new.ensures.items c.new-2.ensures.empty
