use Rattle.c_units.proofs.DefinedParams.{direct_same}
use Rattle.c_units.proofs.walk.Walk.+parameters.Goals as goal

pub defined_params-returns-in-Direct-clause-same : goal.defined_params-returns-in-Direct-clause-same
defined_params-returns-in-Direct-clause-same t c =
    direct_same c.base_params.result c.args.declarator.now _ c.in-Direct.base c.base_params.new.base _ c.in-Direct.list _ c.base_params.new.list c.in-Direct.is c.in-Direct.base-is c.in-Direct.list-is
    c.deref_mut-in-Direct.ensures.value c.base_params.auto.list c.base_params.ensures.base c.base_params.ensures.list
