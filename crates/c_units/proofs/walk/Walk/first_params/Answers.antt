use Rattle.c_units.proofs.DefinedParams.{first_same}
use Rattle.c_units.proofs.walk.Walk.first_params.Goals as goal

pub returns-then-list-gt0-clause-same : goal.returns-then-list-gt0-clause-same
returns-then-list-gt0-clause-same c =
    first_same c.kind_params.result c.args.list.now c.index-list-0.result c.kind_params.new.kind c.if-list-gt0.true c.kind_params.ensures.same
