use Rattle.std.proofs.Common.{refl, rules}
use Rattle.c_units.proofs.WalkSteps.{params_same, items_in}
use Rattle.c_units.proofs.walk.Walk.kind_params.Goals as goal

pub returns-in-Params-clause-same : goal.returns-in-Params-clause-same
returns-in-Params-clause-same c = λ line.
    params_same c.params.result c.args.self.now _ c.args.kind.now line c.in-Params.list c.in-Params.list _ c.params.new.list
    c.in-Params.is refl (items_in _ _ _ c.in-Params.list-is c.deref_mut.ensures.value) c.requires (search rules) c.params.auto.list c.params.ensures.trees
