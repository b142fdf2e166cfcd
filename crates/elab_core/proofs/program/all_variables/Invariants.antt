use Rattle.std.proofs.Common.{◌≡◌, map, length}
use Rattle.elaboration.specs.Context.{Context}
use Rattle.elaboration.specs.Resolving.{variable_static}
use Rattle.elab_core.proofs.program.all_variables.Given as goal

abbrev pub invariant-loop-one : goal.invariant-loop-one
invariant-loop-one l = (c : Context) → length c.variables ≡ l.count → l.all ≡ map (variable_static c) l.yielded
