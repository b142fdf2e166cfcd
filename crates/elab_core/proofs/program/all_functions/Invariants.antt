use Rattle.std.proofs.Common.{◌≡◌, map, length}
use Rattle.elaboration.specs.Context.{Context}
use Rattle.elaboration.specs.Resolving.{function_of}
use Rattle.elab_core.proofs.program.all_functions.Given as goal

abbrev pub invariant-loop-one : goal.invariant-loop-one
invariant-loop-one l =
    (c : Context) → length c.variables ≡ l.variables → c.functions ≡ l.functions → l.all ≡ map (function_of c) l.yielded
