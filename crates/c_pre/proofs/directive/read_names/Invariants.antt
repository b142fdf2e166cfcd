use Rattle.std.proofs.Common.{◌≡◌, [], length}
use Rattle.c_pre.specs.Directives.{names_from}
use Rattle.c_pre.proofs.directive.read_names.Given as goal

abbrev pub invariant-loop-rest : goal.invariant-loop-rest
invariant-loop-rest l = names_from l.names l.rest ≡ names_from [] l.tokens

abbrev pub decreases-loop-rest : goal.decreases-loop-rest
decreases-loop-rest l = length l.rest
