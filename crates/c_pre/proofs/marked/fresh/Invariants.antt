use Rattle.std.proofs.Common.{◌≡◌, map}
use Rattle.c_pre.specs.Expansion.{fresh}
use Rattle.c_pre.proofs.marked.fresh.Given as goal

abbrev pub invariant-loop-token : goal.invariant-loop-token
invariant-loop-token l = l.marked.items ≡ map fresh l.yielded
