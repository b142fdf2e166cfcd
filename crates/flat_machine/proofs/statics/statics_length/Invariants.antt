use Rattle.std.proofs.Common.{◌≡◌}
use Rattle.flat_machine.specs.Loading.{blocks_length}
use Rattle.flat_machine.proofs.statics.statics_length.Given as goal

abbrev pub invariant-loop-k : goal.invariant-loop-k
invariant-loop-k l = l.length ≡ blocks_length l.code l.k
