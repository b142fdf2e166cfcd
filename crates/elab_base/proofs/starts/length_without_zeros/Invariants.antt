use Rattle.std.proofs.Common.{◌≡◌, reverse, take}
use Rattle.elaboration.specs.Initializers.{without_zeros}
use Rattle.elab_base.proofs.starts.length_without_zeros.Given as goal

-- behind the place are zeros
abbrev pub invariant-loop-place : goal.invariant-loop-place
invariant-loop-place l = reverse (without_zeros (reverse (take l.place l.bytes))) ≡ reverse (without_zeros (reverse l.bytes))
