use Rattle.std.proofs.Common.{◌≡◌, ◌++◌, ◌-◌, replicate, take, length}
use Rattle.flat_codegen.proofs.statics.length_without_zeros.Given as goal

-- from the place on there are zeros
abbrev pub invariant-loop-place : goal.invariant-loop-place
invariant-loop-place l = l.bytes ≡ take l.place l.bytes ++ replicate (length l.bytes - l.place) 0
