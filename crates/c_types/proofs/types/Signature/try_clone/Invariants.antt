use Rattle.std.proofs.Common.{◌≡◌, take}
use Rattle.c_types.proofs.types.Signature.try_clone.Given as goal

abbrev pub invariant-loop-param : goal.invariant-loop-param
invariant-loop-param l = l.params.items ≡ take l.param-index l.param-items
