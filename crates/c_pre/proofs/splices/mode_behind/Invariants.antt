use Rattle.std.proofs.Common.{◌≡◌, drop}
use Rattle.c_pre.specs.Splices.{mode_behind}
use Rattle.c_pre.specs.declared.comments.Mode.TheVariants.{Code}
use Rattle.c_pre.proofs.splices.mode_behind.Given as goal

abbrev pub invariant-loop-at : goal.invariant-loop-at
invariant-loop-at l = mode_behind l.mode (drop l.at l.bytes) ≡ mode_behind Code l.bytes
