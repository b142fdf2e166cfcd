use Rattle.std.proofs.Common.{◌≡◌, ◌++◌, map}
use Rattle.elaboration.specs.Resolving.{literal_static}
use Rattle.elab_core.proofs.program.with_literals.Given as goal

abbrev pub invariant-loop-bytes : goal.invariant-loop-bytes
invariant-loop-bytes l = l.all ≡ l.fn.statics ++ map literal_static l.yielded
