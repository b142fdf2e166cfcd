use Rattle.std.proofs.Common.{◌≡◌, drop}
use Rattle.elab_base.specs.Calls.{first_undefined}
use Rattle.elab_base.proofs.externals.first_undefined.Given as goal

-- the calls that are left decide
abbrev pub invariant-loop-call : goal.invariant-loop-call
invariant-loop-call l = first_undefined l.functions (drop l.call-index l.calls) ≡ first_undefined l.functions l.calls
