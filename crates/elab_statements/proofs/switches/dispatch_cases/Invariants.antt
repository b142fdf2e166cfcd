-- The jumps of the cases so far.
use Rattle.std.proofs.Common.{◌≡◌, take}
use Rattle.elab_statements.specs.Switches.{case_pieces}
use Rattle.elab_statements.proofs.switches.dispatch_cases.Given as goal

-- the jumps of the cases so far
abbrev pub invariant-loop-case : goal.invariant-loop-case
invariant-loop-case l = l.pieces ≡ case_pieces l.line l.value (take l.case-index l.cases)
