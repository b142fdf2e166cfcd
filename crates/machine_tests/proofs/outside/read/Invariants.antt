use Rattle.std.proofs.Common.{◌+◌, ◌≤◌}
use Rattle.machine_tests.proofs.outside.read.Given as goal

abbrev pub invariant-loop-name : goal.invariant-loop-name
invariant-loop-name g l = g.T.Texts.faults l.texts ≤ g.T.Texts.faults l.initial.texts + l.name-index
