use Rattle.std.proofs.Common.{◌+◌, ◌≤◌}
use Rattle.machine_tests.proofs.outside.give.Given as goal

abbrev pub invariant-loop-answer : goal.invariant-loop-answer
invariant-loop-answer g l = g.S.Source.faults l.input ≤ g.S.Source.faults l.initial.input + l.answer-index
