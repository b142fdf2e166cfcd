use Rattle.std.proofs.Common.{length, ◌-◌, ◌≤◌}
use Rattle.c_lexer.proofs.Ends.{AtString}
use Rattle.c_lexer.proofs.literal.string_end.Given as goal

abbrev pub invariant-loop-at : goal.invariant-loop-at
invariant-loop-at l = record { reached : AtString l.text l.at; within : l.at ≤ length l.text }

abbrev pub decreases-loop-at : goal.decreases-loop-at
decreases-loop-at l = length l.text - l.at
