use Rattle.std.proofs.Common.{length, ◌-◌, ◌≤◌}
use Rattle.c_lexer.proofs.Values.{AtValues}
use Rattle.c_lexer.proofs.literal.values_from.Given as goal

abbrev pub invariant-loop-at : goal.invariant-loop-at
invariant-loop-at l = record { reached : AtValues l.quote l.text l.at l.values.items; within : l.at ≤ length l.text }

abbrev pub decreases-loop-at : goal.decreases-loop-at
decreases-loop-at l = length l.text - l.at
