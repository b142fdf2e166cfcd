use Rattle.std.proofs.Common.{◌≤◌, ◌-◌, length, ℕ}
use Rattle.c_typing.proofs.typer.count.Given as goal

-- the count lies between
abbrev pub invariant-loop-low : goal.invariant-loop-low
invariant-loop-low l = record { low : l.low ≤ length l.tags.made; high : length l.tags.made ≤ l.high }

abbrev pub decreases-loop-low : goal.decreases-loop-low
decreases-loop-low l = l.high - l.low
