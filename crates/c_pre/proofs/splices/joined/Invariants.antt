use Rattle.std.proofs.Common.{◌≡◌, ◌+◌, ◌-◌, ◌≤◌, ◌++◌, length, drop}
use Rattle.c_pre.specs.Lines.{lines_of}
use Rattle.c_pre.specs.Splices.{joined}
use Rattle.c_pre.proofs.splices.joined.Given as goal

abbrev pub invariant-lines : goal.invariant-lines
invariant-lines l = record {
  bytes : l.whole.items ++ joined l.taken (lines_of (drop l.at l.text)) ≡ joined 0 (lines_of l.text);
  len : length l.whole.items + l.taken ≡ l.at;
  within : l.at ≤ length l.text;
}

abbrev pub decreases-lines : goal.decreases-lines
decreases-lines l = length l.text - l.at
