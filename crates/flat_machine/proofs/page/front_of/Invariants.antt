use Rattle.std.proofs.Common.{◌≡◌, ◌≤◌, length, take}
use Rattle.flat_machine.specs.Noting.{bytes_put, reads_in}
use Rattle.flat_machine.specs.Noted.{numbers}
use Rattle.flat_machine.proofs.page.front_of.Given as goal

abbrev pub invariant-loop-i : goal.invariant-loop-i
invariant-loop-i l = record {
  few : l.passed ≤ l.bytes;
  passed : l.passed ≡ length (bytes_put (numbers (take l.i l.notes)));
  reads : l.reads ≡ reads_in (numbers (take l.i l.notes));
  short : l.reads ≤ l.i;
}
