use Rattle.std.proofs.Common.{◌≡◌, ◌≤◌, length, take}
use Rattle.flat_machine.specs.Noting.{bytes_put}
use Rattle.flat_machine.specs.Noted.{numbers}
use Rattle.flat_machine.proofs.page.first_bytes.Given as goal

abbrev pub invariant-loop-i : goal.invariant-loop-i
invariant-loop-i l = record {
  room : l.count ≤ 1024;
  long : length l.chunk ≡ 1024;
  bytes : take l.count l.chunk ≡ bytes_put (numbers (take l.i l.notes));
}
