use Rattle.std.proofs.Common.{◌≡◌, ◌+◌, ◌++◌, take}
use Rattle.flat_machine.specs.Noting.{reads_in}
use Rattle.flat_machine.proofs.page.Page.put_all.Given as goal

abbrev pub invariant-loop-i : goal.invariant-loop-i
invariant-loop-i l = record {
  room : l.self.room + l.i ≡ l.fn.self.room;
  notes : l.self.notes ≡ l.fn.self.notes ++ take l.i l.bytes;
  reads : reads_in l.self.notes ≡ reads_in l.fn.self.notes;
}
