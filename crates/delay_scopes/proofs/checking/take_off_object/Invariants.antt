use Rattle.std.proofs.Common.{◌≤◌, ◌+◌, ◌*◌, take}
use Rattle.delay_scopes.specs.Pointers.{LowersBy, words_in}
use Rattle.delay_scopes.proofs.checking.take_off_object.Given as goal

abbrev pub invariant-loop-k : goal.invariant-loop-k
invariant-loop-k g l = record {
  lowered : LowersBy (take l.k (words_in l.forms l.bytes l.addr)) l.initial.counts l.counts;
  work : l.steps ≤ l.initial.steps + 2 * l.k;
}
