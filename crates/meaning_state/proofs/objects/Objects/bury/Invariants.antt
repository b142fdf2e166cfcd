use Rattle.std.proofs.Common.{◌≡◌, ◌++◌, take, drop, length}
use Rattle.hs_base.specs.Freeing.{buried}
use Rattle.meaning_state.proofs.objects.Objects.bury.Given as goal

abbrev pub invariant-loop-i : goal.invariant-loop-i
invariant-loop-i l = record {
  is : l.self-inside.list.items ≡ buried (take l.i l.initial.self-inside.list.items) ++ drop l.i l.initial.self-inside.list.items;
  len : length l.self-inside.list.items ≡ length l.initial.self-inside.list.items;
}
