use Rattle.std.proofs.Common.{◌≡◌, ◌+◌, ◌-◌}
use Rattle.std.specs.List.{range_with_len}
use Rattle.hs_base.specs.Freeing.{ended}
use Rattle.meaning_state.proofs.objects.Objects.end.Given as goal

abbrev pub invariant-loop-k : goal.invariant-loop-k
invariant-loop-k l = ended l.initial.self (range_with_len l.first l.count) ≡ ended l.self (range_with_len (l.first + l.k) (l.count - l.k))
