use Rattle.std.proofs.Common.{◌≡◌}
use Rattle.meaning_state.proofs.Tables.{table}
use Rattle.meaning_state.proofs.liveness.live_points.Given as goal

abbrev pub invariant-loop : goal.invariant-loop
invariant-loop l = l.found.items ≡ table l.body l.r l.counter
