use Rattle.std.proofs.Common.{◌≡◌, ℕ, Some, length}
use Rattle.code_rules.specs.Scopes.{AreReached, AreSmall, depth_at, unknown}
use Rattle.code_rules.proofs.scopes.fill.Given as goal

abbrev pub invariant-loop : goal.invariant-loop
invariant-loop l = record {
  long : length l.depths ≡ length l.fn.depths;
  small : AreSmall l.depths;
  reached : AreReached l.code l.function l.entry l.depths;
  stays : (q s : ℕ) → depth_at l.fn.depths q ≡ Some s → depth_at l.depths q ≡ Some s;
}

-- how many places are not known
abbrev pub decreases-loop : goal.decreases-loop
decreases-loop l = unknown l.depths
