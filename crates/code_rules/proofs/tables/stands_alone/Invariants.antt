use Rattle.std.proofs.Common.{ℕ, ◌≢◌, take}
use Rattle.std.specs.List.{All}
use Rattle.code_rules.proofs.tables.stands_alone.Given as goal

abbrev pub invariant-loop-other : goal.invariant-loop-other
invariant-loop-other l = All (λ (p : ℕ × ℕ × ℕ). p.0 ≢ l.slot) (take l.other-index l.others)
