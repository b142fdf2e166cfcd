use Rattle.std.proofs.Common.{ℕ, take}
use Rattle.std.specs.List.{All, Contains}
use Rattle.code_rules.proofs.tables.stand_at_slots.Given as goal

abbrev pub invariant-loop-pointer : goal.invariant-loop-pointer
invariant-loop-pointer l = All (λ (p : ℕ × ℕ × ℕ). Contains l.slots p.0) (take l.pointer-index l.pointers)
