use Rattle.std.proofs.Common.{◌≡◌, ℕ, take}
use Rattle.std.specs.Prelude.{sum_by}
use Rattle.count_table.proofs.excess.Excess.total.Given as goal

abbrev pub invariant-loop-pair : goal.invariant-loop-pair
invariant-loop-pair l = l.total ≡ sum_by (λ (p : ℕ × ℕ). p.1) (take l.pair-index l.pair-items)
