use Rattle.std.proofs.Common.{◌≡◌, ◌≤◌, take}
use Rattle.std.specs.List.{sum_by}
use Rattle.hs_base.specs.Place.{block_size}
use Rattle.flat_code.specs.declared.program.StaticInit.{StaticInit}
use Rattle.flat_code.specs.WellFormed.{static_size}
use Rattle.code_rules.proofs.tables.are_static_blocks_small.Given as goal

abbrev pub invariant-loop-item : goal.invariant-loop-item
invariant-loop-item l = record { is : l.sum ≡ sum_by (λ (s : StaticInit). block_size (static_size l.code s)) (take l.item-index l.item-items); small : l.sum ≤ 67108864 }
