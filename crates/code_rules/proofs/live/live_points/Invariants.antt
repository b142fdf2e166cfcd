use Rattle.std.proofs.Common.{◌≡◌, not, length, count_by}
use Rattle.code_rules.specs.Lively.{AreLive}
use Rattle.code_rules.proofs.live.live_points.Given as goal

abbrev pub invariant-loop : goal.invariant-loop
invariant-loop l = record { long : length l.marks.items ≡ length l.code.instrs; live : AreLive l.code l.register l.marks.items }

-- how many instructions are not marked
abbrev pub decreases-loop : goal.decreases-loop
decreases-loop l = count_by not l.marks.items
