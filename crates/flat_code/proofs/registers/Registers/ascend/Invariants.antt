use Rattle.std.proofs.Common.{ℕ, ◌+◌, ◌<◌, get_or}
use Rattle.flat_code.specs.declared.registers.Run.{Run}
use Rattle.flat_code.proofs.registers.Registers.ascend.Given as goal

abbrev pub invariant-loop-i : goal.invariant-loop-i
invariant-loop-i l =
    (k : ℕ) (d : Run) → k + 1 < l.i → (get_or l.self-inside.runs.items k d).last < (get_or l.self-inside.runs.items (k + 1) d).first
