-- Laws of the pins that are listed.
use Rattle.std.specs.Prelude.{◌≡◌, ◌<◌, ℕ, AllPairs, Some, filter, length, map, slice_get}
use Rattle.std.specs.List.{range_with_len}
use Rattle.core_tree.specs.declared.program.Core.{Core}
use Rattle.core_tree.specs.declared.program.Func.{Func}
use Rattle.core_tree.specs.declared.statements.Stm.{Stm}
use Rattle.object_meaning.specs.counted.Pinning.{AreExact, Pins, counts_at, pins_in, pins_of}
use Rattle.count_insertion.specs.Inserted.{func_pins}

-- those of all functions are the exact pins of the core
abbrev pub ListedAreExact : Type 0
ListedAreExact = (core : Core) (pins : Pins) → pins ≡ map func_pins core.funcs → AreExact core pins

-- those of each point ascend
abbrev pub ListedAscend : Type 0
ListedAscend =
    (core : Core) (pins : Pins) → pins ≡ map func_pins core.funcs → (f point : ℕ) → AllPairs (λ one other. one < other) (pins_of pins f point)

-- those of a point are the registers that count there
abbrev pub ListedCount : Type 0
ListedCount =
    (func : Func) (point : ℕ) (stm : Stm) → slice_get func.body point ≡ Some stm → pins_in (func_pins func) point ≡ filter (counts_at func point stm.kind) (range_with_len 0 (length func.regs))
