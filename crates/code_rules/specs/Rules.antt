-- Rules of the instructions of one function.
use Rattle.std.specs.Prelude.{◌<◌, ℕ}
use Rattle.flat_code.specs.declared.instructions.Instr.{Instr}
use Rattle.flat_code.specs.declared.program.Code.{Code}
use Rattle.flat_code.specs.declared.program.Entry.{Entry}
use Rattle.flat_code.specs.WellFormed.{IsAt}

-- P of each instruction of a function
abbrev pub OfFunction : Code → (ℕ → Entry → ℕ → Instr → Type 0) → ℕ → Entry → Type 0
OfFunction code P f entry = (point : ℕ) (i : Instr) → IsAt code f entry point i → P f entry point i

-- P of each instruction of a function before one
abbrev pub OfFunctionBefore : Code → (ℕ → Entry → ℕ → Instr → Type 0) → ℕ → Entry → ℕ → Type 0
OfFunctionBefore code P f entry end = (point : ℕ) (i : Instr) → point < end → IsAt code f entry point i → P f entry point i

-- P of each instruction of the functions before one
abbrev pub OfFunctionsBefore : Code → (ℕ → Entry → ℕ → Instr → Type 0) → ℕ → Type 0
OfFunctionsBefore code P end = (f : ℕ) (entry : Entry) → f < end → OfFunction code P f entry
