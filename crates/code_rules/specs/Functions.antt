-- What is asked of a function, and not of its instructions.
use Rattle.std.specs.Prelude.{◌≡◌, ◌<◌, ◌≤◌, ℕ, [], length, slice_get, All, Some, IsSome}
use Rattle.flat_code.specs.declared.program.Code.{Code}
use Rattle.flat_code.specs.declared.program.Entry.{Entry}
use Rattle.flat_code.specs.declared.instructions.Instr.{Instr}
use Rattle.flat_code.specs.WellFormed.{IsAt, end_of, handed_before}

-- a function without what is asked of its returns and its scopes
pub record IsFramed (code : Code) (f : ℕ) (entry : Entry) : Type 0 where
  pub first : 1 ≤ entry.first
  pub some : entry.first < end_of code f
  pub afresh : handed_before code entry entry.first ≡ []
  pub params : entry.params ≤ length entry.kinds
  pub mems : All (λ n. IsSome (slice_get code.layouts n)) entry.mems

-- P of the function of a number, where there is one
abbrev pub OfEntry : Code → (ℕ → Entry → Type 0) → ℕ → Type 0
OfEntry code P f = (entry : Entry) → slice_get code.funcs f ≡ Some entry → P f entry

-- an instruction is one of a function
abbrev pub IsOfFunction : Code → ℕ → Type 0
IsOfFunction code point = (f : ℕ) × (entry : Entry) × (i : Instr) × IsAt code f entry point i
