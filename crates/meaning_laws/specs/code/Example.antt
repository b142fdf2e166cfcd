-- Code that writes a digit and returns it.
use Rattle.std.specs.Prelude.{ℤ, pos, [], ◌∷◌}
use Rattle.core_tree.specs.declared.statements.LibName.TheVariants.{Putchar}
use Rattle.flat_code.specs.declared.instructions.Instr.{Instr}
use Rattle.flat_code.specs.declared.instructions.Op.{Op}
use Rattle.flat_code.specs.declared.instructions.Op.TheVariants.{Start, HandInt, Lib, Give}
use Rattle.flat_code.specs.declared.program.Code.{Code}
use Rattle.flat_code.specs.declared.program.Entry.{Entry}
use Rattle.flat_code.specs.WellFormed.{IsWellFormed}
use Rattle.meaning_laws.specs.code.Laws.{HoldsBytes}

-- an instruction that names at most a number
abbrev pub instr : Op → ℤ → Instr
instr o imm = record { op = o; a = 0; b = 0; c = 0; imm = imm }

abbrev pub main : Entry
main = record { first = 1; params = 0; kinds = []; mems = [] }

-- `putchar('7'); return 7;`
abbrev pub digit : Code
digit = record {
  instrs = instr Start (pos 0) ∷ instr HandInt (pos 55) ∷ instr (Lib Putchar) (pos 0) ∷ instr HandInt (pos 7) ∷ instr Give (pos 0) ∷ [];
  funcs = main ∷ [];
  statics = [];
  layouts = [];
  sites = [];
  lines = 1 ∷ 1 ∷ 1 ∷ 2 ∷ 2 ∷ [];
  formats = [];
}

-- the laws speak of it
abbrev pub DigitIsWellFormed : Type 0
DigitIsWellFormed = IsWellFormed digit × HoldsBytes digit
