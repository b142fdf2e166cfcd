-- How the operands of a statement are handed over.
use Rattle.std.specs.Prelude.{ℕ, ◌+◌, ◌^◌, ℤ, pos, ◌-ℤ◌, int_lt, cond, List, [], ◌∷◌, length}
use Rattle.core_tree.specs.declared.statements.Atom.{Atom}
use Rattle.core_tree.specs.declared.statements.Atom.TheVariants.{Reg, Int, Null, Static, Mem}
use Rattle.core_tree.specs.declared.statements.StmKind.{StmKind}
use Rattle.core_tree.specs.declared.statements.StmKind.TheVariants.{Off, Copy, Clear, Case}
use Rattle.core_tree.specs.Statements.{operands}
use Rattle.flat_code.specs.declared.instructions.Instr.{Instr}
use Rattle.flat_code.specs.declared.instructions.Op.{Op}
use Rattle.flat_code.specs.declared.instructions.Op.TheVariants as op

-- an instruction with these numbers
abbrev pub instr : Op → ℕ → ℕ → ℕ → ℤ → Instr
instr o a b c imm = record { op = o; a = a; b = b; c = c; imm = imm }

-- an integer is handed over as a signed number of 64 bits, and one that is larger by its low 64 bits
abbrev pub hand_integer : ℤ → Instr
hand_integer n =
    cond (int_lt n (pos (2 ^ 63))) (instr op.HandInt 0 0 0 n) (instr op.HandUnsigned 0 0 0 (n -ℤ pos (2 ^ 64)))

-- the instruction that hands an operand over
abbrev pub hand_of : Atom → Instr
hand_of (Reg r) = instr op.HandReg r 0 0 (pos 0)
hand_of (Int n) = hand_integer n
hand_of Null = instr op.HandNull 0 0 0 (pos 0)
hand_of (Static k) = instr op.HandStatic k 0 0 (pos 0)
hand_of (Mem k) = instr op.HandLocal k 0 0 (pos 0)

-- what a statement hands over: its operands, and behind them a number that it has beside them and that may need 64 bits
abbrev pub handed_atoms : StmKind → List Atom
handed_atoms (Off r p c) = p ∷ Int c ∷ []
handed_atoms (Case a v l) = a ∷ Int v ∷ []
handed_atoms (Copy p q n) = p ∷ q ∷ Int n ∷ []
handed_atoms (Clear p n) = p ∷ Int n ∷ []
handed_atoms kind = operands kind

-- how many instructions a statement has
abbrev pub code_length : StmKind → ℕ
code_length kind = length (handed_atoms kind) + 1
