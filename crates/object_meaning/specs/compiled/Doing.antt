-- The instruction that does what a statement does.
use Rattle.std.specs.Prelude.{◌≡◌, ℕ, pos, Option, Some, None, slice_get}
use Rattle.core_tree.specs.declared.program.Core.{Core}
use Rattle.core_tree.specs.declared.program.Func.{Func}
use Rattle.core_tree.specs.declared.statements.StmKind.{StmKind}
use Rattle.core_tree.specs.declared.statements.StmKind.TheVariants as stm
use Rattle.c_types.specs.declared.layouts.Layout.{Layout}
use Rattle.flat_code.specs.declared.instructions.Instr.{Instr}
use Rattle.flat_code.specs.declared.instructions.Op.{Op}
use Rattle.flat_code.specs.declared.instructions.Op.TheVariants as op
use Rattle.flat_code.specs.declared.program.Code.{Code}
use Rattle.object_meaning.specs.compiled.Handing.{instr}
use Rattle.object_meaning.specs.compiled.Places.{place_of}

-- an operation whose result goes to a register
abbrev pub to : ℕ → Op → Instr
to r o = instr o r 0 0 (pos 0)

-- one whose result may be left
abbrev pub to_chosen : Option ℕ → Op → ℕ → Instr
to_chosen None o b = instr o 0 b 0 (pos 0)
to_chosen (Some r) o b = instr o r b 1 (pos 0)

-- a new object, with the number of a layout
abbrev pub MakesNew : Code → Op → ℕ → Layout → Instr → Type 0
MakesNew code o r element i = (n : ℕ) × (i ≡ instr o r n 0 (pos 0)) × (slice_get code.layouts n ≡ Some element)

-- a call of printf, with the number of a format
abbrev pub Prints : Code → Func → ℕ → ℕ → Instr → Type 0
Prints code func r format i =
    (n : ℕ) × (i ≡ instr op.Printf r n 0 (pos 0)) × (slice_get code.formats n ≡ slice_get func.formats format)

-- the instruction does what a statement of the function of that number does, with the operands handed over
abbrev pub Does : Core → Code → ℕ → Func → StmKind → Instr → Type 0
Does core code f func (stm.Set r a) i = i ≡ to r op.Set
Does core code f func (stm.Conv k r a) i = i ≡ to r (op.Conv k)
Does core code f func (stm.Un o k r a) i = i ≡ to r (op.Un o k)
Does core code f func (stm.Bin o k r a b) i = i ≡ to r (op.Bin o k)
Does core code f func (stm.Cmp o r a b) i = i ≡ to r (op.Cmp o)
Does core code f func (stm.Add r p a size) i = i ≡ instr op.Add r 0 0 size
Does core code f func (stm.Sub r p a size) i = i ≡ instr op.Sub r 0 0 size
Does core code f func (stm.Off r p c) i = i ≡ instr op.Add r 0 0 (pos 1)
Does core code f func (stm.Diff r p q size) i = i ≡ instr op.Diff r 0 0 size
Does core code f func (stm.Pcmp o r p q) i = i ≡ to r (op.Pcmp o)
Does core code f func (stm.Test r p) i = i ≡ to r op.Test
Does core code f func (stm.Load k r p) i = i ≡ to r (op.Load k)
Does core code f func (stm.Loadp r p) i = i ≡ to r op.Loadp
Does core code f func (stm.Store k p a) i = i ≡ to 0 (op.Store k)
Does core code f func (stm.Storep p q) i = i ≡ to 0 op.Storep
Does core code f func (stm.Copy p q n) i = i ≡ to 0 op.Copy
Does core code f func (stm.Clear p n) i = i ≡ to 0 op.Clear
Does core code f func (stm.Jump l) i = i ≡ instr op.Jump 0 (place_of core f func.body l) 0 (pos 0)
Does core code f func (stm.Zero a l) i = i ≡ instr op.Zero 0 (place_of core f func.body l) 0 (pos 0)
Does core code f func (stm.Case a v l) i = i ≡ instr op.Case 0 (place_of core f func.body l) 0 (pos 0)
Does core code f func (stm.Loop l) i = i ≡ instr op.Loop 0 (place_of core f func.body l) 0 (pos 0)
Does core code f func (stm.Call g r args) i = i ≡ to_chosen r op.Call g
Does core code f func (stm.Malloc r n t) i = MakesNew code op.Malloc r t i
Does core code f func (stm.Calloc r m n t) i = MakesNew code op.Calloc r t i
Does core code f func (stm.Realloc r p n t) i = MakesNew code op.Realloc r t i
Does core code f func (stm.Free p) i = i ≡ to 0 op.Free
Does core code f func (stm.Lib name r args) i = i ≡ to_chosen r (op.Lib name) 0
Does core code f func (stm.Printf r format args) i = Prints code func r format i
Does core code f func stm.Enter i = i ≡ to 0 op.Enter
Does core code f func stm.Leave i = i ≡ to 0 op.Leave
Does core code f func (stm.Return None) i = i ≡ to 0 op.Return
Does core code f func (stm.Return (Some a)) i = i ≡ to 0 op.Give
