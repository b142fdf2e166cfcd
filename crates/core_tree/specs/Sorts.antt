-- Integers and pointers: what a register and an operand hold, and which of them a statement takes and gives.
use Rattle.std.specs.Prelude.{◌≡◌, ◌==◌, ◌<◌, ℕ, cond, length, List, [], ◌∷◌, map, take, Option, Some, None, option_map, slice_get}
use Rattle.std.specs.List.{flat_map}
use Rattle.c_print.specs.declared.piece.Piece.{Piece}
use Rattle.c_print.specs.declared.piece.Piece.TheVariants.{Plain, Item}
use Rattle.c_print.specs.Format.{IsFormat}
use Rattle.c_print.specs.Pieces.{pieces_of}
use Rattle.core_tree.specs.declared.program.Core.{Core}
use Rattle.core_tree.specs.declared.program.Func.{Func}
use Rattle.core_tree.specs.declared.program.Reg.{Reg as Register}
use Rattle.core_tree.specs.declared.statements.Atom.{Atom}
use Rattle.core_tree.specs.declared.statements.Atom.TheVariants.{Reg, Int, Null, Static, Mem}
use Rattle.core_tree.specs.declared.statements.LibName.{LibName}
use Rattle.core_tree.specs.declared.statements.LibName.TheVariants.{Exit, Abort, Memcpy, Memmove, Memset, Strlen, Strcmp, Getchar, Putchar, Puts}
use Rattle.core_tree.specs.declared.statements.StmKind.{StmKind}
use Rattle.core_tree.specs.declared.statements.StmKind.TheVariants.{Set, Conv, Un, Bin, Cmp, Add, Sub, Off, Diff, Pcmp, Test, Load, Loadp, Store, Storep, Copy, Clear, Jump, Zero, Case, Loop, Call, Malloc, Calloc, Realloc, Free, Lib, Printf, Enter, Leave, Return}

pub data Sort : Type 0 where
  Integer : Sort
  Pointer : Sort

abbrev pub sort_of : Register → Sort
sort_of reg = cond reg.pointer Pointer Integer

-- the sort of a function's register, where it has one of that number
abbrev pub register_sort : Func → ℕ → Option Sort
register_sort func r = option_map sort_of (slice_get func.regs r)

-- the sort of an operand, where what it names is there
abbrev pub atom_sort : Core → Func → Atom → Option Sort
atom_sort core func (Reg r) = register_sort func r
atom_sort core func (Int n) = Some Integer
atom_sort core func Null = Some Pointer
atom_sort core func (Static g) = option_map (λ _. Pointer) (slice_get core.statics g)
atom_sort core func (Mem m) = option_map (λ _. Pointer) (slice_get func.mems m)

-- the operand is there, and of that sort
abbrev pub Takes : Core → Func → Sort → Atom → Type 0
Takes core func sort a = atom_sort core func a ≡ Some sort

-- the operands are there, and are as many as the sorts and of these sorts
abbrev pub TakesAll : Core → Func → List Sort → List Atom → Type 0
TakesAll core func sorts atoms = map (atom_sort core func) atoms ≡ map (λ sort. Some sort) sorts

-- the register is there, and of that sort
abbrev pub Gives : Func → Sort → ℕ → Type 0
Gives func sort r = register_sort func r ≡ Some sort

-- the register that takes a result is there, if one takes it
abbrev pub HasRegister : Func → Option ℕ → Type 0
HasRegister func None = Unit {0}
HasRegister func (Some r) = r < length func.regs

-- a result is left, or a register of its sort takes it; what gives none has no register
abbrev pub GivesResult : Func → Option Sort → Option ℕ → Type 0
GivesResult func result None = Unit {0}
GivesResult func None (Some r) = ⊥
GivesResult func (Some sort) (Some r) = Gives func sort r

-- the arguments of a built-in function
abbrev pub lib_takes : LibName → List Sort
lib_takes Exit = Integer ∷ []
lib_takes Abort = []
lib_takes Memcpy = Pointer ∷ Pointer ∷ Integer ∷ []
lib_takes Memmove = Pointer ∷ Pointer ∷ Integer ∷ []
lib_takes Memset = Pointer ∷ Integer ∷ Integer ∷ []
lib_takes Strlen = Pointer ∷ []
lib_takes Strcmp = Pointer ∷ Pointer ∷ []
lib_takes Getchar = []
lib_takes Putchar = Integer ∷ []
lib_takes Puts = Pointer ∷ []

-- the result of a built-in function, where it has one
abbrev pub lib_gives : LibName → Option Sort
lib_gives Exit = None
lib_gives Abort = None
lib_gives Memcpy = Some Pointer
lib_gives Memmove = Some Pointer
lib_gives Memset = Some Pointer
lib_gives Strlen = Some Integer
lib_gives Strcmp = Some Integer
lib_gives Getchar = Some Integer
lib_gives Putchar = Some Integer
lib_gives Puts = Some Integer

-- the argument of a piece of a format; 115 is the conversion s
abbrev pub piece_takes : Piece → List Sort
piece_takes (Plain text) = []
piece_takes (Item left zeros width conv kind) = cond (conv == 115) Pointer Integer ∷ []

-- the format is one, and has these arguments
abbrev pub TakesFormat : Core → Func → List Atom → Option (List ℕ) → Type 0
TakesFormat core func args None = ⊥
TakesFormat core func args (Some format) =
    IsFormat format (pieces_of format) × TakesAll core func (flat_map piece_takes (pieces_of format)) args

-- the function is there, and has these arguments: its parameters are its first registers
abbrev pub TakesCall : Core → Func → List Atom → Option Func → Type 0
TakesCall core func args None = ⊥
TakesCall core func args (Some callee) = TakesAll core func (map sort_of (take callee.params callee.regs)) args

-- what a statement names is there, and its operands, its arguments and the register that it writes are of its sorts; the
-- results of calls stand beside this, since they are those of the callee's returns
abbrev pub IsTyped : Core → Func → StmKind → Type 0
IsTyped core func (Set r a) = (sort : Sort) × Gives func sort r × Takes core func sort a
IsTyped core func (Conv k r a) = Gives func Integer r × Takes core func Integer a
IsTyped core func (Un op k r a) = Gives func Integer r × Takes core func Integer a
IsTyped core func (Bin op k r a b) = Gives func Integer r × Takes core func Integer a × Takes core func Integer b
IsTyped core func (Cmp op r a b) = Gives func Integer r × Takes core func Integer a × Takes core func Integer b
IsTyped core func (Add r p a s) = Gives func Pointer r × Takes core func Pointer p × Takes core func Integer a
IsTyped core func (Sub r p a s) = Gives func Pointer r × Takes core func Pointer p × Takes core func Integer a
IsTyped core func (Off r p c) = Gives func Pointer r × Takes core func Pointer p
IsTyped core func (Diff r p q s) = Gives func Integer r × Takes core func Pointer p × Takes core func Pointer q
IsTyped core func (Pcmp op r p q) = Gives func Integer r × Takes core func Pointer p × Takes core func Pointer q
IsTyped core func (Test r p) = Gives func Integer r × Takes core func Pointer p
IsTyped core func (Load k r p) = Gives func Integer r × Takes core func Pointer p
IsTyped core func (Loadp r p) = Gives func Pointer r × Takes core func Pointer p
IsTyped core func (Store k p a) = Takes core func Pointer p × Takes core func Integer a
IsTyped core func (Storep p q) = Takes core func Pointer p × Takes core func Pointer q
IsTyped core func (Copy p q n) = Takes core func Pointer p × Takes core func Pointer q
IsTyped core func (Clear p n) = Takes core func Pointer p
IsTyped core func (Jump l) = Unit {0}
IsTyped core func (Zero a l) = Takes core func Integer a
IsTyped core func (Case a v l) = Takes core func Integer a
IsTyped core func (Loop l) = Unit {0}
IsTyped core func (Call f r args) = HasRegister func r × TakesCall core func args (slice_get core.funcs f)
IsTyped core func (Malloc r n t) = Gives func Pointer r × Takes core func Integer n
IsTyped core func (Calloc r m n t) = Gives func Pointer r × Takes core func Integer m × Takes core func Integer n
IsTyped core func (Realloc r p n t) = Gives func Pointer r × Takes core func Pointer p × Takes core func Integer n
IsTyped core func (Free p) = Takes core func Pointer p
IsTyped core func (Lib name r args) = GivesResult func (lib_gives name) r × TakesAll core func (lib_takes name) args
IsTyped core func (Printf r format args) = Gives func Integer r × TakesFormat core func args (slice_get func.formats format)
IsTyped core func Enter = Unit {0}
IsTyped core func Leave = Unit {0}
IsTyped core func (Return None) = Unit {0}
IsTyped core func (Return (Some a)) = (sort : Sort) × Takes core func sort a
