-- Statements whose numbers are in range, while a text is walked.
use Rattle.std.specs.Prelude.{ℤ, pos, ◌≤ℤ◌, List, [], ◌∷◌}
use Rattle.c_types.specs.declared.layouts.Layout.{Layout}
use Rattle.core_tree.specs.declared.statements.Atom.{Atom}
use Rattle.core_tree.specs.declared.statements.Atom.TheVariants as atom
use Rattle.core_tree.specs.declared.statements.StmKind.{StmKind}
use Rattle.core_tree.specs.declared.statements.StmKind.TheVariants.{Add, Sub, Off, Diff, Copy, Clear, Case, Malloc, Calloc, Realloc}
use Rattle.core_tree.specs.Statements.{operands}
use Rattle.core_tree.specs.LayoutsOfTypes.{IsLayoutOfType}
use Rattle.core_tree.specs.Sound.{IsNumber}
use Rattle.elaboration.specs.Context.{Piece, Does, Here}

-- a size of an element
abbrev pub IsStep : ℤ → Type 0
IsStep s = (pos 1 ≤ℤ s) × (s ≤ℤ pos 268435456)

-- an integer operand is what a register can hold
abbrev pub AtomIn : Atom → Type 0
AtomIn (atom.Int v) = IsNumber v
AtomIn a = Unit {0}

abbrev pub AtomsIn : List Atom → Type 0
AtomsIn [] = Unit {0}
AtomsIn (a ∷ atoms) = AtomIn a × AtomsIn atoms

-- a layout of elements is that of a type, and no larger than an object
abbrev pub IsElement : Layout → Type 0
IsElement l = IsStep (pos l.size) × IsLayoutOfType l

-- the numbers that a statement has beside its operands
abbrev pub OwnIn : StmKind → Type 0
OwnIn (Add r p a s) = IsStep s
OwnIn (Sub r p a s) = IsStep s
OwnIn (Diff r p q s) = IsStep s
OwnIn (Off r p v) = IsNumber v
OwnIn (Copy p q v) = IsNumber v
OwnIn (Clear p v) = IsNumber v
OwnIn (Case a v l) = IsNumber v
OwnIn (Malloc r k t) = IsElement t
OwnIn (Calloc r m k t) = IsElement t
OwnIn (Realloc r p k t) = IsElement t
OwnIn kind = Unit {0}

-- the numbers of a statement, and of pieces of code
abbrev pub KindIn : StmKind → Type 0
KindIn kind = AtomsIn (operands kind) × OwnIn kind

abbrev pub PiecesIn : List Piece → Type 0
PiecesIn [] = Unit {0}
PiecesIn (Does stm ∷ pieces) = KindIn stm.kind × PiecesIn pieces
PiecesIn (Here label ∷ pieces) = PiecesIn pieces
