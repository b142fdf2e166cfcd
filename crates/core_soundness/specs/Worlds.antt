-- What statements may name while a text is walked, and which of it are integers and which pointers.
use Rattle.std.specs.Prelude.{◌≡◌, ◌<◌, ◌≤◌, ℕ, Bool, true, false, cond, List, [], ◌∷◌, length, slice_get, Option, Some, None, option_map}
use Rattle.std.specs.List.{flat_map}
use Rattle.c_types.specs.Types as types
use Rattle.c_types.specs.Types.{PlainType, PlainTypes}
use Rattle.c_print.specs.Pieces.{pieces_of}
use Rattle.core_tree.specs.declared.program.Reg.{Reg as Register}
use Rattle.core_tree.specs.declared.statements.Atom.{Atom}
use Rattle.core_tree.specs.declared.statements.Atom.TheVariants as atom
use Rattle.core_tree.specs.declared.statements.StmKind.{StmKind}
use Rattle.core_tree.specs.declared.statements.StmKind.TheVariants.{Set, Conv, Un, Bin, Cmp, Add, Sub, Off, Diff, Pcmp, Test, Load, Loadp, Store, Storep, Copy, Clear, Jump, Zero, Case, Loop, Call, Malloc, Calloc, Realloc, Free, Lib, Printf, Enter, Leave, Return}
use Rattle.core_tree.specs.Sorts.{Sort, Integer, Pointer, sort_of, lib_takes, lib_gives, piece_takes}
use Rattle.c_decls.specs.Named as n
use Rattle.c_decls.specs.Named.{PlainNamed}
use Rattle.c_decls.specs.Callees.{is_format}
use Rattle.c_decls.specs.ScopeList.{ScopeList, Table, named_in}
use Rattle.core_soundness.specs.Fitting.{ScopesFit}
use Rattle.c_decls.specs.Typed.{Operand, Number, PointerTo, Neither, operand, is_scalar}
use Rattle.elaboration.specs.Context.{Piece, Does, Here, Context, Walked, local_register, integer_temporary, pointer_temporary, file_variable, literal_object}
use Rattle.elaboration.specs.Conversions.{Found, Spot, Local, Memory, Value, Empty}
use Rattle.elaboration.specs.Locals.{is_pointer}

-- the locals of the running function; how many memory locals and how many temporaries of each sort it has; how many
-- file-scope variables and literals there are; the formats; the calls of functions; and the names at file scope
pub record World : Type 0 where
  pub locals : List Register
  pub mems : ℕ
  pub integers : ℕ
  pub pointers : ℕ
  pub variables : ℕ
  pub literals : ℕ
  pub formats : List (List ℕ)
  pub calls : List (ℕ × ℕ)
  pub file : Table

abbrev pub world : Context → World
world c = record {
  locals = c.running.locals;
  mems = length c.running.mems;
  integers = c.code.most_integers;
  pointers = c.code.most_pointers;
  variables = length c.variables;
  literals = length c.literals;
  formats = c.running.formats;
  calls = c.calls;
  file = c.scopes.file;
}

abbrev pub local_sort : World → ℕ → Option Sort
local_sort w k = option_map sort_of (slice_get w.locals k)

-- a register of a sort: a parameter or local, or a temporary
pub data IsRegister (w : World) (sort : Sort) (r : ℕ) : Type 0 where
  is_local : (k : ℕ) (at : r ≡ local_register k) (there : local_sort w k ≡ Some sort) → IsRegister w sort r
  is_integer : (k : ℕ) (at : r ≡ integer_temporary k) (there : k < w.integers) (sort_is : sort ≡ Integer) → IsRegister w sort r
  is_pointer_temporary : (k : ℕ) (at : r ≡ pointer_temporary k) (there : k < w.pointers) (sort_is : sort ≡ Pointer) → IsRegister w sort r

-- a static: a file-scope variable, or a literal
pub data IsObject (w : World) (g : ℕ) : Type 0 where
  is_variable : (k : ℕ) (at : g ≡ file_variable k) (there : k < w.variables) → IsObject w g
  is_literal : (k : ℕ) (at : g ≡ literal_object k) (there : k < w.literals) → IsObject w g

-- an operand is there, and of that sort
abbrev pub Holds : World → Sort → Atom → Type 0
Holds w sort (atom.Reg r) = IsRegister w sort r
Holds w sort (atom.Int k) = sort ≡ Integer
Holds w sort atom.Null = sort ≡ Pointer
Holds w sort (atom.Static g) = (sort ≡ Pointer) × IsObject w g
Holds w sort (atom.Mem m) = (sort ≡ Pointer) × (m < w.mems)

-- operands are there, and are as many as the sorts and of these sorts
abbrev pub HoldAll : World → List Sort → List Atom → Type 0
HoldAll w [] [] = Unit {0}
HoldAll w [] (a ∷ atoms) = ⊥
HoldAll w (sort ∷ sorts) [] = ⊥
HoldAll w (sort ∷ sorts) (a ∷ atoms) = Holds w sort a × HoldAll w sorts atoms

-- the sort of a parameter or local, and those of parameters
abbrev pub type_sort : PlainType → Sort
type_sort type = cond (is_pointer type) Pointer Integer

abbrev pub param_sorts : PlainTypes → List Sort
param_sorts types.none = []
param_sorts (types.first type rest) = type_sort type ∷ param_sorts rest

-- the sort of a result, where it has one
abbrev pub result_sort : PlainType → Option Sort
result_sort (types.Int ty) = Some Integer
result_sort (types.Pointer target) = Some Pointer
result_sort type = None

-- a result is left, or a register of its sort takes it
abbrev pub Receives : World → Option Sort → Option ℕ → Type 0
Receives w result None = Unit {0}
Receives w None (Some r) = ⊥
Receives w (Some sort) (Some r) = IsRegister w sort r

-- a function of that number is declared, and takes these arguments and gives this result
pub record IsCall (w : World) (f : ℕ) (r : Option ℕ) (args : List Atom) : Type 0 where
  pub name : List ℕ
  pub answer : PlainType
  pub params : PlainTypes
  pub there : named_in name w.file ≡ Some (n.Function (types.Function answer params) f)
  pub called : (k : ℕ) × (line : ℕ) × (slice_get w.calls k ≡ Some (f, line))
  pub takes : HoldAll w (param_sorts params) args
  pub gives : Receives w (result_sort answer) r

-- a format is there and has these arguments
abbrev pub IsPrinted : World → List Atom → Option (List ℕ) → Type 0
IsPrinted w args None = ⊥
IsPrinted w args (Some format) = (is_format format ≡ true) × HoldAll w (flat_map piece_takes (pieces_of format)) args

-- what a statement names is there, and its operands and the register that it writes are of its sorts; a return stands
-- beside this
abbrev pub Fits : World → StmKind → Type 0
Fits w (Set r a) = (sort : Sort) × IsRegister w sort r × Holds w sort a
Fits w (Conv k r a) = IsRegister w Integer r × Holds w Integer a
Fits w (Un op k r a) = IsRegister w Integer r × Holds w Integer a
Fits w (Bin op k r a b) = IsRegister w Integer r × Holds w Integer a × Holds w Integer b
Fits w (Cmp op r a b) = IsRegister w Integer r × Holds w Integer a × Holds w Integer b
Fits w (Add r p a s) = IsRegister w Pointer r × Holds w Pointer p × Holds w Integer a
Fits w (Sub r p a s) = IsRegister w Pointer r × Holds w Pointer p × Holds w Integer a
Fits w (Off r p c) = IsRegister w Pointer r × Holds w Pointer p
Fits w (Diff r p q s) = IsRegister w Integer r × Holds w Pointer p × Holds w Pointer q
Fits w (Pcmp op r p q) = IsRegister w Integer r × Holds w Pointer p × Holds w Pointer q
Fits w (Test r p) = IsRegister w Integer r × Holds w Pointer p
Fits w (Load k r p) = IsRegister w Integer r × Holds w Pointer p
Fits w (Loadp r p) = IsRegister w Pointer r × Holds w Pointer p
Fits w (Store k p a) = Holds w Pointer p × Holds w Integer a
Fits w (Storep p q) = Holds w Pointer p × Holds w Pointer q
Fits w (Copy p q k) = Holds w Pointer p × Holds w Pointer q
Fits w (Clear p k) = Holds w Pointer p
Fits w (Jump l) = Unit {0}
Fits w (Zero a l) = Holds w Integer a
Fits w (Case a v l) = Holds w Integer a
Fits w (Loop l) = Unit {0}
Fits w (Call f r args) = IsCall w f r args
Fits w (Malloc r k t) = IsRegister w Pointer r × Holds w Integer k
Fits w (Calloc r m k t) = IsRegister w Pointer r × Holds w Integer m × Holds w Integer k
Fits w (Realloc r p k t) = IsRegister w Pointer r × Holds w Pointer p × Holds w Integer k
Fits w (Free p) = Holds w Pointer p
Fits w (Lib name r args) = Receives w (lib_gives name) r × HoldAll w (lib_takes name) args
Fits w (Printf r k args) = IsRegister w Integer r × IsPrinted w args (slice_get w.formats k)
Fits w Enter = Unit {0}
Fits w Leave = Unit {0}
Fits w (Return a) = ⊥

-- a return has what the function answers, which may be nothing
abbrev pub FitsAnswer : World → Option Sort → Option Atom → Type 0
FitsAnswer w None None = Unit {0}
FitsAnswer w None (Some a) = ⊥
FitsAnswer w (Some sort) None = ⊥
FitsAnswer w (Some sort) (Some a) = Holds w sort a

-- a statement of a function that answers that
abbrev pub FitsIn : Option Sort → World → StmKind → Type 0
FitsIn answer w (Return a) = FitsAnswer w answer a
FitsIn answer w kind = Fits w kind

-- the pieces of code of such a function have lines, and their statements fit
abbrev pub PieceFits : Option Sort → World → Piece → Type 0
PieceFits answer w (Does stm) = (1 ≤ stm.line) × FitsIn answer w stm.kind
PieceFits answer w (Here label) = Unit {0}

abbrev pub PiecesFit : Option Sort → World → List Piece → Type 0
PiecesFit answer w [] = Unit {0}
PiecesFit answer w (piece ∷ pieces) = PieceFits answer w piece × PiecesFit answer w pieces

-- a value of a type is there
abbrev pub HeldAs : World → Operand → Atom → Type 0
HeldAs w (Number ty) a = Holds w Integer a
HeldAs w (PointerTo target) a = Holds w Pointer a
HeldAs w Neither a = Unit {0}

abbrev pub Held : World → PlainType → Atom → Type 0
Held w type a = HeldAs w (operand type) a

-- where an expression of a type is: a place in a register of its sort or at an address, or a value of its sort
abbrev pub StandsAs : World → Bool → PlainType → Spot → Type 0
StandsAs w true type (Local r) = (is_scalar type ≡ true) × Held w type (atom.Reg r)
StandsAs w true type (Memory a) = Holds w Pointer a
StandsAs w true type (Value a) = ⊥
StandsAs w true type Empty = ⊥
StandsAs w false type (Local r) = ⊥
StandsAs w false type (Memory a) = ⊥
StandsAs w false type (Value a) = Held w type a
StandsAs w false type Empty = operand type ≡ Neither

abbrev pub Stands : World → Found → Type 0
Stands w e = StandsAs w e.typed.is_place e.typed.type e.spot

-- what a name may be inside a function, and at file scope
abbrev pub InnerFits : World → PlainNamed → Type 0
InnerFits w (n.Object type i) = i < w.mems
InnerFits w (n.Register type i) = (is_scalar type ≡ true) × (local_sort w i ≡ Some (type_sort type))
InnerFits w (n.Function type i) = ⊥
InnerFits w other = Unit {0}

abbrev pub FileFits : World → PlainNamed → Type 0
FileFits w (n.Object type i) = i < w.variables
FileFits w (n.Register type i) = ⊥
FileFits w other = Unit {0}

abbrev pub NamesFit : World → ScopeList → Type 0
NamesFit w s = ScopesFit (FileFits w) (InnerFits w) s

-- what the statements of a function that was walked may name
abbrev pub walked_world : Context → Walked → World
walked_world c w = record {
  locals = w.running.locals;
  mems = length w.running.mems;
  integers = w.code.most_integers;
  pointers = w.code.most_pointers;
  variables = length c.variables;
  literals = length c.literals;
  formats = w.running.formats;
  calls = c.calls;
  file = c.scopes.file;
}
