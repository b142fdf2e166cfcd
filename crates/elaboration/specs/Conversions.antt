-- Values: how places are read, and how values are converted and tested (C99 6.3).
use Rattle.std.specs.Prelude.{ℕ, ℤ, Bool, ◌&&◌, int_le, cond, unwrap_or, Ok}
use Rattle.hs_base.specs.declared.ends.IntKind.{IntKind}
use Rattle.hs_base.specs.Numbers.{wrapped}
use Rattle.hs_base.specs.Arithmetic.{least, greatest}
use Rattle.c_types.specs.declared.types.IntType.{IntType}
use Rattle.c_types.specs.Types.{PlainType, Int, Pointer, Array, kind_of}
use Rattle.c_types.specs.TagTable.{size_in}
use Rattle.core_tree.specs.declared.statements.Atom.{Atom}
use Rattle.core_tree.specs.declared.statements.Atom.TheVariants as atom
use Rattle.core_tree.specs.declared.statements.StmKind.TheVariants.{Set, Conv, Load, Loadp, Store, Storep, Test}
use Rattle.c_tree.specs.Tree.{Tree}
use Rattle.c_decls.specs.declared.refusal.TypeKind.TheVariants.{Operands}
use Rattle.c_decls.specs.Refusals.{then, unless}
use Rattle.c_decls.specs.Typed.{PlainTyped, Operand, Number, PointerTo, operand, read, has_no_value}
use Rattle.c_decls.specs.Expressions.{line_of}
use Rattle.elaboration.specs.Context.{Code, Context, With, emit, integer_by, pointer_by}

-- where an expression is: a local in a register, an object at an address, a value, or no value
pub data Spot : Type 0 where
  Local : (register : ℕ) → Spot
  Memory : (address : Atom) → Spot
  Value : (value : Atom) → Spot
  Empty : Spot

-- an address that is known before the run: null, or an offset in a static
pub data Fixed : Type 0 where
  Unknown : Fixed
  Nowhere : Fixed
  Inside : (static : ℕ) (offset : ℤ) → Fixed

-- an elaborated expression: what its type and its constant value are; where it is; and, where it is a place at a fixed
-- address or a fixed pointer, this address
pub record Found : Type 0 where
  pub typed : PlainTyped
  pub spot : Spot
  pub fixed : Fixed

abbrev pub found_as : PlainTyped → Spot → Fixed → Found
found_as typed spot fixed = record { typed = typed; spot = spot; fixed = fixed }

-- a value that is not fixed
abbrev pub valued_as : PlainTyped → Atom → Found
valued_as typed a = found_as typed (Value a) Unknown

-- what a spot is as an operand
abbrev pub atom_of : Spot → Atom
atom_of (Local register) = atom.Reg register
atom_of (Memory address) = address
atom_of (Value value) = value
atom_of Empty = atom.Null

-- the line of an expression's code
abbrev pub code_line : Tree → ℕ
code_line e = line_of e

-- reading

-- what a place holds: a local is copied to a temporary, an object is loaded, an array is its address
unfoldable pub read_spot : ℕ → PlainType → Spot → Context → Context × Atom
read_spot line (Int ty) (Local r) c = integer_by line (λ t. Set t (atom.Reg r)) c
read_spot line (Pointer target) (Local r) c = pointer_by line (λ t. Set t (atom.Reg r)) c
read_spot line (Int ty) (Memory a) c = integer_by line (λ t. Load (kind_of ty) t a) c
read_spot line (Pointer target) (Memory a) c = pointer_by line (λ t. Loadp t a) c
read_spot line type spot c = (c, atom_of spot)

-- a place that was read is fixed no more, unless it is an array
abbrev pub read_fixed : PlainType → Fixed → Fixed
read_fixed (Array element length) fixed = fixed
read_fixed type fixed = Unknown

abbrev pub read_value : PlainTyped → Found → Context × Atom → Context × Found
read_value typed e d =
    (d.0, found_as typed (Value d.1) (cond e.typed.is_place (read_fixed e.typed.type e.fixed) e.fixed))

-- V: an expression that is evaluated
abbrev pub valued_from : Tree → Context → Found → With Found
valued_from tree c e =
    then (read (line_of tree) c.tags e.typed) (λ typed. Ok (read_value typed e (read_spot (code_line tree) e.typed.type e.spot c)))

-- V where no value is used: an assignment to a struct or a union may stand there
abbrev pub unused : Tree → With Found → With Found
unused tree answer = then answer (λ d. valued_from tree d.0 d.1)

-- V where a value is wanted
abbrev pub wanted_from : Tree → Context → Found → With Found
wanted_from tree c e = unless (has_no_value e.typed) Operands (line_of tree) (valued_from tree c e)

abbrev pub valued : Tree → With Found → With Found
valued tree answer = then answer (λ d. wanted_from tree d.0 d.1)

abbrev pub atom_in : Found → Atom
atom_in e = atom_of e.spot

-- converting

-- whether a kind holds every number of another
abbrev pub holds_all : IntKind → IntKind → Bool
holds_all kind source = int_le (least kind) (least source) && int_le (greatest source) (greatest kind)

-- an integer of one type converted to another: nothing happens where every number stays, and a number is converted at
-- once (C99 6.3.1.3)
unfoldable pub convert_integer : ℕ → IntType → IntType → Atom → Context → Context × Atom
convert_integer line ty source (atom.Int n) c = (c, atom.Int (wrapped (kind_of ty) n))
convert_integer line ty source a c =
    cond (holds_all (kind_of ty) (kind_of source)) (c, a) (integer_by line (λ t. Conv (kind_of ty) t a) c)

-- a null pointer constant where a pointer is wanted is null, and its code is forgotten (C99 6.3.2.3)
abbrev pub forget : Code → Context → Context
forget before c = record c { code = before }

abbrev pub convert_to : ℕ → Code → Operand → Operand → Atom → Context → Context × Atom
convert_to line before (Number ty) (Number source) a c = convert_integer line ty source a c
convert_to line before (PointerTo target) (Number source) a c = (forget before c, atom.Null)
convert_to line before wanted given a c = (c, a)

-- C: a value converted to a type to which it converts; before is the code in front of the value's
abbrev pub convert : ℕ → Code → PlainType → PlainTyped → Atom → Context → Context × Atom
convert line before type e a c = convert_to line before (operand type) (operand e.type) a c

-- T: a value as an integer that is 0 or not
unfoldable pub tested : ℕ → PlainType → Atom → Context → Context × Atom
tested line (Pointer target) a c = integer_by line (λ t. Test t a) c
tested line type a c = (c, a)

abbrev pub tested_value : Tree → Context × Found → Context × Atom
tested_value tree d = tested (code_line tree) d.1.typed.type (atom_in d.1) d.0

-- writing

-- a value is written to a place of its type
unfoldable pub write : ℕ → PlainType → Spot → Atom → Context → Context
write line type (Local r) a c = emit line (Set r a) c
write line (Int ty) (Memory p) a c = emit line (Store (kind_of ty) p a) c
write line (Pointer target) (Memory p) a c = emit line (Storep p a) c
write line type spot a c = c

-- addresses

abbrev pub size_or_zero : Context → PlainType → ℕ
size_or_zero c type = unwrap_or (size_in c.tags type) 0
