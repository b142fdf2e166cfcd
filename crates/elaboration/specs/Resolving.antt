-- The numbers of the core: labels become points, and registers, statics and functions get their places in its lists.
use Rattle.std.specs.Prelude.{ℕ, true, false, ◌+◌, ◌/◌, ◌%◌, ◌==◌, nat_eq, cond, map, length, replicate, List, [], ◌∷◌, ◌++◌, Option, Some, None, option_map, slice_get, unwrap_or}
use Rattle.c_types.specs.Layouts.{array_layout, number_layout}
use Rattle.core_tree.specs.declared.program.Core.{Core}
use Rattle.core_tree.specs.declared.program.Static.{Static}
use Rattle.core_tree.specs.declared.program.Start.{Start}
use Rattle.core_tree.specs.declared.program.Func.{Func}
use Rattle.core_tree.specs.declared.program.Reg.{Reg as Register}
use Rattle.core_tree.specs.declared.statements.Atom.{Atom}
use Rattle.core_tree.specs.declared.statements.Atom.TheVariants as atom
use Rattle.core_tree.specs.declared.statements.Stm.{Stm}
use Rattle.core_tree.specs.declared.statements.StmKind.{StmKind}
use Rattle.core_tree.specs.declared.statements.StmKind.TheVariants.{Set, Conv, Un, Bin, Cmp, Add, Sub, Off, Diff, Pcmp, Test, Load, Loadp, Store, Storep, Copy, Clear, Jump, Zero, Case, Loop, Call, Malloc, Calloc, Realloc, Free, Lib, Printf, Enter, Leave, Return}
use Rattle.elaboration.specs.Context.{Piece, Does, Here, Variable, Declared, Walked, Context}
use Rattle.elaboration.specs.Initializers.{no_start, trimmed}

-- how registers, labels, statics and functions of the walk are numbered in the core
pub record Numbers : Type 0 where
  pub register : ℕ → ℕ
  pub point : ℕ → ℕ
  pub static : ℕ → ℕ
  pub function : ℕ → ℕ

abbrev pub atom_by : Numbers → Atom → Atom
atom_by n (atom.Reg r) = atom.Reg (n.register r)
atom_by n (atom.Int k) = atom.Int k
atom_by n atom.Null = atom.Null
atom_by n (atom.Static g) = atom.Static (n.static g)
atom_by n (atom.Mem m) = atom.Mem m

abbrev pub atoms_by : Numbers → List Atom → List Atom
atoms_by n args = map (atom_by n) args

-- a statement in the numbers of the core
unfoldable pub numbered : Numbers → StmKind → StmKind
numbered n (Set r a) = Set (n.register r) (atom_by n a)
numbered n (Conv k r a) = Conv k (n.register r) (atom_by n a)
numbered n (Un op k r a) = Un op k (n.register r) (atom_by n a)
numbered n (Bin op k r a b) = Bin op k (n.register r) (atom_by n a) (atom_by n b)
numbered n (Cmp op r a b) = Cmp op (n.register r) (atom_by n a) (atom_by n b)
numbered n (Add r p a s) = Add (n.register r) (atom_by n p) (atom_by n a) s
numbered n (Sub r p a s) = Sub (n.register r) (atom_by n p) (atom_by n a) s
numbered n (Off r p c) = Off (n.register r) (atom_by n p) c
numbered n (Diff r p q s) = Diff (n.register r) (atom_by n p) (atom_by n q) s
numbered n (Pcmp op r p q) = Pcmp op (n.register r) (atom_by n p) (atom_by n q)
numbered n (Test r p) = Test (n.register r) (atom_by n p)
numbered n (Load k r p) = Load k (n.register r) (atom_by n p)
numbered n (Loadp r p) = Loadp (n.register r) (atom_by n p)
numbered n (Store k p a) = Store k (atom_by n p) (atom_by n a)
numbered n (Storep p q) = Storep (atom_by n p) (atom_by n q)
numbered n (Copy p q k) = Copy (atom_by n p) (atom_by n q) k
numbered n (Clear p k) = Clear (atom_by n p) k
numbered n (Jump l) = Jump (n.point l)
numbered n (Zero a l) = Zero (atom_by n a) (n.point l)
numbered n (Case a v l) = Case (atom_by n a) v (n.point l)
numbered n (Loop l) = Loop (n.point l)
numbered n (Call f r args) = Call (n.function f) (option_map n.register r) (atoms_by n args)
numbered n (Malloc r k t) = Malloc (n.register r) (atom_by n k) t
numbered n (Calloc r m k t) = Calloc (n.register r) (atom_by n m) (atom_by n k) t
numbered n (Realloc r p k t) = Realloc (n.register r) (atom_by n p) (atom_by n k) t
numbered n (Free p) = Free (atom_by n p)
numbered n (Lib name r args) = Lib name (option_map n.register r) (atoms_by n args)
numbered n (Printf r k args) = Printf (n.register r) k (atoms_by n args)
numbered n Enter = Enter
numbered n Leave = Leave
numbered n (Return a) = Return (option_map (atom_by n) a)

-- the point to which a label leads: so many statements stand before it
abbrev pub point_in : List Piece → ℕ → ℕ
point_in [] label = 0
point_in (Does stm ∷ pieces) label = point_in pieces label + 1
point_in (Here l ∷ pieces) label = cond (nat_eq l label) 0 (point_in pieces label)

-- the statements among pieces
abbrev pub body_of : Numbers → List Piece → List Stm
body_of n [] = []
body_of n (Does stm ∷ pieces) = record { line = stm.line; kind = numbered n stm.kind } ∷ body_of n pieces
body_of n (Here l ∷ pieces) = body_of n pieces

-- registers: parameters and locals, then integer temporaries, then pointer temporaries
abbrev pub register_by : ℕ → ℕ → ℕ → ℕ
register_by locals integers r =
    cond (r % 3 == 0) (r / 3) (cond (r % 3 == 1) (locals + r / 3) (locals + integers + r / 3))

-- statics: variables, then literals
abbrev pub static_by : ℕ → ℕ → ℕ
static_by variables g = cond (g % 2 == 0) (g / 2) (variables + g / 2)

-- a function by the number of its definition
abbrev pub definition_of : Option Declared → ℕ
definition_of None = 0
definition_of (Some declared) = unwrap_or declared.defined 0

abbrev pub function_by : List Declared → ℕ → ℕ
function_by functions f = definition_of (slice_get functions f)

abbrev pub numbers_of : Context → Walked → Numbers
numbers_of c w = record {
  register = register_by (length w.running.locals) w.code.most_integers;
  point = point_in w.code.pieces;
  static = static_by (length c.variables);
  function = function_by c.functions;
}

abbrev pub temporary : Register
temporary = record { name = None; pointer = false }

abbrev pub pointer_register : Register
pointer_register = record { name = None; pointer = true }

-- a name without the suffix that its unit may have given it: its part before the first dot
abbrev pub plain_name : List ℕ → List ℕ
plain_name [] = []
plain_name (b ∷ rest) = cond (b == 46) [] (b ∷ plain_name rest)

-- a function of the core
abbrev pub function_of : Context → Walked → Func
function_of c w = record {
  name = plain_name w.name;
  line = w.running.line;
  params = w.params;
  regs = w.running.locals ++ (replicate w.code.most_integers temporary ++ replicate w.code.most_pointers pointer_register);
  mems = w.running.mems;
  body = body_of (numbers_of c w) w.code.pieces;
  formats = w.running.formats;
}

-- a variable and a literal as statics of the core
abbrev pub start_by : Context → Start → Start
start_by c start =
    record start { pointers = map (λ p. (p.0, static_by (length c.variables) p.1, p.2)) start.pointers }

abbrev pub variable_static : Context → Variable → Static
variable_static c v =
    record { name = Some (plain_name v.name); layout = v.layout; start = start_by c (unwrap_or v.start no_start) }

-- a literal has its bytes and a zero
abbrev pub literal_static : List ℕ → Static
literal_static bytes = record {
  name = None;
  layout = array_layout (length bytes + 1) (number_layout 1);
  start = trimmed (record { bytes = bytes; pointers = [] });
}

abbrev pub core_of : Context → Core
core_of c = record {
  statics = map (variable_static c) c.variables ++ map literal_static c.literals;
  funcs = map (function_of c) c.walked;
}
