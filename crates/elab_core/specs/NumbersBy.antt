-- The numbers of the core, as the code keeps them.
use Rattle.std.specs.Prelude.{◌≡◌, ℕ, ◌+◌, List, [], ◌∷◌, slice_index_or, Result, IfOk}
use Rattle.elaboration.specs.Context.{Piece, Does, Here}
use Rattle.elaboration.specs.Resolving as plain
use Rattle.elaboration.specs.Resolving.{register_by, static_by, function_by, point_in, numbered, body_of, atom_by, atoms_by}
use Rattle.core_tree.specs.declared.statements.Atom.{Atom}
use Rattle.core_tree.specs.declared.statements.Stm.{Stm}
use Rattle.core_tree.specs.declared.statements.StmKind.{StmKind}
use Rattle.elab_core.specs.declared.numbers.Numbers.{Numbers}

-- how many statements there are among pieces
abbrev pub statements : List Piece → ℕ
statements [] = 0
statements (Does stm ∷ pieces) = statements pieces + 1
statements (Here label ∷ pieces) = statements pieces

-- the point of a label; a label that leads nowhere stands behind the last statement
abbrev pub point_at : List ℕ → ℕ → ℕ → ℕ
point_at points total label = slice_index_or points label total

-- the points are those of the labels among pieces
abbrev pub IsPlaced : List ℕ → ℕ → List Piece → Type 0
IsPlaced points total pieces = (label : ℕ) → point_at points total label ≡ point_in pieces label

-- the numbers of a function with these pieces
abbrev pub numbers_by : Numbers → List Piece → plain.Numbers
numbers_by n pieces = record {
  register = register_by n.locals n.integers;
  point = point_in pieces;
  static = static_by n.variables;
  function = function_by n.functions.now;
}

-- the register of the core for a register of a function
abbrev pub register_in : Numbers → ℕ → ℕ
register_in n register = register_by n.locals n.integers register

-- a statement, a body and operands in the numbers of the core, whatever pieces the function has
abbrev pub IsNumbered : {E : Type 0} → Numbers → StmKind → Result StmKind E → Type 0
IsNumbered n kind result =
    (pieces : List Piece) → IsPlaced n.points.now n.total pieces →
    IfOk result (λ r. r ≡ numbered (numbers_by n pieces) kind)

abbrev pub IsBody : {E : Type 0} → Numbers → List Piece → Result (List Stm) E → Type 0
IsBody n body result =
    (pieces : List Piece) → IsPlaced n.points.now n.total pieces →
    IfOk result (λ r. r ≡ body_of (numbers_by n pieces) body)

abbrev pub IsAtom : {E : Type 0} → Numbers → Atom → Result Atom E → Type 0
IsAtom n atom result = (pieces : List Piece) → IfOk result (λ r. r ≡ atom_by (numbers_by n pieces) atom)

abbrev pub AreAtoms : {E : Type 0} → Numbers → List Atom → Result (List Atom) E → Type 0
AreAtoms n atoms result = (pieces : List Piece) → IfOk result (λ r. r ≡ atoms_by (numbers_by n pieces) atoms)
