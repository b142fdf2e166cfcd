-- What a statement writes, which operands it reads, and where the run goes on behind it.
use Rattle.std.specs.Prelude.{◌==◌, ◌+◌, ℕ, Bool, false, cond, List, [], ◌∷◌, ◌++◌, Option, Some, None, slice_get}
use Rattle.std.specs.List.{list_any}
use Rattle.std.specs.Option.{option_map_or}
use Rattle.core_tree.specs.declared.flow.Edges.{Edges}
use Rattle.core_tree.specs.declared.statements.Atom.{Atom}
use Rattle.core_tree.specs.declared.statements.Atom.TheVariants.{Reg, Int, Null, Static, Mem}
use Rattle.core_tree.specs.declared.statements.LibName.{LibName}
use Rattle.core_tree.specs.declared.statements.LibName.TheVariants.{Exit, Abort}
use Rattle.core_tree.specs.declared.statements.Stm.{Stm}
use Rattle.core_tree.specs.declared.statements.StmKind.{StmKind}
use Rattle.core_tree.specs.declared.statements.StmKind.TheVariants.{Set, Conv, Un, Bin, Cmp, Add, Sub, Off, Diff, Pcmp, Test, Load, Loadp, Store, Storep, Copy, Clear, Jump, Zero, Case, Loop, Call, Malloc, Calloc, Realloc, Free, Lib, Printf, Enter, Leave, Return}

-- the register that a statement writes
abbrev pub written : StmKind → Option ℕ
written (Set r a) = Some r
written (Conv k r a) = Some r
written (Un op k r a) = Some r
written (Bin op k r a b) = Some r
written (Cmp op r a b) = Some r
written (Add r p a s) = Some r
written (Sub r p a s) = Some r
written (Off r p c) = Some r
written (Diff r p q s) = Some r
written (Pcmp op r p q) = Some r
written (Test r p) = Some r
written (Load k r p) = Some r
written (Loadp r p) = Some r
written (Store k p a) = None
written (Storep p q) = None
written (Copy p q n) = None
written (Clear p n) = None
written (Jump l) = None
written (Zero a l) = None
written (Case a v l) = None
written (Loop l) = None
written (Call f r args) = r
written (Malloc r n t) = Some r
written (Calloc r m n t) = Some r
written (Realloc r p n t) = Some r
written (Free p) = None
written (Lib name r args) = r
written (Printf r format args) = Some r
written Enter = None
written Leave = None
written (Return a) = None

-- an operand that may be left out
abbrev pub given : Option Atom → List Atom
given None = []
given (Some a) = a ∷ []

abbrev pub given_target : Option ℕ → List ℕ
given_target None = []
given_target (Some l) = l ∷ []

-- the operands of a statement, in order
abbrev pub operands : StmKind → List Atom
operands (Set r a) = a ∷ []
operands (Conv k r a) = a ∷ []
operands (Un op k r a) = a ∷ []
operands (Bin op k r a b) = a ∷ b ∷ []
operands (Cmp op r a b) = a ∷ b ∷ []
operands (Add r p a s) = p ∷ a ∷ []
operands (Sub r p a s) = p ∷ a ∷ []
operands (Off r p c) = p ∷ []
operands (Diff r p q s) = p ∷ q ∷ []
operands (Pcmp op r p q) = p ∷ q ∷ []
operands (Test r p) = p ∷ []
operands (Load k r p) = p ∷ []
operands (Loadp r p) = p ∷ []
operands (Store k p a) = p ∷ a ∷ []
operands (Storep p q) = p ∷ q ∷ []
operands (Copy p q n) = p ∷ q ∷ []
operands (Clear p n) = p ∷ []
operands (Jump l) = []
operands (Zero a l) = a ∷ []
operands (Case a v l) = a ∷ []
operands (Loop l) = []
operands (Call f r args) = args
operands (Malloc r n t) = n ∷ []
operands (Calloc r m n t) = m ∷ n ∷ []
operands (Realloc r p n t) = p ∷ n ∷ []
operands (Free p) = p ∷ []
operands (Lib name r args) = args
operands (Printf r format args) = args
operands Enter = []
operands Leave = []
operands (Return a) = given a

abbrev pub is_register : ℕ → Atom → Bool
is_register r (Reg k) = k == r
is_register r (Int n) = false
is_register r Null = false
is_register r (Static k) = false
is_register r (Mem k) = false

-- a statement reads the registers among its operands
abbrev pub reads : StmKind → ℕ → Bool
reads kind r = list_any (is_register r) (operands kind)

abbrev pub writes : StmKind → ℕ → Bool
writes kind r = option_map_or (λ k. k == r) (written kind) false

-- behind the call of a built-in function; two of them end the run
abbrev pub edges_of_lib : LibName → ℕ → List ℕ
edges_of_lib Exit point = []
edges_of_lib Abort point = []
edges_of_lib name point = (point + 1) ∷ []

-- the points to which the run may go from a statement at a point
abbrev pub edges : StmKind → ℕ → List ℕ
edges (Jump l) point = l ∷ []
edges (Zero a l) point = (point + 1) ∷ l ∷ []
edges (Case a v l) point = (point + 1) ∷ l ∷ []
edges (Loop l) point = l ∷ []
edges (Lib name r args) point = edges_of_lib name point
edges (Return a) point = []
edges kind point = (point + 1) ∷ []

-- the same, from where a statement goes as the program says it
abbrev pub leads_to : Edges → ℕ → List ℕ
leads_to where_to point = cond where_to.next ((point + 1) ∷ []) [] ++ given_target where_to.target

-- the same for the statement at a point of a body, which is none outside of it
abbrev pub reads_at : List Stm → ℕ → ℕ → Bool
reads_at body point r = option_map_or (λ (stm : Stm). reads stm.kind r) (slice_get body point) false

abbrev pub writes_at : List Stm → ℕ → ℕ → Bool
writes_at body point r = option_map_or (λ (stm : Stm). writes stm.kind r) (slice_get body point) false

abbrev pub edges_at : List Stm → ℕ → List ℕ
edges_at body point = option_map_or (λ (stm : Stm). edges stm.kind point) (slice_get body point) []
