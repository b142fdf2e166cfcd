-- Which cores are sound.
use Rattle.std.specs.Prelude.{◌≡◌, ◌<◌, ◌≤◌, ◌+◌, ◌-◌, ◌^◌, ℕ, ℤ, pos, neg_ℤ, ◌≤ℤ◌, ◌<ℤ◌, List, [], ◌∷◌, ◌++◌, Option, Some, option_and_then, unwrap_or, map, length, slice_get, nat_eq, All, Contains, Bool, cond, codes, IfSome}
use Rattle.std.specs.List.{flat_map, sum_by, count_by, IsDistinct}
use Rattle.std.specs.Option.{ForSome}
use Rattle.std.specs.Str.{bytes_eq}
use Rattle.hs_base.specs.Place.{block_size}
use Rattle.c_types.specs.declared.layouts.Layout.{Layout}
use Rattle.core_tree.specs.declared.program.Core.{Core}
use Rattle.core_tree.specs.declared.program.Func.{Func}
use Rattle.core_tree.specs.declared.program.Mem.{Mem}
use Rattle.core_tree.specs.declared.program.Reg.{Reg}
use Rattle.core_tree.specs.declared.program.Static.{Static}
use Rattle.core_tree.specs.declared.statements.Atom.{Atom}
use Rattle.core_tree.specs.declared.statements.Atom.TheVariants as atom
use Rattle.core_tree.specs.declared.statements.Stm.{Stm}
use Rattle.core_tree.specs.declared.statements.StmKind.{StmKind}
use Rattle.core_tree.specs.declared.statements.StmKind.TheVariants.{Add, Sub, Off, Diff, Copy, Clear, Case, Loop, Call, Malloc, Calloc, Realloc, Enter, Leave, Return}
use Rattle.core_tree.specs.Statements.{operands, edges}
use Rattle.core_tree.specs.Sorts.{Sort, Integer, atom_sort, GivesResult, IsTyped}
use Rattle.core_tree.specs.LayoutsOfTypes.{IsLayoutOfType}

-- P of each function
abbrev pub EachFunc : Core → (Func → Type 0) → Type 0
EachFunc core P = (f : ℕ) (func : Func) → slice_get core.funcs f ≡ Some func → P func

-- P of each statement and its point
abbrev pub EachStatement : List Stm → (ℕ → Stm → Type 0) → Type 0
EachStatement body P = (point : ℕ) (stm : Stm) → slice_get body point ≡ Some stm → P point stm

-- P of what each return has
abbrev pub EachReturn : Func → (Option Atom → Type 0) → Type 0
EachReturn func P = EachStatement func.body (λ point stm. (a : Option Atom) → stm.kind ≡ Return a → P a)

-- only a loop goes back: every other edge leads on
abbrev pub LeadsOn : ℕ → StmKind → Type 0
LeadsOn point (Loop l) = Unit {0}
LeadsOn point kind = All (λ next. point < next) (edges kind point)

-- the sort of what a return has, which may be nothing
abbrev pub answer_sort : Core → Func → Option Atom → Option Sort
answer_sort core func a = option_and_then (atom_sort core func) a

-- each return of the callee has what the register of a call takes
abbrev pub GivesAnswer : Core → Func → StmKind → Type 0
GivesAnswer core func (Call f r args) =
    ForSome (slice_get core.funcs f) (λ (callee : Func). EachReturn callee (λ a. GivesResult func (answer_sort core callee a) r))
GivesAnswer core func kind = Unit {0}

-- how many scopes are open behind a statement
abbrev pub scopes_after : StmKind → ℕ → ℕ
scopes_after Enter scopes = scopes + 1
scopes_after Leave scopes = scopes - 1
scopes_after kind scopes = scopes

-- some path from the start of a body to a point opens so many scopes more than it closes
pub data Opens (body : List Stm) : ℕ → ℕ → Type 0 where
  start : Opens body 0 0
  goes : (point next scopes : ℕ) (stm : Stm) (before : Opens body point scopes) (here : slice_get body point ≡ Some stm) (edge : Contains (edges stm.kind point) next) → Opens body next (scopes_after stm.kind scopes)

-- all paths to a point open the same number, no more are closed than were opened, and none is open at a return
pub record HasScopes (body : List Stm) : Type 0 where
  pub same : (point one other : ℕ) → Opens body point one → Opens body point other → one ≡ other
  pub closes : EachStatement body (λ point stm. (scopes : ℕ) → Opens body point scopes → stm.kind ≡ Leave → 0 < scopes)
  pub ends : EachStatement body (λ point stm. (scopes : ℕ) (a : Option Atom) → Opens body point scopes → stm.kind ≡ Return a → scopes ≡ 0)

-- what a register can hold
abbrev pub IsNumber : ℤ → Type 0
IsNumber n = (neg_ℤ (pos (2 ^ 63)) ≤ℤ n) × (n <ℤ pos (2 ^ 64))

abbrev pub atom_numbers : Atom → List ℤ
atom_numbers (atom.Int n) = n ∷ []
atom_numbers a = []

-- the numbers that a statement has beside its operands and element sizes
abbrev pub own_numbers : StmKind → List ℤ
own_numbers (Off r p c) = c ∷ []
own_numbers (Case a v l) = v ∷ []
own_numbers (Copy p q n) = n ∷ []
own_numbers (Clear p n) = n ∷ []
own_numbers kind = []

-- the layouts of the elements of new objects
abbrev pub element_layouts : StmKind → List Layout
element_layouts (Malloc r n t) = t ∷ []
element_layouts (Calloc r m n t) = t ∷ []
element_layouts (Realloc r p n t) = t ∷ []
element_layouts kind = []

-- the sizes of elements by which pointers are moved and subtracted, and of the elements of new objects
abbrev pub element_sizes : StmKind → List ℤ
element_sizes (Add r p a s) = s ∷ []
element_sizes (Sub r p a s) = s ∷ []
element_sizes (Diff r p q s) = s ∷ []
element_sizes kind = map (λ (t : Layout). pos t.size) (element_layouts kind)

-- the numbers of a statement are in range, and its element sizes are those of objects
pub record HasNumbers (kind : StmKind) : Type 0 where
  pub numbers : All IsNumber (flat_map atom_numbers (operands kind) ++ own_numbers kind)
  pub sizes : All (λ size. (pos 1 ≤ℤ size) × (size ≤ℤ pos 268435456)) (element_sizes kind)

-- a function, but for what it calls
pub record IsFunction (core : Core) (func : Func) : Type 0 where
  -- it has a statement
  pub some : 0 < length func.body
  -- its parameters are among its registers
  pub params : func.params ≤ length func.regs
  -- it has a line, and so has each of its statements
  pub line : 1 ≤ func.line
  pub lines : EachStatement func.body (λ point stm. 1 ≤ stm.line)
  -- what each statement names is there and of its sort, and it has the arguments that it takes
  pub typed : EachStatement func.body (λ point stm. IsTyped core func stm.kind)
  -- no edge leads past the last statement
  pub inside : EachStatement func.body (λ point stm. All (λ next. next < length func.body) (edges stm.kind point))
  -- only a loop goes back
  pub ahead : EachStatement func.body (λ point stm. LeadsOn point stm.kind)
  -- the returns all have an integer, all have a pointer, or all have nothing
  pub alike : EachReturn func (λ one. EachReturn func (λ other. answer_sort core func one ≡ answer_sort core func other))
  -- a call has a register for the answer or none, and none where there is no answer
  pub answers : EachStatement func.body (λ point stm. GivesAnswer core func stm.kind)
  -- scopes are opened and closed in the same way on all paths
  pub scopes : HasScopes func.body
  -- each integer and each element size is in range
  pub numbers : EachStatement func.body (λ point stm. HasNumbers stm.kind)
  -- each layout is that of a type
  pub mems : All (λ (mem : Mem). IsLayoutOfType mem.layout) func.mems
  pub elements : EachStatement func.body (λ point stm. All IsLayoutOfType (element_layouts stm.kind))

-- a pointer that a static holds first names a static and an offset in it
abbrev pub IsTarget : Core → ℕ × ℕ × ℕ → Type 0
IsTarget core pointer = (target : Static) × (slice_get core.statics pointer.1 ≡ Some target) × (pointer.2 ≤ target.layout.size)

-- a static
pub record IsStatic (core : Core) (static : Static) : Type 0 where
  -- its layout is that of a type
  pub layout : IsLayoutOfType static.layout
  -- its first bytes are inside its size, and zero in its slots
  pub inside : length static.start.bytes ≤ static.layout.size
  pub zeros : All (λ slot. (k : ℕ) → k < 4 → unwrap_or (slice_get static.start.bytes (slot + k)) 0 ≡ 0) static.layout.slots
  -- its first pointers stand at different slots
  pub slots : All (λ pointer. Contains static.layout.slots pointer.0) static.start.pointers
  pub distinct : IsDistinct nat_eq (map (λ pointer. pointer.0) static.start.pointers)
  -- each names a static and an offset from 0 to its size
  pub targets : All (IsTarget core) static.start.pointers

-- the statements of a function and their operands
abbrev pub code_size : Func → ℕ
code_size func = sum_by (λ (stm : Stm). 1 + length (operands stm.kind)) func.body

-- where a run begins: the number of the function named main
abbrev pub is_main : Func → Bool
is_main func = bytes_eq func.name (codes "main")

abbrev pub first_main : List Func → ℕ
first_main [] = 0
first_main (func ∷ funcs) = cond (is_main func) 0 (first_main funcs + 1)

abbrev pub main_of : Core → ℕ
main_of core = first_main core.funcs

-- main has no parameters, and its returns have integers
pub record IsMain (core : Core) (func : Func) : Type 0 where
  pub params : func.params ≡ 0
  pub answers : EachReturn func (λ a. answer_sort core func a ≡ Some Integer)

-- fewer than 2 to the 32
abbrev pub IsShort : {X : Type 0} → List X → Type 0
IsShort xs = length xs < 2 ^ 32

-- a function's lists are short
pub record AreShort (func : Func) : Type 0 where
  pub name : IsShort func.name
  pub regs : IsShort func.regs
  pub reg_names : All (λ (reg : Reg). IfSome reg.name IsShort) func.regs
  pub mems : IsShort func.mems
  pub mem_names : All (λ (mem : Mem). IsShort mem.name) func.mems
  pub body : IsShort func.body
  pub formats : IsShort func.formats
  pub texts : All IsShort func.formats

pub record IsSound (core : Core) : Type 0 where
  pub functions : EachFunc core (IsFunction core)
  pub statics : All (IsStatic core) core.statics
  -- the blocks of the statics sum to at most so many bytes
  pub static_bytes : sum_by (λ (static : Static). block_size static.layout.size) core.statics ≤ 67108864
  -- the statements of all functions and their operands are at most so many together
  pub code : sum_by code_size core.funcs ≤ 268435456
  -- exactly one function is named main
  pub one_main : count_by is_main core.funcs ≡ 1
  pub main : ForSome (slice_get core.funcs (main_of core)) (IsMain core)
  -- the lists are shorter than 2 to the 32
  pub short_statics : IsShort core.statics
  pub short_names : All (λ (static : Static). IfSome static.name IsShort) core.statics
  pub short_funcs : IsShort core.funcs
  pub short : EachFunc core AreShort
