-- Parts of what makes a core sound, each said of every core that a text has.
use Rattle.std.specs.Prelude.{◌≡◌, ℕ, List, Option, Some, slice_get, ◌<◌, ◌≤◌, length, All, IfSome}
use Rattle.std.specs.List.{sum_by}
use Rattle.hs_base.specs.Place.{block_size}
use Rattle.c_lexer.specs.declared.token.Token.{Token}
use Rattle.core_tree.specs.declared.program.Core.{Core}
use Rattle.core_tree.specs.declared.program.Func.{Func}
use Rattle.core_tree.specs.declared.program.Mem.{Mem}
use Rattle.core_tree.specs.declared.program.Static.{Static}
use Rattle.core_tree.specs.declared.statements.Atom.{Atom}
use Rattle.core_tree.specs.declared.statements.Stm.{Stm}
use Rattle.core_tree.specs.declared.statements.StmKind.TheVariants.{Call}
use Rattle.core_tree.specs.Sorts.{IsTyped}
use Rattle.core_tree.specs.Statements.{edges}
use Rattle.core_tree.specs.LayoutsOfTypes.{IsLayoutOfType}
use Rattle.core_tree.specs.Sound.{EachFunc, EachStatement, EachReturn, LeadsOn, HasScopes, HasNumbers, element_layouts, answer_sort, GivesAnswer, code_size, IsShort, AreShort}

-- how control flows through a function
pub record HasFlow (func : Func) : Type 0 where
  -- it has a statement
  pub some : 0 < length func.body
  -- no edge leads past the last statement
  pub inside : EachStatement func.body (λ point stm. All (λ next. next < length func.body) (edges stm.kind point))
  -- only a loop goes back
  pub ahead : EachStatement func.body (λ point stm. LeadsOn point stm.kind)
  -- scopes are opened and closed in the same way on all paths
  pub scopes : HasScopes func.body

-- how large a core is
pub record HasSizes (core : Core) : Type 0 where
  -- the blocks of the statics sum to at most so many bytes
  pub static_bytes : sum_by (λ (static : Static). block_size static.layout.size) core.statics ≤ 67108864
  -- the statements of all functions and their operands are at most so many together
  pub code : sum_by code_size core.funcs ≤ 268435456
  -- these lists are shorter than 2 to the 32
  pub short_statics : IsShort core.statics
  pub short_funcs : IsShort core.funcs
  pub short_bodies : EachFunc core (λ func. IsShort func.body)

-- each call of a function names a function that is there
abbrev pub CallsInside : Core → Func → Type 0
CallsInside core func =
    (point : ℕ) (stm : Stm) (f : ℕ) (r : Option ℕ) (args : List Atom) → slice_get func.body point ≡ Some stm → stm.kind ≡ Call f r args → f < length core.funcs

-- how the statements of a function are typed
pub record HasTypes (core : Core) (func : Func) : Type 0 where
  -- its parameters are among its registers
  pub params : func.params ≤ length func.regs
  -- it has a line, and so has each of its statements
  pub line : 1 ≤ func.line
  pub lines : EachStatement func.body (λ point stm. 1 ≤ stm.line)
  -- what a statement names is there, and its operands, its arguments and the register that it writes are of its sorts
  pub typed : EachStatement func.body (λ point stm. IsTyped core func stm.kind)
  -- the returns all have an integer, all have a pointer, or all have nothing
  pub alike : EachReturn func (λ one. EachReturn func (λ other. answer_sort core func one ≡ answer_sort core func other))
  -- a call has a register for the answer or none, and none where there is no answer
  pub answers : EachStatement func.body (λ point stm. GivesAnswer core func stm.kind)

-- the layouts of a core are those of types
pub record HasLayouts (core : Core) : Type 0 where
  -- of memory locals
  pub mems : EachFunc core (λ func. All (λ (mem : Mem). IsLayoutOfType mem.layout) func.mems)
  -- of statics, which are file-scope variables and literals
  pub statics : All (λ (static : Static). IsLayoutOfType static.layout) core.statics

-- the numbers and element layouts of a function
pub record HasRanges (func : Func) : Type 0 where
  -- each integer and each element size is in range
  pub numbers : EachStatement func.body (λ point stm. HasNumbers stm.kind)
  -- each layout of elements is that of a type
  pub elements : EachStatement func.body (λ point stm. All IsLayoutOfType (element_layouts stm.kind))

-- lists of a core that are shorter than 2 to the 32
pub record HasShortLists (core : Core) : Type 0 where
  -- the names of statics
  pub short_names : All (λ (static : Static). IfSome static.name IsShort) core.statics
  -- the lists of functions, their names and their formats
  pub short : EachFunc core AreShort

-- at most so many tokens, each of at most so many bytes
pub record AreWithin (most : ℕ) (tokens : List Token) : Type 0 where
  pub count : length tokens ≤ most
  pub bytes : All (λ (token : Token). length token.bytes ≤ most) tokens
