-- What holds at each point of a walk over a text: types are whole, and what was made has the layouts of types.
use Rattle.std.specs.Prelude.{List, [], ◌∷◌, None}
use Rattle.c_types.specs.Types.{PlainType}
use Rattle.c_types.specs.TagTable.{CompletedTag, known}
use Rattle.core_tree.specs.declared.program.Mem.{Mem}
use Rattle.core_tree.specs.LayoutsOfTypes.{IsLayoutOfType}
use Rattle.c_decls.specs.ScopeList.{ScopeList, Table}
use Rattle.elaboration.specs.Context.{Context, Variable, Walked}
use Rattle.core_soundness.specs.Whole.{Whole, AreMade, TableWhole, NamesWhole}

-- the layouts of memory locals, of variables and of the memory locals of functions are those of types
abbrev pub MemsLaid : List Mem → Type 0
MemsLaid [] = Unit {0}
MemsLaid (m ∷ ms) = IsLayoutOfType m.layout × MemsLaid ms

abbrev pub VariablesLaid : List Variable → Type 0
VariablesLaid [] = Unit {0}
VariablesLaid (v ∷ vs) = IsLayoutOfType v.layout × VariablesLaid vs

abbrev pub WalkedLaid : List Walked → Type 0
WalkedLaid [] = Unit {0}
WalkedLaid (x ∷ xs) = MemsLaid x.running.mems × WalkedLaid xs

-- tags are made of whole members; names, the parameters of the list that ended last and the answer have whole types; and
-- memory locals, variables and functions that were walked have layouts of types
pub record SolidAt (ts : List CompletedTag) (s : ScopeList) (params : Table) (mems : List Mem) (answer : PlainType) (variables : List Variable) (walked : List Walked) : Type 0 where
  pub made : AreMade (λ tag. None) ts
  pub names : NamesWhole (known ts) s
  pub list : TableWhole (known ts) params
  pub memory : MemsLaid mems
  pub result : Whole (known ts) answer
  pub statics : VariablesLaid variables
  pub functions : WalkedLaid walked

-- at a point of the walk
abbrev pub Solid : Context → Type 0
Solid c = SolidAt c.tags.completed c.scopes c.params c.running.mems c.running.answer c.variables c.walked
