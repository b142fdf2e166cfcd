-- Statements by what they work on.
use Rattle.core_tree.specs.declared.statements.StmKind.{StmKind}
use Rattle.core_tree.specs.declared.statements.StmKind.TheVariants as stm
use Rattle.meaning_run.specs.declared.evaluate.Group.{Group}
use Rattle.meaning_run.specs.declared.evaluate.Group.TheVariants as group
use Rattle.meaning_run.specs.Leading.{IsValues, IsMemory, IsHeap, IsJump}

-- a statement that calls no built-in function and no printf
abbrev pub IsAlone : StmKind → Type 0
IsAlone (stm.Lib name r args) = ⊥
IsAlone (stm.Printf r k args) = ⊥
IsAlone _ = Unit {0}

abbrev pub IsOf : Group → StmKind → Type 0
IsOf group.Values kind = IsValues kind
IsOf group.Memory kind = IsMemory kind
IsOf group.Heap kind = IsHeap kind
IsOf group.Jump kind = IsJump kind
IsOf group.Outside kind = IsAlone kind → ⊥
