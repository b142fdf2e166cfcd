-- Where the statements of a core stand in its code.
use Rattle.std.specs.Prelude.{ℕ, ◌+◌, List, take}
use Rattle.std.specs.List.{sum_by}
use Rattle.core_tree.specs.declared.program.Core.{Core}
use Rattle.core_tree.specs.declared.program.Func.{Func}
use Rattle.core_tree.specs.declared.statements.Stm.{Stm}
use Rattle.object_meaning.specs.compiled.Handing.{code_length}

-- how many instructions some statements have
abbrev pub body_length : List Stm → ℕ
body_length body = sum_by (λ (stm : Stm). code_length stm.kind) body

-- how many the functions have that stand before one
abbrev pub first_of : Core → ℕ → ℕ
first_of core f = 1 + sum_by (λ (func : Func). body_length func.body) (take f core.funcs)

-- the first instruction of the statement at a point of a function
abbrev pub place_of : Core → ℕ → List Stm → ℕ → ℕ
place_of core f body point = first_of core f + body_length (take point body)
