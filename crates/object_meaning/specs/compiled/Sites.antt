-- The sites of the code of a core.
use Rattle.std.specs.Prelude.{◌<◌, ◌+◌, ℕ, cond, Bool, true, false, List, [], ◌∷◌, length, AllPairs}
use Rattle.std.specs.List.{flat_map, enumerate_from}
use Rattle.core_tree.specs.declared.program.Core.{Core}
use Rattle.core_tree.specs.declared.program.Func.{Func}
use Rattle.core_tree.specs.declared.statements.Stm.{Stm}
use Rattle.core_tree.specs.declared.statements.StmKind.{StmKind}
use Rattle.core_tree.specs.declared.statements.StmKind.TheVariants as stm
use Rattle.flat_code.specs.declared.program.Site.{Site}
use Rattle.object_meaning.specs.counted.Pinning.{Pins, pins_of}
use Rattle.object_meaning.specs.compiled.Handing.{handed_atoms}
use Rattle.object_meaning.specs.compiled.Places.{place_of}

-- a statement at which objects may be freed, or which waits while they may be
abbrev pub may_free : StmKind → Bool
may_free (stm.Call f r args) = true
may_free (stm.Realloc r p n t) = true
may_free (stm.Free p) = true
may_free stm.Leave = true
may_free kind = false

-- the site of a statement that stands at a place: it is that of the last of its instructions
abbrev pub site_at : ℕ → StmKind → List ℕ → List Site
site_at place kind pins =
    cond (may_free kind) (record { instr = place + length (handed_atoms kind); pins = pins } ∷ []) []

-- the site of a statement at a point of a function
abbrev pub statement_sites : Core → Pins → ℕ → Func → ℕ × Stm → List Site
statement_sites core pins f func at = site_at (place_of core f func.body at.0) at.1.kind (pins_of pins f at.0)

-- the sites of a function
abbrev pub func_sites : Core → Pins → ℕ × Func → List Site
func_sites core pins one = flat_map (statement_sites core pins one.0 one.1) (enumerate_from 0 one.1.body)

-- those of all functions, in order
abbrev pub sites_of : Core → Pins → List Site
sites_of core pins = flat_map (func_sites core pins) (enumerate_from 0 core.funcs)

-- the pins of each point ascend
abbrev pub AreAscending : Pins → Type 0
AreAscending pins = (f point : ℕ) → AllPairs (λ one other. one < other) (pins_of pins f point)
