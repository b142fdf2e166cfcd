-- The core of a text alone, or the first refusal of its types.
use Rattle.core_tree.specs.declared.program.Core.{Core}
use Rattle.c_tree.specs.Tree.{Trees}
use Rattle.c_decls.specs.Refusals.{Checked, then}
use Rattle.elaboration.specs.Elaboration.{elaborated}
use Rattle.std.specs.Prelude.{Ok}

-- the core, without the tags that are completed with it
abbrev pub core_in : Trees → Checked Core
core_in unit = then (elaborated unit) (λ both. Ok both.0)
