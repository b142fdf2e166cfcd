-- The core of a text and its completed tags, or the first refusal of its types.
use Rattle.c_types.specs.TagTable.{TagTable}
use Rattle.core_tree.specs.declared.program.Core.{Core}
use Rattle.c_tree.specs.Tree.{Trees}
use Rattle.c_decls.specs.Refusals.{Checked, then}
use Rattle.elaboration.specs.Context.{Context, first_context}
use Rattle.elaboration.specs.Externals.{externals, ended}
use Rattle.elaboration.specs.Resolving.{core_of}
use Rattle.std.specs.Prelude.{Ok}

-- what is known behind the external declarations of a text
abbrev pub walked : Trees → Checked Context
walked unit = then (externals unit first_context) ended

-- the core, and the tags in order
abbrev pub elaborated : Trees → Checked (Core × TagTable)
elaborated unit = then (walked unit) (λ c. Ok (core_of c, c.tags))

-- the tags alone
abbrev pub tags_of : Trees → Checked TagTable
tags_of unit = then (walked unit) (λ c. Ok c.tags)
