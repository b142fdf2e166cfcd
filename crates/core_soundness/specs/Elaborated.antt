-- What laws of cores speak of.
use Rattle.std.specs.Prelude.{◌≡◌, ◌≤◌, List, Ok, All, length}
use Rattle.c_lexer.specs.declared.token.Token.{Token}
use Rattle.c_tree.specs.Tree.{Trees}
use Rattle.c_types.specs.TagTable.{TagTable}
use Rattle.core_tree.specs.declared.program.Core.{Core}
use Rattle.core_tree.specs.declared.program.Static.{Static}
use Rattle.core_tree.specs.Sound.{IsTarget}
use Rattle.elaboration.specs.Elaboration.{elaborated}
use Rattle.core_soundness.specs.Texts.{IsMadeOf}

-- a fact of the core of each tree
abbrev pub ForCores : (Core → Type 0) → Type 0
ForCores P = (unit : Trees) (core : Core) (tags : TagTable) → elaborated unit ≡ Ok (core, tags) → P core

-- of the core of each such tree
abbrev pub ForCoresOf : (Trees → Type 0) → (Core → Type 0) → Type 0
ForCoresOf Q P = (unit : Trees) (core : Core) (tags : TagTable) → Q unit → elaborated unit ≡ Ok (core, tags) → P core

-- of each tree that is made of those of texts, which are read here by their tokens
abbrev pub ForMade : (List (List Token) → Trees → Type 0) → Type 0
ForMade P = (texts : List (List Token)) (units : List Trees) (unit : Trees) → IsMadeOf texts units unit → P texts unit

-- of the core of each tree that is made of those of texts
abbrev pub ForMadeCores : (Core → Type 0) → Type 0
ForMadeCores P =
    (texts : List (List Token)) (units : List Trees) (unit : Trees) (core : Core) (tags : TagTable) → IsMadeOf texts units unit → elaborated unit ≡ Ok (core, tags) → P core

-- no token of texts has more bytes than a text may have
abbrev pub HaveShortTokens : List (List Token) → Type 0
HaveShortTokens texts = All (λ (tokens : List Token). All (λ (token : Token). length token.bytes ≤ 268435456) tokens) texts

-- the pointers that the statics of a core hold first lead into statics
abbrev pub HasTargets : Core → Type 0
HasTargets core = All (λ (static : Static). All (IsTarget core) static.start.pointers) core.statics
