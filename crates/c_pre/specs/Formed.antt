-- Every token is one of its kind, with a line, and short, and so is every token of a macro.
use Rattle.std.specs.Prelude.{◌≤◌, ℕ, List, Option, IfSome, length, All}
use Rattle.c_lexer.specs.Tokens.{IsLexed}
use Rattle.c_lexer.specs.declared.token.Token.{Token}
use Rattle.c_pre.specs.Texts.{most_bytes}
use Rattle.c_pre.specs.declared.macros.Defined.{Defined}
use Rattle.c_pre.specs.declared.macros.Macro.{Macro}
use Rattle.c_pre.specs.declared.progress.Progress.{Progress}

-- a token is one of its kind, with a line, and no longer than a text
abbrev pub IsFormed : Token → Type 0
IsFormed token = IsLexed token × (length token.bytes ≤ most_bytes)

-- every token of a macro is one of its kind
abbrev pub IsFormedMacro : Macro → Type 0
IsFormedMacro m = All IsFormed m.replacement

-- so is every token of the macro of a name, if it has one
abbrev pub IsFormedEntry : List ℕ × Option Defined → Type 0
IsFormedEntry entry = IfSome entry.1 (λ m. IsFormedMacro m.it)

-- every token so far is one of its kind, and so is every token of a macro
pub record Formed (p : Progress) : Type 0 where
  pub tokens : All IsFormed p.tokens
  pub macros : All IsFormedEntry p.macros.names
