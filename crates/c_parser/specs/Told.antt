-- What is told where there is no tree.
use Rattle.std.specs.Prelude.{◌≡◌, ⊤, None}
use Rattle.c_tree.specs.Depth.{most}
use Rattle.c_parser.specs.declared.error.ParseError.{ParseError}
use Rattle.c_parser.specs.declared.error.ParseError.TheVariants as errors
use Rattle.grammar_reading.specs.State.{State, line_at}
use Rattle.grammar_reading.specs.Statements.{external_at}
use Rattle.grammar_reading.specs.Rooms.{Text, Whole, Stops, less}

-- no external declaration is read here, and this is the line; want of memory is free
abbrev pub IsMissing : State → ParseError → Type 0
IsMissing state errors.NoMemory = ⊤
IsMissing state (errors.Syntax line) = (external_at (less most) most state ≡ None) × (line ≡ line_at state)

-- reading stops at a token of this line; want of memory is free
abbrev pub IsStopped : Text → ParseError → Type 0
IsStopped text errors.NoMemory = ⊤
IsStopped (Whole externals) (errors.Syntax line) = ⊥
IsStopped (Stops externals at) (errors.Syntax line) = line ≡ line_at at
