-- A node grows to the right of what was read.
use Rattle.std.specs.Prelude.{ℕ, Result}
use Rattle.c_tree.specs.Forms.{Form}
use Rattle.c_tree.specs.StatementView.{expr_view}
use Rattle.grammar_reading.specs.State.{State}
use Rattle.grammar_reading.specs.Reading.{grown}
use Rattle.grammar_reading.specs.Rooms.{less}
use Rattle.parser_parts.specs.Trees.{ReadsExpr}
use Rattle.parser_parts.specs.declared.deep.DeepExpr.{DeepExpr}
use Rattle.parser_parts.specs.declared.error.ReadError.{ReadError}

-- the code reads, behind an expression of a line, the rest of a node of a form that begins with it, where there is room
abbrev pub Grows : ℕ → Form → ℕ → DeepExpr → Result DeepExpr ReadError → State → State → Type 0
Grows room form line left result before after =
    ReadsExpr result after (grown room (less room) form line (expr_view left.tree) before)
