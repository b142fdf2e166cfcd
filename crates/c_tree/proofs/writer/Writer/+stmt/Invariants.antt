use Rattle.std.proofs.Common.{◌≡◌, ◌++◌, take}
use Rattle.c_tree.specs.StatementView.{stmt_view}
use Rattle.c_tree.proofs.ListTexts.{list_text}
use Rattle.c_tree.proofs.writer.Writer.+stmt.Given as goal

abbrev pub invariant-items-loop-stmt : goal.invariant-items-loop-stmt
invariant-items-loop-stmt l = l.self ≡ l.initial.self ++ list_text stmt_view (take l.stmt-index l.list)
