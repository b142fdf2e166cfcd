use Rattle.std.proofs.Common.{◌≡◌, ◌++◌, take}
use Rattle.c_tree.specs.StatementView.{entry_view}
use Rattle.c_tree.proofs.ListTexts.{comma_text}
use Rattle.c_tree.proofs.writer.Writer.names.Given as goal

abbrev pub invariant-loop-entry : goal.invariant-loop-entry
invariant-loop-entry l = l.self ≡ l.initial.self ++ comma_text entry_view (take l.entry-index l.rest)
