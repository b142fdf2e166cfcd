use Rattle.std.proofs.Common.{◌≡◌, ◌++◌, take}
use Rattle.c_tree.specs.StatementView.{decl_view}
use Rattle.c_tree.proofs.ListTexts.{list_text}
use Rattle.c_tree.proofs.writer.Writer.decls.Given as goal

abbrev pub invariant-loop-decl : goal.invariant-loop-decl
invariant-loop-decl l = l.self ≡ l.initial.self ++ list_text decl_view (take l.decl-index l.list)
