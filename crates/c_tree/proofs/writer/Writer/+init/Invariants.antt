use Rattle.std.proofs.Common.{◌≡◌, ◌++◌, take}
use Rattle.c_tree.specs.StatementView.{init_view}
use Rattle.c_tree.proofs.ListTexts.{comma_text}
use Rattle.c_tree.proofs.writer.Writer.+init.Given as goal

abbrev pub invariant-inits-loop-init : goal.invariant-inits-loop-init
invariant-inits-loop-init l = l.self ≡ l.initial.self ++ comma_text init_view (take l.init-index l.rest)
