use Rattle.std.proofs.Common.{◌≡◌, ap, ◌∙◌, ◌++◌, arith}
use Rattle.std.proofs.lemmas.List.{take_all}
use Rattle.c_tree.specs.StatementView.{stmt_view}
use Rattle.c_tree.proofs.ListTexts.{list_text}
use Rattle.c_tree.proofs.NameTexts.{items_text}
use Rattle.c_tree.proofs.writer.Writer.+stmt.Goals as goal

pub items-returns : goal.items-returns
items-returns t c =
    c.loop-stmt.invariant
    ∙ ap (λ xs. c.args.self.now ++ list_text stmt_view xs)
    (take_all c.loop-stmt.stmt-index c.args.list.now (omega (arith, c.loop-stmt-test.false)))
    ∙ items_text c.args.list.now c.args.self.now
