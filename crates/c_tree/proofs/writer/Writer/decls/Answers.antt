use Rattle.std.proofs.Common.{◌≡◌, ap, ◌∙◌, ◌++◌, arith}
use Rattle.std.proofs.lemmas.List.{take_all}
use Rattle.c_tree.specs.StatementView.{decl_view}
use Rattle.c_tree.proofs.ListTexts.{list_text}
use Rattle.c_tree.proofs.NameTexts.{decls_text}
use Rattle.c_tree.proofs.writer.Writer.decls.Goals as goal

pub returns : goal.returns
returns c =
    c.loop-decl.invariant
    ∙ ap (λ xs. c.args.self.now ++ list_text decl_view xs)
    (take_all c.loop-decl.decl-index c.args.list.now (omega (arith, c.loop-decl-test.false)))
    ∙ decls_text c.args.list.now c.args.self.now
