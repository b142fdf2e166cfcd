use Rattle.std.proofs.Common.{◌≡◌, ap, ◌∙◌, ◌++◌, arith}
use Rattle.std.proofs.lemmas.List.{take_all}
use Rattle.c_tree.proofs.ListTexts.{strings_list, strings_text}
use Rattle.c_tree.proofs.writer.Writer.strings.Goals as goal

pub returns : goal.returns
returns c =
    c.loop-bytes.invariant
    ∙ ap (λ xs. c.args.self.now ++ strings_list xs)
    (take_all c.loop-bytes.bytes-index c.args.list.now (omega (arith, c.loop-bytes-test.false)))
    ∙ strings_text c.args.list.now c.args.self.now
