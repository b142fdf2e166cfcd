use Rattle.std.proofs.Common.{◌≡◌, ◌+◌, ◌++◌, List, ℕ, ap, sym, ◌∙◌, take, add-one}
use Rattle.c_lexer.specs.Literals.{literal_values}
use Rattle.c_tree.specs.View.{literal_leaves}
use Rattle.c_decls.specs.Expressions.{joined}
use Rattle.c_typing.proofs.Calls.{joined_more}
use Rattle.c_typing.proofs.literals.joined.Goals as goal

pub loop-part-preserved : goal.loop-part-preserved
loop-part-preserved c =
    c.in_ok-extend_from_slice.ensures.items
    ∙ ap (λ more. c.loop-part.bytes.items ++ more)
    (c.as_slice-in-loop-part.ensures ∙ c.in_ok-values.ensures ∙ ap literal_values c.as_slice.ensures)
    ∙ ap (λ before. before ++ literal_values c.part-item.result) c.loop-part.invariant
    ∙ sym (joined_more c.args.parts.now c.loop-part.part-index c.part-item.result c.part-item.is c.loop-part-test.true)
    ∙ ap (λ n. joined (literal_leaves (take n c.args.parts.now))) (sym (add-one c.loop-part.part-index))
