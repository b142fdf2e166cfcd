use Rattle.std.proofs.Common.{◌<◌, ◌∙◌, List, length, refl, sym, ap, arith}
use Rattle.std.specs.Prelude.{slice_get}
use Rattle.std.proofs.lemmas.Option.{slice_get_read}
use Rattle.byte_memory.specs.FilledEquations.{length-filled_up}
use Rattle.heap_blocks.specs.declared.marks.Mark.{Mark}
use Rattle.heap_blocks.specs.declared.marks.Mark.TheVariants.{Free}
use Rattle.heap_blocks.proofs.Marked.{mark_free, mark_there}
use Rattle.heap_blocks.proofs.marks.Marks.get.Goals as goal

pub returns-then-place-len-clause-there : goal.returns-then-place-len-clause-there
returns-then-place-len-clause-there c = λ within.
    let marks = c.self.inside.list.items in
    let there : c.args.place < length marks = omega (arith, c.if-place-len.true, c.len.ensures) in
    ap (λ (l : List Mark). slice_get l c.args.place) (sym c.self.view_is) ∙ mark_there marks c.self.inside.len c.args.place there
    ∙ slice_get_read marks (length marks) c.args.place c.index.result.now refl there c.index.ensures

pub returns-then-place-len-clause-past : goal.returns-then-place-len-clause-past
returns-then-place-len-clause-past c = λ past.
    absurd (omega (arith, length-filled_up c.self.inside.list.items c.self.inside.len Free c.self.invariant.0, ap length c.self.view_is))

pub returns-else-place-len-clause-there : goal.returns-else-place-len-clause-there
returns-else-place-len-clause-there c = λ within.
    let marks = c.self.inside.list.items in
    let long = length-filled_up marks c.self.inside.len Free c.self.invariant.0 in
    ap (λ (l : List Mark). slice_get l c.args.place) (sym c.self.view_is) ∙ mark_free marks c.self.inside.len c.args.place (omega arith) (omega (arith, ap length c.self.view_is))
