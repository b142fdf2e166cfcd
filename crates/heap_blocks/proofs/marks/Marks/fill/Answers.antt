use Rattle.std.proofs.Common.{◌≡◌, ◌∙◌, List, length, sym, ap, subst, arith}
use Rattle.std.specs.Vec.{with_items}
use Rattle.std.proofs.lemmas.List.{with_items_is}
use Rattle.byte_memory.specs.Filled.{filled_up}
use Rattle.byte_memory.specs.FilledEquations.{length-filled_up}
use Rattle.heap_blocks.specs.declared.marks.Mark.{Mark}
use Rattle.heap_blocks.specs.declared.marks.Mark.TheVariants.{Free}
use Rattle.heap_blocks.specs.Runs.{Filled}
use Rattle.heap_blocks.proofs.Marked.{filled_there}
use Rattle.heap_blocks.proofs.marks.Marks.fill.Goals as goal

pub reach-requires-clause-room : goal.reach-requires-clause-room
reach-requires-clause-room c =
    omega (arith, c.self.invariant.0, length-filled_up c.self.inside.list.items c.self.inside.len Free c.self.invariant.0, ap length c.self.view_is)

pub returns : goal.returns
returns c =
    let there = c.reach.new.list in
    let len = c.self.inside.len in
    let list : (with_items there c.fill.new.marks).items ≡ c.fill.new.marks = with_items_is there c.fill.new.marks (c.fill.ensures.long ∙ c.as_mut_slice.ensures.len) in
    let filled = subst (λ (l : List Mark). Filled l c.fill.new.marks c.args.from c.args.count c.args.mark) c.as_mut_slice.ensures.value c.fill.ensures in
    let before : filled_up there.items len Free ≡ c.args.self.now = c.reach.ensures.same ∙ c.self.view_is in
    subst (λ (l : List Mark). Filled c.args.self.now (filled_up l len Free) c.args.from c.args.count c.args.mark) (sym list)
    (subst (λ (l : List Mark). Filled l (filled_up c.fill.new.marks len Free) c.args.from c.args.count c.args.mark) before
    (filled_there there.items c.fill.new.marks len c.args.from c.args.count c.args.mark c.reach.ensures.there c.reach.ensures.few filled))
