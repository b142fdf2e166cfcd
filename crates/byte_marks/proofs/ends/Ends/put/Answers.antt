use Rattle.std.proofs.Common.{◌≡◌, ◌+◌, ◌-◌, ◌/◌, ◌∙◌, ℕ, List, length, sym, ap, subst, arith}
use Rattle.std.specs.Vec.{with_items}
use Rattle.std.proofs.lemmas.List.{with_items_is}
use Rattle.byte_memory.specs.Filled.{filled_up}
use Rattle.byte_memory.specs.FilledEquations.{length-filled_up}
use Rattle.byte_marks.specs.Ends.{ChangesEnds, HasEnd}
use Rattle.byte_marks.specs.Marks.{Filled}
use Rattle.byte_marks.proofs.Ending.{changes_ends, has_end}
use Rattle.byte_marks.proofs.ends.Ends.put.Goals as goal

pub reach-requires-clause-room : goal.reach-requires-clause-room
reach-requires-clause-room c =
    let long : length c.args.self.now ≡ c.self.inside.count = ap length (sym c.self.view_is) ∙ length-filled_up c.self.inside.list.items c.self.inside.count 0 c.self.invariant.1 in
    omega (arith, c.requires.inside)

pub returns-clause-end : goal.returns-clause-end
returns-clause-end c =
    let there = c.reach.new.list in
    let list : (with_items there c.fill.new.ends).items ≡ c.fill.new.ends = with_items_is there c.fill.new.ends (c.fill.ensures.long ∙ c.as_mut_slice.ensures.len) in
    let filled = subst (λ (l : List ℕ). Filled l c.fill.new.ends (c.args.start / 16) ((c.args.start + c.args.size) / 16 + 1 - c.args.start / 16) (c.args.start + c.args.size)) c.as_mut_slice.ensures.value c.fill.ensures in
    subst (λ (l : List ℕ). HasEnd (filled_up l c.self.inside.count 0) c.args.start c.args.size) (sym list)
    (has_end there.items c.fill.new.ends c.self.inside.count c.args.start c.args.size c.reach.ensures.few (omega (arith, c.reach.ensures.there)) filled)

pub returns-clause-outside : goal.returns-clause-outside
returns-clause-outside c =
    let there = c.reach.new.list in
    let list : (with_items there c.fill.new.ends).items ≡ c.fill.new.ends = with_items_is there c.fill.new.ends (c.fill.ensures.long ∙ c.as_mut_slice.ensures.len) in
    let filled = subst (λ (l : List ℕ). Filled l c.fill.new.ends (c.args.start / 16) ((c.args.start + c.args.size) / 16 + 1 - c.args.start / 16) (c.args.start + c.args.size)) c.as_mut_slice.ensures.value c.fill.ensures in
    let changes = changes_ends there.items c.fill.new.ends c.self.inside.count c.args.start c.args.size c.reach.ensures.few (omega (arith, c.reach.ensures.there)) filled in
    let before : filled_up there.items c.self.inside.count 0 ≡ c.args.self.now = c.reach.ensures.same ∙ c.self.view_is in
    subst (λ (l : List ℕ). ChangesEnds c.args.self.now (filled_up l c.self.inside.count 0) c.args.start c.args.size) (sym list)
    (subst (λ (l : List ℕ). ChangesEnds l (filled_up c.fill.new.ends c.self.inside.count 0) c.args.start c.args.size) before changes)
