use Rattle.std.proofs.Common.{arith, sym, ◌∙◌}
use Rattle.c_types.proofs.LeftLemmas.{pop_case}
use Rattle.c_types.proofs.slots.slots_of.Goals as goal

pub list-requires : goal.list-requires
list-requires c =
    let case = pop_case c.args.tags.now c.loop-next.listing.left.items c.pop.new.self.items c.in-Some.next c.loop-next.listing.slots.items
    c.in-Some.ensures.items c.loop-next.invariant.listable in
    case.listable

pub loop-next-smaller : goal.loop-next-smaller
loop-next-smaller c =
    let case = pop_case c.args.tags.now c.loop-next.listing.left.items c.pop.new.self.items c.in-Some.next c.loop-next.listing.slots.items
    c.in-Some.ensures.items c.loop-next.invariant.listable in
    let works = case.works in
    let less = c.in_ok-list.ensures.less in
    omega arith

pub loop-next-preserved : goal.loop-next-preserved
loop-next-preserved c =
    let case = pop_case c.args.tags.now c.loop-next.listing.left.items c.pop.new.self.items c.in-Some.next c.loop-next.listing.slots.items
    c.in-Some.ensures.items c.loop-next.invariant.listable in
    record { listable = c.in_ok-list.ensures.listable; all = c.in_ok-list.ensures.all ∙ (sym case.same ∙ c.loop-next.invariant.all) }
