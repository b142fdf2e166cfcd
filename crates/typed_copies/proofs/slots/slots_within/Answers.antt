use Rattle.std.proofs.Common.{◌∙◌, sym}
use Rattle.adjusters.specs.ObjectSlots.{object_slots}
use Rattle.typed_copies.proofs.Cutting.{between, cut_first, cut_last, cut_nowhere, in_order}
use Rattle.typed_copies.proofs.slots.slots_within.Goals as goal

pub overflow_sub-result : goal.overflow_sub-result
overflow_sub-result c =
    in_order (object_slots c.args.form.now c.args.range.size) c.args.range.offset c.args.n c.slots_below-first.result c.slots_below-end.result c.slots_below-first.ensures c.slots_below-end.ensures

pub returns-then-is_cut-clause-none : goal.returns-then-is_cut-clause-none
returns-then-is_cut-clause-none c =
    cut_first (object_slots c.args.form.now c.args.range.size) c.args.range.offset c.args.n (sym c.is_cut.ensures ∙ c.if-is_cut.true)

pub returns-then-is_cut-2-clause-none : goal.returns-then-is_cut-2-clause-none
returns-then-is_cut-2-clause-none c =
    cut_last (object_slots c.args.form.now c.args.range.size) c.args.range.offset c.args.n (sym c.is_cut-2.ensures ∙ c.if-is_cut-2.true)

pub returns-clause-uncut : goal.returns-clause-uncut
returns-clause-uncut c =
    cut_nowhere (object_slots c.args.form.now c.args.range.size) c.args.range.offset c.args.n (sym c.is_cut.ensures ∙ c.if-is_cut.false) (sym c.is_cut-2.ensures ∙ c.if-is_cut-2.false)

pub returns-clause-some : goal.returns-clause-some
returns-clause-some c =
    between (object_slots c.args.form.now c.args.range.size) c.args.range.offset c.args.n c.slots_below-first.result c.slots_below-end.result c.slots_below-first.ensures c.slots_below-end.ensures (sym c.is_cut.ensures ∙ c.if-is_cut.false)
    (sym c.is_cut-2.ensures ∙ c.if-is_cut-2.false)
