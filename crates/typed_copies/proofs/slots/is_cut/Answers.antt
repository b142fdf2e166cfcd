use Rattle.std.proofs.Common.{◌+◌, ◌-◌, ap, ◌∙◌, arith}
use Rattle.std.specs.Prelude.{nat_lt}
use Rattle.std.proofs.lemmas.Bool.{le-ltb}
use Rattle.adjusters.specs.ObjectSlots.{object_slots}
use Rattle.typed_copies.proofs.Ascending.{ends_at, object_has_slots}
use Rattle.typed_copies.proofs.Cutting.{last_decides, none_below}
use Rattle.typed_copies.proofs.slots.is_cut.Goals as goal

pub overflow_add-result : goal.overflow_add-result
overflow_add-result c =
    let ends = ends_at 0 c.args.size (object_slots c.args.form.now c.args.size) (c.args.below - 1) 0 (object_has_slots c.args.form.now c.args.size c.requires.form) (let within = c.requires.below.inside in omega arith) in
    omega (arith, c.slot.ensures.slot)

pub returns-then-below-gt0 : goal.returns-then-below-gt0
returns-then-below-gt0 c =
    ap (λ s. nat_lt c.args.edge (s + 4)) c.slot.ensures.slot
    ∙ last_decides c.args.size (object_slots c.args.form.now c.args.size) c.args.edge c.args.below (object_has_slots c.args.form.now c.args.size c.requires.form) c.requires.below c.if-below-gt0.true

pub returns-else-below-gt0 : goal.returns-else-below-gt0
returns-else-below-gt0 c =
    le-ltb 0 c.args.below c.if-below-gt0.false ∙ none_below (object_slots c.args.form.now c.args.size) c.args.edge c.args.below c.requires.below (omega (arith, c.if-below-gt0.false))
