use Rattle.code_rules.proofs.Loops.{not_said}
use Rattle.code_rules.proofs.Statics.{first_holds, first_slots, first_targets}
use Rattle.code_rules.proofs.tables.is_first.Goals as goal

pub returns-then-not-stand_at_slots : goal.returns-then-not-stand_at_slots
returns-then-not-stand_at_slots c = (
  λ no_. absurd (cc),
  λ first. absurd (not_said c.if-not-stand_at_slots.true c.stand_at_slots.ensures
      (first_slots c.args.code.now c.args.item.now c.args.layout.now c.as_slice-slots.result.now c.as_slice-pointers.result.now c.as_slice-slots.ensures c.as_slice-pointers.ensures first)),
)

pub returns : goal.returns
returns c =
    let code = c.args.code.now in let item = c.args.item.now in let l = c.args.layout.now in (
      λ yes. first_holds code item l c.as_slice-bytes.result.now c.as_slice-slots.result.now c.as_slice-pointers.result.now c.as_slice-bytes.ensures c.as_slice-slots.ensures c.as_slice-pointers.ensures
          c.if-bytes-layout.false (c.are_zero_slots.ensures.0 c.if-not-are_zero_slots.false) (c.stand_at_slots.ensures.0 c.if-not-stand_at_slots.false)
          (c.are_distinct.ensures.0 c.if-not-are_distinct.false) (c.are_targets.ensures.0 yes),
      λ first. c.are_targets.ensures.1 (first_targets code item l c.as_slice-pointers.result.now c.as_slice-pointers.ensures first),
    )
