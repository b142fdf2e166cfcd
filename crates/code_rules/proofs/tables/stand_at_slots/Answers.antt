use Rattle.std.proofs.Common.{ℕ}
use Rattle.std.specs.List.{Contains}
use Rattle.code_rules.proofs.Loops.{all_of, more_at, no_more_at, not_said}
use Rattle.code_rules.proofs.tables.stand_at_slots.Goals as goal

pub returns-then-not-is_slot : goal.returns-then-not-is_slot
returns-then-not-is_slot c = no_more_at (λ (p : ℕ × ℕ × ℕ). Contains c.args.slots.now p.0) c.args.pointers.now c.loop-pointer.pointer-index (0, 0, 0) c.loop-pointer-test.true (not_said c.if-not-is_slot.true c.is_slot.ensures)

pub loop-pointer-preserved : goal.loop-pointer-preserved
loop-pointer-preserved c =
    more_at (λ (p : ℕ × ℕ × ℕ). Contains c.args.slots.now p.0) c.args.pointers.now c.loop-pointer.pointer-index (0, 0, 0) c.loop-pointer-test.true c.loop-pointer.invariant (c.is_slot.ensures.0 c.if-not-is_slot.false)

pub returns : goal.returns
returns c = all_of (λ (p : ℕ × ℕ × ℕ). Contains c.args.slots.now p.0) c.args.pointers.now c.loop-pointer.pointer-index c.loop-pointer-test.false c.loop-pointer.invariant
