use Rattle.flat_code.specs.WellFormed.{IsTarget}
use Rattle.code_rules.proofs.Loops.{all_of, more_at, no_more_at, not_said}
use Rattle.code_rules.proofs.tables.are_targets.Goals as goal

pub returns-then-not-is_target : goal.returns-then-not-is_target
returns-then-not-is_target c = no_more_at (IsTarget c.args.code.now) c.args.pointers.now c.loop-pointer.pointer-index (0, 0, 0) c.loop-pointer-test.true (not_said c.if-not-is_target.true c.is_target.ensures)

pub loop-pointer-preserved : goal.loop-pointer-preserved
loop-pointer-preserved c =
    more_at (IsTarget c.args.code.now) c.args.pointers.now c.loop-pointer.pointer-index (0, 0, 0) c.loop-pointer-test.true c.loop-pointer.invariant (c.is_target.ensures.0 c.if-not-is_target.false)

pub returns : goal.returns
returns c = all_of (IsTarget c.args.code.now) c.args.pointers.now c.loop-pointer.pointer-index c.loop-pointer-test.false c.loop-pointer.invariant
