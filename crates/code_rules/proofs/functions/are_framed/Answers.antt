use Rattle.std.proofs.Common.{arith}
use Rattle.code_rules.specs.Functions.{IsFramed}
use Rattle.code_rules.proofs.Entries.{entries_all, entries_more, entries_no}
use Rattle.code_rules.proofs.Loops.{not_said}
use Rattle.code_rules.proofs.functions.are_framed.Goals as goal

pub returns-then-not-is_framed_at : goal.returns-then-not-is_framed_at
returns-then-not-is_framed_at c = entries_no c.args.code.now (IsFramed c.args.code.now) c.loop-function.function (not_said c.if-not-is_framed_at.true c.is_framed_at.ensures)

pub loop-function-preserved : goal.loop-function-preserved
loop-function-preserved c = entries_more c.args.code.now (IsFramed c.args.code.now) c.loop-function.function c.loop-function.invariant (c.is_framed_at.ensures.0 c.if-not-is_framed_at.false)

pub returns : goal.returns
returns c = entries_all c.args.code.now (IsFramed c.args.code.now) c.loop-function.function (omega arith) c.loop-function.invariant
