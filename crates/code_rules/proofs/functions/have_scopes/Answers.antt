use Rattle.std.proofs.Common.{arith}
use Rattle.flat_code.specs.WellFormed.{HasScopes}
use Rattle.code_rules.proofs.Entries.{entries_all, entries_more, entries_no}
use Rattle.code_rules.proofs.Loops.{not_said}
use Rattle.code_rules.proofs.functions.have_scopes.Goals as goal

pub returns-then-not-branch : goal.returns-then-not-branch
returns-then-not-branch c = entries_no c.args.code.now (HasScopes c.args.code.now) c.loop-function.function (not_said c.if-not-branch.true c.in_ok-has_scopes_at.ensures)

pub loop-function-preserved : goal.loop-function-preserved
loop-function-preserved c = entries_more c.args.code.now (HasScopes c.args.code.now) c.loop-function.function c.loop-function.invariant (c.in_ok-has_scopes_at.ensures.0 c.if-not-branch.false)

pub returns : goal.returns
returns c = entries_all c.args.code.now (HasScopes c.args.code.now) c.loop-function.function (omega arith) c.loop-function.invariant
