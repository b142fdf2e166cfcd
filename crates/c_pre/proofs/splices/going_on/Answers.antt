use Rattle.std.proofs.Common.{true, false, sym, ◌∙◌}
use Rattle.c_pre.specs.Splices.{before_backslash}
use Rattle.c_pre.proofs.Joining.{nothing_follows, follows}
use Rattle.c_pre.proofs.splices.going_on.Goals as goal

pub returns-then-is_empty-clause-part : goal.returns-then-is_empty-clause-part
returns-then-is_empty-clause-part c =
    nothing_follows (before_backslash c.args.line.now) c.args.behind.now (sym c.is_empty.ensures ∙ c.if-is_empty.true)

pub returns-then-may_follow-clause-part : goal.returns-then-may_follow-clause-part
returns-then-may_follow-clause-part c =
    follows (before_backslash c.args.line.now) c.in_ok-part.part.now c.args.behind.now c.first_line.result.now true (sym c.in_ok-part.ensures.part)
    (sym c.is_empty.ensures ∙ c.if-is_empty.false) c.first_line.ensures.line (sym c.may_follow.ensures ∙ c.if-may_follow.true)

pub returns-else-may_follow-clause-part : goal.returns-else-may_follow-clause-part
returns-else-may_follow-clause-part c =
    follows (before_backslash c.args.line.now) c.in_ok-part.part.now c.args.behind.now c.first_line.result.now false (sym c.in_ok-part.ensures.part)
    (sym c.is_empty.ensures ∙ c.if-is_empty.false) c.first_line.ensures.line (sym c.may_follow.ensures ∙ c.if-may_follow.false)
