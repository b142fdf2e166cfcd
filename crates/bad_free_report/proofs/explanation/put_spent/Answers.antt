use Rattle.std.proofs.Common.{rules, codes}
use Rattle.bad_free_report.specs.Explanation.{help_line, limit_line, steps_help}
use Rattle.bad_free_report.proofs.Joining.{failed_first, joined}
use Rattle.bad_free_report.proofs.explanation.put_spent.Goals as goal

pub returns-in_err-put_help-clause-bytes : goal.returns-in_err-put_help-clause-bytes
returns-in_err-put_help-clause-bytes g c =
    failed_first _ _ (help_line steps_help)
    (limit_line c.args.limits.steps (codes " steps, raised by --steps")) c.put_help.result c.from_residual.result
    (search rules) c.from_residual.ensures.0 c.put_help.ensures.bytes

pub returns-clause-bytes : goal.returns-clause-bytes
returns-clause-bytes g c =
    joined _ _ _ (help_line steps_help)
    (limit_line c.args.limits.steps (codes " steps, raised by --steps")) _
    c.in_ok-put_help.ensures.bytes c.put_limit.ensures.bytes
