use Rattle.std.proofs.Common.{rules, codes}
use Rattle.bad_free_report.specs.Explanation.{help_line, limit_line, stack_help}
use Rattle.bad_free_report.proofs.Joining.{failed_first, joined}
use Rattle.bad_free_report.proofs.explanation.put_out_of_stack.Goals as goal

pub returns-in_err-put_help-clause-bytes : goal.returns-in_err-put_help-clause-bytes
returns-in_err-put_help-clause-bytes g c =
    failed_first _ _ (help_line stack_help)
    (limit_line c.args.limits.stack (codes " bytes of stack, raised by --stack")) c.put_help.result c.from_residual.result
    (search rules) c.from_residual.ensures.0 c.put_help.ensures.bytes

pub returns-clause-bytes : goal.returns-clause-bytes
returns-clause-bytes g c =
    rw (← c.from.ensures)
    (joined _ _ _ (help_line stack_help)
    (limit_line c.from.result (codes " bytes of stack, raised by --stack")) _
    c.in_ok-put_help.ensures.bytes c.put_limit.ensures.bytes)
