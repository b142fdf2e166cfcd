use Rattle.std.proofs.Common.{rules}
use Rattle.bad_free_report.specs.Explanation.{freed_lines, help_line}
use Rattle.bad_free_report.proofs.Joining.{failed_first, joined}
use Rattle.bad_free_report.proofs.explanation.put_bad_free.Goals as goal

pub returns-in_err-put_freed-clause-bytes : goal.returns-in_err-put_freed-clause-bytes
returns-in_err-put_freed-clause-bytes g c =
    failed_first _ _ (freed_lines c.args.freed) (help_line c.args.words.now) c.put_freed.result c.from_residual.result
    (search rules) c.from_residual.ensures.0 c.put_freed.ensures.bytes

pub returns-clause-bytes : goal.returns-clause-bytes
returns-clause-bytes g c =
    joined _ _ _ (freed_lines c.args.freed) (help_line c.args.words.now) _ c.in_ok-put_freed.ensures.bytes c.put_help.ensures.bytes
