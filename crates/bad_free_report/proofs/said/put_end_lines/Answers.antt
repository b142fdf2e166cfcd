use Rattle.std.proofs.Common.{rules}
use Rattle.bad_free_report.specs.Explanation.{explanation}
use Rattle.bad_free_report.specs.Report.{end_report}
use Rattle.bad_free_report.proofs.Joining.{failed_first, joined}
use Rattle.bad_free_report.proofs.said.put_end_lines.Goals as goal

pub returns-in_err-report-clause-bytes : goal.returns-in_err-report-clause-bytes
returns-in_err-report-clause-bytes g c =
    let e = c.args.ending.now in
    failed_first _ _ (end_report e.core.now e.name.now e.text.now e.how) (explanation e.how e.known)
    c.report.result c.from_residual.result (search rules) c.from_residual.ensures.0 c.report.ensures.bytes

pub returns-clause-bytes : goal.returns-clause-bytes
returns-clause-bytes g c =
    let e = c.args.ending.now in
    joined _ _ _ (end_report e.core.now e.name.now e.text.now e.how) (explanation e.how e.known) _
    c.in_ok-report.ensures.bytes c.explain.ensures.bytes
