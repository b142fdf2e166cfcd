use Rattle.std.proofs.Common.{rules, ◌++◌}
use Rattle.bad_free_report.specs.Report.{heading, source_line}
use Rattle.bad_free_report.proofs.Joining.{failed_first, joined}
use Rattle.bad_free_report.proofs.lines.complain_labelled.Goals as goal

pub returns-in_err-put_heading-clause-bytes : goal.returns-in_err-put_heading-clause-bytes
returns-in_err-put_heading-clause-bytes g c =
    failed_first _ _ (heading c.args.name.now c.args.line (c.args.label.now ++ c.args.words.now)) (source_line c.args.text.now c.args.line) c.put_heading.result c.from_residual.result
    (search rules) c.from_residual.ensures.0 c.put_heading.ensures.bytes

pub returns-clause-bytes : goal.returns-clause-bytes
returns-clause-bytes g c =
    joined _ _ _ (heading c.args.name.now c.args.line (c.args.label.now ++ c.args.words.now)) (source_line c.args.text.now c.args.line) _
    c.in_ok-put_heading.ensures.bytes c.put_source_line.ensures.bytes
