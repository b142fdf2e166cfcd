use Rattle.std.proofs.Common.{rules, ◌++◌}
use Rattle.bad_free_report.specs.Report.{heading, source_line}
use Rattle.bad_free_report.proofs.Joining.{failed_first, joined}
use Rattle.bad_free_report.proofs.lines.put_refusal_at.Goals as goal

pub returns-in_err-put_refusal_heading-clause-bytes : goal.returns-in_err-put_refusal_heading-clause-bytes
returns-in_err-put_refusal_heading-clause-bytes g c =
    let words = c.args.kind.now ++ (c.args.colon.now ++ c.args.word.now) in
    failed_first _ _ (heading c.args.name.now c.args.spot.line words) (source_line c.args.spot.text.now c.args.spot.line)
    c.put_refusal_heading.result c.from_residual.result (search rules) c.from_residual.ensures.0 c.put_refusal_heading.ensures.bytes

pub returns-clause-bytes : goal.returns-clause-bytes
returns-clause-bytes g c =
    let words = c.args.kind.now ++ (c.args.colon.now ++ c.args.word.now) in
    joined _ _ _ (heading c.args.name.now c.args.spot.line words) (source_line c.args.spot.text.now c.args.spot.line) _
    c.in_ok-put_refusal_heading.ensures.bytes c.put_source_line.ensures.bytes
