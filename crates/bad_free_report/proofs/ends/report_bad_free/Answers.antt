use Rattle.std.proofs.Common.{rules, ◌++◌, codes}
use Rattle.bad_free_report.specs.Report.{complaint_at, holder_line}
use Rattle.bad_free_report.proofs.Joining.{failed_first, joined}
use Rattle.bad_free_report.proofs.ends.report_bad_free.Goals as goal

pub returns-in_err-complain_labelled-clause-bytes :
    goal.returns-in_err-complain_labelled-clause-bytes
returns-in_err-complain_labelled-clause-bytes g c =
    rw (← c.reason_words-words.ensures)
    (failed_first _ _ (complaint_at c.args.name.now c.args.free.line (codes "bad free: " ++ c.reason_words-words.result.now) c.args.text.now)
    (holder_line c.args.core.now c.args.free.reason c.args.holder) c.complain_labelled.result c.from_residual.result
    (search rules) c.from_residual.ensures.0 c.complain_labelled.ensures.bytes)

pub returns-clause-bytes : goal.returns-clause-bytes
returns-clause-bytes g c =
    rw (← c.reason_words-words.ensures)
    (joined _ _ _ (complaint_at c.args.name.now c.args.free.line (codes "bad free: " ++ c.reason_words-words.result.now) c.args.text.now)
    (holder_line c.args.core.now c.args.free.reason c.args.holder) _
    c.in_ok-complain_labelled.ensures.bytes c.put_first_holder.ensures.bytes)
