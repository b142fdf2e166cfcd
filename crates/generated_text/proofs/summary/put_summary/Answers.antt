use Rattle.std.proofs.Common.{◌≡◌, decimal}
use Rattle.generated_text.proofs.summary.put_summary.Goals as goal

pub returns-clause-bytes : goal.returns-clause-bytes
returns-clause-bytes g c =
    let number : c.as_bytes-number.result.now ≡ decimal c.args.summary.number = cc in
    let text : c.as_bytes-text.result.now ≡ decimal c.args.summary.text = cc in
    let output : c.as_bytes-output.result.now ≡ decimal c.args.summary.output = cc in
    let steps : c.as_bytes-steps.result.now ≡ decimal c.args.summary.steps = cc in
    let status : c.as_bytes-status.result.now ≡ decimal c.args.summary.status = cc in
    rw (← number, ← text, ← output, ← steps, ← status) c.put_parts.ensures.bytes
