use Rattle.std.proofs.Common.{◌≡◌, decimal}
use Rattle.bad_free_report.proofs.explanation.put_one_freed.Goals as goal

pub returns-clause-bytes : goal.returns-clause-bytes
returns-clause-bytes g c =
    let line : c.as_bytes-line.result.now ≡ decimal c.args.line = cc in
    let bytes : c.as_bytes-bytes.result.now ≡ decimal c.args.bytes = cc in
    rw (← line, ← bytes) c.put_parts.ensures.bytes
