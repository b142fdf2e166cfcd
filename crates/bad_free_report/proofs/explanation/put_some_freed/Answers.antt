use Rattle.std.proofs.Common.{◌≡◌, decimal}
use Rattle.bad_free_report.proofs.explanation.put_some_freed.Goals as goal

pub returns-clause-bytes : goal.returns-clause-bytes
returns-clause-bytes g c =
    let blocks : c.as_bytes-blocks.result.now ≡ decimal c.args.blocks = cc in
    let bytes : c.as_bytes-bytes.result.now ≡ decimal c.args.bytes = cc in
    rw (← blocks, ← bytes) c.put_parts.ensures.bytes
