use Rattle.std.proofs.Common.{◌≡◌, decimal}
use Rattle.bad_free_report.proofs.leaks.leak_line.Goals as goal

pub returns-clause-bytes : goal.returns-clause-bytes
returns-clause-bytes g c =
    let line : c.as_bytes-line.result.now ≡ decimal c.args.leak.now.line = cc in
    let blocks : c.as_bytes-blocks.result.now ≡ decimal c.args.leak.now.blocks = cc in
    let bytes : c.as_bytes-bytes.result.now ≡ decimal c.args.leak.now.bytes = cc in
    rw (← line, ← blocks, ← bytes) c.put_parts.ensures.bytes
