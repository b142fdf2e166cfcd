use Rattle.std.proofs.Common.{◌≡◌, decimal}
use Rattle.bad_free_report.proofs.holders.put_holder.Goals as goal

pub returns-in-Global-clause-bytes : goal.returns-in-Global-clause-bytes
returns-in-Global-clause-bytes g c =
    let offset : c.as_bytes-offset.result.now ≡ decimal c.in-Global.offset = cc in
    rw (c.in-Global.is, ← offset, ← c.static_name.ensures) c.put_parts.ensures.bytes

pub returns-in-Memory-clause-bytes : goal.returns-in-Memory-clause-bytes
returns-in-Memory-clause-bytes g c =
    let offset : c.as_bytes-offset-in-Memory.result.now ≡ decimal c.in-Memory.offset = cc in
    rw (c.in-Memory.is, ← offset, ← c.func_name-func.ensures, ← c.local_name-local.ensures) c.put_parts-in-Memory.ensures.bytes

pub returns-in-Block-clause-bytes : goal.returns-in-Block-clause-bytes
returns-in-Block-clause-bytes g c =
    let line : c.as_bytes-line.result.now ≡ decimal c.in-Block.line = cc in
    let offset : c.as_bytes-offset-in-Block.result.now ≡ decimal c.in-Block.offset = cc in
    rw (c.in-Block.is, ← line, ← offset) c.put_parts-in-Block.ensures.bytes
