use Rattle.std.proofs.Common.{◌≡◌, decimal}
use Rattle.bad_free_report.proofs.explanation.put_limit.Goals as goal

pub returns-clause-bytes : goal.returns-clause-bytes
returns-clause-bytes g c =
    let limit : c.as_bytes-limit.result.now ≡ decimal c.args.limit = cc in rw (← limit) c.put_parts.ensures.bytes
