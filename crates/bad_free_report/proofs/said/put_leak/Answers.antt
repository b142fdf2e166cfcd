use Rattle.bad_free_report.proofs.said.put_leak.Goals as goal

pub returns-clause-bytes : goal.returns-clause-bytes
returns-clause-bytes g c =
    rw (← c.comma_if.ensures, ← c.from.ensures, ← c.from-2.ensures) c.put_pieces.ensures.bytes
