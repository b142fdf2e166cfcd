use Rattle.bad_free_report.proofs.said.put_help.Goals as goal

pub returns-clause-bytes : goal.returns-clause-bytes
returns-clause-bytes g c = rw (← c.text_or_null-help.ensures) c.put_pieces.ensures.bytes
