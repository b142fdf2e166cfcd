use Rattle.bad_free_report.proofs.said.put_before.Goals as goal

pub returns-clause-bytes : goal.returns-clause-bytes
returns-clause-bytes g c =
    rw (← c.text_or_null-word.ensures, ← c.text_or_null-file.ensures, ← c.number_or_null-line.ensures, ← c.text_or_null-source.ensures, ← c.from.ensures)
    c.put_pieces.ensures.bytes
