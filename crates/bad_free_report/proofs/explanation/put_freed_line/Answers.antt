use Rattle.bad_free_report.proofs.explanation.put_freed_line.Goals as goal

pub returns-in-Some-clause-bytes : goal.returns-in-Some-clause-bytes
returns-in-Some-clause-bytes g c = rw c.in-Some.is c.put_one_freed.ensures.bytes

pub returns-in-None-clause-bytes : goal.returns-in-None-clause-bytes
returns-in-None-clause-bytes g c = rw c.in-None.is c.put_some_freed.ensures.bytes
