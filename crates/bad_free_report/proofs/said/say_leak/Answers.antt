use Rattle.bad_free_report.proofs.said.say_leak.Goals as goal

pub returns-in-Lines-clause-bytes : goal.returns-in-Lines-clause-bytes
returns-in-Lines-clause-bytes g c = rw c.in-Lines.is c.leak_line.ensures.bytes
