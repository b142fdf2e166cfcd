use Rattle.bad_free_report.proofs.said.say_refused.Goals as goal

pub returns-in-Lines-clause-bytes : goal.returns-in-Lines-clause-bytes
returns-in-Lines-clause-bytes g c = rw c.in-Lines.is c.put_refusal_lines.ensures.bytes

pub returns-in-Json-clause-bytes : goal.returns-in-Json-clause-bytes
returns-in-Json-clause-bytes g c = rw c.in-Json.is c.put_refusal_object.ensures.bytes
