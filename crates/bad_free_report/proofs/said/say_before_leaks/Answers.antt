use Rattle.std.proofs.Common.{subst}
use Rattle.hs_base.specs.PutAll.{PutsAll}
use Rattle.bad_free_report.specs.Notice.{Facts}
use Rattle.bad_free_report.specs.Parts.{front}
use Rattle.bad_free_report.proofs.said.say_before_leaks.Goals as goal

pub returns-in-Lines-clause-bytes : goal.returns-in-Lines-clause-bytes
returns-in-Lines-clause-bytes g c = rw c.in-Lines.is c.put_end_lines.ensures.bytes

pub returns-in-Json-clause-bytes : goal.returns-in-Json-clause-bytes
returns-in-Json-clause-bytes g c =
    rw c.in-Json.is
    (subst (λ (f : Facts). PutsAll (g.E.Sink.taken c.args.err.now) (g.E.Sink.taken c.put_front.new.err) (front f) c.put_front.result) c.facts_of.ensures c.put_front.ensures.bytes)
