use Rattle.std.proofs.Common.{refl, map}
use Rattle.hs_base.specs.Trace.{Out}
use Rattle.object_meaning.specs.objects.Going.{stops_after, ended_by}
use Rattle.meaning_run.specs.Leading.{with_input}
use Rattle.meaning_run.proofs.Bytes.{part, refused_seen}
use Rattle.meaning_run.proofs.machine.Machine.put_refused.Goals as goal

pub returns-in-Ok-clause-told : goal.returns-in-Ok-clause-told
returns-in-Ok-clause-told g c = λ left taken e is h.
    rw c.halt_of.ensures (refused_seen c.args.refusal e is c.args.line (with_input left c.args.self.now) c.args.bytes.now left taken _ (c.in-Ok.ensures.bytes taken h))

pub returns-in-Err-clause-told : goal.returns-in-Err-clause-told
returns-in-Err-clause-told g c = λ left taken e is h.
    let p = c.in-Err.ensures.bytes taken h in
    let s = with_input left c.args.self.now in
    (part (stops_after s (map Out c.args.bytes.now) s (ended_by c.args.line e)) taken p.0 p.1 c.args.bytes.now _ refl p.2 p.3, refl)
