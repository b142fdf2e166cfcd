use Rattle.std.proofs.Common.{refl, map}
use Rattle.hs_base.specs.Trace.{Out}
use Rattle.object_meaning.specs.objects.Going.{goes, write}
use Rattle.meaning_run.specs.Leading.{with_input}
use Rattle.meaning_run.proofs.Bytes.{part}
use Rattle.meaning_run.proofs.machine.Machine.put_bytes.Goals as goal

pub returns-in-Err-clause-told : goal.returns-in-Err-clause-told
returns-in-Err-clause-told g c = λ left taken h.
    let p = c.in-Err.ensures.bytes taken h in
    let s = with_input left c.args.self.now in
    (part (goes s (map Out c.args.bytes.now) (write s c.args.r c.args.value)) taken p.0 p.1 c.args.bytes.now _ refl p.2 p.3, refl)
