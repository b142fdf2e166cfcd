use Rattle.std.proofs.Common.{arith}
use Rattle.object_meaning.specs.objects.Making.{local_object}
use Rattle.meaning_state.proofs.Turns.{pushed}
use Rattle.meaning_state.proofs.objects.Objects.add_locals.Goals as goal

pub loop-i-preserved : goal.loop-i-preserved
loop-i-preserved c =
    pushed (local_object c.args.func) c.args.mems.now c.loop-i.i c.index-mems-i.result c.in_ok-local_object.field-0 c.self.inside.list.items c.loop-i.self-inside.list.items c.push.new.self.items (omega arith) c.index-mems-i.is c.in_ok-local_object.ensures c.loop-i.invariant c.in_ok-push.ensures.items
