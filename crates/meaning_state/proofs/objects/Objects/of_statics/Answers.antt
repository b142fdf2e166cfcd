use Rattle.std.proofs.Common.{[], arith}
use Rattle.object_meaning.specs.objects.Making.{static_object}
use Rattle.meaning_state.proofs.Turns.{pushed}
use Rattle.meaning_state.proofs.objects.Objects.of_statics.Goals as goal

pub loop-i-preserved : goal.loop-i-preserved
loop-i-preserved c =
    pushed static_object c.args.statics.now c.loop-i.i c.index-statics-i.result c.in_ok-static_object.field-0 [] c.loop-i.list.items c.push.new.self.items (omega arith) c.index-statics-i.is c.in_ok-static_object.ensures c.loop-i.invariant c.in_ok-push.ensures.items
