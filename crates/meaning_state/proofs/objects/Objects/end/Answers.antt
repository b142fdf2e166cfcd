use Rattle.std.proofs.Common.{◌∙◌, arith}
use Rattle.meaning_state.proofs.Turns.{ended_more}
use Rattle.meaning_state.proofs.objects.Objects.end.Goals as goal

pub loop-k-preserved : goal.loop-k-preserved
loop-k-preserved c = c.loop-k.invariant ∙ ended_more c.loop-k.self c.end_one.new.self c.args.first c.loop-k.k c.args.count (omega arith) c.end_one.ensures
