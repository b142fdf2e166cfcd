use Rattle.std.proofs.Common.{arith}
use Rattle.elab_statements.proofs.PartsInTurn.{part_more}
use Rattle.elab_statements.proofs.parts.member_parts.Goals as goal

pub loop-place-preserved : goal.loop-place-preserved
loop-place-preserved c = record {
  parts = part_more c.args.offset c.args.members.now c.loop-place.place c.index-members-place.result c.loop-place.parts.items c.push.new.self.items c.in_ok-member_part.field-0 c.loop-place-test.true c.index-members-place.is c.loop-place.invariant.parts c.in_ok-member_part.ensures c.in_ok-push.ensures.items;
  few = omega arith;
}
