use Rattle.byte_marks.proofs.Marking.{slot_marked}
use Rattle.byte_marks.proofs.mark_slot.Goals as goal

pub returns : goal.returns
returns c = slot_marked c.args.marks.now c.args.at c.requires
