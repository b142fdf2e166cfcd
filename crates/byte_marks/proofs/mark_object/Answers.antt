use Rattle.adjusters.specs.ObjectSlots.{object_slots}
use Rattle.byte_marks.proofs.Marking.{changes_only, has_marks, still_bytes}
use Rattle.byte_marks.proofs.mark_object.Goals as goal

pub mark_slots-requires-clause-bytes : goal.mark_slots-requires-clause-bytes
mark_slots-requires-clause-bytes c = still_bytes c.args.marks.now c.fill.new.marks c.args.start c.args.size c.fill.ensures c.requires.inside

pub returns-clause-marked : goal.returns-clause-marked
returns-clause-marked c =
    has_marks c.args.marks.now c.fill.new.marks c.args.start c.args.size c.fill.ensures c.requires.inside c.mark_slots.new.marks (object_slots c.args.form.now c.args.size) c.mark_slots.ensures.outside c.mark_slots.ensures.marked

pub returns-clause-outside : goal.returns-clause-outside
returns-clause-outside c =
    changes_only c.args.marks.now c.fill.new.marks c.args.start c.args.size c.fill.ensures c.requires.inside c.mark_slots.new.marks (object_slots c.args.form.now c.args.size) c.mark_slots.ensures.outside
