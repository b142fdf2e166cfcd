use Rattle.std.proofs.Common.{◌≡◌, ◌<◌, length, arith}
use Rattle.adjusters.specs.ObjectSlots.{object_slots}
use Rattle.byte_marks.proofs.Marking.{all_marked, none_so_far, one_more}
use Rattle.byte_marks.proofs.mark_slots.Goals as goal

pub loop-k-init : goal.loop-k-init
loop-k-init c = none_so_far c.args.marks.now c.args.start c.args.size (object_slots c.args.form.now c.args.size) c.requires.bytes

pub loop-k-preserved : goal.loop-k-preserved
loop-k-preserved c =
    let slots = object_slots c.args.form.now c.args.size in
    let below : c.loop-k.k < length slots = omega arith in
    one_more c.args.marks.now c.loop-k.marks c.mark_slot.new.marks c.args.start c.args.size slots c.loop-k.k c.slot.result c.loop-k.invariant c.mark_slot.ensures c.slot.ensures.slot below c.slot.ensures.inside c.requires.apart

pub returns-clause-marked : goal.returns-clause-marked
returns-clause-marked c =
    let slots = object_slots c.args.form.now c.args.size in
    let all : c.loop-k.k ≡ length slots = omega arith in
    all_marked c.args.marks.now c.loop-k.marks c.args.start c.args.size slots c.loop-k.k c.loop-k.invariant all

pub returns-clause-outside : goal.returns-clause-outside
returns-clause-outside c = c.loop-k.invariant.outside
