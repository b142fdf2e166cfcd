use Rattle.std.proofs.Common.{◌≡◌, ◌<◌, ◌*◌, ◌/◌, ◌%◌, ◌∙◌, sym, length}
use Rattle.std.specs.Prelude.{Contains}
use Rattle.std.proofs.lemmas.Bool.{ne_eqb}
use Rattle.adjusters.specs.ObjectSlots.{object_slots}
use Rattle.flat_objects.proofs.Ascending.{IsEven, even_slots}
use Rattle.flat_objects.proofs.Touching.{touches_none, told, told_not, second_decides}
use Rattle.flat_objects.proofs.forms.touches_slot.Goals as goal

pub returns-then-n-eq8 : goal.returns-then-n-eq8
returns-then-n-eq8 c =
    let slots = object_slots c.args.form.now c.args.size in
    let even : IsEven c.args.form.now = record { slots = c.requires.form.slots; whole = told c.is_even.result (0 < length c.args.form.now.slots → c.args.form.now.size % 4 ≡ 0) c.is_even.ensures c.if-not-is_even.false } in
    second_decides c.args.size slots c.args.offset c.args.n c.is_slot-then-n-eq8.result (even_slots c.args.form.now c.args.size even) c.requires.width c.requires.aligned
    (told_not c.is_slot.result (Contains slots (c.args.offset / 4 * 4)) c.is_slot.ensures c.if-is_slot.false) c.if-n-eq8.true c.is_slot-then-n-eq8.ensures

pub returns-else-n-eq8 : goal.returns-else-n-eq8
returns-else-n-eq8 c =
    let slots = object_slots c.args.form.now c.args.size in
    let even : IsEven c.args.form.now = record { slots = c.requires.form.slots; whole = told c.is_even.result (0 < length c.args.form.now.slots → c.args.form.now.size % 4 ≡ 0) c.is_even.ensures c.if-not-is_even.false } in
    ne_eqb c.args.n 8 c.if-n-eq8.false ∙ sym (touches_none c.args.size slots c.args.offset c.args.n (even_slots c.args.form.now c.args.size even) c.requires.width c.requires.aligned
    (told_not c.is_slot.result (Contains slots (c.args.offset / 4 * 4)) c.is_slot.ensures c.if-is_slot.false) (λ eight _. c.if-n-eq8.false eight))
