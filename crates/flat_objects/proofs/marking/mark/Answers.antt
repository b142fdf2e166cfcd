use Rattle.std.proofs.Common.{sym, subst}
use Rattle.std.proofs.lemmas.Option.{get_or_from_slice_get, slice_get_within}
use Rattle.adjusters.specs.ObjectSlots.{object_slots}
use Rattle.flat_objects.specs.Memory.{IsForm}
use Rattle.flat_objects.proofs.Ascending.{object_has_slots, slots_apart}
use Rattle.flat_objects.proofs.marking.mark.Goals as goal

pub mark-requires-clause-apart : goal.mark-requires-clause-apart
mark-requires-clause-apart c = λ i j d before within.
    let form = c.in-Some-get.form.now in
    let got = sym c.in-Some-get.ensures.item in
    let is_form = subst IsForm (get_or_from_slice_get c.args.forms.now c.args.layout form form got) (c.requires.forms c.args.layout form (slice_get_within c.args.forms.now c.args.layout form got)) in
    slots_apart 0 c.args.size (object_slots form c.args.size) i j d (object_has_slots form c.args.size is_form) before within
