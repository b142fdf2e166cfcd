use Rattle.std.proofs.Common.{arith, ◌≡◌, ◌/◌, ◌%◌, length, refl}
use Rattle.adjusters.proofs.Repeats.{slots_len, some_factor, block_inside, ends_inside, slot_is, number_below}
use Rattle.std.proofs.lemmas.Nat.{div_below}
use Rattle.adjusters.proofs.Adjuster.slot.Goals as goal

pub overflow_cast-in_element : goal.overflow_cast-in_element
overflow_cast-in_element c =
    let four = slots_len 0 c.self.inside.size c.self.inside.slots.items c.self.invariant (omega arith) in
    omega arith

pub nonzero_div-result : goal.nonzero_div-result
nonzero_div-result c =
    let below = number_below c.self.inside.size c.self.inside.slots.items c.args.self.now c.args.size c.args.k c.self.view_is c.requires in
    let some = some_factor c.args.k (c.args.size / c.self.inside.size) (length c.self.inside.slots.items) below in
    omega arith

pub nonzero_rem-k : goal.nonzero_rem-k
nonzero_rem-k c =
    let below = number_below c.self.inside.size c.self.inside.slots.items c.args.self.now c.args.size c.args.k c.self.view_is c.requires in
    let some = some_factor c.args.k (c.args.size / c.self.inside.size) (length c.self.inside.slots.items) below in
    omega arith

pub index-requires : goal.index-requires
index-requires c =
    let below = number_below c.self.inside.size c.self.inside.slots.items c.args.self.now c.args.size c.args.k c.self.view_is c.requires in
    let some = some_factor c.args.k (c.args.size / c.self.inside.size) (length c.self.inside.slots.items) below in
    omega arith

pub overflow_mul-result : goal.overflow_mul-result
overflow_mul-result c =
    let below = number_below c.self.inside.size c.self.inside.slots.items c.args.self.now c.args.size c.args.k c.self.view_is c.requires in
    let some = some_factor c.args.k (c.args.size / c.self.inside.size) (length c.self.inside.slots.items) below in
    let len : c.len-in_element.result ≡ length c.self.inside.slots.items = omega arith in
    let q = div_below c.args.k (length c.self.inside.slots.items) (c.args.size / c.self.inside.size) some below in
    let inside = block_inside (c.args.k / length c.self.inside.slots.items) (c.args.size / c.self.inside.size) c.self.inside.size c.args.size q refl in
    rw len (omega arith)

pub overflow_add-result : goal.overflow_add-result
overflow_add-result c =
    let below = number_below c.self.inside.size c.self.inside.slots.items c.args.self.now c.args.size c.args.k c.self.view_is c.requires in
    let some = some_factor c.args.k (c.args.size / c.self.inside.size) (length c.self.inside.slots.items) below in
    let len : c.len-in_element.result ≡ length c.self.inside.slots.items = omega arith in
    let q = div_below c.args.k (length c.self.inside.slots.items) (c.args.size / c.self.inside.size) some below in
    let inside = block_inside (c.args.k / length c.self.inside.slots.items) (c.args.size / c.self.inside.size) c.self.inside.size c.args.size q refl in
    let at = rw len at c.index.ensures in
    let ends = ends_inside 0 c.self.inside.size c.self.inside.slots.items (c.args.k % length c.self.inside.slots.items) c.index.result.now c.self.invariant (omega arith) in
    rw len (omega (arith, at))

pub returns-clause-slot : goal.returns-clause-slot
returns-clause-slot c =
    let below = number_below c.self.inside.size c.self.inside.slots.items c.args.self.now c.args.size c.args.k c.self.view_is c.requires in
    let len : c.len-in_element.result ≡ length c.self.inside.slots.items = omega arith in
    let at = rw len at c.index.ensures in
    rw (← c.self.view_is, len) (slot_is c.self.inside.size c.self.inside.slots.items (c.args.size / c.self.inside.size) c.args.k c.index.result.now below at)

pub returns-clause-inside : goal.returns-clause-inside
returns-clause-inside c =
    let below = number_below c.self.inside.size c.self.inside.slots.items c.args.self.now c.args.size c.args.k c.self.view_is c.requires in
    let some = some_factor c.args.k (c.args.size / c.self.inside.size) (length c.self.inside.slots.items) below in
    let len : c.len-in_element.result ≡ length c.self.inside.slots.items = omega arith in
    let q = div_below c.args.k (length c.self.inside.slots.items) (c.args.size / c.self.inside.size) some below in
    let inside = block_inside (c.args.k / length c.self.inside.slots.items) (c.args.size / c.self.inside.size) c.self.inside.size c.args.size q refl in
    let at = rw len at c.index.ensures in
    let ends = ends_inside 0 c.self.inside.size c.self.inside.slots.items (c.args.k % length c.self.inside.slots.items) c.index.result.now c.self.invariant (omega arith) in
    rw len (omega (arith, at))
