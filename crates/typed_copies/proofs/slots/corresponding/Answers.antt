use Rattle.std.proofs.Common.{◌≡◌, ℕ, Bool, true, false, List}
use Rattle.std.specs.Prelude.{◌&&◌, not}
use Rattle.std.proofs.lemmas.Bool.{both_ways}
use Rattle.hs_base.specs.Access.{cuts_slot, distances, same_numbers}
use Rattle.adjusters.specs.ObjectSlots.{object_slots}
use Rattle.typed_copies.specs.Slots.{slots_agree}
use Rattle.typed_copies.proofs.Selecting.{distances_agree, distances_differ}
use Rattle.typed_copies.proofs.slots.corresponding.Goals as goal

-- where no slot is cut the distances decide
decided : (d : List ℕ) (to : ℕ) (s : List ℕ) (from n : ℕ) (b : Bool) → cuts_slot d to n ≡ false → cuts_slot s from n ≡ false → same_numbers (distances d to n) (distances s from n) ≡ b → slots_agree d to s from n ≡ b
decided d to s from n b whole_d whole_s same = λ i. not (whole_d i) && not (whole_s i) && same i

pub returns-then-not-at_same_distances-clause-none : goal.returns-then-not-at_same_distances-clause-none
returns-then-not-at_same_distances-clause-none c =
    let d = object_slots c.args.d_form.now c.args.dst.size in
    let s = object_slots c.args.s_form.now c.args.src.size in
    decided d c.args.dst.offset s c.args.src.offset c.args.n false c.in_ok-into.ensures.uncut c.in_ok-out.ensures.uncut
    (distances_differ d c.args.dst.offset s c.args.src.offset c.args.n c.in_ok-into.into c.in_ok-out.out c.in_ok-into.ensures.some c.in_ok-out.ensures.some
    (λ at. both_ways c.at_same_distances.result c.if-not-at_same_distances.true (c.at_same_distances.ensures.1 at)))

pub returns-clause-agree : goal.returns-clause-agree
returns-clause-agree c =
    let d = object_slots c.args.d_form.now c.args.dst.size in
    let s = object_slots c.args.s_form.now c.args.src.size in
    decided d c.args.dst.offset s c.args.src.offset c.args.n true c.in_ok-into.ensures.uncut c.in_ok-out.ensures.uncut
    (distances_agree d c.args.dst.offset s c.args.src.offset c.args.n c.in_ok-into.into c.in_ok-out.out c.in_ok-into.ensures.some c.in_ok-out.ensures.some
    (c.at_same_distances.ensures.0 c.if-not-at_same_distances.false))
