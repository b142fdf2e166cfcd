use Rattle.std.proofs.Common.{◌*ℤ◌, neg_ℤ, rules}
use Rattle.std.proofs.lemmas.Int.{to_z-of_z}
use mir.Syntax.{w128}
use mir.Val.{SFits}
use Rattle.flat_objects.proofs.Distances.{minus_is, too_large}
use Rattle.flat_objects.proofs.memory.FlatObjects.moved_down_far.Goals as goal

pub returns-in-Some-checked_sub : goal.returns-in-Some-checked_sub
returns-in-Some-checked_sub g c =
    let fits_count : SFits w128 c.args.count = search rules in
    let fits_size : SFits w128 c.args.size = search rules in
    let up = c.in-Some.up in
    let distance = c.in-Some-checked_sub.distance in
    let i = rw (to_z-of_z w128 c.args.count fits_count, to_z-of_z w128 c.args.size fits_size) at c.in-Some.ensures in
    let fits_up : SFits w128 up = rw i.1 i.0 in
    let h = rw (to_z-of_z w128 up fits_up) at c.in-Some-checked_sub.ensures in
    let fits : SFits w128 distance = rw h.1 h.0 in
    let told = rw (to_z-of_z w128 distance fits) at c.moved.ensures in
    rw (← minus_is distance up (c.args.count *ℤ c.args.size) h.1 i.1) told

pub returns-in_default : goal.returns-in_default
returns-in_default g c = λ places objects p at.
    let fits_count : SFits w128 c.args.count = search rules in
    let fits_size : SFits w128 c.args.size = search rules in
    let large = rw (to_z-of_z w128 c.args.count fits_count, to_z-of_z w128 c.args.size fits_size) at c.in_default.ensures in
    let up = c.args.count *ℤ c.args.size in
    c.moved_far.ensures (neg_ℤ up) (too_large up large).1 places objects p at
