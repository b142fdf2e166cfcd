use Rattle.std.proofs.Common.{◌*ℤ◌, neg_ℤ, to_z, of_z, rules}
use Rattle.std.proofs.lemmas.Int.{to_z-of_z}
use mir.Syntax.{w128}
use mir.Val.{SFits}
use Rattle.meaning_state.proofs.Far.{too_large, minus_is}
use Rattle.meaning_state.proofs.objects.Objects.moved_down.Goals as goal

pub returns-in_default : goal.returns-in_default
returns-in_default c =
    let fits_count : SFits w128 c.args.count = search rules in
    let fits_size : SFits w128 c.args.size = search rules in
    let count = to_z w128 (of_z w128 c.args.count) in
    let size = to_z w128 (of_z w128 c.args.size) in
    let told = c.moved_far.ensures (neg_ℤ (count *ℤ size)) (too_large (count *ℤ size) (λ f. c.in_default.ensures {u = tt} f)).1 in
    rw (to_z-of_z w128 c.args.count fits_count, to_z-of_z w128 c.args.size fits_size) at told

pub returns-in-Some-checked_sub : goal.returns-in-Some-checked_sub
returns-in-Some-checked_sub c =
    let fits_count : SFits w128 c.args.count = search rules in
    let fits_size : SFits w128 c.args.size = search rules in
    let up = c.in-Some.up in
    let distance = c.in-Some-checked_sub.distance in
    let i = rw (to_z-of_z w128 c.args.count fits_count, to_z-of_z w128 c.args.size fits_size) at c.in-Some.ensures in
    let fits_up : SFits w128 up = rw i.1 i.0 in
    let h = rw (to_z-of_z w128 up fits_up) at c.in-Some-checked_sub.ensures in
    let fits : SFits w128 distance = rw h.1 h.0 in
    let told = rw (to_z-of_z w128 distance fits) at c.moved.ensures in
    rw (← minus_is distance up (c.args.count *ℤ c.args.size) h.1 i.1) told
