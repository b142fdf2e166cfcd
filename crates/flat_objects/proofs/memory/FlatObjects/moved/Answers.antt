use Rattle.std.proofs.Common.{◌≡◌, ◌∙◌, ◌+ℤ◌, pos, ap, rules, arith}
use Rattle.std.proofs.lemmas.Int.{to_z-of_z}
use mir.Syntax.{w128}
use mir.Val.{SFits}
use Rattle.flat_objects.proofs.Distances.{moved_answer, moved_too_far}
use Rattle.flat_objects.proofs.memory.FlatObjects.moved.Goals as goal

pub returns-in-Some : goal.returns-in-Some
returns-in-Some g c = λ places objects p at.
    let fits_from : SFits w128 c.from.result = search rules in
    let fits_distance : SFits w128 c.args.distance = search rules in
    let place = c.in-Some.place in
    let h = rw (to_z-of_z w128 c.from.result fits_from, to_z-of_z w128 c.args.distance fits_distance) at c.in-Some.ensures in
    let fits_place : SFits w128 place = rw h.1 h.0 in
    let to = rw (to_z-of_z w128 place fits_place) at c.address_within.ensures in
    let place_is : place ≡ pos c.spot-found.result.offset +ℤ c.args.distance = h.1 ∙ ap (λ n. n +ℤ c.args.distance) c.from.ensures in
    moved_answer c.args.self.now places objects c.args.addr c.args.distance c.spot-found.result c.if-addr-eq0.false c.spot-found.ensures.spot p place c.address_within.result at place_is to

pub returns-in-None : goal.returns-in-None
returns-in-None g c = λ places objects p at.
    let fits_from : SFits w128 c.from.result = search rules in
    let fits_distance : SFits w128 c.args.distance = search rules in
    let unfit = rw (to_z-of_z w128 c.from.result fits_from, to_z-of_z w128 c.args.distance fits_distance) at c.in-None.ensures in
    let unfit_place = rw c.from.ensures at unfit in
    moved_too_far c.args.self.now places objects c.args.addr c.args.distance c.spot-found.result c.if-addr-eq0.false c.spot-found.ensures.spot p at (omega (arith, c.spot-found.ensures.small)) unfit_place
