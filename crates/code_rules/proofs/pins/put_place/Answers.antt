use Rattle.std.proofs.Common.{None, get_or, sym, arith}
use Rattle.code_rules.proofs.Places.{none_of, place_put, places_stay, some_of}
use Rattle.code_rules.proofs.pins.put_place.Goals.{else-point-places-via-then-point-places+else-is_none, else-point-places-via-else-point-places}
use Rattle.code_rules.proofs.pins.put_place.Goals as goal

pub returns-then-is_none : goal.returns-then-is_none
returns-then-is_none c =
    let site = c.in-Some.site.now in
    let places = c.args.places.now in
    place_put c.args.code.now c.args.place site (sym c.in-Some.ensures.item) places c.requires.places c.requires.place c.if-point-places.true
    (none_of (get_or places site.instr None) c.is_none.result c.is_none.ensures c.if-is_none.true)

pub returns-else-point-places : goal.returns-else-point-places
returns-else-point-places c =
    let site = c.in-Some.site.now in
    let places = c.args.places.now in
    places_stay c.args.code.now c.args.place site (sym c.in-Some.ensures.item) places c.requires.places
    (elim c.else-point-places.branch [
      | else-point-places-via-then-point-places+else-is_none w ↦ λ inside. some_of (get_or places site.instr None) w.is_none.result w.is_none.ensures w.if-is_none.false
      | else-point-places-via-else-point-places w ↦ λ inside. absurd (omega (arith, inside, w.if-point-places.false))
    ])
