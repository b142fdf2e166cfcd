use Rattle.std.proofs.Common.{rules, ◌≡◌, ◌<◌, Some, None, length, refl}
use Rattle.c_types.specs.Bodies.{place_in}
use Rattle.c_types.proofs.Places.{known_none, place_below, body_at}
use Rattle.c_types.proofs.tags.Tags.body.Goals as goal

pub index-requires : goal.index-requires
index-requires c =
    let placed : place_in c.args.tag c.self.inside.bodies.items ≡ Some c.in-Some.place =
    cc (c.self.invariant.places c.args.tag, c.in-Some.ensures, c.deref.ensures.value) in
    let below : c.in-Some.place < length c.self.inside.bodies.items = place_below _ _ _ placed in
    search rules

pub returns-in-Some-clause-some : goal.returns-in-Some-clause-some
returns-in-Some-clause-some c =
    let placed : place_in c.args.tag c.self.inside.bodies.items ≡ Some c.in-Some.place =
    cc (c.self.invariant.places c.args.tag, c.in-Some.ensures, c.deref.ensures.value) in
    rw (← c.self.view_is) (body_at _ _ _ _ placed c.self.invariant.laid c.index.ensures)

pub returns-in-None-clause-none : goal.returns-in-None-clause-none
returns-in-None-clause-none c =
    let placed : place_in c.args.tag c.self.inside.bodies.items ≡ None =
    cc (c.self.invariant.places c.args.tag, c.in-None.ensures, c.deref.ensures.value) in
    rw (← c.self.view_is) (known_none (λ tag. None) c.self.inside.bodies.items c.args.tag refl placed)
