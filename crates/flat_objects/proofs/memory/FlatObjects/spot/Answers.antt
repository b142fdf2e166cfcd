use Rattle.std.proofs.Common.{◌≡◌, ◌-◌, ◌∙◌, ℕ, List, length, sym, ap, arith, subst}
use Rattle.std.proofs.lemmas.Option.{same_Some}
use Rattle.heap_blocks.specs.Heads.{header_at}
use Rattle.flat_objects.specs.Memory.{Memory, IsMemory}
use Rattle.flat_objects.proofs.Owners.{kept, owned, own_inside, spot_at}
use Rattle.flat_objects.proofs.memory.FlatObjects.spot.Goals as goal

pub unreachable-requires : goal.unreachable-requires
unreachable-requires g c =
    let k = kept c.args.self.now c.args.addr c.requires.kept c.requires.some in
    let owner = owned c.args.self.now k.places k.objects k.birth k.offset c.args.addr c.owner.result k.keeps k.at c.owner.ensures.owner in
    let none = c.in_default.is in
    cc

pub overflow_sub-block : goal.overflow_sub-block
overflow_sub-block g c =
    let k = kept c.args.self.now c.args.addr c.requires.kept c.requires.some in
    let start : c.in-Some.start ≡ k.places k.birth =
    same_Some c.in-Some.start (k.places k.birth) (sym c.in-Some.is ∙ owned c.args.self.now k.places k.objects k.birth k.offset c.args.addr c.owner.result k.keeps k.at c.owner.ensures.owner) in
    let stands = k.keeps.standing k.birth k.at.there in
    omega (arith, stands.room)

pub read_size-requires-clause-inside : goal.read_size-requires-clause-inside
read_size-requires-clause-inside g c =
    let k = kept c.args.self.now c.args.addr c.requires.kept c.requires.some in
    let start : c.in-Some.start ≡ k.places k.birth =
    same_Some c.in-Some.start (k.places k.birth) (sym c.in-Some.is ∙ owned c.args.self.now k.places k.objects k.birth k.offset c.args.addr c.owner.result k.keeps k.at c.owner.ensures.owner) in
    let stands = k.keeps.standing k.birth k.at.there in
    let shape = subst (IsMemory c.self.inside.locals_from c.self.inside.heap_from) c.self.view_is c.self.invariant in
    let inside = own_inside c.args.self.now k.places k.objects k.keeps k.birth k.at.there c.self.inside.locals_from c.self.inside.heap_from shape in
    let bytes : length c.self.inside.bytes ≡ length c.args.self.now.bytes = ap (λ (m : Memory). length m.bytes) c.self.view_is in
    omega (arith, stands.room)

pub overflow_sub-result : goal.overflow_sub-result
overflow_sub-result g c =
    let k = kept c.args.self.now c.args.addr c.requires.kept c.requires.some in
    let start : c.in-Some.start ≡ k.places k.birth =
    same_Some c.in-Some.start (k.places k.birth) (sym c.in-Some.is ∙ owned c.args.self.now k.places k.objects k.birth k.offset c.args.addr c.owner.result k.keeps k.at c.owner.ensures.owner) in
    omega (arith, k.at.address)

pub returns-clause-spot : goal.returns-clause-spot
returns-clause-spot g c = λ places objects birth offset at.
    let start : c.in-Some.start ≡ places birth =
    same_Some c.in-Some.start (places birth) (sym c.in-Some.is ∙ owned c.args.self.now places objects birth offset c.args.addr c.owner.result at.keeps at.stands c.owner.ensures.owner) in
    let bytes : c.self.inside.bytes ≡ c.args.self.now.bytes = ap (λ (m : Memory). m.bytes) c.self.view_is in
    spot_at c.args.self.now places objects birth offset c.args.addr c.in-Some.start c.read_size.result at start (c.read_size.ensures.size ∙ ap (λ (b : List ℕ). (header_at b (c.in-Some.start - 32)).size) bytes)

pub returns-clause-inside : goal.returns-clause-inside
returns-clause-inside g c =
    let k = kept c.args.self.now c.args.addr c.requires.kept c.requires.some in
    let spot = returns-clause-spot g c k.places k.objects k.birth k.offset (record { keeps = k.keeps; stands = k.at }) in
    omega (arith, spot.distance, spot.size, k.at.inside)

pub returns-clause-header : goal.returns-clause-header
returns-clause-header g c =
    let k = kept c.args.self.now c.args.addr c.requires.kept c.requires.some in
    let start : c.in-Some.start ≡ k.places k.birth =
    same_Some c.in-Some.start (k.places k.birth) (sym c.in-Some.is ∙ owned c.args.self.now k.places k.objects k.birth k.offset c.args.addr c.owner.result k.keeps k.at c.owner.ensures.owner) in
    let stands = k.keeps.standing k.birth k.at.there in
    omega (arith, stands.room)

pub returns-clause-reach : goal.returns-clause-reach
returns-clause-reach g c =
    let k = kept c.args.self.now c.args.addr c.requires.kept c.requires.some in
    let spot = returns-clause-spot g c k.places k.objects k.birth k.offset (record { keeps = k.keeps; stands = k.at }) in
    let shape = subst (IsMemory c.self.inside.locals_from c.self.inside.heap_from) c.self.view_is c.self.invariant in
    let inside = own_inside c.args.self.now k.places k.objects k.keeps k.birth k.at.there c.self.inside.locals_from c.self.inside.heap_from shape in
    omega (arith, spot.start, spot.size)

pub returns-clause-small : goal.returns-clause-small
returns-clause-small g c =
    let k = kept c.args.self.now c.args.addr c.requires.kept c.requires.some in
    let spot = returns-clause-spot g c k.places k.objects k.birth k.offset (record { keeps = k.keeps; stands = k.at }) in
    let shape = subst (IsMemory c.self.inside.locals_from c.self.inside.heap_from) c.self.view_is c.self.invariant in
    let inside = own_inside c.args.self.now k.places k.objects k.keeps k.birth k.at.there c.self.inside.locals_from c.self.inside.heap_from shape in
    omega (arith, spot.start, spot.size, shape.reach)
