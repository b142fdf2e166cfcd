use Rattle.std.proofs.Common.{◌≡◌, ◌+◌, ◌∙◌, length, ap, sym, subst, arith}
use Rattle.std.proofs.lemmas.Option.{same_Some}
use Rattle.heap_blocks.specs.Heads.{header_at}
use Rattle.flat_objects.specs.Memory.{Memory, IsMemory}
use Rattle.flat_objects.specs.Keeping.{blocks_of}
use Rattle.flat_objects.proofs.Owners.{own_inside}
use Rattle.flat_objects.proofs.Sought.{kept_slots, owner_object, owner_of_header, queued_none, slots_none, slots_some}
use Rattle.flat_objects.proofs.memory.FlatObjects.holding_at.Goals as goal
use Rattle.flat_objects.proofs.memory.FlatObjects.holding_at.Goals.{then-start-block-via-then-start-block, then-start-block-via-else-start-block+then-start-block-ne-HEADER_SIZE}

pub returns-in_default : goal.returns-in_default
returns-in_default g c = λ places objects birth kept size b there place.
    let memory = c.args.self.now in
    let shape = subst (IsMemory c.self.inside.locals_from c.self.inside.heap_from) c.self.view_is c.self.invariant in
    let owner = owner_of_header c.self.inside.locals_from c.self.inside.heap_from memory shape places objects kept.keeps b there c.args.block place c.owner.result c.owner.ensures.owner in
    let none = c.in_default.is in
    absurd (cc)

pub returns-then-start-block : goal.returns-then-start-block
returns-then-start-block g c = λ places objects birth kept size b there place.
    let memory = c.args.self.now in
    let shape = subst (IsMemory c.self.inside.locals_from c.self.inside.heap_from) c.self.view_is c.self.invariant in
    let owner = owner_of_header c.self.inside.locals_from c.self.inside.heap_from memory shape places objects kept.keeps b there c.args.block place c.owner.result c.owner.ensures.owner in
    let start : c.in-Some.start ≡ places b = same_Some c.in-Some.start (places b) (sym c.in-Some.is ∙ owner) in
    elim c.then-start-block.branch [ then-start-block-via-then-start-block w ↦ absurd (omega arith) | then-start-block-via-else-start-block+then-start-block-ne-HEADER_SIZE w ↦ absurd (w.if-start-block-ne-HEADER_SIZE.true (omega arith)) ]

pub read-header-requires-clause-inside : goal.read-header-requires-clause-inside
read-header-requires-clause-inside g c =
    let places = c.requires.0 in
    let objects = c.requires.1 in
    let kept = c.requires.3 in
    let memory = c.args.self.now in
    let shape = subst (IsMemory c.self.inside.locals_from c.self.inside.heap_from) c.self.view_is c.self.invariant in
    let from = c.owner.ensures.from (blocks_of memory places objects) kept.keeps.held in
    let found = owner_object c.self.inside.locals_from c.self.inside.heap_from memory shape places objects kept.keeps from.0 c.args.block c.in-Some.start (sym from.1 ∙ c.in-Some.is) in
    let begins : c.in-Some.start ≡ c.args.block + 32 = omega arith in
    let inside = own_inside memory places objects kept.keeps found.birth found.there c.self.inside.locals_from c.self.inside.heap_from shape in
    let bytes = ap (λ (m : Memory). length m.bytes) c.self.view_is in
    omega (arith, found.starts)

pub first_slot-requires : goal.first_slot-requires
first_slot-requires g c =
    let places = c.requires.0 in
    let objects = c.requires.1 in
    let kept = c.requires.3 in
    let memory = c.args.self.now in
    let shape = subst (IsMemory c.self.inside.locals_from c.self.inside.heap_from) c.self.view_is c.self.invariant in
    let from = c.owner.ensures.from (blocks_of memory places objects) kept.keeps.held in
    let found = owner_object c.self.inside.locals_from c.self.inside.heap_from memory shape places objects kept.keeps from.0 c.args.block c.in-Some.start (sym from.1 ∙ c.in-Some.is) in
    let begins : c.in-Some.start ≡ c.args.block + 32 = omega arith in
    let header : c.read-header.result ≡ header_at memory.bytes c.args.block = c.read-header.ensures.header ∙ ap (λ (m : Memory). header_at m.bytes c.args.block) c.self.view_is in
    (places, objects, found.birth, c.requires.2, kept_slots c.self.inside.locals_from c.self.inside.heap_from memory shape places objects kept.keeps c.requires.2 c.args.block c.in-Some.start begins found c.read-header.result header c.args.target c.args.size kept c.requires.4)

pub returns-in-Some-first_slot : goal.returns-in-Some-first_slot
returns-in-Some-first_slot g c = λ places objects birth kept size.
    let memory = c.args.self.now in
    let shape = subst (IsMemory c.self.inside.locals_from c.self.inside.heap_from) c.self.view_is c.self.invariant in
    let from = c.owner.ensures.from (blocks_of memory places objects) kept.keeps.held in
    let found = owner_object c.self.inside.locals_from c.self.inside.heap_from memory shape places objects kept.keeps from.0 c.args.block c.in-Some.start (sym from.1 ∙ c.in-Some.is) in
    let begins : c.in-Some.start ≡ c.args.block + 32 = omega arith in
    let header : c.read-header.result ≡ header_at memory.bytes c.args.block = c.read-header.ensures.header ∙ ap (λ (m : Memory). header_at m.bytes c.args.block) c.self.view_is in
    let slots = kept_slots c.self.inside.locals_from c.self.inside.heap_from memory shape places objects kept.keeps birth c.args.block c.in-Some.start begins found c.read-header.result header c.args.target c.args.size kept size in
    slots_some c.self.inside.locals_from c.self.inside.heap_from memory shape places objects kept.keeps birth c.args.block c.in-Some.start begins found c.read-header.result header c.in-Some-first_slot.offset c.storage.result c.if-header-eq-STATE_QUEUED.false
    (c.storage.ensures places objects found.birth (record { keeps = kept.keeps; there = found.there; address = found.starts }))
    (c.in-Some-first_slot.ensures places objects found.birth birth slots)

pub returns-then-header-eq-STATE_QUEUED : goal.returns-then-header-eq-STATE_QUEUED
returns-then-header-eq-STATE_QUEUED g c = λ places objects birth kept size.
    let memory = c.args.self.now in
    let shape = subst (IsMemory c.self.inside.locals_from c.self.inside.heap_from) c.self.view_is c.self.invariant in
    let from = c.owner.ensures.from (blocks_of memory places objects) kept.keeps.held in
    let found = owner_object c.self.inside.locals_from c.self.inside.heap_from memory shape places objects kept.keeps from.0 c.args.block c.in-Some.start (sym from.1 ∙ c.in-Some.is) in
    let begins : c.in-Some.start ≡ c.args.block + 32 = omega arith in
    let header : c.read-header.result ≡ header_at memory.bytes c.args.block = c.read-header.ensures.header ∙ ap (λ (m : Memory). header_at m.bytes c.args.block) c.self.view_is in
    queued_none c.self.inside.locals_from c.self.inside.heap_from memory shape places objects kept.keeps birth c.args.block c.in-Some.start begins found c.read-header.result header c.if-header-eq-STATE_QUEUED.true

pub returns-in-None : goal.returns-in-None
returns-in-None g c = λ places objects birth kept size.
    let memory = c.args.self.now in
    let shape = subst (IsMemory c.self.inside.locals_from c.self.inside.heap_from) c.self.view_is c.self.invariant in
    let from = c.owner.ensures.from (blocks_of memory places objects) kept.keeps.held in
    let found = owner_object c.self.inside.locals_from c.self.inside.heap_from memory shape places objects kept.keeps from.0 c.args.block c.in-Some.start (sym from.1 ∙ c.in-Some.is) in
    let begins : c.in-Some.start ≡ c.args.block + 32 = omega arith in
    let header : c.read-header.result ≡ header_at memory.bytes c.args.block = c.read-header.ensures.header ∙ ap (λ (m : Memory). header_at m.bytes c.args.block) c.self.view_is in
    let slots = kept_slots c.self.inside.locals_from c.self.inside.heap_from memory shape places objects kept.keeps birth c.args.block c.in-Some.start begins found c.read-header.result header c.args.target c.args.size kept size in
    slots_none c.self.inside.locals_from c.self.inside.heap_from memory shape places objects kept.keeps birth c.args.block c.in-Some.start begins found c.read-header.result header (c.in-None.ensures places objects found.birth birth slots)
