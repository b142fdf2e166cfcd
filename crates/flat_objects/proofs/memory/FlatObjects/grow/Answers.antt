use Rattle.std.proofs.Common.{◌+◌, ◌*◌, ◌≤◌, min, subst, arith}
use Rattle.hs_base.specs.declared.values.Pointer.TheVariants as pointer
use Rattle.object_meaning.specs.objects.Memory.{copied}
use Rattle.flat_objects.specs.Memory.{Memory}
use Rattle.flat_objects.specs.Answering.{Changes}
use Rattle.flat_objects.specs.Counting.{StaysTracked}
use Rattle.flat_objects.proofs.RangesDone.{asks_covered, asks_pointers, asks_room, copy_leaves, first_byte, shared_is}
use Rattle.flat_objects.proofs.memory.FlatObjects.grow.Goals as goal

pub ranged-src-requires-clause-kept : goal.ranged-src-requires-clause-kept
ranged-src-requires-clause-kept g c =
    let k = c.requires in
    (k.0, k.1, pointer.At k.4 0, record { keeps = k.5.at.keeps; stands = k.5.stands })

pub grow-requires-clause-whole : goal.grow-requires-clause-whole
grow-requires-clause-whole g c =
    let k = c.requires in (
      first_byte c.args.self.now k.0 k.1 k.3 c.ranged-dst.result (c.ranged-dst.ensures.range k.0 k.1 (pointer.At k.3 0) k.5.at),
      first_byte c.args.self.now k.0 k.1 k.4 c.ranged-src.result (c.ranged-src.ensures.range k.0 k.1 (pointer.At k.4 0) (record { keeps = k.5.at.keeps; stands = k.5.stands })),
    )

pub grow-requires-clause-pointers : goal.grow-requires-clause-pointers
grow-requires-clause-pointers g c =
    let k = c.requires in
    let memory : Memory = record { bytes = c.self.inside.bytes; statics = c.self.inside.statics; locals = c.self.inside.locals; heap = c.self.inside.heap; counts = c.self.inside.counts; scopes = c.self.inside.scopes; forms = c.self.inside.forms; marks = c.self.inside.marks } in
    asks_pointers c.self.inside.locals_from c.self.inside.heap_from memory c.args.self.now c.self.view_is c.self.invariant c.ranged-src.result c.args.from c.ranged-src.ensures.range k.0 k.1 (pointer.At k.4 0) (record { keeps = k.5.at.keeps; stands = k.5.stands })

pub grow-requires-clause-covered : goal.grow-requires-clause-covered
grow-requires-clause-covered g c =
    let k = c.requires in
    let memory : Memory = record { bytes = c.self.inside.bytes; statics = c.self.inside.statics; locals = c.self.inside.locals; heap = c.self.inside.heap; counts = c.self.inside.counts; scopes = c.self.inside.scopes; forms = c.self.inside.forms; marks = c.self.inside.marks } in
    asks_covered c.self.inside.locals_from c.self.inside.heap_from memory c.args.self.now c.self.view_is c.self.invariant c.ranged-dst.result c.args.to c.ranged-dst.ensures.range k.0 k.1 (pointer.At k.3 0) k.5.at k.2 k.5.tracks

pub grow-requires-clause-room : goal.grow-requires-clause-room
grow-requires-clause-room g c =
    let k = c.requires in
    let memory : Memory = record { bytes = c.self.inside.bytes; statics = c.self.inside.statics; locals = c.self.inside.locals; heap = c.self.inside.heap; counts = c.self.inside.counts; scopes = c.self.inside.scopes; forms = c.self.inside.forms; marks = c.self.inside.marks } in
    asks_room c.self.inside.locals_from c.self.inside.heap_from memory c.args.self.now c.self.view_is c.self.invariant c.ranged-dst.result c.args.to c.ranged-dst.ensures.range k.0 k.1 (pointer.At k.3 0) k.5.at k.2 k.5.tracks c.ranged-src.result (min c.ranged-src.result.size c.ranged-dst.result.size)

pub returns-clause-changes : goal.returns-clause-changes
returns-clause-changes g c = λ places objects new old at stands.
    let memory : Memory = record { bytes = c.self.inside.bytes; statics = c.self.inside.statics; locals = c.self.inside.locals; heap = c.self.inside.heap; counts = c.self.inside.counts; scopes = c.self.inside.scopes; forms = c.self.inside.forms; marks = c.self.inside.marks } in
    let next : Memory = record memory { bytes = c.grow.new.bytes; counts = c.grow.new.counts } in
    let dst = c.ranged-dst.result in
    let src = c.ranged-src.result in
    let to = c.ranged-dst.ensures.range places objects (pointer.At new 0) at in
    let from = c.ranged-src.ensures.range places objects (pointer.At old 0) (record { keeps = at.keeps; stands = stands }) in
    let dst_first = first_byte c.args.self.now places objects new dst to in
    let src_first = first_byte c.args.self.now places objects old src from in
    let both = copy_leaves c.self.inside.locals_from c.self.inside.heap_from memory c.args.self.now c.self.view_is c.self.invariant dst src (min src.size dst.size) c.grow.new.bytes c.grow.new.counts c.grow.result c.args.to c.args.from
    c.ranged-dst.ensures.range c.ranged-src.ensures.range (omega arith) (omega arith) (record { answers = c.grow.ensures.answers; made = c.grow.ensures.copied; refused = c.grow.ensures.refused }) places objects (pointer.At new 0) (pointer.At old 0) at stands in
    subst (λ n. Changes places objects c.grow.result c.args.self.now next (copied objects (pointer.At new 0) (pointer.At old 0) n)) (shared_is c.args.self.now places objects new old dst src to from) both.0

pub returns-clause-tracks : goal.returns-clause-tracks
returns-clause-tracks g c = λ places objects new old at stands.
    let memory : Memory = record { bytes = c.self.inside.bytes; statics = c.self.inside.statics; locals = c.self.inside.locals; heap = c.self.inside.heap; counts = c.self.inside.counts; scopes = c.self.inside.scopes; forms = c.self.inside.forms; marks = c.self.inside.marks } in
    let next : Memory = record memory { bytes = c.grow.new.bytes; counts = c.grow.new.counts } in
    let dst = c.ranged-dst.result in
    let src = c.ranged-src.result in
    let to = c.ranged-dst.ensures.range places objects (pointer.At new 0) at in
    let from = c.ranged-src.ensures.range places objects (pointer.At old 0) (record { keeps = at.keeps; stands = stands }) in
    let dst_first = first_byte c.args.self.now places objects new dst to in
    let src_first = first_byte c.args.self.now places objects old src from in
    let both = copy_leaves c.self.inside.locals_from c.self.inside.heap_from memory c.args.self.now c.self.view_is c.self.invariant dst src (min src.size dst.size) c.grow.new.bytes c.grow.new.counts c.grow.result c.args.to c.args.from
    c.ranged-dst.ensures.range c.ranged-src.ensures.range (omega arith) (omega arith) (record { answers = c.grow.ensures.answers; made = c.grow.ensures.copied; refused = c.grow.ensures.refused }) places objects (pointer.At new 0) (pointer.At old 0) at stands in
    subst (λ n. StaysTracked c.args.self.now next places objects (copied objects (pointer.At new 0) (pointer.At old 0) n)) (shared_is c.args.self.now places objects new old dst src to from) both.1

pub returns-clause-work : goal.returns-clause-work
returns-clause-work g c = λ places objects new old at stands.
    let to = c.ranged-dst.ensures.range places objects (pointer.At new 0) at in
    let from = c.ranged-src.ensures.range places objects (pointer.At old 0) (record { keeps = at.keeps; stands = stands }) in
    let shared = shared_is c.args.self.now places objects new old c.ranged-dst.result c.ranged-src.result to from in
    subst (λ n. c.grow.new.steps ≤ c.args.steps.now + 22 + 3 * n) shared (omega (arith, c.grow.ensures.work, c.ranged-dst.ensures.work, c.ranged-src.ensures.work))
