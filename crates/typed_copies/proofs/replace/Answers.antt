use Rattle.std.proofs.Common.{◌+◌, ℕ, List, [], subst, sym, arith}
use Rattle.hs_base.specs.Access.{overlaid}
use Rattle.byte_memory.specs.Bytes.{part}
use Rattle.adjusters.specs.ObjectSlots.{object_slots}
use Rattle.typed_copies.specs.Pointers.{HaveRoom, words_in}
use Rattle.typed_copies.proofs.Ascending.{object_has_slots}
use Rattle.typed_copies.proofs.Selecting.{few_within}
use Rattle.typed_copies.proofs.Overlaid.{moved_long}
use Rattle.typed_copies.proofs.Replaced.{room_left}
use Rattle.typed_copies.proofs.replace.Goals as goal

pub put_on-requires-clause-reach : goal.put_on-requires-clause-reach
put_on-requires-clause-reach g c =
    let long = moved_long c.args.bytes.now c.move_bytes.new.bytes (c.args.dst.start + c.args.dst.offset) c.args.from c.args.n (omega (arith, c.requires.object, c.requires.range)) c.requires.from c.move_bytes.ensures.moved in
    omega (arith, c.requires.reach)

pub put_on-requires-clause-room : goal.put_on-requires-clause-room
put_on-requires-clause-room g c =
    let slots = object_slots c.args.form.now c.args.dst.size in
    let words = λ (bytes : List ℕ). words_in bytes c.args.dst.start slots c.args.into in
    subst (λ (bytes : List ℕ). HaveRoom c.take_off.new.counts [] (words bytes)) (sym c.move_bytes.ensures.moved)
    (room_left c.args.counts.now c.take_off.new.counts (words c.args.bytes.now) (words (overlaid c.args.bytes.now (c.args.dst.start + c.args.dst.offset) (part c.args.bytes.now c.args.from c.args.n))) c.take_off.ensures.follow c.requires.room)

pub returns-clause-work : goal.returns-clause-work
returns-clause-work g c =
    let few = few_within c.args.dst.size (object_slots c.args.form.now c.args.dst.size) c.args.dst.offset c.args.n c.args.into c.requires.into (object_has_slots c.args.form.now c.args.dst.size c.requires.form) in
    omega (arith, c.take_off.ensures.work, c.move_bytes.ensures.steps, c.put_on.ensures.work)
