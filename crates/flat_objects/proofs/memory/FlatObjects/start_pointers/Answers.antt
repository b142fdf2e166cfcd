use Rattle.std.proofs.Common.{◌≡◌, ◌<◌, ℕ, List, length, get_or, take, ap, ◌∙◌, subst, arith}
use Rattle.std.proofs.lemmas.List.{get_or_default}
use Rattle.std.proofs.Math.Seq.{take-length}
use Rattle.hs_base.specs.Access.{with_object}
use Rattle.hs_base.specs.Object.{object_at}
use Rattle.flat_objects.specs.Memory.{IsMemory}
use Rattle.flat_objects.specs.Answering.{IsChanged}
use Rattle.flat_objects.specs.Counting.{Tracks}
use Rattle.flat_objects.specs.Starting.{with_first_pointers}
use Rattle.flat_objects.proofs.Frames.{frame_same, frame_again}
use Rattle.flat_objects.proofs.Pointed.{after_first, pointers_none, pointers_none_tracked, slot_for, pointers_next, pointers_next_tracked}
use Rattle.flat_objects.proofs.Reached.{are_slots}
use Rattle.flat_objects.proofs.memory.FlatObjects.start_pointers.Goals as goal

pub loop-pointer-init : goal.loop-pointer-init
loop-pointer-init g c = record {
  frame = frame_same c.args.self.now;
  changes = λ places objects birth takes. pointers_none places objects birth c.args.addr c.args.pointers.now c.args.starts.now c.args.self.now takes;
  tracks = λ places objects birth frees takes tracks. pointers_none_tracked places objects birth c.args.addr c.args.pointers.now c.args.starts.now c.args.self.now takes frees tracks;
}

pub set_slot-requires : goal.set_slot-requires
set_slot-requires g c =
    let k = c.requires in
    let pointers = c.args.pointers.now in
    let j = c.loop-pointer.pointer-index in
    let p : ℕ × ℕ × ℕ = get_or pointers j (0, 0, 0) in
    let less : j < length pointers = c.loop-pointer-test.true in
    let p_is : p ≡ get_or pointers j p = get_or_default pointers j (0, 0, 0) p less in (
      k.0,
      after_first k.0 k.1 k.2 c.args.addr pointers c.args.starts.now j,
      k.2,
      p.1,
      k.3,
      slot_for k.0 k.1 k.2 c.args.addr pointers c.args.starts.now c.args.self.now c.loop-pointer.self c.loop-pointer.self k.4 j p less p_is (c.loop-pointer.invariant.changes k.0 k.1 k.2 k.4),
      c.loop-pointer.invariant.tracks k.0 k.1 k.2 k.3 k.4 k.5,
    )

pub loop-pointer-preserved : goal.loop-pointer-preserved
loop-pointer-preserved g c =
    let pointers = c.args.pointers.now in
    let j = c.loop-pointer.pointer-index in
    let p : ℕ × ℕ × ℕ = get_or pointers j (0, 0, 0) in
    let less : j < length pointers = c.loop-pointer-test.true in
    let p_is : p ≡ get_or pointers j p = get_or_default pointers j (0, 0, 0) p less in
    let shape = subst (IsMemory c.self.inside.locals_from c.self.inside.heap_from) c.self.view_is c.self.invariant in
    record {
      frame = frame_again c.args.self.now c.loop-pointer.self c.set_slot.new.self c.loop-pointer.invariant.frame c.set_slot.ensures.frame;
      changes = λ places objects birth takes.
          let so_far = c.loop-pointer.invariant.changes places objects birth takes in
          let has = slot_for places objects birth c.args.addr pointers c.args.starts.now c.args.self.now c.loop-pointer.self c.set_slot.new.self takes j p less p_is so_far in
          let change = c.set_slot.ensures.changes places (after_first places objects birth c.args.addr pointers c.args.starts.now j) birth p.1 has in
          let o = object_at objects birth in
          let ascend = are_slots c.self.inside.locals_from c.self.inside.heap_from c.args.self.now _ o shape (takes.keeps.standing birth takes.there).slots in
          pointers_next places objects birth c.args.addr pointers c.args.starts.now c.args.self.now c.loop-pointer.self c.set_slot.new.self takes j p less p_is so_far o.size ascend change;
      tracks = λ places objects birth frees takes tracks.
          let so_far = c.loop-pointer.invariant.changes places objects birth takes in
          let has = slot_for places objects birth c.args.addr pointers c.args.starts.now c.args.self.now c.loop-pointer.self c.set_slot.new.self takes j p less p_is so_far in
          let told = c.set_slot.ensures.tracks places (after_first places objects birth c.args.addr pointers c.args.starts.now j) birth p.1 frees has (c.loop-pointer.invariant.tracks places objects birth frees takes tracks) in
          let o = object_at objects birth in
          let ascend = are_slots c.self.inside.locals_from c.self.inside.heap_from c.args.self.now _ o shape (takes.keeps.standing birth takes.there).slots in
          pointers_next_tracked places objects birth c.args.addr pointers c.args.starts.now c.args.self.now c.loop-pointer.self c.set_slot.new.self takes j p less p_is so_far o.size ascend frees told;
    }

pub returns-clause-changes : goal.returns-clause-changes
returns-clause-changes g c = λ places objects birth takes.
    let pointers = c.args.pointers.now in
    let end : c.loop-pointer.pointer-index ≡ length pointers = omega arith in
    let all : take c.loop-pointer.pointer-index pointers ≡ pointers = ap (λ n. take n pointers) end ∙ take-length pointers in
    subst (λ (ps : List (ℕ × ℕ × ℕ)). IsChanged c.loop-pointer.self places objects (with_object objects birth (with_first_pointers (object_at objects birth) ps))) all
    (c.loop-pointer.invariant.changes places objects birth takes)

pub returns-clause-tracks : goal.returns-clause-tracks
returns-clause-tracks g c = λ places objects birth frees takes tracks.
    let pointers = c.args.pointers.now in
    let end : c.loop-pointer.pointer-index ≡ length pointers = omega arith in
    let all : take c.loop-pointer.pointer-index pointers ≡ pointers = ap (λ n. take n pointers) end ∙ take-length pointers in
    subst (λ (ps : List (ℕ × ℕ × ℕ)). Tracks c.loop-pointer.self places (with_object objects birth (with_first_pointers (object_at objects birth) ps)) frees) all
    (c.loop-pointer.invariant.tracks places objects birth frees takes tracks)
