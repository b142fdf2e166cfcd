use Rattle.std.proofs.Common.{◌≡◌, ◌<◌, ◌+◌, ◌∙◌, List, ℕ, length, sym, ap, subst, arith}
use Rattle.std.specs.Vec.{with_items}
use Rattle.std.proofs.lemmas.List.{with_items_is}
use Rattle.adjusters.specs.ObjectSlots.{object_slots}
use Rattle.byte_memory.specs.Filled.{filled_up}
use Rattle.byte_memory.specs.FilledEquations.{length-filled_up}
use Rattle.byte_marks.specs.declared.TheConstants.{NOTHING}
use Rattle.byte_marks.specs.Ends.{ChangesEnds}
use Rattle.byte_marks.specs.Marks.{ChangesOnly, HasMarks, MarksModel}
use Rattle.byte_marks.proofs.Padded.{changes_there, has_marks_there}
use Rattle.byte_marks.proofs.Marks.mark.Goals as goal

pub reach-requires-clause-room : goal.reach-requires-clause-room
reach-requires-clause-room c =
    omega (arith, c.self.invariant.0, length-filled_up c.self.inside.list.items c.self.inside.size NOTHING c.self.invariant.0, ap (λ (m : MarksModel). length m.bytes) c.self.view_is)

pub returns-clause-marked : goal.returns-clause-marked
returns-clause-marked c =
    let there = c.reach.new.list in
    let list : (with_items there c.mark_object.new.marks).items ≡ c.mark_object.new.marks =
    with_items_is there c.mark_object.new.marks (c.mark_object.ensures.outside.long ∙ c.as_mut_slice.ensures.len) in
    let inside : c.args.start + c.args.size < length c.mark_object.new.marks = omega (arith, c.reach.ensures.there, c.mark_object.ensures.outside.long, ap length c.as_mut_slice.ensures.value) in
    record {
      bytes = subst (λ (l : List ℕ). HasMarks (filled_up l c.self.inside.size NOTHING) c.args.start c.args.size (object_slots c.args.form.now c.args.size)) (sym list)
          (has_marks_there c.mark_object.new.marks c.self.inside.size c.args.start c.args.size (object_slots c.args.form.now c.args.size) inside c.mark_object.ensures.marked);
      end = c.put.ensures.end;
    }

pub returns-clause-outside : goal.returns-clause-outside
returns-clause-outside c =
    let there = c.reach.new.list in
    let size = c.self.inside.size in
    let list : (with_items there c.mark_object.new.marks).items ≡ c.mark_object.new.marks =
    with_items_is there c.mark_object.new.marks (c.mark_object.ensures.outside.long ∙ c.as_mut_slice.ensures.len) in
    let changes = subst (λ (l : List ℕ). ChangesOnly l c.mark_object.new.marks c.args.start (c.args.size + 1)) c.as_mut_slice.ensures.value c.mark_object.ensures.outside in
    let before : filled_up there.items size NOTHING ≡ c.args.self.now.bytes = c.reach.ensures.same ∙ ap (λ (m : MarksModel). m.bytes) c.self.view_is in
    record {
      bytes = subst (λ (l : List ℕ). ChangesOnly c.args.self.now.bytes (filled_up l size NOTHING) c.args.start (c.args.size + 1)) (sym list)
          (subst (λ (l : List ℕ). ChangesOnly l (filled_up c.mark_object.new.marks size NOTHING) c.args.start (c.args.size + 1)) before (changes_there there.items c.mark_object.new.marks size c.args.start (c.args.size + 1) c.reach.ensures.few changes));
      ends = subst (λ (l : List ℕ). ChangesEnds l c.put.new.self c.args.start c.args.size) (ap (λ (m : MarksModel). m.ends) c.self.view_is) c.put.ensures.outside;
    }
