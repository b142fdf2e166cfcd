use Rattle.std.proofs.Common.{◌≡◌, ◌+◌, ◌∙◌, true, sym, subst, arith}
use Rattle.adjusters.specs.ObjectSlots.{Element, object_slots}
use Rattle.typed_copies.specs.Slots.{slots_agree}
use Rattle.typed_copies.specs.Pointers.{ArePointers, Cover, HaveRoom, words_at, words_in}
use Rattle.typed_copies.specs.Copying.{IsCopied, bytes_after, slots_of}
use Rattle.typed_copies.specs.CopyingEquations.{after_copy, copy_allowed, copy_of_none}
use Rattle.typed_copies.proofs.Outcomes.{copied_is, copied_none, pointers_come, room_comes}
use Rattle.typed_copies.proofs.Overlaid.{moved_long}
use Rattle.typed_copies.proofs.Replaced.{cover_part}
use Rattle.typed_copies.proofs.Worded.{slot_inside}
use Rattle.typed_copies.proofs.transfer.Goals as goal

pub returns-then-n-eq0-clause-answers : goal.returns-then-n-eq0-clause-answers
returns-then-n-eq0-clause-answers g c = λ objects p q to from. (objects, copy_of_none objects p q c.args.n c.if-n-eq0.true)

pub returns-then-n-eq0-clause-copied : goal.returns-then-n-eq0-clause-copied
returns-then-n-eq0-clause-copied g c =
    copied_none (slots_of c.args.forms.now c.args.dst) (slots_of c.args.forms.now c.args.src) c.args.dst c.args.src c.args.n c.args.bytes.now c.args.counts.now c.if-n-eq0.true

pub replace-requires-clause-pointers : goal.replace-requires-clause-pointers
replace-requires-clause-pointers g c =
    let dst = c.args.dst in
    let src = c.args.src in
    let d = object_slots c.adjuster_of-d_form.result.now dst.size in
    let s = object_slots c.adjuster_of-s_form.result.now src.size in
    pointers_come d s dst src c.args.n c.args.bytes.now c.in-Some.into c.in-Some.ensures.some (λ k less. slot_inside c.adjuster_of-d_form.result.now dst.size k c.adjuster_of-d_form.ensures.formed less) c.requires.destination.end c.requires.into (omega (arith, c.requires.source.end, c.requires.from)) c.args.counts.now
    (subst (λ (form : Element). ArePointers c.args.bytes.now c.args.counts.now (words_at c.args.bytes.now src.start (object_slots form src.size))) (sym c.adjuster_of-s_form.ensures.element) c.requires.pointers)

pub replace-requires-clause-covered : goal.replace-requires-clause-covered
replace-requires-clause-covered g c =
    let dst = c.args.dst in
    let into = c.in-Some.into in
    subst (λ (form : Element). Cover c.args.counts.now (words_in c.args.bytes.now dst.start (object_slots form dst.size) into)) (sym c.adjuster_of-d_form.ensures.element)
    (cover_part c.args.counts.now (words_at c.args.bytes.now dst.start (slots_of c.args.forms.now dst)) into.first into.count c.requires.covered)

pub replace-requires-clause-room : goal.replace-requires-clause-room
replace-requires-clause-room g c =
    let dst = c.args.dst in
    let src = c.args.src in
    let forms = c.args.forms.now in
    let bytes = c.args.bytes.now in
    let d = object_slots c.adjuster_of-d_form.result.now dst.size in
    let s = object_slots c.adjuster_of-s_form.result.now src.size in
    let d_is = c.adjuster_of-d_form.ensures.element in
    let s_is = c.adjuster_of-s_form.ensures.element in
    let agree : slots_agree (slots_of forms dst) dst.offset (slots_of forms src) src.offset c.args.n ≡ true =
    sym (λ i. slots_agree (object_slots (d_is i) dst.size) dst.offset (object_slots (s_is i) src.size) src.offset c.args.n) ∙ c.in-Some.ensures.agree in
    room_comes d s dst src c.args.n bytes c.in-Some.into c.in-Some.ensures.some (λ k less. slot_inside c.adjuster_of-d_form.result.now dst.size k c.adjuster_of-d_form.ensures.formed less) c.requires.destination.end c.requires.into (omega (arith, c.requires.source.end, c.requires.from)) c.args.counts.now
    (subst (λ (form : Element). HaveRoom c.args.counts.now (words_at bytes dst.start (object_slots form dst.size)) (words_at (bytes_after bytes dst src c.args.n) dst.start (object_slots form dst.size))) (sym d_is) (c.requires.room agree))

pub returns-clause-answers : goal.returns-clause-answers
returns-clause-answers g c = λ objects p q to from.
    let dst = c.args.dst in
    let src = c.args.src in
    let forms = c.args.forms.now in
    let d_is = c.adjuster_of-d_form.ensures.element in
    let s_is = c.adjuster_of-s_form.ensures.element in
    let agree : slots_agree (slots_of forms dst) dst.offset (slots_of forms src) src.offset c.args.n ≡ true =
    sym (λ i. slots_agree (object_slots (d_is i) dst.size) dst.offset (object_slots (s_is i) src.size) src.offset c.args.n) ∙ c.in-Some.ensures.agree in
    (after_copy forms objects p q dst src c.args.n to from, copy_allowed forms objects p q dst src c.args.n to from c.requires.into c.requires.from (omega arith) agree)

pub returns-clause-copied : goal.returns-clause-copied
returns-clause-copied g c =
    let dst = c.args.dst in
    let src = c.args.src in
    let old = c.args.bytes.now in
    let new = c.replace.new.bytes in
    let before = c.args.counts.now in
    let after = c.replace.new.counts in
    let d = object_slots c.adjuster_of-d_form.result.now dst.size in
    let s = object_slots c.adjuster_of-s_form.result.now src.size in
    subst (λ (form : Element). IsCopied (object_slots form dst.size) (slots_of c.args.forms.now src) dst src c.args.n old new before after) c.adjuster_of-d_form.ensures.element
    (subst (λ (form : Element). IsCopied d (object_slots form src.size) dst src c.args.n old new before after) c.adjuster_of-s_form.ensures.element
    (copied_is d s dst src c.args.n old c.in-Some.into c.in-Some.ensures.some (λ k less. slot_inside c.adjuster_of-d_form.result.now dst.size k c.adjuster_of-d_form.ensures.formed less) c.requires.destination.end c.requires.into (omega (arith, c.requires.source.end, c.requires.from)) new before after c.replace.ensures.moved c.replace.ensures.follow))

pub returns-clause-frame : goal.returns-clause-frame
returns-clause-frame g c =
    let to = c.args.dst.start + c.args.dst.offset in
    let from = c.args.src.start + c.args.src.offset in
    record {
      bytes = moved_long c.args.bytes.now c.replace.new.bytes to from c.args.n (omega (arith, c.requires.destination.end, c.requires.into)) (omega (arith, c.requires.source.end, c.requires.from)) c.replace.ensures.moved;
      counts = c.replace.ensures.follow.long;
      most = c.replace.ensures.follow.most;
    }
