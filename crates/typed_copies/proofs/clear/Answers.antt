use Rattle.std.proofs.Common.{◌≡◌, ◌∙◌, true, sym, subst, arith}
use Rattle.adjusters.specs.ObjectSlots.{Element, object_slots}
use Rattle.typed_copies.specs.Slots.{slots_allow}
use Rattle.typed_copies.specs.Pointers.{Cover, words_at, words_in}
use Rattle.typed_copies.specs.Copying.{IsCleared, slots_of}
use Rattle.typed_copies.specs.CopyingEquations.{after_set, set_allowed, set_of_none}
use Rattle.typed_copies.proofs.Ascending.{object_has_slots}
use Rattle.typed_copies.proofs.Outcomes.{cleared_is, cleared_none}
use Rattle.typed_copies.proofs.Replaced.{cover_part}
use Rattle.typed_copies.proofs.Selecting.{few_within}
use Rattle.typed_copies.proofs.Worded.{slot_inside}
use Rattle.typed_copies.proofs.clear.Goals as goal

pub returns-then-n-eq0-clause-answers : goal.returns-then-n-eq0-clause-answers
returns-then-n-eq0-clause-answers g c = λ objects p to. (objects, set_of_none objects p c.args.byte c.args.n c.if-n-eq0.true)

pub returns-then-n-eq0-clause-cleared : goal.returns-then-n-eq0-clause-cleared
returns-then-n-eq0-clause-cleared g c = cleared_none (slots_of c.args.forms.now c.args.dst) c.args.dst c.args.byte c.args.n c.args.bytes.now c.args.counts.now c.if-n-eq0.true

pub take_off-requires-clause-covered : goal.take_off-requires-clause-covered
take_off-requires-clause-covered g c =
    let dst = c.args.dst in
    let within = c.in-Some.within in
    subst (λ (form : Element). Cover c.args.counts.now (words_in c.args.bytes.now dst.start (object_slots form dst.size) within)) (sym c.adjuster_of-form.ensures.element)
    (cover_part c.args.counts.now (words_at c.args.bytes.now dst.start (slots_of c.args.forms.now dst)) within.first within.count c.requires.covered)

pub returns-clause-answers : goal.returns-clause-answers
returns-clause-answers g c = λ objects p to.
    let dst = c.args.dst in
    let forms = c.args.forms.now in
    let is = c.adjuster_of-form.ensures.element in
    let allow : slots_allow (slots_of forms dst) dst.offset c.args.byte c.args.n ≡ true = sym (λ i. slots_allow (object_slots (is i) dst.size) dst.offset c.args.byte c.args.n) ∙ c.in-Some.ensures.allow in
    (after_set forms objects p dst c.args.byte c.args.n to, set_allowed forms objects p dst c.args.byte c.args.n to (omega (arith, c.requires.destination.offset)) (omega arith) allow)

pub returns-clause-cleared : goal.returns-clause-cleared
returns-clause-cleared g c =
    let dst = c.args.dst in
    let old = c.args.bytes.now in
    let new = c.fill.new.bytes in
    let before = c.args.counts.now in
    let after = c.take_off.new.counts in
    let form = c.adjuster_of-form.result.now in
    subst (λ (element : Element). IsCleared (object_slots element dst.size) dst c.args.byte c.args.n old new before after) c.adjuster_of-form.ensures.element
    (cleared_is (object_slots form dst.size) dst c.args.byte c.args.n old c.in-Some.within c.in-Some.ensures.some (λ k less. slot_inside form dst.size k c.adjuster_of-form.ensures.formed less) c.requires.destination.end (omega (arith, c.requires.destination.offset)) c.in-Some.ensures.null new before after c.fill.ensures.filled c.take_off.ensures.follow)

pub returns-clause-work : goal.returns-clause-work
returns-clause-work g c =
    let dst = c.args.dst in
    let form = c.adjuster_of-form.result.now in
    let few = few_within dst.size (object_slots form dst.size) dst.offset c.args.n c.in-Some.within c.in-Some.ensures.some (object_has_slots form dst.size c.adjuster_of-form.ensures.formed) in
    omega (arith, c.take_off.ensures.work, c.fill.ensures.steps)
