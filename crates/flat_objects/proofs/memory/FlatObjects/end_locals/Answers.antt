use Rattle.std.proofs.Common.{ℕ, List, [], refl, subst}
use Rattle.hs_base.specs.declared.values.Pointer.{Pointer}
use Rattle.hs_base.specs.Object.{Object}
use Rattle.flat_objects.specs.Memory.{Memory, IsMemory}
use Rattle.flat_objects.specs.Counting.{Frees, MayPin}
use Rattle.flat_objects.specs.Ending.{MayEnd}
use Rattle.flat_objects.proofs.EndingAnswer.{all_ended, may_check, may_give_back, may_unpin, none_answer, some_answer, with_answer}
use Rattle.flat_objects.proofs.memory.FlatObjects.end_locals.Goals as goal

may_pin : (memory : Memory) (places : ℕ → ℕ) (objects : List Object) (frees : Frees) (births : List ℕ) (p : Pointer) (locals : List ℕ) (answer : ℕ) → MayEnd memory places objects frees births p locals answer → MayPin memory places objects frees p answer
may_pin memory places objects frees births p locals answer may =
    record { at = may.at; tracks = may.tracks; room = may.room }

pub check_locals-requires : goal.check_locals-requires
check_locals-requires g c =
    let k = c.requires in
    let shape = subst (IsMemory c.self.inside.locals_from c.self.inside.heap_from) c.self.view_is c.self.invariant in
    let keeps = c.pin.ensures.keeps k.0 k.1 k.5.at.keeps in
    let tracks = c.pin.ensures.tracks k.0 k.1 k.2 [] k.2.pins k.4 (may_pin c.args.self.now k.0 k.1 k.2 k.3 k.4 c.args.locals.now c.args.answer k.5) refl in
    (k.0, k.1, with_answer k.2 k.4, k.3, may_check c.self.inside.locals_from c.self.inside.heap_from c.args.self.now c.pin.new.self shape k.0 k.1 k.2 k.3 k.4 c.args.locals.now c.args.answer k.5 c.pin.ensures.frame keeps tracks)

pub returns-in-Some-clause-answer : goal.returns-in-Some-clause-answer
returns-in-Some-clause-answer g c = λ places objects frees births p may.
    let shape = subst (IsMemory c.self.inside.locals_from c.self.inside.heap_from) c.self.view_is c.self.invariant in
    let keeps = c.pin.ensures.keeps places objects may.at.keeps in
    let tracks = c.pin.ensures.tracks places objects frees [] frees.pins p (may_pin c.args.self.now places objects frees births p c.args.locals.now c.args.answer may) refl in
    let check = may_check c.self.inside.locals_from c.self.inside.heap_from c.args.self.now c.pin.new.self shape places objects frees births p c.args.locals.now c.args.answer may c.pin.ensures.frame keeps tracks in
    some_answer c.self.inside.locals_from c.self.inside.heap_from c.args.self.now c.pin.new.self shape places objects frees births p c.args.locals.now c.args.answer may c.pin.ensures.frame keeps tracks c.in-Some.number
    (c.in-Some.ensures.first places objects (with_answer frees p) births check) c.check_locals.new.self c.in-Some.ensures.same

pub give_back_all-requires : goal.give_back_all-requires
give_back_all-requires g c =
    let k = c.requires in
    let shape = subst (IsMemory c.self.inside.locals_from c.self.inside.heap_from) c.self.view_is c.self.invariant in
    let keeps = c.pin.ensures.keeps k.0 k.1 k.5.at.keeps in
    let tracks = c.pin.ensures.tracks k.0 k.1 k.2 [] k.2.pins k.4 (may_pin c.args.self.now k.0 k.1 k.2 k.3 k.4 c.args.locals.now c.args.answer k.5) refl in
    let check = may_check c.self.inside.locals_from c.self.inside.heap_from c.args.self.now c.pin.new.self shape k.0 k.1 k.2 k.3 k.4 c.args.locals.now c.args.answer k.5 c.pin.ensures.frame keeps tracks in
    let free = c.in_default.ensures.first k.0 k.1 (with_answer k.2 k.4) k.3 check in
    (k.0, k.1, k.3, may_give_back c.self.inside.locals_from c.self.inside.heap_from c.args.self.now c.pin.new.self shape k.0 k.1 k.2 k.3 k.4 c.args.locals.now c.args.answer k.5 c.pin.ensures.frame keeps tracks free c.check_locals.new.self c.in_default.ensures.same)

pub unpin-requires : goal.unpin-requires
unpin-requires g c =
    let k = c.requires in
    let shape = subst (IsMemory c.self.inside.locals_from c.self.inside.heap_from) c.self.view_is c.self.invariant in
    let keeps = c.pin.ensures.keeps k.0 k.1 k.5.at.keeps in
    let tracks = c.pin.ensures.tracks k.0 k.1 k.2 [] k.2.pins k.4 (may_pin c.args.self.now k.0 k.1 k.2 k.3 k.4 c.args.locals.now c.args.answer k.5) refl in
    let check = may_check c.self.inside.locals_from c.self.inside.heap_from c.args.self.now c.pin.new.self shape k.0 k.1 k.2 k.3 k.4 c.args.locals.now c.args.answer k.5 c.pin.ensures.frame keeps tracks in
    let free = c.in_default.ensures.first k.0 k.1 (with_answer k.2 k.4) k.3 check in
    let give = may_give_back c.self.inside.locals_from c.self.inside.heap_from c.args.self.now c.pin.new.self shape k.0 k.1 k.2 k.3 k.4 c.args.locals.now c.args.answer k.5 c.pin.ensures.frame keeps tracks free c.check_locals.new.self c.in_default.ensures.same in (
      _,
      _,
      _,
      _,
      _,
      _,
      may_unpin c.self.inside.locals_from c.self.inside.heap_from c.args.self.now c.pin.new.self shape k.0 k.1 k.2 k.3 k.4 c.args.locals.now c.args.answer k.5 c.pin.ensures.frame keeps tracks free c.check_locals.new.self c.in_default.ensures.same
          (c.in_default.ensures.counts k.0 k.1 (with_answer k.2 k.4) k.3 check) c.in_default.ensures.frame c.give_back_all.new.self (c.give_back_all.ensures.keeps k.0 k.1 k.3 give) c.give_back_all.ensures.changes,
    )

pub returns-clause-answer : goal.returns-clause-answer
returns-clause-answer g c = λ places objects frees births p may.
    let shape = subst (IsMemory c.self.inside.locals_from c.self.inside.heap_from) c.self.view_is c.self.invariant in
    let keeps = c.pin.ensures.keeps places objects may.at.keeps in
    let tracks = c.pin.ensures.tracks places objects frees [] frees.pins p (may_pin c.args.self.now places objects frees births p c.args.locals.now c.args.answer may) refl in
    let check = may_check c.self.inside.locals_from c.self.inside.heap_from c.args.self.now c.pin.new.self shape places objects frees births p c.args.locals.now c.args.answer may c.pin.ensures.frame keeps tracks in
    let free = c.in_default.ensures.first places objects (with_answer frees p) births check in
    let give = may_give_back c.self.inside.locals_from c.self.inside.heap_from c.args.self.now c.pin.new.self shape places objects frees births p c.args.locals.now c.args.answer may c.pin.ensures.frame keeps tracks free c.check_locals.new.self c.in_default.ensures.same in
    let counts = c.in_default.ensures.counts places objects (with_answer frees p) births check in
    let kept = c.give_back_all.ensures.keeps places objects births give in
    let unpin = may_unpin c.self.inside.locals_from c.self.inside.heap_from c.args.self.now c.pin.new.self shape places objects frees births p c.args.locals.now c.args.answer may c.pin.ensures.frame keeps tracks free c.check_locals.new.self c.in_default.ensures.same counts c.in_default.ensures.frame c.give_back_all.new.self kept c.give_back_all.ensures.changes in
    let left = c.unpin.ensures.tracks places _ (with_answer frees p) [] frees.pins p unpin in (
      none_answer c.self.inside.locals_from c.self.inside.heap_from c.args.self.now c.pin.new.self shape places objects frees births p c.args.locals.now c.args.answer may c.pin.ensures.frame keeps tracks free,
      all_ended c.self.inside.locals_from c.self.inside.heap_from c.args.self.now c.pin.new.self shape places objects frees births p c.args.locals.now c.args.answer may c.pin.ensures.frame keeps tracks free c.check_locals.new.self c.in_default.ensures.same counts c.in_default.ensures.frame c.give_back_all.new.self kept c.give_back_all.ensures.changes
          c.unpin.new.self c.unpin.ensures.frame (c.unpin.ensures.keeps places _ kept) left,
    )
