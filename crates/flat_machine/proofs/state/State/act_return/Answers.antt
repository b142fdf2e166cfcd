use Rattle.std.proofs.Common.{rules, subst, sym, ap, ◌∙◌}
use Rattle.std.specs.Prelude.{slice_get}
use Rattle.std.proofs.lemmas.Int.{to_z-of_z}
use mir.Syntax.{w128}
use mir.Val.{SFits}
use Rattle.hs_base.specs.declared.ends.End.TheVariants as end
use Rattle.object_meaning.specs.objects.Values.{pointer_in}
use Rattle.object_meaning.specs.code.Returning.{give_back}
use Rattle.flat_machine.specs.Image.{StopsIn}
use Rattle.flat_objects.specs.Ending.{MayEnd}
use Rattle.flat_machine.specs.Kept.{Kept, given}
use Rattle.flat_machine.specs.Standing.{frees_of}
use Rattle.flat_machine.proofs.Ends.{births, left, may_end, room_same}
use Rattle.flat_machine.proofs.Backs.{back_is, call_no_none, call_is, goes_back, return_alone, return_escapes, return_exits, escapes_in, exits_in, unpin_there}
use Rattle.flat_machine.proofs.state.State.act_return.Goals as goal

pub end_locals-requires : goal.end_locals-requires
end_locals-requires g c =
    let m = c.args.self.now in
    let q = c.requires.returns in
    let may = subst (MayEnd m.memory q.0 q.1.state.objects (frees_of m.pins q.1) (births q.0 q.1 m q.3.stands) (pointer_in q.2) m.calls.running.locals) (sym c.address_in.ensures) (may_end q.0 q.1 m q.3.stands q.2 c.args.answer q.3.answer q.3.room) in
    (q.0, q.1.state.objects, frees_of m.pins q.1, births q.0 q.1 m q.3.stands, pointer_in q.2, may)

pub returns-in-Some-clause-alone : goal.returns-in-Some-clause-alone
returns-in-Some-clause-alone g c = λ places s v h counts p.
    let m = c.args.self.now in
    let q = c.requires.returns in
    let may = subst (MayEnd m.memory places s.state.objects (frees_of m.pins s) (births places s m h) (pointer_in v) m.calls.running.locals) (sym c.address_in.ensures) (may_end places s m h v c.args.answer p (room_same places s q.0 q.1 m h q.3)) in
    let answer = c.in-Some.ensures.answer places s.state.objects (frees_of m.pins s) (births places s m h) (pointer_in v) may in
    let func = c.func.ensures ∙ ap (λ (k : Kept). k.calls.running.func) c.in-Some.ensures.others in
    return_escapes c.args.code.now c.args.line places s m h counts v c.args.answer p c.requires.locals c.end_locals.new.self c.func.result c.in-Some.local answer.0 func answer.1 answer.2

pub returns-then-not-back-clause-alone : goal.returns-then-not-back-clause-alone
returns-then-not-back-clause-alone g c = λ places s v h counts p.
    let m = c.args.self.now in
    let q = c.requires.returns in
    let mid = c.end_locals.new.self in
    let ended = c.in_default.ensures.others in
    let frame = c.in_default.ensures.frame in
    let may = subst (MayEnd m.memory places s.state.objects (frees_of m.pins s) (births places s m h) (pointer_in v) m.calls.running.locals) (sym c.address_in.ensures) (may_end places s m h v c.args.answer p (room_same places s q.0 q.1 m h q.3)) in
    let answer = c.in_default.ensures.answer places s.state.objects (frees_of m.pins s) (births places s m h) (pointer_in v) may in
    let fits : SFits w128 c.integer_in.result = search rules in
    let byte = rw (to_z-of_z w128 c.integer_in.result fits, c.integer_in.ensures) at c.byte_in.ensures in
    let last = sym (ap (λ (k : Kept). k.calls.waiting) ended) ∙ (c.back.ensures.no c.if-not-back.true).0 in
    return_exits c.args.code.now c.args.line places s m h counts v c.args.answer p c.requires.locals mid.memory answer.0 answer.1 frame c.back.new.self c.byte_in.result last byte

pub unpin-requires : goal.unpin-requires
unpin-requires g c =
    let m = c.args.self.now in
    let q = c.requires.returns in
    let mid = c.end_locals.new.self in
    let ended = c.in_default.ensures.others in
    let frame = c.in_default.ensures.frame in
    let may = subst (MayEnd m.memory q.0 q.1.state.objects (frees_of m.pins q.1) (births q.0 q.1 m q.3.stands) (pointer_in q.2) m.calls.running.locals) (sym c.address_in.ensures) (may_end q.0 q.1 m q.3.stands q.2 c.args.answer q.3.answer q.3.room) in
    let answer = c.in_default.ensures.answer q.0 q.1.state.objects (frees_of m.pins q.1) (births q.0 q.1 m q.3.stands) (pointer_in q.2) may in
    let yes = c.back.ensures.yes c.if-not-back.false in
    let same = back_is m mid c.back.new.self ended yes.1 in
    let goes = goes_back m mid c.back.new.self ended yes.0 in
    unpin_there c.args.code.now c.args.line q.0 q.1 m q.3.stands q.3.counts q.2 c.args.answer q.3.answer c.requires.locals mid.memory answer.0 answer.1 frame c.back.new.self goes same

pub unreachable-requires : goal.unreachable-requires
unreachable-requires g c =
    let m = c.args.self.now in
    let mid = c.end_locals.new.self in
    let ended = c.in_default.ensures.others in
    let frame = c.in_default.ensures.frame in
    let yes = c.back.ensures.yes c.if-not-back.false in
    let same = back_is m mid c.back.new.self ended yes.1 in
    let goes = goes_back m mid c.back.new.self ended yes.0 in
    let point = c.point.ensures ∙ ap (λ (k : Kept). k.calls.running.point) c.unpin.ensures.others in
    call_no_none c.args.code.now m.calls c.back.new.self.calls goes c.requires.call c.point.result point c.in_default-get.ensures.item

pub returns-clause-alone : goal.returns-clause-alone
returns-clause-alone g c = λ places s v h counts p.
    let m = c.args.self.now in
    let q = c.requires.returns in
    let mid = c.end_locals.new.self in
    let ended = c.in_default.ensures.others in
    let frame = c.in_default.ensures.frame in
    let may = subst (MayEnd m.memory places s.state.objects (frees_of m.pins s) (births places s m h) (pointer_in v) m.calls.running.locals) (sym c.address_in.ensures) (may_end places s m h v c.args.answer p (room_same places s q.0 q.1 m h q.3)) in
    let answer = c.in_default.ensures.answer places s.state.objects (frees_of m.pins s) (births places s m h) (pointer_in v) may in
    let yes = c.back.ensures.yes c.if-not-back.false in
    let same = back_is m mid c.back.new.self ended yes.1 in
    let goes = goes_back m mid c.back.new.self ended yes.0 in
    let point = c.point.ensures ∙ ap (λ (k : Kept). k.calls.running.point) c.unpin.ensures.others in
    let here = sym (ap (slice_get c.args.code.now.instrs) (sym point)) in
    let at = sym here ∙ sym c.in-Some-get.ensures.item in
    let is = call_is c.args.code.now m.calls c.back.new.self.calls goes c.requires.call c.in-Some-get.instr.now at in
    let objects = left places s m h mid.memory answer.1 in
    return_alone c.args.code.now c.args.line places s m h counts v c.args.answer p c.requires.locals mid.memory answer.0 answer.1 frame c.back.new.self goes same c.unpin.new.self c.give.new.self c.in-Some-get.instr.now at is c.unpin.ensures.others c.unpin.ensures.frame (c.unpin.ensures.keeps places objects) (c.unpin.ensures.tracks places objects) (c.give.ensures ∙ ap (λ r. given c.unpin.new.self r c.args.answer) c.chosen.ensures)

pub returns-in-Some-clause-image : goal.returns-in-Some-clause-image
returns-in-Some-clause-image g c = λ places s v has h counts p.
    let m = c.args.self.now in
    let q = c.requires.returns in
    let may = subst (MayEnd m.memory places s.state.objects (frees_of m.pins s) (births places s m h) (pointer_in v) m.calls.running.locals) (sym c.address_in.ensures) (may_end places s m h v c.args.answer p (room_same places s q.0 q.1 m h q.3)) in
    let answer = c.in-Some.ensures.answer places s.state.objects (frees_of m.pins s) (births places s m h) (pointer_in v) may in
    subst (λ (k : Kept). StopsIn c.args.code.now (give_back c.args.code.now c.args.line v s.numbers s.state) k (end.Escape c.func.result c.in-Some.local c.args.line)) (sym c.in-Some.ensures.others)
    (escapes_in c.args.code.now c.args.line places s m h counts v c.args.answer p c.requires.locals c.end_locals.new.self.memory answer.3 answer.4 answer.0 answer.1 c.func.result c.in-Some.local)

pub returns-then-not-back-clause-image : goal.returns-then-not-back-clause-image
returns-then-not-back-clause-image g c = λ places s v has h counts p.
    let m = c.args.self.now in
    let q = c.requires.returns in
    let mid = c.end_locals.new.self in
    let ended = c.in_default.ensures.others in
    let may = subst (MayEnd m.memory places s.state.objects (frees_of m.pins s) (births places s m h) (pointer_in v) m.calls.running.locals) (sym c.address_in.ensures) (may_end places s m h v c.args.answer p (room_same places s q.0 q.1 m h q.3)) in
    let answer = c.in_default.ensures.answer places s.state.objects (frees_of m.pins s) (births places s m h) (pointer_in v) may in
    let no = c.back.ensures.no c.if-not-back.true in
    let last = sym (ap (λ (k : Kept). k.calls.waiting) ended) ∙ no.0 in
    exits_in c.args.code.now c.args.line places s m h counts v c.args.answer p c.requires.locals mid.memory answer.0 answer.1 c.in_default.ensures.frame has may.ending c.back.new.self last (no.1 ∙ ended) c.byte_in.result
