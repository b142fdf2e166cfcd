use Rattle.std.proofs.Common.{Ok, pos, get_or, refl, rules, sym, subst, ◌∙◌}
use Rattle.flat_code.specs.declared.instructions.Op.{Op}
use Rattle.flat_code.specs.declared.instructions.Op.TheVariants as op
use Rattle.object_meaning.specs.code.Entering.{layout_in}
use Rattle.object_meaning.specs.objects.Values.{number}
use Rattle.flat_objects.specs.Standing.{StandsFor}
use Rattle.flat_machine.specs.Groups.{IsValues, IsJump, IsMemory, IsPointers, IsRanges, IsMaking, IsFreeing}
use Rattle.flat_machine.specs.Standing.{fits_now}
use Rattle.flat_machine.specs.Pinning.{CountsWell}
use Rattle.flat_machine.specs.Growing.{IsBefore, about_to_write}
use Rattle.flat_machine.proofs.WordLists.{word_at}
use Rattle.flat_machine.specs.Pinning.{IsReturning}
use Rattle.flat_machine.proofs.Counts.{storable, calling_stands, freeing_counts, freeing_stands}
use Rattle.flat_machine.proofs.Stepped.{values_taken, jump_taken, memory_taken, pointers_taken, making_taken, freeing_taken, taken_alone, taken_is, ranges_taken}
use Rattle.flat_machine.proofs.Ranged.{settable}
use Rattle.flat_machine.proofs.Image.{IsStill, image_is, unchanged_image}
use Rattle.flat_machine.proofs.steps.act_alone.Goals as goal

pub returns-in-Return-clause-alone : goal.returns-in-Return-clause-alone
returns-in-Return-clause-alone g c = λ places s h counts fresh is.
    let own = subst (λ (o : Op). CountsWell c.args.state.now (about_to_write c.args.instr o s)) c.in-Return.is counts in
    let zero = subst (StandsFor places s.state.objects (number (pos 0))) (sym c.number.ensures) refl in
    rw c.in-Return.is (taken_alone c.args.code.now (fits_now places s c.args.state.now) c.args.line c.args.instr op.Return s places c.args.state.now c.act_return.new.self c.act_return.result refl (is ∙ c.in-Return.is) (c.act_return.ensures.alone places s (number (pos 0)) h own zero))

pub returns-in-Give-clause-alone : goal.returns-in-Give-clause-alone
returns-in-Give-clause-alone g c = λ places s h counts fresh is.
    let own = subst (λ (o : Op). CountsWell c.args.state.now (about_to_write c.args.instr o s)) c.in-Give.is counts in
    let v = get_or s.handed 0 (number (pos 0)) in
    let stands = subst (StandsFor places s.state.objects v) (sym c.word-answer.ensures) (word_at places s.state.objects s.handed c.args.state.now.handed 0 h.handed) in
    rw c.in-Give.is (taken_alone c.args.code.now (fits_now places s c.args.state.now) c.args.line c.args.instr op.Give s places c.args.state.now c.act_return-in-Give.new.self c.act_return-in-Give.result refl (is ∙ c.in-Give.is) (c.act_return-in-Give.ensures.alone places s v h own stands))

pub returns-in-Call-clause-alone : goal.returns-in-Call-clause-alone
returns-in-Call-clause-alone g c = λ places s h counts fresh is.
    let own = subst (λ (o : Op). CountsWell c.args.state.now (about_to_write c.args.instr o s)) c.in-Call.is counts in
    rw c.in-Call.is (c.call.ensures.alone (fits_now places s c.args.state.now) places s h own (is ∙ c.in-Call.is))

pub call-requires-clause-standing : goal.call-requires-clause-standing
call-requires-clause-standing g c =
    calling_stands c.args.instr c.args.op c.args.state.now c.in-Call.is c.requires.standing

pub returns-in-HandReg-clause-alone : goal.returns-in-HandReg-clause-alone
returns-in-HandReg-clause-alone g c = λ places s h counts fresh is. c.act_hand.ensures c.args.code.now (fits_now places s c.args.state.now) c.args.line places s h fresh

pub returns-in-Set-clause-alone : goal.returns-in-Set-clause-alone
returns-in-Set-clause-alone g c = λ places s h counts fresh is.
    let values : IsValues c.args.op = search rules in
    taken_alone c.args.code.now (fits_now places s c.args.state.now) c.args.line c.args.instr c.args.op s places c.args.state.now c.act_values.new.self c.act_values.result (values_taken s.state.running c.args.instr c.args.op values) is (c.act_values.ensures.alone c.args.code.now (fits_now places s c.args.state.now) places s h)

pub returns-in-Jump-clause-alone : goal.returns-in-Jump-clause-alone
returns-in-Jump-clause-alone g c = λ places s h counts fresh is.
    let jump : IsJump c.args.op = search rules in
    taken_alone c.args.code.now (fits_now places s c.args.state.now) c.args.line c.args.instr c.args.op s places c.args.state.now c.act_jump.new.self c.act_jump.result (jump_taken s.state.running c.args.instr c.args.op jump) is (c.act_jump.ensures.alone c.args.code.now (fits_now places s c.args.state.now) places s h)

pub returns-in-Load-clause-alone : goal.returns-in-Load-clause-alone
returns-in-Load-clause-alone g c = λ places s h counts fresh is.
    let memory : IsMemory c.args.op = search rules in
    taken_alone c.args.code.now (fits_now places s c.args.state.now) c.args.line c.args.instr c.args.op s places c.args.state.now c.act_memory.new.self c.act_memory.result (memory_taken s.state.running c.args.instr c.args.op memory) is (c.act_memory.ensures.alone c.args.code.now (fits_now places s c.args.state.now) places s h)

pub returns-in-Add-clause-alone : goal.returns-in-Add-clause-alone
returns-in-Add-clause-alone g c = λ places s h counts fresh is.
    let pointers : IsPointers c.args.op = search rules in
    taken_alone c.args.code.now (fits_now places s c.args.state.now) c.args.line c.args.instr c.args.op s places c.args.state.now c.act_pointers.new.self c.act_pointers.result (pointers_taken s.state.running c.args.instr c.args.op pointers) is (c.act_pointers.ensures.alone c.args.code.now (fits_now places s c.args.state.now) places s h)

pub returns-in-Malloc-clause-alone : goal.returns-in-Malloc-clause-alone
returns-in-Malloc-clause-alone g c = λ places s h counts fresh is.
    let making : IsMaking c.args.op = search rules in
    taken_alone c.args.code.now (fits_now places s c.args.state.now) c.args.line c.args.instr c.args.op s places c.args.state.now c.act_making.new.self (Ok tt) (making_taken s.state.running c.args.instr c.args.op making) is (c.act_making.ensures c.args.code.now places s h (c.requires.makes making).element)

pub act_making-requires-clause-births : goal.act_making-requires-clause-births
act_making-requires-clause-births g c =
    let making : IsMaking c.args.op = search rules in (c.requires.makes making).births

pub returns-in-Free-clause-alone : goal.returns-in-Free-clause-alone
returns-in-Free-clause-alone g c = λ places s h counts fresh is.
    let freeing : IsFreeing c.args.op = search rules in
    taken_alone c.args.code.now (fits_now places s c.args.state.now) c.args.line c.args.instr c.args.op s places c.args.state.now c.act_freeing.new.self c.act_freeing.result (freeing_taken s.state.running c.args.instr c.args.op freeing) is (c.act_freeing.ensures.alone c.args.code.now (fits_now places s c.args.state.now) places s c.requires.pins h (freeing_counts c.args.instr c.args.op c.args.state.now s freeing counts))

pub act_freeing-requires-clause-standing : goal.act_freeing-requires-clause-standing
act_freeing-requires-clause-standing g c =
    let freeing : IsFreeing c.args.op = search rules in
    freeing_stands c.args.instr c.args.op c.args.state.now freeing c.requires.standing

-- Ranges of bytes

pub returns-in-Copy-clause-alone : goal.returns-in-Copy-clause-alone
returns-in-Copy-clause-alone g c = λ places s h counts fresh is.
    let ranges : IsRanges c.args.op = search rules in
    taken_alone c.args.code.now (fits_now places s c.args.state.now) c.args.line c.args.instr c.args.op s places c.args.state.now c.act_ranges.new.self c.act_ranges.result (ranges_taken s.state.running c.args.instr c.args.op ranges) is (c.act_ranges.ensures.alone c.args.code.now (fits_now places s c.args.state.now) c.args.instr places s h)

pub act_ranges-requires-clause-storable : goal.act_ranges-requires-clause-storable
act_ranges-requires-clause-storable g c =
    let q = c.requires.standing in storable q.0 q.1 c.args.state.now q.2.stands

pub act_ranges-requires-clause-settable : goal.act_ranges-requires-clause-settable
act_ranges-requires-clause-settable g c =
    let q = c.requires.standing in settable q.0 q.1 c.args.state.now q.2.stands

pub act_ranges-requires-clause-small : goal.act_ranges-requires-clause-small
act_ranges-requires-clause-small g c =
    let ranges : IsRanges c.args.op = search rules in c.requires.small ranges

-- Objects that grow

pub returns-in-Realloc-clause-alone : goal.returns-in-Realloc-clause-alone
returns-in-Realloc-clause-alone g c = λ places s h counts fresh is.
    let own = subst (λ (o : Op). CountsWell c.args.state.now (about_to_write c.args.instr o s)) c.in-Realloc.is counts in
    rw c.in-Realloc.is (taken_alone c.args.code.now (fits_now places s c.args.state.now) c.args.line c.args.instr op.Realloc s places c.args.state.now c.act_growing.new.self c.act_growing.result refl (is ∙ c.in-Realloc.is) (c.act_growing.ensures.alone c.args.code.now places s c.requires.pins h own (c.requires.grows c.in-Realloc.is).element))

pub act_growing-requires-clause-births : goal.act_growing-requires-clause-births
act_growing-requires-clause-births g c = (c.requires.grows c.in-Realloc.is).births

pub act_growing-requires-clause-form : goal.act_growing-requires-clause-form
act_growing-requires-clause-form g c =
    (layout_in c.args.code.now c.args.instr.b, (c.requires.grows c.in-Realloc.is).element)

pub act_growing-requires-clause-standing : goal.act_growing-requires-clause-standing
act_growing-requires-clause-standing g c =
    subst (λ (o : Op). IsBefore c.args.instr o c.args.state.now) c.in-Realloc.is c.requires.standing

pub act_memory-requires-clause-stores : goal.act_memory-requires-clause-stores
act_memory-requires-clause-stores g c = λ storep.
    let q = c.requires.standing in storable q.0 q.1 c.args.state.now q.2.stands

pub act_return-requires-clause-returns : goal.act_return-requires-clause-returns
act_return-requires-clause-returns g c =
    subst (IsReturning c.args.state.now) (sym c.number.ensures) (c.requires.returns c.in-Return.is)

pub act_return-requires-in-Give-clause-returns : goal.act_return-requires-in-Give-clause-returns
act_return-requires-in-Give-clause-returns g c =
    subst (IsReturning c.args.state.now) (sym c.word-answer.ensures) (c.requires.gives c.in-Give.is)

pub act_memory-requires-clause-kept : goal.act_memory-requires-clause-kept
act_memory-requires-clause-kept g c =
    let memory : IsMemory c.args.op = search rules in c.requires.kept memory

-- Ends

pub returns-in-Return-clause-image : goal.returns-in-Return-clause-image
returns-in-Return-clause-image g c = λ places s h counts fresh is.
    let own = subst (λ (o : Op). CountsWell c.args.state.now (about_to_write c.args.instr o s)) c.in-Return.is counts in
    let zero = subst (StandsFor places s.state.objects (number (pos 0))) (sym c.number.ensures) refl in
    rw c.in-Return.is (image_is c.args.code.now _ _ (taken_is c.args.code.now (fits_now places s c.args.state.now) c.args.line c.args.instr op.Return s refl (is ∙ c.in-Return.is)) c.act_return.new.self c.act_return.result (c.act_return.ensures.image places s (number (pos 0)) c.requires.pins h own zero))

pub returns-in-Give-clause-image : goal.returns-in-Give-clause-image
returns-in-Give-clause-image g c = λ places s h counts fresh is.
    let own = subst (λ (o : Op). CountsWell c.args.state.now (about_to_write c.args.instr o s)) c.in-Give.is counts in
    let v = get_or s.handed 0 (number (pos 0)) in
    let stands = subst (StandsFor places s.state.objects v) (sym c.word-answer.ensures) (word_at places s.state.objects s.handed c.args.state.now.handed 0 h.handed) in
    rw c.in-Give.is (image_is c.args.code.now _ _ (taken_is c.args.code.now (fits_now places s c.args.state.now) c.args.line c.args.instr op.Give s refl (is ∙ c.in-Give.is)) c.act_return-in-Give.new.self c.act_return-in-Give.result (c.act_return-in-Give.ensures.image places s v c.requires.pins h own stands))

pub returns-in-Call-clause-image : goal.returns-in-Call-clause-image
returns-in-Call-clause-image g c = λ places s h counts fresh is.
    let own = subst (λ (o : Op). CountsWell c.args.state.now (about_to_write c.args.instr o s)) c.in-Call.is counts in
    rw c.in-Call.is (c.call.ensures.image (fits_now places s c.args.state.now) places s c.requires.pins h own (is ∙ c.in-Call.is))

pub returns-in-Set-clause-image : goal.returns-in-Set-clause-image
returns-in-Set-clause-image g c = λ places s h counts fresh is.
    let still : IsStill c.args.op = search rules in
    unchanged_image c.args.code.now places s c.args.state.now c.act_values.new.self h c.requires.pins (fits_now places s c.args.state.now) c.args.line c.args.instr c.args.op c.act_values.result still is counts c.act_values.ensures.unchanged (returns-in-Set-clause-alone g c places s h counts fresh is)

pub returns-in-Jump-clause-image : goal.returns-in-Jump-clause-image
returns-in-Jump-clause-image g c = λ places s h counts fresh is.
    let still : IsStill c.args.op = search rules in
    unchanged_image c.args.code.now places s c.args.state.now c.act_jump.new.self h c.requires.pins (fits_now places s c.args.state.now) c.args.line c.args.instr c.args.op c.act_jump.result still is counts c.act_jump.ensures.unchanged (returns-in-Jump-clause-alone g c places s h counts fresh is)

pub returns-in-Load-clause-image : goal.returns-in-Load-clause-image
returns-in-Load-clause-image g c = λ places s h counts fresh is.
    let still : IsStill c.args.op = search rules in
    unchanged_image c.args.code.now places s c.args.state.now c.act_memory.new.self h c.requires.pins (fits_now places s c.args.state.now) c.args.line c.args.instr c.args.op c.act_memory.result still is counts c.act_memory.ensures.unchanged (returns-in-Load-clause-alone g c places s h counts fresh is)

pub returns-in-Add-clause-image : goal.returns-in-Add-clause-image
returns-in-Add-clause-image g c = λ places s h counts fresh is.
    let still : IsStill c.args.op = search rules in
    unchanged_image c.args.code.now places s c.args.state.now c.act_pointers.new.self h c.requires.pins (fits_now places s c.args.state.now) c.args.line c.args.instr c.args.op c.act_pointers.result still is counts c.act_pointers.ensures.unchanged (returns-in-Add-clause-alone g c places s h counts fresh is)

pub returns-in-Copy-clause-image : goal.returns-in-Copy-clause-image
returns-in-Copy-clause-image g c = λ places s h counts fresh is.
    let still : IsStill c.args.op = search rules in
    unchanged_image c.args.code.now places s c.args.state.now c.act_ranges.new.self h c.requires.pins (fits_now places s c.args.state.now) c.args.line c.args.instr c.args.op c.act_ranges.result still is counts c.act_ranges.ensures.unchanged (returns-in-Copy-clause-alone g c places s h counts fresh is)

pub returns-in-Free-clause-image : goal.returns-in-Free-clause-image
returns-in-Free-clause-image g c = λ places s h counts fresh is.
    let freeing : IsFreeing c.args.op = search rules in
    image_is c.args.code.now _ _ (taken_is c.args.code.now (fits_now places s c.args.state.now) c.args.line c.args.instr c.args.op s (freeing_taken s.state.running c.args.instr c.args.op freeing) is) c.act_freeing.new.self c.act_freeing.result (c.act_freeing.ensures.image c.args.code.now (fits_now places s c.args.state.now) places s c.requires.pins h (freeing_counts c.args.instr c.args.op c.args.state.now s freeing counts))

pub returns-in-Realloc-clause-image : goal.returns-in-Realloc-clause-image
returns-in-Realloc-clause-image g c = λ places s h counts fresh is.
    let own = subst (λ (o : Op). CountsWell c.args.state.now (about_to_write c.args.instr o s)) c.in-Realloc.is counts in
    rw c.in-Realloc.is (image_is c.args.code.now _ _ (taken_is c.args.code.now (fits_now places s c.args.state.now) c.args.line c.args.instr op.Realloc s refl (is ∙ c.in-Realloc.is)) c.act_growing.new.self c.act_growing.result (c.act_growing.ensures.image c.args.code.now places s c.requires.pins h own (c.requires.grows c.in-Realloc.is).element))
