use Rattle.std.proofs.Common.{[], ◌++◌, get_or, pos, refl, ap, sym, subst, ◌∙◌}
use Rattle.std.specs.Prelude.{All, slice_index_or}
use Rattle.c_print.specs.Format.{IsGiven}
use Rattle.flat_code.specs.declared.instructions.Op.TheVariants as op
use Rattle.meaning_run.specs.Leading.{with_input}
use Rattle.object_meaning.specs.objects.Meaning.{print_format}
use Rattle.object_meaning.specs.code.CodeState.{same_numbers}
use Rattle.flat_machine.specs.Noting.{told}
use Rattle.flat_machine.specs.Leading.{Counted}
use Rattle.object_meaning.specs.code.CodeMeaning.{step_by, handed_value, hand_or_act}
use Rattle.flat_machine.proofs.Stays.{stands_input}
use Rattle.flat_machine.specs.Standing.{fits_now}
use Rattle.flat_machine.specs.Well.{IsGoodSoFar}
use Rattle.flat_machine.proofs.Inputs.{no_bytes, good_input}
use Rattle.flat_machine.proofs.Goods.{hands_fresh, waits, all_locals, kept, may_hand, not_start, element_size, may_make, may_call, no_instr, no_line, may_grow, small}
use Rattle.object_meaning.specs.objects.Values.{number}
use Rattle.flat_machine.specs.Words.{no_word}
use Rattle.flat_machine.proofs.WordLists.{word_at}
use Rattle.flat_machine.proofs.Counts.{counts_well, may_return, one_scope_more, some_scope, stands_before, storable}
use Rattle.flat_machine.proofs.Stepped.{step_is, step_acts, seen_alone, moves_alone, counts_alone, alone_of, given_at, read_at, found, found_line, seen_as, moves_as}
use Rattle.flat_machine.proofs.Ranged.{settable}
use Rattle.flat_machine.proofs.Image.{built_in_image, image_is, lib_is_still, numbers_before, print_is_still}
use Rattle.flat_machine.proofs.Seen.{seen_told, seen_faults, unread}
use Rattle.flat_machine.proofs.steps.one_step.Goals as goal

pub unreachable-requires : goal.unreachable-requires
unreachable-requires g c =
    no_instr c.args.code.now c.requires.formed c.args.state.now c.requires.well c.point-point.result c.point-point.ensures c.in_default.ensures.item

pub unreachable-requires-in_default-get : goal.unreachable-requires-in_default-get
unreachable-requires-in_default-get g c =
    no_line c.args.code.now c.requires.formed c.args.state.now c.requires.well c.point-point.result c.point-point.ensures c.in_default-get.ensures.item

-- Built-in functions

pub act_built_in-requires-clause-kept : goal.act_built_in-requires-clause-kept
act_built_in-requires-clause-kept g c = kept c.args.code.now c.requires.formed c.args.state.now c.requires.well

pub act_built_in-requires-clause-storable : goal.act_built_in-requires-clause-storable
act_built_in-requires-clause-storable g c =
    let w = c.requires.well in storable w.places w.state c.args.state.now w.stands

pub act_built_in-requires-clause-settable : goal.act_built_in-requires-clause-settable
act_built_in-requires-clause-settable g c =
    let w = c.requires.well in settable w.places w.state c.args.state.now w.stands

pub returns-in-Lib-clause-told : goal.returns-in-Lib-clause-told
returns-in-Lib-clause-told g c = λ places s taken h good l t.
    let at = found c.args.code.now.instrs c.point-point.result c.args.state.now.calls.running.point c.in-Some.instr.now c.point-point.ensures c.in-Some.ensures.item in
    let line = found_line c.args.code.now.lines c.point-point.result c.args.state.now.calls.running.point c.in-Some-get.line.now c.point-point.ensures c.in-Some-get.ensures.item in
    let acts = step_acts c.args.code.now (fits_now places s c.args.state.now) places s c.args.state.now h c.in-Some.instr.now at c.in-Some-get.line.now line (op.Lib c.in-Lib.name) c.in-Lib.is refl in
    let told = rw c.chosen.ensures at (c.act_built_in.ensures.told places s taken h l t) in
    seen_as c.args.state.now c.act_built_in.new.self _ (step_by c.args.code.now (fits_now places s c.args.state.now) s) acts c.act_built_in.result places s s.state.input taken _ _ told

pub returns-in-Lib-clause-moves : goal.returns-in-Lib-clause-moves
returns-in-Lib-clause-moves g c = λ places s h good.
    let at = found c.args.code.now.instrs c.point-point.result c.args.state.now.calls.running.point c.in-Some.instr.now c.point-point.ensures c.in-Some.ensures.item in
    let line = found_line c.args.code.now.lines c.point-point.result c.args.state.now.calls.running.point c.in-Some-get.line.now c.point-point.ensures c.in-Some-get.ensures.item in
    let moves = rw c.chosen.ensures at (c.act_built_in.ensures.moves places s h) in
    let acts = step_acts c.args.code.now (fits_now places s c.args.state.now) places (record s { state = with_input moves.0 s.state }) c.args.state.now (stands_input places s c.args.state.now h moves.0) c.in-Some.instr.now at c.in-Some-get.line.now line (op.Lib c.in-Lib.name) c.in-Lib.is refl in
    (moves.0, moves.1, moves_as c.args.state.now c.act_built_in.new.self _ (step_by c.args.code.now (fits_now places s c.args.state.now) (record s { state = with_input moves.0 s.state })) acts c.act_built_in.result moves.2)

-- Printf

pub act_printf-requires-clause-given : goal.act_printf-requires-clause-given
act_printf-requires-clause-given g c =
    let pieces = c.pieces_at-pieces.ensures ∙ ap (λ formats. slice_index_or formats c.in-Some.instr.now.b []) c.as_slice.ensures in
    subst (All IsGiven) (sym pieces) (given_at c.args.code.now.formats c.args.loaded.now.formats c.requires.loaded.formats c.in-Some.instr.now.b)

pub act_printf-requires-clause-kept : goal.act_printf-requires-clause-kept
act_printf-requires-clause-kept g c = kept c.args.code.now c.requires.formed c.args.state.now c.requires.well

pub returns-in-Printf-clause-told : goal.returns-in-Printf-clause-told
returns-in-Printf-clause-told g c = λ places s taken h good l t.
    let at = found c.args.code.now.instrs c.point-point.result c.args.state.now.calls.running.point c.in-Some.instr.now c.point-point.ensures c.in-Some.ensures.item in
    let line = found_line c.args.code.now.lines c.point-point.result c.args.state.now.calls.running.point c.in-Some-get.line.now c.point-point.ensures c.in-Some-get.ensures.item in
    let pieces = c.pieces_at-pieces.ensures ∙ ap (λ formats. slice_index_or formats c.in-Some.instr.now.b []) c.as_slice.ensures in
    let read = read_at c.args.code.now.formats c.args.loaded.now.formats c.requires.loaded.formats c.requires.formed.formats c.in-Some.instr.now.b in
    let acts = step_acts c.args.code.now (fits_now places s c.args.state.now) places s c.args.state.now h c.in-Some.instr.now at c.in-Some-get.line.now line op.Printf c.in-Printf.is refl in
    let old = c.args.console.now in
    let new = c.act_printf.new.out in
    let notes = old.done.notes ++ old.page.notes in
    let format = slice_index_or c.args.code.now.formats c.in-Some.instr.now.b [] in
    let next = same_numbers s.numbers (print_format c.in-Some-get.line.now c.in-Some.instr.now.a format s.handed s.state) in
    let put = c.act_printf.ensures.told places s format (told (g.I.Source.faults old.input.now) notes) h (pieces ∙ read) refl in
    let seen = seen_told places s c.args.state.now next s.state.input c.act_printf.result c.act_printf.new.self (g.I.Source.faults old.input.now) (g.I.Source.faults new.input.now) notes (new.done.notes ++ new.page.notes) put g.K.Lent.left taken l t in
    seen_as c.args.state.now c.act_printf.new.self next (step_by c.args.code.now (fits_now places s c.args.state.now) s) acts c.act_printf.result places s s.state.input taken _ _ seen

pub returns-in-Printf-clause-faults : goal.returns-in-Printf-clause-faults
returns-in-Printf-clause-faults g c =
    let w = c.requires.well in
    let pieces = c.pieces_at-pieces.ensures ∙ ap (λ formats. slice_index_or formats c.in-Some.instr.now.b []) c.as_slice.ensures in
    let read = read_at c.args.code.now.formats c.args.loaded.now.formats c.requires.loaded.formats c.requires.formed.formats c.in-Some.instr.now.b in
    let old = c.args.console.now in
    let new = c.act_printf.new.out in
    let notes = old.done.notes ++ old.page.notes in
    let format = slice_index_or c.args.code.now.formats c.in-Some.instr.now.b [] in
    let next = same_numbers w.state.numbers (print_format c.in-Some-get.line.now c.in-Some.instr.now.a format w.state.handed w.state.state) in
    let put = c.act_printf.ensures.told w.places w.state format (told (g.I.Source.faults old.input.now) notes) w.stands (pieces ∙ read) refl in
    let same = seen_faults w.places w.state c.args.state.now next w.state.state.input c.act_printf.result c.act_printf.new.self (g.I.Source.faults old.input.now) (g.I.Source.faults new.input.now) notes (new.done.notes ++ new.page.notes) put in
    subst (λ k. Counted c.act_printf.result (g.I.Source.faults old.input.now) k (g.O.Sink.faults old.out.now) (g.O.Sink.faults new.out.now)) (sym same) (c.act_printf.ensures.faults (g.I.Source.faults old.input.now))

pub returns-in-Printf-clause-settled : goal.returns-in-Printf-clause-settled
returns-in-Printf-clause-settled g c = unread _ c.act_printf.result _ _ c.act_printf.ensures.faults

pub returns-in-Lib-clause-faults : goal.returns-in-Lib-clause-faults
returns-in-Lib-clause-faults g c =
    let w = c.requires.well in c.act_built_in.ensures.faults w.places w.state w.stands

pub returns-in-Printf-clause-moves : goal.returns-in-Printf-clause-moves
returns-in-Printf-clause-moves g c = λ places s h good.
    let at = found c.args.code.now.instrs c.point-point.result c.args.state.now.calls.running.point c.in-Some.instr.now c.point-point.ensures c.in-Some.ensures.item in
    let line = found_line c.args.code.now.lines c.point-point.result c.args.state.now.calls.running.point c.in-Some-get.line.now c.point-point.ensures c.in-Some-get.ensures.item in
    let pieces = c.pieces_at-pieces.ensures ∙ ap (λ formats. slice_index_or formats c.in-Some.instr.now.b []) c.as_slice.ensures in
    let read = read_at c.args.code.now.formats c.args.loaded.now.formats c.requires.loaded.formats c.requires.formed.formats c.in-Some.instr.now.b in
    let stands = stands_input places s c.args.state.now h [] in
    let acts = step_acts c.args.code.now (fits_now places s c.args.state.now) places (record s { state = with_input [] s.state }) c.args.state.now stands c.in-Some.instr.now at c.in-Some-get.line.now line op.Printf c.in-Printf.is refl in
    let moves = c.act_printf.ensures.moves places (record s { state = with_input [] s.state }) (slice_index_or c.args.code.now.formats c.in-Some.instr.now.b []) stands (pieces ∙ read) in
    ([], no_bytes, moves_as c.args.state.now c.act_printf.new.self _ (step_by c.args.code.now (fits_now places s c.args.state.now) (record s { state = with_input [] s.state })) acts c.act_printf.result moves)

-- Every other instruction

pub act_alone-requires-clause-alone : goal.act_alone-requires-clause-alone
act_alone-requires-clause-alone g c =
    let at = found c.args.code.now.instrs c.point-point.result c.args.state.now.calls.running.point c.in-Some.instr.now c.point-point.ensures c.in-Some.ensures.item in
    alone_of c.in-Some.instr.now.op (not_start c.args.code.now c.requires.formed c.args.state.now c.requires.well c.in-Some.instr.now at) c.in_default-op.not-Lib c.in_default-op.not-Printf

pub act_alone-requires-clause-hands : goal.act_alone-requires-clause-hands
act_alone-requires-clause-hands g c = λ hands.
    let at = found c.args.code.now.instrs c.point-point.result c.args.state.now.calls.running.point c.in-Some.instr.now c.point-point.ensures c.in-Some.ensures.item in
    may_hand c.args.code.now c.requires.formed c.args.state.now c.requires.well c.in-Some.instr.now at c.in-Some.instr.now.op refl hands

pub act_alone-requires-clause-kept : goal.act_alone-requires-clause-kept
act_alone-requires-clause-kept g c = λ memory. kept c.args.code.now c.requires.formed c.args.state.now c.requires.well 0

pub act_alone-requires-clause-pointers : goal.act_alone-requires-clause-pointers
act_alone-requires-clause-pointers g c = λ pointers k. kept c.args.code.now c.requires.formed c.args.state.now c.requires.well k

pub act_alone-requires-clause-element : goal.act_alone-requires-clause-element
act_alone-requires-clause-element g c = λ is.
    let at = found c.args.code.now.instrs c.point-point.result c.args.state.now.calls.running.point c.in-Some.instr.now c.point-point.ensures c.in-Some.ensures.item in
    element_size c.args.code.now c.requires.formed c.args.state.now c.requires.well c.in-Some.instr.now at is

pub act_alone-requires-clause-makes : goal.act_alone-requires-clause-makes
act_alone-requires-clause-makes g c = λ making.
    let at = found c.args.code.now.instrs c.point-point.result c.args.state.now.calls.running.point c.in-Some.instr.now c.point-point.ensures c.in-Some.ensures.item in
    may_make c.args.code.now c.requires.formed c.args.state.now c.requires.well c.in-Some.instr.now at c.in-Some.instr.now.op refl making

pub act_alone-requires-clause-grows : goal.act_alone-requires-clause-grows
act_alone-requires-clause-grows g c = λ is.
    let at = found c.args.code.now.instrs c.point-point.result c.args.state.now.calls.running.point c.in-Some.instr.now c.point-point.ensures c.in-Some.ensures.item in
    may_grow c.args.code.now c.requires.formed c.args.state.now c.requires.well c.in-Some.instr.now at is

pub act_alone-requires-clause-small : goal.act_alone-requires-clause-small
act_alone-requires-clause-small g c = λ ranges. small c.args.code.now c.requires.formed c.args.state.now c.requires.well

pub act_alone-requires-clause-may : goal.act_alone-requires-clause-may
act_alone-requires-clause-may g c = λ is.
    let at = found c.args.code.now.instrs c.point-point.result c.args.state.now.calls.running.point c.in-Some.instr.now c.point-point.ensures c.in-Some.ensures.item in
    may_call c.args.code.now c.requires.formed c.args.state.now c.requires.well c.in-Some.instr.now at is

pub act_alone-requires-clause-waits : goal.act_alone-requires-clause-waits
act_alone-requires-clause-waits g c = waits c.args.code.now c.requires.formed c.args.state.now c.requires.well

pub act_alone-requires-clause-locals : goal.act_alone-requires-clause-locals
act_alone-requires-clause-locals g c = all_locals c.args.code.now c.requires.formed c.args.state.now c.requires.well

pub act_alone-requires-clause-standing : goal.act_alone-requires-clause-standing
act_alone-requires-clause-standing g c =
    let w = c.requires.well in
    let at = found c.args.code.now.instrs c.point-point.result c.args.state.now.calls.running.point c.in-Some.instr.now c.point-point.ensures c.in-Some.ensures.item in
    (w.places, w.state, stands_before c.args.code.now c.requires.formed c.args.state.now w c.running_pins_are_fresh.ensures c.all_fit.ensures.taken c.all_fit.ensures.within c.in-Some.instr.now at)

pub act_alone-requires-clause-returns : goal.act_alone-requires-clause-returns
act_alone-requires-clause-returns g c = λ is.
    let w = c.requires.well in
    let at = found c.args.code.now.instrs c.point-point.result c.args.state.now.calls.running.point c.in-Some.instr.now c.point-point.ensures c.in-Some.ensures.item in
    (w.places, w.state, number (pos 0), may_return c.args.code.now c.requires.formed c.args.state.now w c.running_pins_are_fresh.ensures c.all_fit.ensures.taken c.all_fit.ensures.within c.in-Some.instr.now at (λ grows. cc) (number (pos 0)) no_word refl)

pub act_alone-requires-clause-gives : goal.act_alone-requires-clause-gives
act_alone-requires-clause-gives g c = λ is.
    let w = c.requires.well in
    let at = found c.args.code.now.instrs c.point-point.result c.args.state.now.calls.running.point c.in-Some.instr.now c.point-point.ensures c.in-Some.ensures.item in
    let v = get_or w.state.handed 0 (number (pos 0)) in
    (w.places, w.state, v, may_return c.args.code.now c.requires.formed c.args.state.now w c.running_pins_are_fresh.ensures c.all_fit.ensures.taken c.all_fit.ensures.within c.in-Some.instr.now at (λ grows. cc) v _ (word_at w.places w.state.state.objects w.state.handed c.args.state.now.handed 0 w.stands.handed))

pub act_alone-requires-clause-pins : goal.act_alone-requires-clause-pins
act_alone-requires-clause-pins g c = c.requires.well.ready.pins

pub act_alone-requires-clause-deep : goal.act_alone-requires-clause-deep
act_alone-requires-clause-deep g c = one_scope_more c.args.code.now c.args.state.now c.requires.well

pub act_alone-requires-clause-open : goal.act_alone-requires-clause-open
act_alone-requires-clause-open g c = λ is.
    let at = found c.args.code.now.instrs c.point-point.result c.args.state.now.calls.running.point c.in-Some.instr.now c.point-point.ensures c.in-Some.ensures.item in
    some_scope c.args.code.now c.requires.formed c.args.state.now c.requires.well c.in-Some.instr.now at is

pub returns-in_default-op-clause-told : goal.returns-in_default-op-clause-told
returns-in_default-op-clause-told g c = λ places s taken h good l t.
    let at = found c.args.code.now.instrs c.point-point.result c.args.state.now.calls.running.point c.in-Some.instr.now c.point-point.ensures c.in-Some.ensures.item in
    let line = found_line c.args.code.now.lines c.point-point.result c.args.state.now.calls.running.point c.in-Some-get.line.now c.point-point.ensures c.in-Some-get.ensures.item in
    let next = hand_or_act c.args.code.now (fits_now places s c.args.state.now) c.in-Some-get.line.now c.in-Some.instr.now (handed_value s.state.running c.in-Some.instr.now c.in-Some.instr.now.op) s in
    let acts = step_is c.args.code.now (fits_now places s c.args.state.now) places s c.args.state.now h c.in-Some.instr.now at c.in-Some-get.line.now line in
    let fresh = hands_fresh c.args.code.now places s c.args.state.now h good c.in-Some.instr.now at in
    let counts = counts_well c.args.code.now c.requires.formed c.running_pins_are_fresh.ensures places s c.args.state.now h good c.requires.well.ready.pins c.requires.well.ready.statics c.in-Some.instr.now at in
    let told = seen_alone places s c.args.state.now next taken c.act_alone.new.state c.act_alone.result (c.act_alone.ensures.alone places s h counts fresh refl) in
    rw (l, t) (seen_as c.args.state.now c.act_alone.new.state next (step_by c.args.code.now (fits_now places s c.args.state.now) s) acts c.act_alone.result places s s.state.input taken _ _ told)

pub returns-in_default-op-clause-moves : goal.returns-in_default-op-clause-moves
returns-in_default-op-clause-moves g c = λ places s h good.
    let at = found c.args.code.now.instrs c.point-point.result c.args.state.now.calls.running.point c.in-Some.instr.now c.point-point.ensures c.in-Some.ensures.item in
    let line = found_line c.args.code.now.lines c.point-point.result c.args.state.now.calls.running.point c.in-Some-get.line.now c.point-point.ensures c.in-Some-get.ensures.item in
    let stands = stands_input places s c.args.state.now h [] in
    let next = hand_or_act c.args.code.now (fits_now places s c.args.state.now) c.in-Some-get.line.now c.in-Some.instr.now (handed_value s.state.running c.in-Some.instr.now c.in-Some.instr.now.op) (record s { state = with_input [] s.state }) in
    let acts = step_is c.args.code.now (fits_now places s c.args.state.now) places (record s { state = with_input [] s.state }) c.args.state.now stands c.in-Some.instr.now at c.in-Some-get.line.now line in
    let fresh = hands_fresh c.args.code.now places (record s { state = with_input [] s.state }) c.args.state.now stands good c.in-Some.instr.now at in
    let counts = counts_well c.args.code.now c.requires.formed c.running_pins_are_fresh.ensures places (record s { state = with_input [] s.state }) c.args.state.now stands good c.requires.well.ready.pins c.requires.well.ready.statics c.in-Some.instr.now at in
    let moves = moves_alone places (record s { state = with_input [] s.state }) c.args.state.now next c.act_alone.new.state c.act_alone.result (c.act_alone.ensures.alone places (record s { state = with_input [] s.state }) stands counts fresh refl) in
    ([], no_bytes, moves_as c.args.state.now c.act_alone.new.state next (step_by c.args.code.now (fits_now places s c.args.state.now) (record s { state = with_input [] s.state })) acts c.act_alone.result moves)

pub returns-in_default-op-clause-faults : goal.returns-in_default-op-clause-faults
returns-in_default-op-clause-faults g c =
    let w = c.requires.well in
    let at = found c.args.code.now.instrs c.point-point.result c.args.state.now.calls.running.point c.in-Some.instr.now c.point-point.ensures c.in-Some.ensures.item in
    let good : IsGoodSoFar c.args.code.now w.state = λ left bytes. good_input c.args.code.now w.state left bytes w.good in
    let fresh = hands_fresh c.args.code.now w.places w.state c.args.state.now w.stands good c.in-Some.instr.now at in
    let counts = counts_well c.args.code.now c.requires.formed c.running_pins_are_fresh.ensures w.places w.state c.args.state.now w.stands good w.ready.pins w.ready.statics c.in-Some.instr.now at in
    counts_alone w.places w.state c.args.state.now _ c.act_alone.new.state c.act_alone.result _ _ (c.act_alone.ensures.alone w.places w.state w.stands counts fresh refl)

pub returns-in_default-op-clause-settled : goal.returns-in_default-op-clause-settled
returns-in_default-op-clause-settled g c =
    let w = c.requires.well in
    let at = found c.args.code.now.instrs c.point-point.result c.args.state.now.calls.running.point c.in-Some.instr.now c.point-point.ensures c.in-Some.ensures.item in
    let good : IsGoodSoFar c.args.code.now w.state = λ left bytes. good_input c.args.code.now w.state left bytes w.good in
    let fresh = hands_fresh c.args.code.now w.places w.state c.args.state.now w.stands good c.in-Some.instr.now at in
    let counts = counts_well c.args.code.now c.requires.formed c.running_pins_are_fresh.ensures w.places w.state c.args.state.now w.stands good w.ready.pins w.ready.statics c.in-Some.instr.now at in
    unread _ c.act_alone.result 0 0 (λ i. counts_alone w.places w.state c.args.state.now _ c.act_alone.new.state c.act_alone.result i 0 (c.act_alone.ensures.alone w.places w.state w.stands counts fresh refl))

-- Ends

pub returns-in-Lib-clause-image : goal.returns-in-Lib-clause-image
returns-in-Lib-clause-image g c = λ places s h good.
    let at = found c.args.code.now.instrs c.point-point.result c.args.state.now.calls.running.point c.in-Some.instr.now c.point-point.ensures c.in-Some.ensures.item in
    let line = found_line c.args.code.now.lines c.point-point.result c.args.state.now.calls.running.point c.in-Some-get.line.now c.point-point.ensures c.in-Some-get.ensures.item in
    let counts = counts_well c.args.code.now c.requires.formed c.running_pins_are_fresh.ensures places s c.args.state.now h good c.requires.well.ready.pins c.requires.well.ready.statics c.in-Some.instr.now at in
    let acts = step_acts c.args.code.now (fits_now places s c.args.state.now) places s c.args.state.now h c.in-Some.instr.now at c.in-Some-get.line.now line (op.Lib c.in-Lib.name) c.in-Lib.is refl in
    image_is c.args.code.now _ (step_by c.args.code.now (fits_now places s c.args.state.now) s) (sym acts) c.act_built_in.new.self c.act_built_in.result
    (built_in_image c.args.code.now places s c.args.state.now c.act_built_in.new.self h c.requires.well.ready.pins (numbers_before c.args.state.now c.in-Some.instr.now c.in-Some.instr.now.op s counts) _ (lib_is_still c.args.code.now (fits_now places s c.args.state.now) c.in-Some-get.line.now c.in-Some.instr.now c.in-Lib.name s.handed s.numbers s.state) c.act_built_in.result c.act_built_in.ensures.unchanged)

pub returns-in-Printf-clause-image : goal.returns-in-Printf-clause-image
returns-in-Printf-clause-image g c = λ places s h good.
    let at = found c.args.code.now.instrs c.point-point.result c.args.state.now.calls.running.point c.in-Some.instr.now c.point-point.ensures c.in-Some.ensures.item in
    let line = found_line c.args.code.now.lines c.point-point.result c.args.state.now.calls.running.point c.in-Some-get.line.now c.point-point.ensures c.in-Some-get.ensures.item in
    let counts = counts_well c.args.code.now c.requires.formed c.running_pins_are_fresh.ensures places s c.args.state.now h good c.requires.well.ready.pins c.requires.well.ready.statics c.in-Some.instr.now at in
    let acts = step_acts c.args.code.now (fits_now places s c.args.state.now) places s c.args.state.now h c.in-Some.instr.now at c.in-Some-get.line.now line op.Printf c.in-Printf.is refl in
    image_is c.args.code.now _ (step_by c.args.code.now (fits_now places s c.args.state.now) s) (sym acts) c.act_printf.new.self c.act_printf.result
    (built_in_image c.args.code.now places s c.args.state.now c.act_printf.new.self h c.requires.well.ready.pins (numbers_before c.args.state.now c.in-Some.instr.now c.in-Some.instr.now.op s counts) _ (print_is_still c.args.code.now (fits_now places s c.args.state.now) c.in-Some-get.line.now c.in-Some.instr.now s.handed s.numbers s.state) c.act_printf.result c.act_printf.ensures.unchanged)

pub returns-in_default-op-clause-image : goal.returns-in_default-op-clause-image
returns-in_default-op-clause-image g c = λ places s h good.
    let at = found c.args.code.now.instrs c.point-point.result c.args.state.now.calls.running.point c.in-Some.instr.now c.point-point.ensures c.in-Some.ensures.item in
    let line = found_line c.args.code.now.lines c.point-point.result c.args.state.now.calls.running.point c.in-Some-get.line.now c.point-point.ensures c.in-Some-get.ensures.item in
    let counts = counts_well c.args.code.now c.requires.formed c.running_pins_are_fresh.ensures places s c.args.state.now h good c.requires.well.ready.pins c.requires.well.ready.statics c.in-Some.instr.now at in
    let acts = step_is c.args.code.now (fits_now places s c.args.state.now) places s c.args.state.now h c.in-Some.instr.now at c.in-Some-get.line.now line in
    let fresh = hands_fresh c.args.code.now places s c.args.state.now h good c.in-Some.instr.now at in
    image_is c.args.code.now _ (step_by c.args.code.now (fits_now places s c.args.state.now) s) (sym acts) c.act_alone.new.state c.act_alone.result (c.act_alone.ensures.image places s h counts fresh refl)
