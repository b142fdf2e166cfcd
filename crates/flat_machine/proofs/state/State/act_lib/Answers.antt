use Rattle.std.proofs.Common.{[], ◌++◌, refl, rules, sym, subst, ◌∙◌}
use Rattle.std.proofs.lemmas.Int.{to_z-of_z}
use mir.Syntax.{w128}
use mir.Val.{SFits}
use Rattle.flat_machine.proofs.WordLists.{integer_at_is}
use Rattle.flat_machine.proofs.Stays.{stands_input}
use Rattle.core_tree.specs.declared.statements.LibName.TheVariants as lib
use Rattle.object_meaning.specs.objects.Builtins.{byte_in, call_lib, put_byte}
use Rattle.flat_machine.specs.Noting.{told}
use Rattle.flat_machine.specs.Leading.{Counted}
use Rattle.object_meaning.specs.code.CodeState.{CodeState, same_numbers}
use Rattle.flat_machine.proofs.Stepped.{seen_alone, moves_alone}
use Rattle.flat_machine.proofs.Inputs.{no_bytes}
use Rattle.flat_machine.proofs.OneByte.{exit_seen, abort_seen}
use Rattle.flat_machine.proofs.Seen.{seen_told, seen_faults, unread}
use Rattle.flat_machine.proofs.state.State.act_lib.Goals as goal

pub returns-in-Getchar-clause-told : goal.returns-in-Getchar-clause-told
returns-in-Getchar-clause-told g c = λ places s taken h l t. rw c.in-Getchar.is (c.get.ensures.told places s taken h l t)

pub returns-in-Getchar-clause-moves : goal.returns-in-Getchar-clause-moves
returns-in-Getchar-clause-moves g c = λ places s h. rw c.in-Getchar.is (c.get.ensures.moves places s h)

pub returns-in-Putchar-clause-told : goal.returns-in-Putchar-clause-told
returns-in-Putchar-clause-told g c = λ places s taken h l t.
    let fits : SFits w128 c.integer.result = search rules in
    let old = c.args.console.now in
    let new = c.put_char.new.out in
    let notes = old.done.notes ++ old.page.notes in
    let before = told (g.I.Source.faults old.input.now) notes in
    let next = same_numbers s.numbers (put_byte c.args.r (byte_in c.integer.result) s.state) in
    let put = rw (to_z-of_z w128 c.integer.result fits) at (c.put_char.ensures.told places s before h refl) in
    let number = c.integer.ensures ∙ integer_at_is places s.state.objects s.handed c.args.self.now.handed 0 h.handed in
    let seen = seen_told places s c.args.self.now next s.state.input c.put_char.result c.put_char.new.self (g.I.Source.faults old.input.now) (g.I.Source.faults new.input.now) notes (new.done.notes ++ new.page.notes) put g.K.Lent.left taken l t in
    rw (c.in-Putchar.is, ← number) seen

pub returns-in-Putchar-clause-faults : goal.returns-in-Putchar-clause-faults
returns-in-Putchar-clause-faults g c = λ places s h.
    let fits : SFits w128 c.integer.result = search rules in
    let old = c.args.console.now in
    let new = c.put_char.new.out in
    let notes = old.done.notes ++ old.page.notes in
    let before = told (g.I.Source.faults old.input.now) notes in
    let next = same_numbers s.numbers (put_byte c.args.r (byte_in c.integer.result) s.state) in
    let put = rw (to_z-of_z w128 c.integer.result fits) at (c.put_char.ensures.told places s before h refl) in
    let same = seen_faults places s c.args.self.now next s.state.input c.put_char.result c.put_char.new.self (g.I.Source.faults old.input.now) (g.I.Source.faults new.input.now) notes (new.done.notes ++ new.page.notes) put in
    subst (λ k. Counted c.put_char.result (g.I.Source.faults old.input.now) k (g.O.Sink.faults old.out.now) (g.O.Sink.faults new.out.now)) (sym same) (c.put_char.ensures.faults (g.I.Source.faults old.input.now))

pub returns-in-Putchar-clause-settled : goal.returns-in-Putchar-clause-settled
returns-in-Putchar-clause-settled g c = unread _ c.put_char.result _ _ c.put_char.ensures.faults

pub returns-in-Putchar-clause-moves : goal.returns-in-Putchar-clause-moves
returns-in-Putchar-clause-moves g c = λ places s h.
    let fits : SFits w128 c.integer.result = search rules in
    let moves = rw (to_z-of_z w128 c.integer.result fits) at (c.put_char.ensures.moves places (record s { state = record s.state { input = [] } }) (stands_input places s c.args.self.now h [])) in
    let number = c.integer.ensures ∙ integer_at_is places s.state.objects s.handed c.args.self.now.handed 0 h.handed in
    ([], no_bytes, rw (c.in-Putchar.is, ← number) moves)

pub returns-in-Puts-clause-told : goal.returns-in-Puts-clause-told
returns-in-Puts-clause-told g c = λ places s taken h l t.
    let old = c.args.console.now in
    let new = c.act_puts.new.out in
    let notes = old.done.notes ++ old.page.notes in
    let before = told (g.I.Source.faults old.input.now) notes in
    let next = same_numbers s.numbers (call_lib c.args.line lib.Puts c.args.r s.handed s.state) in
    let put = c.act_puts.ensures.told places s before h refl in
    rw c.in-Puts.is (seen_told places s c.args.self.now next s.state.input c.act_puts.result c.act_puts.new.self (g.I.Source.faults old.input.now) (g.I.Source.faults new.input.now) notes (new.done.notes ++ new.page.notes) put g.K.Lent.left taken l t)

pub returns-in-Puts-clause-faults : goal.returns-in-Puts-clause-faults
returns-in-Puts-clause-faults g c = λ places s h.
    let old = c.args.console.now in
    let new = c.act_puts.new.out in
    let notes = old.done.notes ++ old.page.notes in
    let before = told (g.I.Source.faults old.input.now) notes in
    let next = same_numbers s.numbers (call_lib c.args.line lib.Puts c.args.r s.handed s.state) in
    let put = c.act_puts.ensures.told places s before h refl in
    let same = seen_faults places s c.args.self.now next s.state.input c.act_puts.result c.act_puts.new.self (g.I.Source.faults old.input.now) (g.I.Source.faults new.input.now) notes (new.done.notes ++ new.page.notes) put in
    subst (λ k. Counted c.act_puts.result (g.I.Source.faults old.input.now) k (g.O.Sink.faults old.out.now) (g.O.Sink.faults new.out.now)) (sym same) (c.act_puts.ensures.faults (g.I.Source.faults old.input.now))

pub returns-in-Puts-clause-settled : goal.returns-in-Puts-clause-settled
returns-in-Puts-clause-settled g c = unread _ c.act_puts.result _ _ c.act_puts.ensures.faults

pub returns-in-Puts-clause-moves : goal.returns-in-Puts-clause-moves
returns-in-Puts-clause-moves g c = λ places s h.
    let none : CodeState = record s { state = record s.state { input = [] } } in
    ([], no_bytes, rw c.in-Puts.is (c.act_puts.ensures.moves places none (stands_input places s c.args.self.now h [])))

pub returns-in-Exit-clause-told : goal.returns-in-Exit-clause-told
returns-in-Exit-clause-told g c = λ places s taken h l t.
    let fits : SFits w128 c.integer-in-Exit.result = search rules in
    let byte = rw (to_z-of_z w128 c.integer-in-Exit.result fits) at c.byte_in.ensures in
    let number = c.integer-in-Exit.ensures ∙ integer_at_is places s.state.objects s.handed c.args.self.now.handed 0 h.handed in
    rw c.in-Exit.is (exit_seen c.args.r places s c.args.self.now c.args.self.now h c.args.line c.byte_in.result c.integer-in-Exit.result taken _ _ byte number l t)

pub returns-in-Exit-clause-moves : goal.returns-in-Exit-clause-moves
returns-in-Exit-clause-moves g c = λ places s h. ([], no_bytes, tt)

pub returns-in-Abort-clause-told : goal.returns-in-Abort-clause-told
returns-in-Abort-clause-told g c = λ places s taken h l t.
    rw c.in-Abort.is (abort_seen c.args.r places s c.args.self.now c.args.self.now h c.args.line taken _ _ l t)

pub returns-in-Abort-clause-moves : goal.returns-in-Abort-clause-moves
returns-in-Abort-clause-moves g c = λ places s h. ([], no_bytes, tt)

pub returns-in-Strlen-clause-told : goal.returns-in-Strlen-clause-told
returns-in-Strlen-clause-told g c = λ places s taken h l t.
    rw (l, t) (seen_alone places s c.args.self.now (same_numbers s.numbers (call_lib c.args.line c.args.name c.args.r s.handed s.state)) taken c.act_string.new.self c.act_string.result (c.act_string.ensures.leads places s h))

pub returns-in-Strlen-clause-moves : goal.returns-in-Strlen-clause-moves
returns-in-Strlen-clause-moves g c = λ places s h.
    let none : CodeState = record s { state = record s.state { input = [] } } in
    ([], no_bytes, moves_alone places none c.args.self.now (same_numbers s.numbers (call_lib c.args.line c.args.name c.args.r s.handed none.state)) c.act_string.new.self c.act_string.result (c.act_string.ensures.leads places none (stands_input places s c.args.self.now h [])))

pub returns-in-Strlen-clause-faults : goal.returns-in-Strlen-clause-faults
returns-in-Strlen-clause-faults g c = λ places s h. c.act_string.ensures.faults _ _

pub returns-in-Strlen-clause-settled : goal.returns-in-Strlen-clause-settled
returns-in-Strlen-clause-settled g c = unread _ c.act_string.result 0 0 (λ i. c.act_string.ensures.faults i 0)
