use Rattle.std.proofs.Common.{[], sym, subst, ⊎_elim}
use Rattle.object_meaning.specs.objects.Builtins.{call_lib}
use Rattle.object_meaning.specs.code.CodeState.{CodeState, other_numbers}
use Rattle.object_meaning.specs.code.CodeMeaning.{behind_lib}
use Rattle.meaning_run.specs.Leading.{with_input}
use Rattle.flat_machine.specs.Groups.{IsRangeLib}
use Rattle.flat_machine.proofs.Inputs.{no_bytes}
use Rattle.flat_machine.proofs.Stays.{stands_input}
use Rattle.flat_machine.proofs.Stepped.{lib_same, plain_lib, seen_alone, moves_alone, seen_as, moves_as}
use Rattle.flat_machine.proofs.Seen.{unread}
use Rattle.flat_machine.proofs.state.State.act_built_in.Goals as goal

pub act_lib-requires-clause-name : goal.act_lib-requires-clause-name
act_lib-requires-clause-name g c = plain_lib c.args.name c.in_default.not-Memcpy c.in_default.not-Memmove c.in_default.not-Memset

pub returns-in_default-clause-told : goal.returns-in_default-clause-told
returns-in_default-clause-told g c = λ places s taken h l t.
    let next = call_lib c.args.line c.args.name c.args.r s.handed s.state in
    let plain = plain_lib c.args.name c.in_default.not-Memcpy c.in_default.not-Memmove c.in_default.not-Memset in
    let same = lib_same c.args.name plain s.handed s.numbers next in
    seen_as c.args.self.now c.act_lib.new.self _ (other_numbers (behind_lib c.args.name s.handed s.numbers) s.numbers next) (sym same) c.act_lib.result places s s.state.input taken _ _ (c.act_lib.ensures.told places s taken h l t)

pub returns-in_default-clause-moves : goal.returns-in_default-clause-moves
returns-in_default-clause-moves g c = λ places s h.
    let moves = c.act_lib.ensures.moves places s h in
    let next = call_lib c.args.line c.args.name c.args.r s.handed (with_input moves.0 s.state) in
    let plain = plain_lib c.args.name c.in_default.not-Memcpy c.in_default.not-Memmove c.in_default.not-Memset in
    let same = lib_same c.args.name plain s.handed s.numbers next in
    (moves.0, moves.1, moves_as c.args.self.now c.act_lib.new.self _ (other_numbers (behind_lib c.args.name s.handed s.numbers) s.numbers next) (sym same) c.act_lib.result moves.2)

pub returns-in-Memcpy-clause-told : goal.returns-in-Memcpy-clause-told
returns-in-Memcpy-clause-told g c = λ places s taken h l t.
    rw (l, t) (seen_alone places s c.args.self.now (other_numbers (behind_lib c.args.name s.handed s.numbers) s.numbers (call_lib c.args.line c.args.name c.args.r s.handed s.state)) taken c.act_range_lib.new.self c.act_range_lib.result (c.act_range_lib.ensures.leads places s h))

pub returns-in-Memcpy-clause-moves : goal.returns-in-Memcpy-clause-moves
returns-in-Memcpy-clause-moves g c = λ places s h.
    let none : CodeState = record s { state = with_input [] s.state } in
    ([], no_bytes, moves_alone places none c.args.self.now (other_numbers (behind_lib c.args.name s.handed s.numbers) s.numbers (call_lib c.args.line c.args.name c.args.r s.handed none.state)) c.act_range_lib.new.self c.act_range_lib.result (c.act_range_lib.ensures.leads places none (stands_input places s c.args.self.now h [])))

pub returns-in-Memcpy-clause-faults : goal.returns-in-Memcpy-clause-faults
returns-in-Memcpy-clause-faults g c = λ places s h. c.act_range_lib.ensures.faults _ _

pub returns-in-Memcpy-clause-settled : goal.returns-in-Memcpy-clause-settled
returns-in-Memcpy-clause-settled g c = unread _ c.act_range_lib.result 0 0 (λ i. c.act_range_lib.ensures.faults i 0)

pub act_range_lib-requires-clause-name : goal.act_range_lib-requires-clause-name
act_range_lib-requires-clause-name g c =
    ⊎_elim (λ h. subst IsRangeLib (sym h) tt) (λ more. ⊎_elim (λ h. subst IsRangeLib (sym h) tt) (λ h. subst IsRangeLib (sym h) tt) more) c.in-Memcpy.is
