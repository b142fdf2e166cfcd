use Rattle.std.proofs.Common.{[], refl}
use Rattle.object_meaning.specs.objects.Holding.{statement_at}
use Rattle.core_tree.specs.declared.statements.StmKind.TheVariants.{Lib, Printf}
use Rattle.meaning_state.specs.Fitting.{fits_in}
use Rattle.meaning_run.specs.Leading.{with_input}
use Rattle.meaning_run.proofs.Bytes.{seen_alone, moves_alone, alone_counted}
use Rattle.std.specs.Prelude.{slice_get}
use Rattle.object_meaning.specs.objects.Builtins.{call_lib}
use Rattle.object_meaning.specs.objects.Meaning.{values_of, format_in, print_format}
use Rattle.meaning_run.proofs.Quiet.{placed_quiet, quiet_lib, quiet_printf}
use Rattle.meaning_run.proofs.Steps.{good_input, there, no_none, step_at, format_at, numbers_at, elements_at}
use Rattle.meaning_run.proofs.evaluate.one_step.Goals as goal

pub unreachable-requires : goal.unreachable-requires
unreachable-requires g c =
    no_none (statement_at c.args.core.now c.args.machine.now.running) (there c.statement_is_made.ensures c.args.core.now c.requires.sound c.args.machine.now c.requires.good) c.in_default.ensures.is

pub returns-in-Lib-clause-told : goal.returns-in-Lib-clause-told
returns-in-Lib-clause-told g c = λ left taken h i.
    let told = rw c.as_slice.ensures at (c.act_lib.ensures.told left taken h i) in
    rw (step_at c.statement_is_made.ensures c.args.core.now c.requires.sound (fits_in c.args.held.now) (with_input left c.args.machine.now) (good_input c.args.core.now c.args.machine.now left c.requires.good) c.in-Some.stm.now (Lib c.in-Lib.name c.in-Lib.r c.in-Lib.args) c.in-Some.ensures.is c.in-Lib.is) told

pub returns-in-Lib-clause-moves : goal.returns-in-Lib-clause-moves
returns-in-Lib-clause-moves g c =
    let m = rw c.as_slice.ensures at c.act_lib.ensures.moves in
    (m.0, rw (step_at c.statement_is_made.ensures c.args.core.now c.requires.sound (fits_in c.args.held.now) (with_input m.0 c.args.machine.now) (good_input c.args.core.now c.args.machine.now m.0 c.requires.good) c.in-Some.stm.now (Lib c.in-Lib.name c.in-Lib.r c.in-Lib.args) c.in-Some.ensures.is c.in-Lib.is) m.1)

pub act_printf-requires-clause-format : goal.act_printf-requires-clause-format
act_printf-requires-clause-format g c =
    format_at c.args.core.now c.requires.sound c.args.machine.now c.requires.good c.in-Some.stm.now c.in-Printf.r c.in-Printf.k c.in-Printf.args c.in-Some.ensures.is c.in-Printf.is

pub returns-in-Printf-clause-told : goal.returns-in-Printf-clause-told
returns-in-Printf-clause-told g c = λ left taken h i.
    let told = rw c.as_slice-in-Printf.ensures at (c.act_printf.ensures.told left taken i) in
    rw (step_at c.statement_is_made.ensures c.args.core.now c.requires.sound (fits_in c.args.held.now) (with_input left c.args.machine.now) (good_input c.args.core.now c.args.machine.now left c.requires.good) c.in-Some.stm.now (Printf c.in-Printf.r c.in-Printf.k c.in-Printf.args) c.in-Some.ensures.is c.in-Printf.is, h) told

pub returns-in-Printf-clause-moves : goal.returns-in-Printf-clause-moves
returns-in-Printf-clause-moves g c =
    let m = rw c.as_slice-in-Printf.ensures at (c.act_printf.ensures.moves []) in
    ([], rw (step_at c.statement_is_made.ensures c.args.core.now c.requires.sound (fits_in c.args.held.now) (with_input [] c.args.machine.now) (good_input c.args.core.now c.args.machine.now [] c.requires.good) c.in-Some.stm.now (Printf c.in-Printf.r c.in-Printf.k c.in-Printf.args) c.in-Some.ensures.is c.in-Printf.is) m)

pub act_alone-requires-clause-numbers : goal.act_alone-requires-clause-numbers
act_alone-requires-clause-numbers g c = numbers_at c.args.core.now c.requires.sound c.args.machine.now c.requires.good c.in-Some.stm.now c.in-Some.ensures.is

pub act_alone-requires-clause-elements : goal.act_alone-requires-clause-elements
act_alone-requires-clause-elements g c = elements_at c.layouts_of_types.ensures.sound c.args.core.now c.requires.sound c.args.machine.now c.requires.good c.in-Some.stm.now c.in-Some.ensures.is

pub returns-in_default-kind-clause-told : goal.returns-in_default-kind-clause-told
returns-in_default-kind-clause-told g c = λ left taken h i.
    let told = seen_alone _ left taken c.act_alone.new.machine c.act_alone.result (c.act_alone.ensures left).0 in
    rw (step_at c.statement_is_made.ensures c.args.core.now c.requires.sound (fits_in c.args.held.now) (with_input left c.args.machine.now) (good_input c.args.core.now c.args.machine.now left c.requires.good) c.in-Some.stm.now c.in-Some.stm.now.kind c.in-Some.ensures.is refl, h, i) told

pub returns-in_default-kind-clause-moves : goal.returns-in_default-kind-clause-moves
returns-in_default-kind-clause-moves g c =
    let m = moves_alone _ [] c.act_alone.new.machine c.act_alone.result (c.act_alone.ensures []).0 in
    ([], rw (step_at c.statement_is_made.ensures c.args.core.now c.requires.sound (fits_in c.args.held.now) (with_input [] c.args.machine.now) (good_input c.args.core.now c.args.machine.now [] c.requires.good) c.in-Some.stm.now c.in-Some.stm.now.kind c.in-Some.ensures.is refl) m)

pub returns-in_default-kind-clause-faults : goal.returns-in_default-kind-clause-faults
returns-in_default-kind-clause-faults g c = alone_counted _ [] c.act_alone.new.machine c.act_alone.result _ _ (c.act_alone.ensures []).0

pub returns-in-Lib-clause-held : goal.returns-in-Lib-clause-held
returns-in-Lib-clause-held g c = λ left.
    let at = with_input left c.args.machine.now in
    rw (step_at c.statement_is_made.ensures c.args.core.now c.requires.sound (fits_in c.args.held.now) at (good_input c.args.core.now c.args.machine.now left c.requires.good) c.in-Some.stm.now (Lib c.in-Lib.name c.in-Lib.r c.in-Lib.args) c.in-Some.ensures.is c.in-Lib.is) (placed_quiet (call_lib c.in-Some.stm.now.line c.in-Lib.name c.in-Lib.r (values_of at c.in-Lib.args) at) c.args.held.now c.act_lib.result (quiet_lib c.in-Some.stm.now.line c.in-Lib.name c.in-Lib.r (values_of at c.in-Lib.args) at))

pub returns-in-Printf-clause-held : goal.returns-in-Printf-clause-held
returns-in-Printf-clause-held g c = λ left.
    let at = with_input left c.args.machine.now in
    rw (step_at c.statement_is_made.ensures c.args.core.now c.requires.sound (fits_in c.args.held.now) at (good_input c.args.core.now c.args.machine.now left c.requires.good) c.in-Some.stm.now (Printf c.in-Printf.r c.in-Printf.k c.in-Printf.args) c.in-Some.ensures.is c.in-Printf.is) (let format = format_in (slice_get c.args.core.now.funcs at.running.func) c.in-Printf.k in placed_quiet (print_format c.in-Some.stm.now.line c.in-Printf.r format (values_of at c.in-Printf.args) at) c.args.held.now c.act_printf.result (quiet_printf c.in-Some.stm.now.line c.in-Printf.r format (values_of at c.in-Printf.args) at))

pub returns-in_default-kind-clause-held : goal.returns-in_default-kind-clause-held
returns-in_default-kind-clause-held g c = λ left.
    let at = with_input left c.args.machine.now in
    rw (step_at c.statement_is_made.ensures c.args.core.now c.requires.sound (fits_in c.args.held.now) at (good_input c.args.core.now c.args.machine.now left c.requires.good) c.in-Some.stm.now c.in-Some.stm.now.kind c.in-Some.ensures.is refl) (c.act_alone.ensures left).1
