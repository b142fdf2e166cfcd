use Rattle.std.proofs.Common.{refl, sym, subst}
use Rattle.c_decls.specs.Refusals.{Checked}
use Rattle.c_tree.specs.StatementView.{unit_view}
use Rattle.c_elab.specs.Core.{core_in}
use Rattle.core_tree.specs.declared.program.Core.{Core}
use Rattle.heapsafe.specs.Answer.{AnswersTypes}
use Rattle.heapsafe.specs.Program.{OnMachine}
use Rattle.heapsafe.specs.Serving.{Runs}
use Rattle.heapsafe.proofs.Typed.{serves_untyped}
use Rattle.heapsafe.proofs.program.run_program.Goals as goal

pub returns-in-Ok : goal.returns-in-Ok
returns-in-Ok g c =
    subst (λ (w : Checked Core). Runs (OnMachine c.args.way) (λ i a. AnswersTypes c.args.file.now c.args.opened.now w i c.args.way a) c.args.io.now c.go.new.io c.go.result) (sym c.in-Ok.ensures.core) c.go.ensures

pub returns-in-Err : goal.returns-in-Err
returns-in-Err g c =
    serves_untyped _ _ _ _ _ _ c.in-Err.error c.args.opened.now (core_in (unit_view c.args.unit.now)) (λ i w a. AnswersTypes c.args.file.now c.args.opened.now w i c.args.way a)
    (λ _ _. refl) (λ _ _ _ is. is) c.in-Err.ensures.core c.refuse_types.ensures
