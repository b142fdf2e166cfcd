use Rattle.std.proofs.Common.{refl, sym, subst}
use Rattle.c_decls.specs.Refusals.{Checked}
use Rattle.c_tree.specs.StatementView.{unit_view}
use Rattle.c_elab.specs.Core.{core_in}
use Rattle.core_tree.specs.declared.program.Core.{Core}
use Rattle.heapsafe.specs.Execution.{AnswersCompiled}
use Rattle.heapsafe.specs.Serving.{WritesSome}
use Rattle.heapsafe.proofs.Typed.{serves_untyped}
use Rattle.heapsafe.proofs.written.core_compiled.Goals as goal

pub returns-in-Ok : goal.returns-in-Ok
returns-in-Ok g c =
    subst (λ (w : Checked Core). WritesSome (λ a. AnswersCompiled c.args.opened.now w a) c.args.io.now c.write_compiled.new.io c.write_compiled.result) (sym c.in-Ok.ensures.core) c.write_compiled.ensures

pub returns-in-Err : goal.returns-in-Err
returns-in-Err g c =
    serves_untyped _ _ _ _ _ _ c.in-Err.error c.args.opened.now (core_in (unit_view c.args.unit.now)) (λ _ w a. AnswersCompiled c.args.opened.now w a)
    (λ _ _. refl) (λ _ _ _ is. is) c.in-Err.ensures.core c.refuse_types.ensures
