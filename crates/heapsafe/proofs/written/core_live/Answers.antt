use Rattle.std.proofs.Common.{◌≡◌, refl, sym, subst}
use Rattle.c_decls.specs.Refusals.{Checked}
use Rattle.c_tree.specs.StatementView.{unit_view}
use Rattle.c_elab.specs.Core.{core_in}
use Rattle.core_tree.specs.declared.program.Core.{Core}
use Rattle.heapsafe.specs.Serving.{Writes}
use Rattle.heapsafe.specs.Shown.{live_shown}
use Rattle.heapsafe.proofs.Typed.{serves_untyped}
use Rattle.heapsafe.proofs.written.core_live.Goals as goal

pub returns-in-Ok : goal.returns-in-Ok
returns-in-Ok g c =
    subst (λ (w : Checked Core). Writes (live_shown c.args.opened.now w) c.args.io.now c.write_live.new.io c.write_live.result) (sym c.in-Ok.ensures.core) c.write_live.ensures

pub returns-in-Err : goal.returns-in-Err
returns-in-Err g c =
    serves_untyped _ _ _ _ _ _ c.in-Err.error c.args.opened.now (core_in (unit_view c.args.unit.now)) (λ _ w a. a ≡ live_shown c.args.opened.now w)
    (λ _ _. refl) (λ _ _ _ is. is) c.in-Err.ensures.core c.refuse_types.ensures
