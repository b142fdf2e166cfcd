use Rattle.std.proofs.Common.{◌≡◌, refl, sym, subst}
use Rattle.c_decls.specs.Refusals.{Checked}
use Rattle.c_tree.specs.StatementView.{unit_view}
use Rattle.elaboration.specs.Elaboration.{tags_of}
use Rattle.c_types.specs.TagTable.{TagTable}
use Rattle.heapsafe.specs.Serving.{Writes}
use Rattle.heapsafe.specs.Shown.{layouts_shown}
use Rattle.heapsafe.proofs.Typed.{serves_untyped}
use Rattle.heapsafe.proofs.written.layouts.Goals as goal

pub returns-in-Ok : goal.returns-in-Ok
returns-in-Ok g c =
    subst (λ (w : Checked TagTable). Writes (layouts_shown c.args.opened.now w) c.args.io.now c.write_layouts.new.io c.write_layouts.result) (sym c.in-Ok.ensures) c.write_layouts.ensures

pub returns-in-Err : goal.returns-in-Err
returns-in-Err g c =
    serves_untyped _ _ _ _ _ _ c.in-Err.error c.args.opened.now (tags_of (unit_view c.args.unit.now)) (λ _ w a. a ≡ layouts_shown c.args.opened.now w)
    (λ _ _. refl) (λ _ _ _ is. is) c.in-Err.ensures c.refuse_types.ensures
