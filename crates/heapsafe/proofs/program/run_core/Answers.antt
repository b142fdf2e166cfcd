use Rattle.std.proofs.Common.{ℕ, List, Option, None, ap, refl, subst}
use Rattle.std.specs.Prelude.{⊤}
use Rattle.hs_base.specs.declared.ends.End.{End}
use Rattle.hs_base.specs.Object.{Object}
use Rattle.hs_base.specs.Trace.{Event}
use Rattle.flat_codegen.specs.Lasting.{LeavesImage, cut_run}
use Rattle.heapsafe.specs.declared.program.Way.TheVariants.{Run}
use Rattle.heapsafe.specs.Program.{AnswersWay, explains_run}
use Rattle.heapsafe.specs.Serving.{Runs}
use Rattle.heapsafe.proofs.Executed.{Makes, core_ends, core_events, core_makes, kept_counts, kept_puts, known_at, serves_done}
use Rattle.heapsafe.proofs.Served.{seen_from, said_behind, serves_none}
use Rattle.heapsafe.proofs.program.run_core.Goals as goal

pub returns-in-Ok : goal.returns-in-Ok
returns-in-Ok g c =
    let core = c.args.core.now in
    let limits = c.args.limits in
    let steps = c.args.steps in
    let none : Option (List ℕ) = None in
    let events : List ℕ → List Event = λ left. core_events core left steps limits none none in
    let ends : List ℕ → Option End = λ left. core_ends core left steps limits none none in
    let objects : List ℕ → List Object = λ left. (cut_run core left steps limits).state.objects in
    let keeps = c.finish_run.ensures.keeps in
    let after = c.finish_run.new.io in
    let result = c.finish_run.result in
    seen_from (λ b a r. Runs ⊤ (λ i s. AnswersWay c.args.file.now c.args.opened.now core i (Run limits steps c.args.leaks c.args.explain) s) b a r) _ _ _ _ c.io.view_is
    (serves_done c.args.file.now c.args.opened.now core c.explains_run.result _ after result ⊤ c.in-Ok.end c.args.leaks events ends objects (λ left. explains_run c.args.explain steps limits (objects left))
    (λ left k. known_at c.args.explain steps limits c.in-Ok.machine.kept.memory c.in-Ok.ensures.kept c.explains_run.result (objects left) c.in-Ok.end c.explains_run.ensures (λ why holder is.
    let ran = c.in-Ok.ensures.ran left k in
    let image = subst (λ (x : End). LeavesImage core ran.0 left steps limits x c.in-Ok.machine.kept) is ran.2.image in (image.places, image.agrees.keeps)))
    (kept_counts _ _ keeps c.in-Ok.end _ _ c.in-Ok.ensures.faults)
    (λ left k.
    let p = (c.in-Ok.ensures.ran left k).2.told in
    kept_puts _ _ keeps (Makes (events left) (ends left) left c.in-Ok.end) _ (record { put = p.put; is = core_makes core left steps limits _ _ c.in-Ok.end p.is; took = p.took }))
    (λ left k. record {
      none = c.finish_run.ensures.says;
      some = λ code asked is.
          let ran = c.in-Ok.ensures.ran left k in
          let image = subst (λ (x : End). LeavesImage core ran.0 left steps limits x c.in-Ok.machine.kept) is ran.2.image in
          let told = c.finish_run.ensures.leaks code asked is image.places (objects left) image.agrees.keeps in
          record { says = told.says; all = told.all };
    })
    c.finish_run.ensures.says c.finish_run.ensures.counts c.finish_run.ensures.own keeps.form)

pub returns-in-Err : goal.returns-in-Err
returns-in-Err g c =
    seen_from (λ b a r. Runs ⊤ (λ i s. AnswersWay c.args.file.now c.args.opened.now c.args.core.now i (Run c.args.limits c.args.steps c.args.leaks c.args.explain) s) b a r) _ _ _ _ c.io.view_is
    (serves_none _ _ _ _ _ _ _ (said_behind _ _ _ _ _ (record { input = c.in-Err.ensures.input_stays; left = ap g.I.Source.left c.in-Err.ensures.input_stays; faults = ap g.I.Source.faults c.in-Err.ensures.input_stays }) (record { out = c.in-Err.ensures.out_stays; taken = ap g.O.Sink.taken c.in-Err.ensures.out_stays; faults = ap g.O.Sink.faults c.in-Err.ensures.out_stays }) refl refl refl c.refuse.ensures))
