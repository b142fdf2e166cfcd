use Rattle.std.proofs.Common.{ℕ, List, Option, None, ap, refl}
use Rattle.std.specs.Prelude.{⊤}
use Rattle.hs_base.specs.declared.ends.End.{End}
use Rattle.hs_base.specs.Object.{Object}
use Rattle.hs_base.specs.Trace.{Event}
use Rattle.object_meaning.specs.code.CodeMeaning.{meaning}
use Rattle.heapsafe.specs.Execution.{AnswersCode, code_within}
use Rattle.heapsafe.specs.Program.{Input, explains_run}
use Rattle.heapsafe.specs.Serving.{Runs}
use Rattle.heapsafe.proofs.Executed.{Makes, code_ends, code_events, code_makes, kept_bad_free, kept_counts, kept_exit, kept_puts, known_at, serves_alike, serves_done}
use Rattle.heapsafe.proofs.Served.{seen_from, said_behind, serves_none}
use Rattle.heapsafe.proofs.executing.run_verified.Goals as goal

pub returns-in-Ok : goal.returns-in-Ok
returns-in-Ok g c =
    let code = c.args.code.now.code in
    let file = c.args.file.now in
    let names = c.args.code.now.names in
    let asked = c.args.asked in
    let after = c.finish_run.new.io in
    let result = c.finish_run.result in
    let keeps = c.finish_run.ensures.keeps in
    let none : Option (List ℕ) = None in
    let events : List ℕ → List Event = λ left. code_events code left asked.steps asked.limits none none in
    let ends : List ℕ → Option End = λ left. code_ends code left asked.steps asked.limits none none in
    let objects : List ℕ → List Object = λ left. (meaning code left asked.steps asked.limits.heap).state.state.objects in
    seen_from (λ b a r. Runs ⊤ (λ i s. AnswersCode file c.args.code.now i asked s) b a r) _ _ _ _ c.io.view_is
    (serves_alike file names _ after result ⊤ (λ (i : Input). code_within asked.limits code i.bytes asked.steps asked.leaks) (λ (i : Input). explains_run asked.explain asked.steps asked.limits (objects i.bytes)) _ _ c.requires.text
    (serves_done file c.args.opened.now names c.explains_run.result _ after result ⊤ c.in-Ok.end asked.leaks events ends objects (λ left. explains_run asked.explain asked.steps asked.limits (objects left))
    (λ left k. known_at asked.explain asked.steps asked.limits c.in-Ok.machine.kept.memory c.in-Ok.ensures.kept c.explains_run.result (objects left) c.in-Ok.end c.explains_run.ensures (λ why holder is.
    kept_bad_free c.whole_runs_are_whole.ensures code left asked.steps asked.limits _ _ c.in-Ok.machine.kept c.in-Ok.end why holder is (c.in-Ok.ensures.ran left k).told.is (c.in-Ok.ensures.ran left k).image))
    (kept_counts _ _ keeps c.in-Ok.end _ _ c.in-Ok.ensures.faults)
    (λ left k.
    let p = (c.in-Ok.ensures.ran left k).told in
    kept_puts _ _ keeps (Makes (events left) (ends left) left c.in-Ok.end) _ (record { put = p.put; is = code_makes code left asked.steps asked.limits _ _ c.in-Ok.end p.is; took = p.took }))
    (λ left k. record {
      none = c.finish_run.ensures.says;
      some = λ status asks is.
          let kept = kept_exit c.whole_runs_are_whole.ensures code left asked.steps asked.limits _ _ c.in-Ok.machine.kept c.in-Ok.end status is (c.in-Ok.ensures.ran left k).told.is (c.in-Ok.ensures.ran left k).image in
          let told = c.finish_run.ensures.leaks status asks is kept.0 (objects left) kept.1 in
          record { says = told.says; all = told.all };
    })
    c.finish_run.ensures.says c.finish_run.ensures.counts c.finish_run.ensures.own keeps.form))

pub returns-in-Err : goal.returns-in-Err
returns-in-Err g c =
    seen_from (λ b a r. Runs ⊤ (λ i s. AnswersCode c.args.file.now c.args.code.now i c.args.asked s) b a r) _ _ _ _ c.io.view_is
    (serves_none _ _ _ _ _ _ _ (said_behind _ _ _ _ _ (record { input = c.in-Err.ensures.input_stays; left = ap g.I.Source.left c.in-Err.ensures.input_stays; faults = ap g.I.Source.faults c.in-Err.ensures.input_stays }) (record { out = c.in-Err.ensures.out_stays; taken = ap g.O.Sink.taken c.in-Err.ensures.out_stays; faults = ap g.O.Sink.faults c.in-Err.ensures.out_stays }) refl refl refl c.refuse.ensures))
