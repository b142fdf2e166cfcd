use Rattle.std.proofs.Common.{◌≡◌, ℕ, List, [], Option, Some, ap, false, inl, refl, ⊎_elim}
use Rattle.std.specs.Prelude.{IsTrue}
use Rattle.hs_base.specs.declared.ends.End.{End}
use Rattle.hs_base.specs.Trace.{Event}
use Rattle.c_pre.specs.declared.answer.Opened.{Opened}
use Rattle.core_tree.specs.declared.program.Core.{Core}
use Rattle.bad_free_report.specs.declared.explanation.Known.{Known}
use Rattle.flat_machine.specs.Running.{RunCounts}
use Rattle.heapsafe.specs.declared.program.Way.TheVariants.{Mean}
use Rattle.heapsafe.specs.Program.{AnswersProgram, AnswersWay, Input, explains_mean, meant, status_of, told_notice}
use Rattle.heapsafe.specs.Saying.{Puts, SaysEnd}
use Rattle.heapsafe.specs.Serving.{Runs}
use Rattle.heapsafe.specs.Shown.{Shown}
use Rattle.heapsafe.specs.Sight.{Sight}
use Rattle.heapsafe.proofs.Ended.{mean_counts}
use Rattle.heapsafe.proofs.Executed.{Makes, done_of, kept_counts, kept_puts, mean_makes, serves_done, serves_unfinished}
use Rattle.heapsafe.proofs.Served.{seen_from, serves_as}
use Rattle.heapsafe.proofs.Statuses.{counts_of, own_of}
use Rattle.heapsafe.proofs.program.mean_core.Goals as goal

-- a run that tells of no leaks
serves_plain : {I O E : Type 0} (file : List ℕ) (opened : List Opened) (core : Core) (asked known : Option Known) → asked ≡ known → (before after : Sight I O E) (result : ℕ) (x : End) (events : List ℕ → List Event) (ends : List ℕ → Option End) →
    RunCounts x before.input_faults after.input_faults before.out_faults after.out_faults →
    ((left : List ℕ) → before.left ≡ Some left → Puts (Makes (events left) (ends left) left x after.left) before.taken after.taken) →
    SaysEnd (record { file = file; opened = opened; core = core; asked = asked }) x before after result → after.form ≡ before.form →
    Runs ⊥ (λ i a. AnswersProgram file opened core (λ e. known) i.fails (done_of (events i.bytes) (ends i.bytes) [] false) a) before after result
serves_plain file opened core asked known same before after result x events ends counts put said form =
    serves_done file opened core asked before after result ⊥ x false events ends (λ left. []) (λ left e. known) (λ left k. same) counts put
    (λ left k. record { none = λ _. said; some = λ code (asks : IsTrue false) is. absurd cc })
    (λ _. said) (counts_of before after result (status_of x) (told_notice file opened core asked x []) said) (own_of before after result file opened core asked x said) form

pub returns-in-Ok : goal.returns-in-Ok
returns-in-Ok g c =
    let core = c.args.core.now in
    let heap = c.args.heap in
    let steps = c.args.steps in
    let keeps = c.finish.ensures.keeps in
    let said = c.finish.ensures.says in
    let after = c.finish.new.io in
    let result = c.finish.result in
    let events : List ℕ → List Event = λ left. (meant core left steps heap).events in
    let ends : List ℕ → Option End = λ left. (meant core left steps heap).ends in
    seen_from (λ b a r. Runs ⊥ (λ i s. AnswersWay c.args.file.now c.args.opened.now core i (Mean heap steps c.args.explain) s) b a r) _ _ _ _ c.io.view_is
    (serves_as _ _ _ _ _ _ (λ (i : Input) a. AnswersProgram c.args.file.now c.args.opened.now core (λ e. explains_mean c.args.explain steps) i.fails (meant core i.bytes steps heap) a) (λ i a. AnswersWay c.args.file.now c.args.opened.now core i (Mean heap steps c.args.explain) a)
    (λ i a is. inl is)
    (λ i a is more. ⊎_elim (λ h. h) (λ h. absurd (more (ap (λ (s : Shown). s.err) h.3))) is)
    (serves_plain c.args.file.now c.args.opened.now core c.explains_mean.result (explains_mean c.args.explain steps) c.explains_mean.ensures _ after result c.in-Ok.end events ends
    (kept_counts _ _ keeps c.in-Ok.end _ _ (mean_counts c.in-Ok.end _ _ _ _ c.in-Ok.ensures.faults))
    (λ left k.
    let p = c.in-Ok.ensures.told left k in
    kept_puts _ _ keeps (Makes (events left) (ends left) left c.in-Ok.end) _ (record { put = p.put; is = mean_makes core left steps heap _ _ c.in-Ok.end p.is; took = p.took }))
    said keeps.form))

pub returns-in-Err : goal.returns-in-Err
returns-in-Err g c =
    seen_from (λ b a r. Runs ⊥ (λ i s. AnswersWay c.args.file.now c.args.opened.now c.args.core.now i (Mean c.args.heap c.args.steps c.args.explain) s) b a r) _ _ _ _ c.io.view_is
    (serves_unfinished c.args.file.now c.args.opened.now c.args.core.now _ _ c.refuse.new.io c.refuse.result c.args.steps c.args.heap c.args.explain
    (λ left k. c.in-Err.ensures.told left k) c.in-Err.ensures.faults.0 c.in-Err.ensures.faults.1 refl refl refl c.refuse.ensures)
