use Rattle.std.proofs.Common.{◌∙◌, ap, refl, sym, subst}
use Rattle.hs_base.specs.declared.ends.End.TheVariants.{Exit}
use Rattle.bad_free_report.specs.Notice.{said}
use Rattle.bad_free_report.specs.declared.form.Form.{Form}
use Rattle.heapsafe.specs.Places.{told_leaks}
use Rattle.heapsafe.specs.Saying.{SaysLeaks, TakesAll, ending_told, telling_of, tells}
use Rattle.heapsafe.proofs.Leaked.{Answers, left_said, own_exit}
use Rattle.heapsafe.proofs.Served.{seen_from}
use Rattle.heapsafe.proofs.Statuses.{own_of}
use Rattle.heapsafe.proofs.program.finish_exit.Goals.{in-Ok, in-Err}
use Rattle.heapsafe.proofs.program.finish_exit.Goals as goal

pub returns-clause-own : goal.returns-clause-own
returns-clause-own g c = λ same.
    let kept = c.requires.kept in
    let telling = telling_of c.args.telling.now in
    let own =
    own_exit c.io.inside.form telling c.args.code kept.1 _ _ _ _ _ c.put_exit.result (ap (λ b. b.said) c.io.view_is) c.put_exit.ensures.cause
    (same ∙ sym (ap (λ b. b.err_faults) c.io.view_is))
    (λ leaks are. c.put_exit.ensures.puts kept.0 kept.1 kept.2 leaks are) (c.put_exit.ensures.all kept.0 kept.1 kept.2) in (
      ending_told telling (Exit c.args.code),
      told_leaks c.args.telling.now.opened.now own.0,
      c.args.code,
      refl,
      subst (λ (f : Form). TakesAll c.args.io.now.said (g.E.Sink.taken c.put_exit.new.err) (said f (tells telling (Exit c.args.code) own.0))) (ap (λ b. b.form) c.io.view_is) own.1,
    )

pub returns-then-not-leaks-clause-own : goal.returns-then-not-leaks-clause-own
returns-then-not-leaks-clause-own g c = λ same.
    let t = telling_of c.args.telling.now in
    own_of c.args.io.now c.finish.new.io c.finish.result t.file t.opened t.core t.asked (Exit c.args.code) c.finish.ensures.says c.args.code refl same

pub returns-clause-leaks : goal.returns-clause-leaks
returns-clause-leaks g c = λ asked places objects keeps.
    let t = telling_of c.args.telling.now in
    let is : Answers c.put_exit.result c.args.code c.match-put_exit.result = elim c.match-put_exit.branch [
      | in-Ok w ↦ subst (λ r. Answers r c.args.code c.match-put_exit.result) (sym w.in-Ok.is) w.result-is
      | in-Err w ↦ subst (λ r. Answers r c.args.code c.match-put_exit.result) (sym w.in-Err.is) w.result-is
    ] in
    seen_from (λ b a r. SaysLeaks t objects b a c.args.code r) _ _ _ _ c.io.view_is
    (left_said _ _ t objects c.args.code c.match-put_exit.result c.put_exit.result c.put_exit.ensures.cause
    (λ leaks are. c.put_exit.ensures.puts places objects keeps leaks are) (c.put_exit.ensures.all places objects keeps) is)
