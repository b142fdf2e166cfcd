use Rattle.std.proofs.Common.{◌≡◌, ◌∙◌, ap}
use Rattle.generated_text.specs.Summary.{summary_line}
use Rattle.generated_text.specs.declared.summary.Summary.{Summary}
use Rattle.heapsafe.specs.Answer.{AnswersGenerated}
use Rattle.heapsafe.specs.Shown.{written}
use Rattle.heapsafe.proofs.Served.{serves_as, serves_none}
use Rattle.heapsafe.proofs.generated.run_generated.Goals as goal

pub returns-in-Ok : goal.returns-in-Ok
returns-in-Ok g c =
    let sums = c.in-Ok.ensures in
    serves_as _ _ _ _ _ _ (λ _ a. a ≡ written (summary_line c.in-Ok.summary)) (λ _ a. AnswersGenerated c.args.number a)
    (λ _ a is. record { run = sums.run; made = sums.made; runs = sums.runs; shows = is ∙ ap (λ (s : Summary). written (summary_line s)) sums.is })
    (λ _ a is _. sums.only a is) c.write_summary.ensures

pub returns-in-Err : goal.returns-in-Err
returns-in-Err g c = serves_none _ _ _ _ _ _ _ c.refuse.ensures
