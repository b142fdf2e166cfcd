use Rattle.std.proofs.Common.{rules}
use Rattle.heapsafe.specs.Answer.{asked_by, form_by}
use Rattle.heapsafe.specs.Serving.{Answered}
use Rattle.heapsafe.specs.Sight.{see}
use Rattle.heapsafe.proofs.heapsafe.Goals as goal

pub returns : goal.returns
returns g c =
    let answered = c.serve_lent-status.ensures.answered in
    let here : Answered g.T.Texts (asked_by c.args.words.now) c.args.texts.now c.serve_lent-status.new.texts (see (form_by c.args.words.now) g.I.Source g.O.Sink g.E.Sink c.args.input.now c.args.out.now c.args.err.now) (see (form_by c.args.words.now) g.I.Source g.O.Sink g.E.Sink _ _ _) c.serve_lent-status.result.0 = search rules in
    let o = here.obeys in
    record {
      exact = o.exact;
      faults = o.faults;
      input_fault = o.input_fault;
      output_fault = o.output_fault;
      usage = λ none. let kept = here.usage none in (kept.0, kept.1.input.input, kept.1.out.out);
      no_file = λ none. let kept = here.no_file none in (kept.0, kept.1.input);
      stays = λ none. (o.stays none).input;
      text_fault = o.text_fault;
      broken = o.broken;
      memory = o.memory;
      cause = o.cause;
      refused = o.refused;
    }
