use Rattle.std.proofs.Common.{◌∙◌}
use Rattle.object_meaning.specs.objects.Values.{start_of}
use Rattle.flat_machine.proofs.Holders.{distance_is, start_stands}
use Rattle.flat_machine.proofs.holding.leads_to.Goals as goal

pub returns : goal.returns
returns g c = λ places all p birth keeps there is.
    let stands = start_stands places all birth c.args.start there is in
    c.is_ok.ensures.value ∙ distance_is p birth c.difference.result (c.difference.ensures.differs places all p (start_of birth) keeps stands)
