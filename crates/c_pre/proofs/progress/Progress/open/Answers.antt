use Rattle.std.proofs.Common.{ℕ, sym, subst}
use Rattle.c_pre.proofs.progress.Progress.open.Goals as goal
use Rattle.c_pre.specs.Answering.{CountsFault}

pub returns-clause-cause : goal.returns-clause-cause
returns-clause-cause g c =
    let before = g.T.Texts.faults c.args.texts.now in
    subst (λ (n : ℕ). CountsFault before n c.open_source.result) (sym c.in-Ok.ensures.cause) (c.open_source.ensures.steady before)

pub returns-clause-named : goal.returns-clause-named
returns-clause-named g c = c.open_source.ensures.named c.args.name
