use Rattle.std.proofs.Common.{◌≡◌, ap, rules}
use Rattle.heapsafe.specs.Answer.{form_by}
use Rattle.heapsafe.proofs.serve_lent.Goals as goal

pub returns-clause-answered : goal.returns-clause-answered
returns-clause-answered g c =
    let form : c.io.inside.form ≡ form_by c.args.words.now = cc (ap (λ b. b.form) c.io.view_is, c.serve-status.ensures.obeys.form, c.form_by.ensures) in
    search rules
