use Rattle.std.proofs.Common.{◌∙◌, sym}
use Rattle.delay_scopes.proofs.Starts.{owner_of_start, owner_test, start_from_owner}
use Rattle.delay_scopes.proofs.scopes.is_start.Goals as goal

pub returns-clause-start : goal.returns-clause-start
returns-clause-start g c = λ held holds.
    let owner = c.owner.ensures.owner held holds in
    let says = owner_test c.owner.result c.args.addr in (
      (λ t. start_from_owner c.args.heap.now held c.args.addr (sym (says.0 (sym c.eq.ensures ∙ t)) ∙ owner)),
      (λ start. c.eq.ensures ∙ says.1 (owner ∙ owner_of_start c.args.heap.now held c.args.addr holds start c.owners_are_found.ensures)),
    )
