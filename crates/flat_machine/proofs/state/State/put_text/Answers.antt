use Rattle.std.proofs.Common.{ℕ, Ok, ap}
use Rattle.hs_base.specs.Access.{and_then}
use Rattle.flat_machine.specs.Writing.{padded}
use Rattle.flat_machine.proofs.Texts.{failed_text}
use Rattle.flat_machine.proofs.state.State.put_text.Goals as goal

pub returns-in_err-put_padded-in-Ok-clause-puts : goal.returns-in_err-put_padded-in-Ok-clause-puts
returns-in_err-put_padded-in-Ok-clause-puts g c = λ places objects p at.
    let f = c.args.field in
    let string = c.in-Ok.ensures places objects p at in
    failed_text ℕ ℕ _ _ (padded f string.0) _ (ap (λ o. and_then o (λ t. Ok (padded f t))) string.1) c.in_err-put_padded-in-Ok.field-0.0 (c.in_err-put_padded-in-Ok.ensures.bytes places objects p string.0 (record { at = at; string = string.1 }) string.2) c.from_residual.result c.from_residual.ensures.1

pub returns-in_ok-put_padded-in-Ok-clause-puts : goal.returns-in_ok-put_padded-in-Ok-clause-puts
returns-in_ok-put_padded-in-Ok-clause-puts g c = λ places objects p at.
    let f = c.args.field in
    let string = c.in-Ok.ensures places objects p at in
    (padded f string.0, ap (λ o. and_then o (λ t. Ok (padded f t))) string.1, c.in_ok-put_padded-in-Ok.ensures.bytes places objects p string.0 (record { at = at; string = string.1 }) string.2)
