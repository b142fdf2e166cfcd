use Rattle.std.proofs.Common.{[], ◌∷◌, ◌++◌, Ok, Err, refl, ap}
use Rattle.hs_base.specs.Access.{and_then}
use Rattle.c_print.specs.PutsEquations.{took_none, took_then, broke}
use Rattle.flat_machine.proofs.Texts.{failed_text}
use Rattle.flat_machine.proofs.state.State.put_line.Goals as goal

pub returns-in_err-put_string-clause-puts : goal.returns-in_err-put_string-clause-puts
returns-in_err-put_string-clause-puts g c = λ places objects p at.
    let string = c.in-Ok.ensures places objects p at in
    let text = string.0 in
    let e = c.in_err-put_string.field-0.0 in
    failed_text Unit Unit _ _ (text ++ 10 ∷ []) _ (ap (λ o. and_then o (λ t. Ok (t ++ 10 ∷ []))) string.1) e (broke Unit Unit _ _ _ [] text (10 ∷ []) (text ++ 10 ∷ []) e (Err e) refl (took_none _) (c.in_err-put_string.ensures.bytes places objects p text (record { at = at; string = string.1 }) string.2) refl) c.from_residual.result c.from_residual.ensures.1

pub returns-in_err-put_all-clause-puts : goal.returns-in_err-put_all-clause-puts
returns-in_err-put_all-clause-puts g c = λ places objects p at.
    let string = c.in-Ok.ensures places objects p at in
    let text = string.0 in
    let e = c.in_err-put_all.field-0.0 in
    failed_text Unit Unit _ _ (text ++ 10 ∷ []) _ (ap (λ o. and_then o (λ t. Ok (t ++ 10 ∷ []))) string.1) e (broke Unit Unit _ _ _ text (10 ∷ []) [] (text ++ 10 ∷ []) e (Err e) refl (c.in_ok-put_string.ensures.bytes places objects p text (record { at = at; string = string.1 }) string.2) c.in_err-put_all.ensures.bytes refl) c.from_residual-in_err-put_all.result c.from_residual-in_err-put_all.ensures.1

pub returns-clause-puts : goal.returns-clause-puts
returns-clause-puts g c = λ places objects p at.
    let string = c.in-Ok.ensures places objects p at in
    let text = string.0 in
    (text ++ 10 ∷ [], ap (λ o. and_then o (λ t. Ok (t ++ 10 ∷ []))) string.1, took_then _ _ _ text (10 ∷ []) (c.in_ok-put_string.ensures.bytes places objects p text (record { at = at; string = string.1 }) string.2) c.in_ok-put_all.ensures.bytes)
