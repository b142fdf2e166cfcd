use Rattle.std.proofs.Common.{Ok, Err, List, sym, subst}
use Rattle.std.proofs.lemmas.Result.{IfOk-weaker}
use Rattle.c_lexer.specs.declared.token.Token.{Token}
use Rattle.c_lexer.specs.declared.token.LexError.{LexError}
use Rattle.c_lexer.specs.Tokens.{HasTokens, IsOnlyAnswer, IsRefused}
use Rattle.heapsafe.proofs.Prepared.{bad_prepared, tokens_prepared}
use Rattle.heapsafe.proofs.generated.prepare.Goals as goal

pub returns-in-Ok : goal.returns-in-Ok
returns-in-Ok c =
    IfOk-weaker c.prepare_tokens.result _ _
    (tokens_prepared c.args.text.now c.as_slice.result.now
    (subst (λ (ts : List Token). HasTokens c.args.text.now ts) (sym c.as_slice.ensures) c.in-Ok.ensures.tokens)
    (subst (λ (ts : List Token). IsOnlyAnswer c.args.text.now (Ok ts)) (sym c.as_slice.ensures) c.in-Ok.ensures.exact))
    c.prepare_tokens.ensures

pub returns-in-Err-Bad : goal.returns-in-Err-Bad
returns-in-Err-Bad c =
    bad_prepared c.args.text.now c.in-Err-Bad.field-0-0 c.in-Err-Bad.field-0-1
    (subst (λ (e : LexError). IsRefused c.args.text.now e) c.in-Err-Bad.field-0-is c.in-Err-Bad.ensures.refused)
    (subst (λ (e : LexError). IsOnlyAnswer c.args.text.now (Err e)) c.in-Err-Bad.field-0-is c.in-Err-Bad.ensures.exact)
