use Rattle.c_lexer.specs.declared.token.Token.{Token}
use Rattle.c_pre.proofs.Same.{not_same}
use Rattle.c_pre.proofs.macros.same_spellings.Goals as goal

pub returns-then-left-right : goal.returns-then-left-right
returns-then-left-right c = not_same (λ (t : Token). t.bytes) c.args.left.now c.args.right.now c.if-left-right.true
