use Rattle.c_lexer.proofs.WrittenTokens as written
use Rattle.c_lexer.proofs.laws.tokens_are_longest.Goals as goal

pub returns : goal.returns
returns c = written.token_longest
