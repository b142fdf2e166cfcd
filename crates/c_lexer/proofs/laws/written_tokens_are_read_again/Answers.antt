use Rattle.c_lexer.proofs.WrittenTokens as written
use Rattle.c_lexer.proofs.laws.written_tokens_are_read_again.Goals as goal

pub returns : goal.returns
returns c = written.written_is_read
