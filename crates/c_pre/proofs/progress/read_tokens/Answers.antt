use Rattle.c_pre.proofs.Lexed.{gives_lexed}
use Rattle.c_pre.proofs.progress.read_tokens.Goals as goal

pub returns : goal.returns
returns c = gives_lexed c.pieces_are_the_cut.ensures.cut c.args.text.now c.lex.result c.lex.ensures.exact
