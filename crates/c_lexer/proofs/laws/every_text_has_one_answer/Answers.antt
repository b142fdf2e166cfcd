use Rattle.c_lexer.proofs.Cuts as cuts
use Rattle.c_lexer.proofs.laws.every_text_has_one_answer.Goals as goal

pub returns : goal.returns
returns c = cuts.one_answer
