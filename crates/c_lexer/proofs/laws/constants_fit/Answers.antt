use Rattle.c_lexer.proofs.Constants.{constant_read}
use Rattle.c_lexer.proofs.laws.constants_fit.Goals as goal

pub returns : goal.returns
returns c = λ w token. (constant_read w token).fits
