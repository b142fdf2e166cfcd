use Rattle.std.proofs.Common.{arith}
use Rattle.c_lexer.specs.Tokens.{first_place}
use Rattle.c_lexer.proofs.Cuts.{text_cut}
use Rattle.c_lexer.proofs.Loop.{lexed_of}
use Rattle.c_lexer.proofs.laws.pieces_are_the_cut.Goals as goal

pub returns-clause-cut : goal.returns-clause-cut
returns-clause-cut c = text_cut

pub returns-clause-forms : goal.returns-clause-forms
returns-clause-forms c = λ text pieces tokens cut e. lexed_of first_place text pieces tokens (omega arith) cut e
