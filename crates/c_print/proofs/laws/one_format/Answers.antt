use Rattle.c_print.proofs.Pieces as pieces
use Rattle.c_print.proofs.laws.one_format.Goals as goal

pub returns : goal.returns
returns c = pieces.one_format
