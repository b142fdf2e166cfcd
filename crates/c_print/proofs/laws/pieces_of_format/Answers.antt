use Rattle.c_print.proofs.Functions as functions
use Rattle.c_print.proofs.laws.pieces_of_format.Goals as goal

pub returns : goal.returns
returns c = functions.pieces_of_format
