use Rattle.c_pre.proofs.Ends.{expanded_ends}
use Rattle.c_pre.proofs.laws.replacement_ends.Goals as goal

pub returns : goal.returns
returns c = λ macros tokens work is. expanded_ends macros tokens work is
