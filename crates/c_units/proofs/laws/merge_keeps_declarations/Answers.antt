use Rattle.c_units.proofs.FileDeclared.{merge_keeps_declared}
use Rattle.c_units.proofs.laws.merge_keeps_declarations.Goals as goal

pub returns : goal.returns
returns c = merge_keeps_declared c.tokens_are_longest.ensures
