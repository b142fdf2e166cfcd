use Rattle.c_units.proofs.MergedNames.{merges_rename}
use Rattle.c_units.proofs.laws.merges_rename.Goals as goal

pub returns : goal.returns
returns c = merges_rename
