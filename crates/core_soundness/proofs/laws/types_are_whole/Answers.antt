use Rattle.core_soundness.proofs.SolidTexts as solid
use Rattle.core_soundness.proofs.laws.types_are_whole.Goals as goal

pub returns : goal.returns
returns c = solid.walked_solid
