use Rattle.core_soundness.proofs.PointedTexts as pointed
use Rattle.core_soundness.proofs.laws.static_pointers_are_inside.Goals as goal

pub returns : goal.returns
returns c = pointed.core_targets
