use Rattle.core_soundness.proofs.SolidTexts as solid
use Rattle.core_soundness.proofs.laws.layouts_are_of_types.Goals as goal

pub returns : goal.returns
returns c = solid.core_layouts
