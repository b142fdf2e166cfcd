use Rattle.core_soundness.proofs.SolidTexts as solid
use Rattle.core_soundness.proofs.laws.numbers_are_in_range.Goals as goal

pub returns : goal.returns
returns c = solid.core_ranges
