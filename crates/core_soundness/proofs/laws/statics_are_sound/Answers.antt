use Rattle.core_soundness.proofs.FittedTexts as fitted
use Rattle.core_soundness.proofs.laws.statics_are_sound.Goals as goal

pub returns : goal.returns
returns c = fitted.core_statics c.layouts_are_sound.ensures
