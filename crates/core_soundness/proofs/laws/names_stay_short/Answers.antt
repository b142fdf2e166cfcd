use Rattle.core_soundness.proofs.Texts as made
use Rattle.core_soundness.proofs.laws.names_stay_short.Goals as goal

pub returns : goal.returns
returns c = made.names_short c.constants_fit.ensures
