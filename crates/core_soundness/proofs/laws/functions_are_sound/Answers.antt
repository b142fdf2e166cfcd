use Rattle.core_soundness.proofs.Functions as functions
use Rattle.core_soundness.proofs.Texts as made
use Rattle.core_soundness.proofs.laws.functions_are_sound.Goals as goal

pub returns : goal.returns
returns c = λ texts units unit core tags m e. functions.functions_sound unit core tags (made.made_all c.constants_fit.ensures texts units unit m) e
