use Rattle.core_soundness.proofs.Texts as made
use Rattle.core_soundness.proofs.laws.trees_are_written.Goals as goal

pub returns : goal.returns
returns c = λ texts units unit m. (made.made_all c.constants_fit.ensures texts units unit m).written
