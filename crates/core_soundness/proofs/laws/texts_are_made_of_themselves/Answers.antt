use Rattle.core_soundness.proofs.Texts as made
use Rattle.core_soundness.proofs.laws.texts_are_made_of_themselves.Goals as goal

pub returns-clause-made : goal.returns-clause-made
returns-clause-made c = made.text_made

pub returns-clause-small : goal.returns-clause-small
returns-clause-small c = made.text_one c.constants_fit.ensures
