use Rattle.core_soundness.proofs.NearTexts as near
use Rattle.core_soundness.proofs.Texts as made
use Rattle.core_soundness.proofs.laws.lists_are_short.Goals as goal

pub returns : goal.returns
returns c = λ texts units unit core tags m s e. near.core_short unit core tags (made.made_weighed texts units unit m s) s.short e
