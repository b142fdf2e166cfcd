use Rattle.core_soundness.proofs.Texts as made
use Rattle.core_soundness.proofs.Typing as typing
use Rattle.core_soundness.proofs.laws.statements_are_typed.Goals as goal

pub returns : goal.returns
returns c = λ texts units unit core tags m e. let all = made.made_all c.constants_fit.ensures texts units unit m in typing.core_types unit core tags all.written all.formed all.own e
