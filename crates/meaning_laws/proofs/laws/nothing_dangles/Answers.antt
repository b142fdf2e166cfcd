use Rattle.meaning_laws.proofs.dangling.Stands.{kept}
use Rattle.meaning_laws.proofs.laws.nothing_dangles.Goals as goal

pub returns : goal.returns
returns c = λ core sound input n heap k e. kept core sound heap input n k e
