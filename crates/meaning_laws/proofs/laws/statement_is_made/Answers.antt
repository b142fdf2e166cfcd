use Rattle.meaning_laws.proofs.dangling.Standing.{statement_made}
use Rattle.meaning_laws.proofs.laws.statement_is_made.Goals as goal

pub returns : goal.returns
returns c = λ core sound s good. statement_made core sound s good
