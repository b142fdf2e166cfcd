use Rattle.meaning_laws.proofs.dangling.Standing.{step_by_stays}
use Rattle.meaning_laws.proofs.laws.statement_stays_good.Goals as goal

pub returns : goal.returns
returns c = λ core sound s good fits. step_by_stays core sound fits s good
