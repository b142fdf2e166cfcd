use Rattle.meaning_laws.proofs.dangling.Falls.{step_by_falls, all_forward}
use Rattle.meaning_laws.proofs.laws.statement_leaves_less.Goals as goal

pub returns : goal.returns
returns c = λ core sound s fits. step_by_falls core (all_forward core sound) fits s
