use Rattle.meaning_laws.proofs.soundness.Ending.{falls}
use Rattle.meaning_laws.proofs.laws.step_leaves_less.Goals as goal

pub returns : goal.returns
returns c = λ code wf state good fits. falls code wf state good fits
