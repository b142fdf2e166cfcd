use Rattle.meaning_laws.proofs.soundness.Stepping.{stays}
use Rattle.meaning_laws.proofs.laws.step_stays_good.Goals as goal

pub returns : goal.returns
returns c = λ code wf state good fits. stays code wf state good fits
